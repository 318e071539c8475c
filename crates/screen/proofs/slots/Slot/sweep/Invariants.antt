use Rattle.std.proofs.Common.{◌≡◌}
use Rattle.marks.specs.Sending.{Sweeping, InOneBlock}
use Rattle.screen.proofs.slots.Slot.sweep.Given as goal

-- the lines above y are done
abbrev pub invariant-loop-y : goal.invariant-loop-y
invariant-loop-y g l =
    let means = g.L.Link.means in
    (l.self.link.ghost_name ≡ l.initial.self.link.ghost_name)
    × Sweeping (means l.initial.self.link.now) l.canvas l.initial.due l.initial.self.left (means l.self.link.now) l.due l.self.left l.y
    × InOneBlock l.initial.due l.initial.self.left l.due l.self.left

abbrev pub invariant-loop-run : goal.invariant-loop-run
invariant-loop-run g l =
    let means = g.L.Link.means in
    (l.self.link.ghost_name ≡ l.fn.self.link.ghost_name)
    × Sweeping (means l.fn.self.link.now) l.canvas l.fn.due l.fn.self.left (means l.self.link.now) l.due l.self.left l.y
    × InOneBlock l.fn.due l.fn.self.left l.due l.self.left

abbrev pub decreases-loop-run : goal.decreases-loop-run
decreases-loop-run g l = l.self.left
