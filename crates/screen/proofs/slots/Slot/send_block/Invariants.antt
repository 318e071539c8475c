use Rattle.std.proofs.Common.{◌≡◌, ◌+◌, ◌-◌, ◌*◌}
use Rattle.marks.specs.Sending.{Blocking}
use Rattle.screen.proofs.slots.Slot.send_block.Given as goal

-- of the block, the lines above `line` are sent
abbrev pub invariant-loop-line : goal.invariant-loop-line
invariant-loop-line g l =
    let means = g.L.Link.means in
    let b = l.block in
    let sent = l.line - b.line in
    (l.self.link.ghost_name ≡ l.initial.self.link.ghost_name)
    × (l.self.left + b.size * sent ≡ l.initial.self.left)
    × Blocking (means l.initial.self.link.now) l.canvas l.initial.due b.line b.from b.size (means l.self.link.now) l.due sent
