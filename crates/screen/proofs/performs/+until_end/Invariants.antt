use Rattle.std.proofs.Common.{◌+◌, ◌≤◌, List, length, vec_items, vec_len, vec_capacity}
use Rattle.drawing.specs.Pens.{PenMeaning}
use Rattle.screen.specs.Scripts.{world, SoFar}
use Rattle.screen.proofs.performs.+until_end.Given as goal

abbrev pub decreases-until_end : goal.decreases-until_end
decreases-until_end g l = length l.calls.now.rest.now

abbrev pub invariant-loop-call : goal.invariant-loop-call
invariant-loop-call g l =
    (goal.iterator-loop-call g).can_next l.calls
    × (goal.iterator-loop-call g).is_finite l.calls
    × (length l.calls.rest.now ≤ length l.fn.calls.rest.now)
    × (vec_len l.answers + length l.calls.rest.now ≤ vec_capacity l.answers)
    × ((stack : List PenMeaning) → SoFar g.P.Picture (world g.L.Link l.fn.screen l.fn.pen stack) l.fn.calls.rest.now (vec_items l.fn.answers) (vec_items l.answers) (world g.L.Link l.screen l.pen stack) l.calls.rest.now)
