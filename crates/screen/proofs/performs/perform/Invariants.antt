use Rattle.std.proofs.Common.{◌+◌, ◌≤◌, [], length, vec_items, vec_len, vec_capacity}
use Rattle.screen.specs.Scripts.{world, SoFar}
use Rattle.screen.proofs.performs.perform.Given as goal

abbrev pub invariant-loop-calls : goal.invariant-loop-calls
invariant-loop-calls g l =
    (vec_len l.answers + length l.calls.rest.now ≤ vec_capacity l.answers)
    × SoFar g.P.Picture (world g.L.Link l.fn.screen l.fn.pen []) l.script [] (vec_items l.answers) (world g.L.Link l.screen l.pen []) l.calls.rest.now

abbrev pub decreases-loop-calls : goal.decreases-loop-calls
decreases-loop-calls g l = length l.calls.rest.now
