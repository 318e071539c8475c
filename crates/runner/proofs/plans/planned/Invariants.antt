use Rattle.std.proofs.Common.{vec_items}
use Rattle.runner.proofs.Planning.{Planning}
use Rattle.runner.proofs.plans.planned.Given as goal

abbrev pub invariant-loop-line : goal.invariant-loop-line
invariant-loop-line l = Planning l.initial.line-iterator.rest.items l.line-iterator.rest.items (vec_items l.calls) (vec_items l.refused)
