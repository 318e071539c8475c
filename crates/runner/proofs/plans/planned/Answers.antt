use Rattle.std.proofs.Common.{◌∷◌, ap, ◌∙◌}
use Rattle.runner.proofs.Planning.{planning_made}
use Rattle.runner.proofs.plans.planned.Goals as goal

pub loop-line-preserved-in-Continue-branch-2 : goal.loop-line-preserved-in-Continue-branch-2
loop-line-preserved-in-Continue-branch-2 c =
    planning_made _ _ _ _ _ _ _ c.in-Ok.call c.loop-line.invariant (c.in-Some.ensures.steps.0 ∙ ap (λ x. x ∷ c.next.new.self.rest.items) c.in-Ok.is)
    c.in_ok-push-in-Ok.ensures.items c.in_ok-push-in-Ok-2.ensures.items
