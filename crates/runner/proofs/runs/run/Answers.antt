use Rattle.std.proofs.Common.{sym, ap}
use Rattle.link.specs.Listed.{listing_meaning}
use Rattle.runner.proofs.Running.{ran_fresh}
use Rattle.runner.proofs.runs.run.Goals as goal

pub returns : goal.returns
returns c =
    let new = c.in-Ok.ensures in
    ran_fresh _ _ (listing_meaning c.new.result) _ _ _ _ _ _ _ _ _ new.made c.new.ensures.means c.new-pen.ensures new.begins c.in_ok-plan.ensures
    c.as_slice.ensures.value c.in_ok-answers.ensures.performed (ap listing_meaning (sym c.into_link.ensures))
