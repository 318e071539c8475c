use Rattle.link.proofs.Alike.{same_calls}
use Rattle.link.proofs.laws.same_calls_give_the_same_controller.Goals as goal

pub returns : goal.returns
returns c = same_calls
