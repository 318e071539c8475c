use Rattle.link.proofs.Alike.{listed_was_sent}
use Rattle.link.proofs.laws.what_is_listed_was_sent.Goals as goal

pub returns : goal.returns
returns c = listed_was_sent
