use Rattle.screen.proofs.FirstFlush.{first_flush_is_short}
use Rattle.screen.proofs.first.first_flush_is_short.Goals as goal

pub returns : goal.returns
returns c = first_flush_is_short
