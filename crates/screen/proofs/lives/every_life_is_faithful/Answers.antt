use Rattle.screen.proofs.Faith.{every_life_is_faithful}
use Rattle.screen.proofs.lives.every_life_is_faithful.Goals as goal

pub returns : goal.returns
returns c = every_life_is_faithful
