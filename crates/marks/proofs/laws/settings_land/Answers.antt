use Rattle.marks.proofs.Model.{settings_land}
use Rattle.marks.proofs.laws.settings_land.Goals as goal

pub returns : goal.returns
returns c = settings_land
