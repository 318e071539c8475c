use Rattle.marks.proofs.Landing.{traffic_lands}
use Rattle.marks.proofs.laws.traffic_lands.Goals as goal

pub returns : goal.returns
returns c = traffic_lands
