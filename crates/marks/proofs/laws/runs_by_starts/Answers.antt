use Rattle.marks.proofs.Counts.{runs_start}
use Rattle.marks.proofs.laws.runs_by_starts.Goals as goal

pub returns : goal.returns
returns c = runs_start
