use Rattle.std.proofs.Common.{arith}
use Rattle.marks.proofs.Counts.{ones_count}
use Rattle.marks.proofs.words.due_bytes.Goals as goal

pub returns : goal.returns
returns c = ones_count 64 c.args.w (omega arith)
