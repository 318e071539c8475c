use Rattle.std.proofs.Common.{arith}
use Rattle.marks.proofs.First.{first_of}
use Rattle.marks.proofs.words.first_run.Goals as goal

pub returns : goal.returns
returns c =
    let e = c.trailing_ones-len.ensures in
    rw e (first_of c.args.w (omega arith) (omega arith))
