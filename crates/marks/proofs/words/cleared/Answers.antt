use Rattle.std.proofs.Common.{arith}
use Rattle.marks.proofs.Clear.{masked}
use Rattle.marks.proofs.words.cleared.Goals as goal

pub returns : goal.returns
returns c = record {
  within = λ l. masked c.args.w c.args.start c.args.m (omega arith) (omega arith) l;
  beyond = λ l. absurd (omega arith);
}
