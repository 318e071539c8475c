use Rattle.std.proofs.Common.{rules}
use Rattle.marks.proofs.Zero.{none_due}
use Rattle.screen.proofs.flushes.first_due.Goals as goal

pub returns-in_err-line : goal.returns-in_err-line
returns-in_err-line c = search (rules, none_due)
