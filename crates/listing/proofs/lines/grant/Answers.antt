use Rattle.std.proofs.Common.{◌/◌, ◌%◌, arith}
use Rattle.listing.proofs.lines.grant.Goals as goal

pub returns-in_err-a : goal.returns-in_err-a
returns-in_err-a c = rw c.from_residual.ensures (λ n h f. c.in_err-a.ensures (n / 1000 % 10) (omega arith) f.0)

pub returns-in_err-b : goal.returns-in_err-b
returns-in_err-b c = rw c.from_residual-in_err-b.ensures (λ n h f. c.in_err-b.ensures (n / 100 % 10) (omega arith) f.1)

pub returns-in_err-c : goal.returns-in_err-c
returns-in_err-c c = rw c.from_residual-in_err-c.ensures (λ n h f. c.in_err-c.ensures (n / 10 % 10) (omega arith) f.2)

pub returns-in_err-d : goal.returns-in_err-d
returns-in_err-d c = rw c.from_residual-in_err-d.ensures (λ n h f. c.in_err-d.ensures (n % 10) (omega arith) f.3)
