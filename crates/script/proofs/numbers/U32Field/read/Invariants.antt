use Rattle.std.proofs.Common.{◌≡◌, ◌^◌, ◌<◌, drop}
use Rattle.script.specs.Numbers.{number_on}
use Rattle.script.proofs.numbers.U32Field.read.Given as goal

abbrev pub invariant-loop-c : goal.invariant-loop-c
invariant-loop-c l = (l.n < 2 ^ 32) × (number_on 0 l.field ≡ number_on l.n (drop l.c-index l.field))
