-- The number that a caller is told for a flush that is not done. What comes with 14 is in `LeftOver`: count, due bytes, and the first of them or none.
use Rattle.std.specs.Prelude.{ℕ}
use Rattle.refusal.specs.Numbers.{number, left_over_number}
use Rattle.screen.specs.declared.answers.FlushFault.{FlushFault}
use Rattle.screen.specs.declared.answers.FlushFault.TheVariants.{Refused, LeftOver}

abbrev pub fault_number : FlushFault → ℕ
fault_number (Refused refusal) = number refusal
fault_number (LeftOver left) = left_over_number
