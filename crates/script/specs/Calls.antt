-- What the lines of a script mean.
use Rattle.std.specs.Prelude.{Ok, Err, Result}
use Rattle.refusal.specs.declared.refusals.Refusal.{Refusal}
use Rattle.drawing.specs.Book as book
use Rattle.screen.specs.Scripts.{meant}
use Rattle.screen.specs.declared.scripts.Call.{Call}
use Rattle.script.specs.Meanings.{Figure, figure_kind}

-- a call to be made, or the refusal of a picture that cannot be made
pub data LineMeaning : Type 0 where
  calls : book.Call → LineMeaning
  refuses : Refusal → LineMeaning

abbrev pub call_means : Call Figure → LineMeaning
call_means c = calls (meant figure_kind c)

-- a call, or why there is none
abbrev pub Line : Type 0
Line = Result (Call Figure) Refusal

abbrev pub line_means : Line → LineMeaning
line_means (Ok c) = call_means c
line_means (Err why) = refuses why
