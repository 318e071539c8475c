-- The calls of a script's lines. Assumes nothing.
use Rattle.std.specs.Prelude.{◌≡◌, List, [], ◌∷◌, Some, None, Option, Ok, Err}
use Rattle.refusal.specs.declared.refusals.Refusal.{Refusal}
use Rattle.screen.specs.declared.scripts.Call.{Call}
use Rattle.script.specs.Calls.{Line}
use Rattle.script.specs.Meanings.{Figure}

-- lines whose pictures were made have calls
abbrev pub calls_of : List Line → List (Call Figure)
calls_of [] = []
calls_of (Ok c ∷ ls) = c ∷ calls_of ls
calls_of (Err why ∷ ls) = calls_of ls

-- why a line has no call, line by line
abbrev pub refusals_of : List Line → List (Option Refusal)
refusals_of [] = []
refusals_of (Ok c ∷ ls) = None ∷ refusals_of ls
refusals_of (Err why ∷ ls) = Some why ∷ refusals_of ls

pub record Planned (lines : List Line) (calls : List (Call Figure)) (refused : List (Option Refusal)) : Type 0 where
  pub calls_are : calls ≡ calls_of lines
  pub refused_are : refused ≡ refusals_of lines
