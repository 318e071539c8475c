-- What reading a text answers.
use Rattle.std.specs.Prelude.{◌≡◌, ℕ, List, map, Ok, Err, vec_items, Result, Vec}
use Rattle.std.specs.declared.alloc.Global.{Global}
use Rattle.script.specs.declared.script.Script.{Script}
use Rattle.script.specs.declared.script.Unread.{Unread}
use Rattle.script.specs.declared.script.Unread.TheVariants.{BadLine, NoMemory}
use Rattle.script.specs.Calls.{Line, LineMeaning, line_means}
use Rattle.script.specs.Scripts.{ScriptMeaning}

abbrev pub lines_mean : Vec Line Global → List LineMeaning
lines_mean v = map line_means (vec_items v)

abbrev pub script_means : Script → ScriptMeaning
script_means s = record { card = s.card; buffer = s.buffer; lines = lines_mean s.lines }

-- what the text says, or the number of the line that it cannot be read at; without memory nothing is known of it
abbrev pub Answers : {A B : Type 0} → (A → B) → Result B ℕ → Result A Unread → Type 0
Answers means said (Ok a) = said ≡ Ok (means a)
Answers means said (Err (BadLine n)) = said ≡ Err n
Answers means said (Err NoMemory) = Unit {0}
