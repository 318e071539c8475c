-- What a text says as a script: its card, its buffer and its lines, or the number of the first line that cannot be read. Assumes nothing.
use Rattle.std.specs.Prelude.{ℕ, ◌+◌, List, [], ◌∷◌, Some, None, Ok, Err, Option, Result}
use Rattle.script.specs.declared.script.Card.{Card}
use Rattle.script.specs.Parts.{Lines, no_more, unended, a_line, lines}
use Rattle.script.specs.Calls.{LineMeaning}
use Rattle.script.specs.Lines.{line}
use Rattle.script.specs.Heads.{card, buffer}

pub record ScriptMeaning : Type 0 where
  pub card : Card
  pub buffer : ℕ
  pub lines : List LineMeaning

-- the line of this number, and what follows it
abbrev pub numbered : {A B : Type 0} → ℕ → Option A → (A → Result B ℕ) → Result B ℕ
numbered n None on = Err n
numbered n (Some said) on = on said

abbrev pub and_then : LineMeaning → Result (List LineMeaning) ℕ → Result (List LineMeaning) ℕ
and_then m (Ok ms) = Ok (m ∷ ms)
and_then m (Err n) = Err n

-- the lines from a number on
unfoldable pub calls_from : ℕ → Lines → Result (List LineMeaning) ℕ
calls_from n no_more = Ok []
calls_from n unended = Err n
calls_from n (a_line bytes more) = numbered n (line bytes) (λ m. and_then m (calls_from (n + 1) more))

abbrev pub with_head : Card → ℕ → Result (List LineMeaning) ℕ → Result ScriptMeaning ℕ
with_head c b (Ok ms) = Ok (record { card = c; buffer = b; lines = ms })
with_head c b (Err n) = Err n

-- the second line is the buffer's
abbrev pub after_card : Card → Lines → Result ScriptMeaning ℕ
after_card c no_more = Err 2
after_card c unended = Err 2
after_card c (a_line bytes more) = numbered 2 (buffer bytes) (λ b. with_head c b (calls_from 3 more))

-- the first line is the card's
abbrev pub script_by : Lines → Result ScriptMeaning ℕ
script_by no_more = Err 1
script_by unended = Err 1
script_by (a_line bytes more) = numbered 1 (card bytes) (λ c. after_card c more)

abbrev pub script : List ℕ → Result ScriptMeaning ℕ
script text = script_by (lines text)
