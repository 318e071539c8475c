-- What a call for the text of a row answers, and what it leaves in the buffer. Assumes nothing.
use Rattle.std.specs.Prelude.{◌≡◌, ℕ, ◌<◌, ◌≤◌, ◌⊎◌, List, length, Ok, Err, Result}
use Rattle.refusal.specs.declared.refusals.Refusal.{Refusal}
use Rattle.refusal.specs.declared.refusals.Refusal.TheVariants.{Position, Memory}
use Rattle.ssd1329.specs.Chip.{Chip}
use Rattle.ssd1329.specs.Glass.{Wires}
use Rattle.ssd1329.specs.RowText.{row_text, written}

-- the text stands at the front of the buffer, and the rest of the buffer stays
pub record Written (w : Wires) (c : Chip) (y : ℕ) (before after : List ℕ) (n : ℕ) : Type 0 where
  pub row : y ≤ 127
  pub long : 1408 ≤ length before
  pub answer : n ≡ length (row_text w c y)
  pub bound : n ≤ 1408
  pub text : after ≡ written before 0 (row_text w c y)

-- the row is judged before the buffer, and a refusal leaves the buffer as it was
pub record Refused (y : ℕ) (before after : List ℕ) (e : Refusal) : Type 0 where
  pub why : ((127 < y) × (e ≡ Position)) ⊎ ((y ≤ 127) × (length before < 1408) × (e ≡ Memory))
  pub same : after ≡ before

abbrev pub RowWritten : Wires → Chip → ℕ → List ℕ → List ℕ → Result ℕ Refusal → Type 0
RowWritten w c y before after (Ok n) = Written w c y before after n
RowWritten w c y before after (Err e) = Refused y before after e
