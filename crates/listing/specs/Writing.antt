-- What writing one record answers and leaves. Assumes nothing.
use Rattle.std.specs.Prelude.{◌≡◌, ℕ, ◌+◌, ◌<◌, ◌≤◌, Bool, true, false, ◌&&◌, ◌⊎◌, List, length, Ok, Err, Result, nat_lt}
use Rattle.refusal.specs.declared.refusals.Refusal.{Refusal}
use Rattle.refusal.specs.declared.refusals.Refusal.TheVariants.{SlotSize, Memory}
use Rattle.ssd1329.specs.RowText.{Put}
use Rattle.listing.specs.declared.record.Record.{Record}
use Rattle.listing.specs.declared.record.Record.TheVariants.{Open, Sent, Close}
use Rattle.listing.specs.Listing.{line, wide}

-- a grant is 1 to 9,999
abbrev pub legal : Record → Bool
legal (Open n) = nat_lt 0 n && nat_lt n 10000
legal (Sent t) = true
legal Close = true

-- what a copy of bytes to a place answers and leaves: a buffer that is too short stays as it was
abbrev pub PutAnswer : List ℕ → ℕ → List ℕ → List ℕ → Result ℕ Refusal → Type 0
PutAnswer before at bytes after (Ok end) = (at + length bytes ≤ length before) × Put before at bytes after end
PutAnswer before at bytes after (Err e) = (length before < at + length bytes) × (e ≡ Memory) × (after ≡ before)

-- the line stands in the buffer, which is otherwise as it was, and the answer is where it ends
pub record Written (before : List ℕ) (at : ℕ) (r : Record) (after : List ℕ) (end : ℕ) : Type 0 where
  pub lawful : legal r ≡ true
  pub room : at + wide r ≤ length before
  pub put : Put before at (line r) after end

-- the grant is judged before the buffer, and a refusal leaves the buffer as it was
pub record Unwritten (before : List ℕ) (at : ℕ) (r : Record) (after : List ℕ) (e : Refusal) : Type 0 where
  pub why : ((legal r ≡ false) × (e ≡ SlotSize)) ⊎ ((legal r ≡ true) × (length before < at + wide r) × (e ≡ Memory))
  pub same : after ≡ before

abbrev pub RecordWritten : List ℕ → ℕ → Record → List ℕ → Result ℕ Refusal → Type 0
RecordWritten before at r after (Ok end) = Written before at r after end
RecordWritten before at r after (Err e) = Unwritten before at r after e
