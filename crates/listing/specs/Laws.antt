-- The laws of listings: what a text lists, and where it is bad, is no matter of choice; writing and reading undo each other.
use Rattle.std.specs.Prelude.{◌≡◌, ℕ, List, ◌++◌, drop}
use Rattle.listing.specs.declared.record.Record.{Record}
use Rattle.listing.specs.Listing.{line, wide, text, Writable, Begins, Lists, BadAt}
use Rattle.listing.specs.ReadBack.{first, listed}

pub record Laws : Type 0 where
  -- a text lists one list of records at most
  pub unique : (s : List ℕ) (rs qs : List Record) → Lists s rs → Lists s qs → rs ≡ qs
  -- it is bad at one place at most
  pub one_place : (s : List ℕ) (p q : ℕ) → BadAt s p → BadAt s q → p ≡ q
  -- and not both
  pub not_both : (s : List ℕ) (p : ℕ) (rs : List Record) → BadAt s p → Lists s rs → ⊥
  -- what is read of a listing is what it lists, and written again it is the listing
  pub reads_back : (s : List ℕ) (rs : List Record) → Lists s rs → listed s ≡ rs
  pub writes_back : (s : List ℕ) (rs : List Record) → Lists s rs → text (listed s) ≡ s
  -- a written record reads back as itself, whatever follows, and a line that was read is written back
  pub record_reads_back : (r : Record) (rest : List ℕ) → Writable r → first (line r ++ rest) ≡ r
  pub line_writes_back : (s : List ℕ) (r : Record) → Begins s r → line r ++ drop (wide r) s ≡ s
