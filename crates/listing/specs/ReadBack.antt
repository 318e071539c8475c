-- A text read back: the records that it would list, whatever it holds. Of a listing they are those that it lists.
use Rattle.std.specs.Prelude.{ℕ, zero, suc, ◌+◌, ◌-◌, ◌*◌, cond, List, [], ◌∷◌, length, drop, ◌==◌, nat_lt, slice_index}
use Rattle.ssd1329.specs.declared.transfer.Transfer.TheVariants.{Command, Data}
use Rattle.listing.specs.declared.record.Record.{Record}
use Rattle.listing.specs.declared.record.Record.TheVariants.{Open, Sent, Close}
use Rattle.listing.specs.Listing.{wide}

abbrev pub unhex : ℕ → ℕ
unhex c = cond (nat_lt c 65) (c - 48) (c - 55)

abbrev pub octet_at : List ℕ → ℕ
octet_at s = 16 * unhex (slice_index s 2) + unhex (slice_index s 3)

abbrev pub grant_at : List ℕ → ℕ
grant_at s = 1000 * (slice_index s 2 - 48) + 100 * (slice_index s 3 - 48) + 10 * (slice_index s 4 - 48) + (slice_index s 5 - 48)

-- the record of the first line, by its letter
abbrev pub first : List ℕ → Record
first s = cond (slice_index s 0 == 79) (Open (grant_at s)) (cond (slice_index s 0 == 67) (Sent (Command (octet_at s))) (cond (slice_index s 0 == 68) (Sent (Data (octet_at s))) Close))

-- those of at most n lines
unfoldable pub lines : ℕ → List ℕ → List Record
lines zero s = []
lines (suc n) [] = []
lines (suc n) (b ∷ s) = first (b ∷ s) ∷ lines n (drop (wide (first (b ∷ s))) (b ∷ s))

unfoldable pub listed : List ℕ → List Record
listed s = lines (length s) s
