-- How many transfers a listing buffer has space for. Assumes nothing.
use Rattle.std.specs.Prelude.{ℕ, ◌+◌, ◌-◌, ◌*◌, ◌/◌, cond, List, [], ◌∷◌, Some, None, Option, nat_le}
use Rattle.listing.specs.declared.record.Record.{Record}
use Rattle.listing.specs.declared.record.Record.TheVariants.{Open, Sent, Close}

-- a buffer above 65,535 bytes is not written to
abbrev pub capacity : ℕ → ℕ
capacity n = cond (nat_le n 65535) n 0

-- the bytes that an open slot keeps in reserve: 5 for each transfer left, 2 for the close
abbrev pub reserve : Option ℕ → ℕ
reserve None = 0
reserve (Some left) = 5 * left + 2

-- the room that free bytes give: a closed slot has its open (7) and its close (2) still to be written, an open one its close
abbrev pub room_in : Option ℕ → ℕ → ℕ
room_in None free = (free - 9) / 5
room_in (Some left) free = (free - 2) / 5

-- how many transfers are listed
abbrev pub weight : Record → ℕ
weight (Open n) = 0
weight (Sent t) = 1
weight Close = 0

unfoldable pub transfers : List Record → ℕ
transfers [] = 0
transfers (r ∷ rs) = weight r + transfers rs
