-- What a controller makes of a listing. Assumes nothing.
use Rattle.std.specs.Prelude.{◌≡◌, ℕ, ◌≤◌, List, [], ◌∷◌, length, Ok, Err, Result}
use Rattle.refusal.specs.declared.bad_listing.BadListing.{BadListing}
use Rattle.ssd1329.specs.Chip.{Chip, step, dropped}
use Rattle.listing.specs.declared.record.Record.{Record}
use Rattle.listing.specs.declared.record.Record.TheVariants.{Open, Sent, Close}
use Rattle.listing.specs.Listing.{Lists, RefusedAt}

-- the opening of a slot is nothing to the controller, its close drops a held byte
abbrev pub met : Chip → Record → Chip
met c (Open n) = c
met c (Sent t) = step c t
met c Close = dropped c

-- one record after another
unfoldable pub replayed : Chip → List Record → Chip
replayed c [] = c
replayed c (r ∷ rs) = replayed (met c r) rs

-- the text is a listing, and not too long
pub record Listing (bytes : List ℕ) : Type 0 where
  pub short : length bytes ≤ 65535
  pub records : List Record
  pub lists : Lists bytes records

-- the text is a listing, and the controller has met exactly what it lists
pub record Replayed (bytes : List ℕ) (before after : Chip) : Type 0 where
  pub listing : Listing bytes
  pub meets : after ≡ replayed before listing.records

-- what a look at the text answers
abbrev pub Checked : List ℕ → Result (Unit {0}) BadListing → Type 0
Checked bytes (Ok x) = Listing bytes
Checked bytes (Err e) = RefusedAt bytes e.place

-- what a replay of the text answers and leaves: a bad text leaves the controller as it was
abbrev pub Read : List ℕ → Chip → Chip → Result (Unit {0}) BadListing → Type 0
Read bytes before after (Ok x) = Replayed bytes before after
Read bytes before after (Err e) = RefusedAt bytes e.place × (after ≡ before)

-- the text was replayed, with one answer or another
abbrev pub Viewed : List ℕ → Chip → Chip → Type 0
Viewed bytes before after = (answer : Result (Unit {0}) BadListing) × Read bytes before after answer
