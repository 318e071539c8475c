-- What reading one line on answers, in a text of which the part before a place is read. Assumes nothing.
use Rattle.std.specs.Prelude.{◌≡◌, ℕ, ◌<◌, ◌≤◌, List, [], ◌∷◌, ◌++◌, length, take, Some, None, Ok, Err, Option, Result}
use Rattle.refusal.specs.declared.bad_listing.BadListing.{BadListing}
use Rattle.listing.specs.declared.record.Record.{Record}
use Rattle.listing.specs.Listing.{RefusedAt}
use Rattle.listing.specs.ReadBack.{listed}

-- the whole text is read
pub record Ended (bytes : List ℕ) (from to : ℕ) : Type 0 where
  pub short : length bytes ≤ 65535
  pub whole : from ≡ length bytes
  pub stays : to ≡ from

-- one line more is read
pub record Advanced (bytes : List ℕ) (from to : ℕ) (r : Record) : Type 0 where
  pub short : length bytes ≤ 65535
  pub further : from < to
  pub more : listed (take to bytes) ≡ listed (take from bytes) ++ r ∷ []

abbrev pub Next : List ℕ → ℕ → ℕ → Result (Option Record) BadListing → Type 0
Next bytes from to (Ok None) = Ended bytes from to
Next bytes from to (Ok (Some r)) = Advanced bytes from to r
Next bytes from to (Err e) = RefusedAt bytes e.place × (to ≡ from)
