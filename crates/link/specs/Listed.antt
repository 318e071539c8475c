-- What a listing link means: it is read off the text that it holds. Assumes nothing.
use Rattle.std.specs.Prelude.{◌≡◌, ℕ, ◌-◌, List, [], ◌∷◌, ◌++◌, take, None, Ok, Err, vec_items, vec_len, Result}
use Rattle.refusal.specs.declared.refusals.Refusal.{Refusal}
use Rattle.ssd1329.specs.Chip.{blank}
use Rattle.listing.specs.declared.record.Record.{Record}
use Rattle.listing.specs.Listing.{slot_after}
use Rattle.listing.specs.ReadBack.{listed}
use Rattle.listing.specs.Replay.{replayed}
use Rattle.link.specs.declared.recorder.ListingLink.{ListingLink}
use Rattle.link.specs.Links.{LinkMeaning}
use Rattle.link.specs.Space.{capacity, room_in, transfers}

-- records, and the free bytes behind them: a controller at reset with memory 0 has met them
abbrev pub recorded : List Record → ℕ → LinkMeaning
recorded rs free = record { chip = replayed blank rs; slot = slot_after None rs; room = room_in (slot_after None rs) free; taken = transfers rs }

-- the text so far, and what it lists
abbrev pub text_of : ListingLink → List ℕ
text_of x = take x.used (vec_items x.buffer)

abbrev pub records_of : ListingLink → List Record
records_of x = listed (text_of x)

abbrev pub free_of : ListingLink → ℕ
free_of x = capacity (vec_len x.buffer) - x.used

abbrev pub listing_meaning : ListingLink → LinkMeaning
listing_meaning x = recorded (records_of x) (free_of x)

-- a call that is accepted lists its record, and one that is refused leaves everything as it was, bit for bit
abbrev pub ListsMore : {A : Type 0} → Result A Refusal → (A → Record) → ListingLink → ListingLink → Type 0
ListsMore (Ok a) does before after = records_of after ≡ records_of before ++ does a ∷ []
ListsMore (Err e) does before after = after ≡ before
