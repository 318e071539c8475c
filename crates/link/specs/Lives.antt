-- What was done on a link: the calls that it accepted, in their order, as records. Assumes nothing.
-- A refused call leaves what a link means as it was, so it does not count.
use Rattle.std.specs.Prelude.{◌≡◌, ℕ, List, [], ◌∷◌, ◌++◌, Ok}
use Rattle.ssd1329.specs.Chip.{Chip, blank}
use Rattle.listing.specs.declared.record.Record.{Record}
use Rattle.listing.specs.declared.record.Record.TheVariants.{Open, Sent, Close}
use Rattle.listing.specs.Listing.{Lists}
use Rattle.listing.specs.Replay.{replayed, Replayed}
use Rattle.link.specs.declared.recorder.ListingLink.{ListingLink}
use Rattle.link.specs.Links.{LinkMeaning, open_answer, opened, send_answer, sent, close_answer, Closed}
use Rattle.link.specs.Listed.{text_of, records_of, listing_meaning}

-- one accepted call on any link: an opening with its grant, a transfer, a close
abbrev pub Did : LinkMeaning → Record → LinkMeaning → Type 0
Did m (Open grant) n = (k : ℕ) × (open_answer m k ≡ Ok grant) × (n ≡ opened m grant)
Did m (Sent t) n = (send_answer m.slot ≡ Ok tt) × (n ≡ sent m t)
Did m Close n = (close_answer m.slot ≡ Ok tt) × Closed m n

-- one after the other
unfoldable pub Calls : LinkMeaning → List Record → LinkMeaning → Type 0
Calls m [] n = n ≡ m
Calls m (r ∷ rs) n = (k : LinkMeaning) × Did m r k × Calls k rs n

-- the controller meets what is done, and nothing else; so links that differ in all but the controller give the same one
pub record SameCalls : Type 0 where
  pub met : (m n : LinkMeaning) (rs : List Record) → Calls m rs n → n.chip ≡ replayed m.chip rs
  pub same : (m n m' n' : LinkMeaning) (rs : List Record) → m.chip ≡ m'.chip → Calls m rs n → Calls m' rs n' → n.chip ≡ n'.chip

-- accepted calls on a listing link, by what each lists
unfoldable pub ListingCalls : ListingLink → List Record → ListingLink → Type 0
ListingCalls x [] y = y ≡ x
ListingCalls x (r ∷ rs) y = (z : ListingLink) × (records_of z ≡ records_of x ++ r ∷ []) × ListingCalls z rs y

-- After any calls on a fresh listing link, its text lists exactly what was done on it;
-- whoever replays the text from reset with memory 0 has the link's controller;
-- and so has every other link over such memory on which the same was done.
pub record ListedWasSent : Type 0 where
  pub lists : (x y : ListingLink) (rs : List Record) → records_of x ≡ [] → ListingCalls x rs y → Lists (text_of y) rs
  pub replays : (y : ListingLink) (c : Chip) → Replayed (text_of y) blank c → c ≡ (listing_meaning y).chip
  pub alike : (x y : ListingLink) (rs : List Record) (m n : LinkMeaning) → records_of x ≡ [] → ListingCalls x rs y → m.chip ≡ blank → Calls m rs n → n.chip ≡ (listing_meaning y).chip
