-- What was done on a link is what its controller met, and what a listing link lists.
use Rattle.std.proofs.Common.{◌≡◌, List, [], ◌∷◌, ◌++◌, sym, ap, ◌∙◌, subst, append_assoc}
use Rattle.std.proofs.lemmas.List.{append-nil}
use Rattle.ssd1329.specs.Chip.{blank}
use Rattle.listing.specs.declared.record.Record.{Record}
use Rattle.listing.specs.declared.record.Record.TheVariants.{Open, Sent, Close}
use Rattle.listing.specs.Listing.{Lists}
use Rattle.listing.specs.Replay.{met, replayed}
use Rattle.listing.proofs.Back.{unique}
use Rattle.link.specs.declared.recorder.ListingLink.{ListingLink}
use Rattle.link.specs.Links.{LinkMeaning}
use Rattle.link.specs.Listed.{text_of, records_of}
use Rattle.link.specs.Lives.{Did, Calls, SameCalls, ListingCalls, ListedWasSent}

-- one call is one record to the controller
one_met : (m n : LinkMeaning) (r : Record) → Did m r n → n.chip ≡ met m.chip r
one_met m n (Open grant) d = ap (λ (k : LinkMeaning). k.chip) d.2
one_met m n (Sent t) d = ap (λ (k : LinkMeaning). k.chip) d.1
one_met m n Close d = d.1.drops

all_met : (m n : LinkMeaning) (rs : List Record) → Calls m rs n → n.chip ≡ replayed m.chip rs
unfolding Calls replayed
all_met m n [] e = ap (λ (k : LinkMeaning). k.chip) e
all_met m n (r ∷ rs) (k, d, l) = all_met k n rs l ∙ ap (λ c. replayed c rs) (one_met m k r d)

pub same_calls : SameCalls
same_calls = record {
  met = all_met;
  same = λ m n m' n' rs e l l'. all_met m n rs l ∙ ap (λ c. replayed c rs) e ∙ sym (all_met m' n' rs l');
}

all_listed : (x y : ListingLink) (rs : List Record) → ListingCalls x rs y → records_of y ≡ records_of x ++ rs
unfolding ListingCalls
all_listed x y [] e = ap records_of e ∙ sym (append-nil (records_of x))
all_listed x y (r ∷ rs) (z, d, l) = all_listed z y rs l ∙ ap (λ q. q ++ rs) d ∙ append_assoc (records_of x) (r ∷ []) rs

own : (x : ListingLink) → Lists (text_of x) (records_of x)
own x = record { spelled = x.spelled; lawful = x.lawful }

from_fresh : (x y : ListingLink) (rs : List Record) → records_of x ≡ [] → ListingCalls x rs y → records_of y ≡ rs
from_fresh x y rs e l = all_listed x y rs l ∙ ap (λ q. q ++ rs) e

pub listed_was_sent : ListedWasSent
listed_was_sent = record {
  lists = λ x y rs e l. subst (Lists (text_of y)) (from_fresh x y rs e l) (own y);
  replays = λ y c r. r.meets ∙ ap (replayed blank) (unique (text_of y) r.listing.records (records_of y) r.listing.lists (own y));
  alike = λ x y rs m n e l f k. all_met m n rs k ∙ ap (λ c. replayed c rs) f ∙ ap (replayed blank) (sym (from_fresh x y rs e l));
}
