-- A listing link keeps the laws of links, by the facts that its type keeps.
use Rattle.std.specs.Prelude.{◌≡◌, ℕ, ◌+◌, ◌-◌, ◌≤◌, Bool, true, false, cond, List, [], ◌∷◌, length, Some, None, vec_len, Option, nat_le, refl}
use Rattle.std.proofs.Common.{sym, ap, subst, ◌∙◌, arith}
use Rattle.std.proofs.lemmas.Bool.{leb-true}
use Rattle.ssd1329.specs.Chip.{Chip, reset, blank}
use Rattle.ssd1329.proofs.Fresh.{dropped_blank, blank_reset, blank_sized}
use Rattle.ssd1329.proofs.Sized.{step_sized, dropped_memory}
use Rattle.listing.specs.declared.record.Record.{Record}
use Rattle.listing.specs.declared.record.Record.TheVariants.{Open, Sent, Close}
use Rattle.listing.specs.Listing.{slot_after}
use Rattle.listing.specs.Replay.{met, replayed}
use Rattle.link.specs.declared.recorder.ListingLink.{ListingLink}
use Rattle.link.specs.Links.{Lawful, lefts}
use Rattle.link.specs.Listed.{records_of, listing_meaning}
use Rattle.link.specs.Space.{capacity, reserve, room_in, transfers}

-- records keep the length of the memory
met_sized : (c : Chip) (r : Record) → length (met c r).memory ≡ length c.memory
met_sized c (Open n) = refl
met_sized c (Sent t) = step_sized c t
met_sized c Close = ap length (dropped_memory c)

replayed_sized : (c : Chip) (rs : List Record) → length (replayed c rs).memory ≡ length c.memory
unfolding replayed
replayed_sized c [] = refl
replayed_sized c (r ∷ rs) = replayed_sized (met c r) rs ∙ met_sized c r

-- slots without transfers leave a blank controller blank
none_taken : (rs : List Record) → transfers rs ≡ 0 → replayed blank rs ≡ blank
unfolding replayed transfers
none_taken [] z = refl
none_taken (Open n ∷ rs) z = none_taken rs (omega arith)
none_taken (Sent t ∷ rs) z = absurd (omega arith)
none_taken (Close ∷ rs) z = ap (λ c. replayed c rs) dropped_blank ∙ none_taken rs (omega arith)

still_reset : (c : Chip) → c ≡ blank → c ≡ reset c.memory
still_reset c e = e ∙ blank_reset ∙ ap (λ (d : Chip). reset d.memory) (sym e)

-- an open slot has its reserve
reserved : (slot : Option ℕ) (used size : ℕ) → used + reserve slot ≤ size → lefts slot ≤ room_in slot (size - used)
reserved None used size h = omega arith
reserved (Some left) used size h = omega arith

few_transfers : (slot : Option ℕ) (free taken used : ℕ) → free + used ≤ 65535 → taken ≤ used → room_in slot free + taken ≤ 4294967295
few_transfers None free taken used h k = omega arith
few_transfers (Some left) free taken used h k = omega arith

capacity_at : (n : ℕ) (b : Bool) → nat_le n 65535 ≡ b → cond b n 0 ≤ 65535
capacity_at n true e = leb-true n 65535 e
capacity_at n false e = omega arith

pub capacity_small : (n : ℕ) → capacity n ≤ 65535
capacity_small n = capacity_at n (nat_le n 65535) refl

pub listing_lawful : (x : ListingLink) → Lawful (listing_meaning x)
listing_lawful x =
    let rs = records_of x in
    let size = capacity (vec_len x.buffer) in
    let inside : x.used + reserve x.slot ≤ size = x.inside in
    let few : transfers rs ≤ x.used = subst (λ n. n ≤ x.used) x.counted x.few in
    let small = capacity_small (vec_len x.buffer) in
    record {
      sized = replayed_sized blank rs ∙ blank_sized;
      counted = few_transfers (slot_after None rs) (size - x.used) (transfers rs) x.used (omega arith) few;
      fresh = λ z. still_reset (replayed blank rs) (none_taken rs z);
      within = subst (λ s. lefts s ≤ room_in s (size - x.used)) x.stands (reserved x.slot x.used size inside);
    }
