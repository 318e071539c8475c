-- What one record more makes of what a listing link means.
use Rattle.std.proofs.Common.{◌≡◌, ℕ, ◌+◌, ◌-◌, ◌/◌, ◌≤◌, true, false, List, [], ◌∷◌, ◌++◌, length, take, is_some, Some, None, vec_items, vec_len, Option, Vec, sym, refl, ap, ◌∙◌, subst, arith}
use Rattle.std.proofs.lemmas.List.{with_items_is}
use Rattle.std.specs.Vec.{with_items}
use Rattle.ssd1329.specs.declared.transfer.Transfer.{Transfer}
use Rattle.ssd1329.specs.Chip.{Chip, blank}
use Rattle.ssd1329.specs.RowText.{Put}
use Rattle.ssd1329.proofs.Texts.{put_front}
use Rattle.listing.specs.declared.record.Record.{Record}
use Rattle.listing.specs.declared.record.Record.TheVariants.{Open, Sent, Close}
use Rattle.listing.specs.Listing.{line, wide, allowed, slot_after, less}
use Rattle.listing.specs.Replay.{replayed}
use Rattle.listing.specs.Writing.{Written}
use Rattle.listing.proofs.OneLine.{after_push}
use Rattle.listing.proofs.Whole.{replayed_push}
use Rattle.listing.proofs.Written.{Kept, Grown, grown}
use Rattle.link.specs.declared.recorder.ListingLink.{ListingLink}
use Rattle.link.specs.Links.{LinkMeaning, opened, sent, Closed}
use Rattle.link.specs.Listed.{recorded, text_of, records_of, free_of, listing_meaning}
use Rattle.link.specs.Panels.{fresh_link}
use Rattle.link.specs.Space.{capacity, room_in, weight, transfers}

pub transfers_push : (rs : List Record) (r : Record) → transfers (rs ++ r ∷ []) ≡ transfers rs + weight r
unfolding transfers
transfers_push [] r = omega arith
transfers_push (q ∷ rs) r = let e = transfers_push rs r in omega arith

pub weight_small : (r : Record) → weight r ≤ wide r
weight_small (Open n) = omega arith
weight_small (Sent t) = omega arith
weight_small Close = omega arith

-- the text, once a line is written behind it
pub grown_text : {Z : Type 0} (v : Vec ℕ Z) (before after : List ℕ) (used end : ℕ) (r : Record)
    → before ≡ vec_items v → length after ≡ v.len → used ≤ length before → Put before used (line r) after end
    → take end (vec_items (with_items v after)) ≡ take used (vec_items v) ++ line r
grown_text v before after used end r same long h p =
    ap (take end) (with_items_is v after long) ∙ put_front h p ∙ ap (λ x. take used x ++ line r) same

-- a record more in the text that a link holds
pub line_more : (x : ListingLink) (before after : List ℕ) (end : ℕ) (r : Record) → before ≡ vec_items x.buffer → length after ≡ x.buffer.len
    → Written before x.used r after end → allowed x.slot r ≡ true
    → Grown (text_of x) (take end (vec_items (with_items x.buffer after))) r x.slot
line_more x before after end r same long w may =
    let room = w.room in
    let kept : Kept (text_of x) x.slot = record { spelled = x.spelled; lawful = x.lawful; stands = x.stands } in
    grown (text_of x) _ r x.slot kept (grown_text x.buffer before after x.used end r same long (omega arith) w.put) may

same_meaning : (c d : Chip) (s t : Option ℕ) (m n k l : ℕ) → c ≡ d → s ≡ t → m ≡ n → k ≡ l
    → ◌≡◌ {A = LinkMeaning} (record { chip = c; slot = s; room = m; taken = k }) (record { chip = d; slot = t; room = n; taken = l })
same_meaning c d s t m n k l e f g h = cc

-- a slot opened: its seven bytes and its close were in the room already
pub opened_recorded : (rs : List Record) (free grant : ℕ) → slot_after None rs ≡ None
    → recorded (rs ++ Open grant ∷ []) (free - 7) ≡ opened (recorded rs free) grant
opened_recorded rs free grant shut =
    let slots = after_push None rs (Open grant) in
    let room : free - 7 - 2 ≡ free - 9 = omega arith in
    let count = transfers_push rs (Open grant) in
    same_meaning _ _ _ _ _ _ _ _ (replayed_push blank rs (Open grant)) slots
    (ap (λ s. room_in s (free - 7)) slots ∙ ap (λ n. n / 5) room ∙ ap (λ s. room_in s free) (sym shut))
    (omega arith)

sent_room : (slot : Option ℕ) (left free : ℕ) → slot ≡ Some left → room_in (less slot) (free - 5) ≡ room_in slot free - 1
sent_room slot left free e =
    let falls : (free - 5 - 2) / 5 ≡ (free - 2) / 5 - 1 = omega arith in
    ap (λ s. room_in (less s) (free - 5)) e ∙ falls ∙ ap (λ s. room_in s free - 1) (sym e)

pub sent_recorded : (rs : List Record) (free left : ℕ) (t : Transfer) → slot_after None rs ≡ Some left
    → recorded (rs ++ Sent t ∷ []) (free - 5) ≡ sent (recorded rs free) t
sent_recorded rs free left t e =
    let slots = after_push None rs (Sent t) in
    same_meaning _ _ _ _ _ _ _ _ (replayed_push blank rs (Sent t)) slots
    (ap (λ s. room_in s (free - 5)) slots ∙ sent_room (slot_after None rs) left free e)
    (transfers_push rs (Sent t))

pub closed_recorded : (rs : List Record) (free left : ℕ) → slot_after None rs ≡ Some left
    → Closed (recorded rs free) (recorded (rs ++ Close ∷ []) (free - 2))
closed_recorded rs free left e =
    let slots = after_push None rs Close in
    let count = transfers_push rs Close in
    let falls : (free - 2 - 9) / 5 ≤ (free - 2) / 5 = omega arith in
    record {
      drops = replayed_push blank rs Close;
      shut = slots;
      taken_stays = omega arith;
      room_falls = subst (λ s. room_in s (free - 2) ≤ room_in (slot_after None rs) free) (sym slots) (subst (λ s. (free - 2 - 9) / 5 ≤ room_in s free) (sym e) falls);
    }

-- what a link means once a record more is listed
pub listed_then : (x y : ListingLink) (r : Record) → records_of y ≡ records_of x ++ r ∷ [] → y.used ≡ x.used + wide r → vec_len y.buffer ≡ vec_len x.buffer
    → listing_meaning y ≡ recorded (records_of x ++ r ∷ []) (free_of x - wide r)
listed_then x y r rs used size =
    let n = capacity (vec_len x.buffer) in
    let less : n - (x.used + wide r) ≡ n - x.used - wide r = omega arith in
    let free : free_of y ≡ free_of x - wide r = ap (λ k. capacity k - y.used) size ∙ ap (λ u. n - u) used ∙ less in
    ap (λ q. recorded q (free_of y)) rs ∙ ap (recorded (records_of x ++ r ∷ [])) free

-- an empty text
pub nothing_recorded : (size : ℕ) → recorded [] (size - 0) ≡ fresh_link blank (room_in None size)
unfolding replayed slot_after transfers
nothing_recorded size =
    let e : size - 0 ≡ size = omega arith in
    ap (λ n. fresh_link blank (room_in None n)) e

pub counts_more : (was is : List Record) (r : Record) {n m : ℕ} → is ≡ was ++ r ∷ [] → m ≡ n + weight r → n ≡ transfers was → m ≡ transfers is
counts_more was is r e m n = let pushed = ap transfers e ∙ transfers_push was r in omega arith

-- what a look at the slot tells
pub none_left : (s : Option ℕ) → is_some s ≡ false → s ≡ None
none_left None e = refl
none_left (Some left) e = let z : ◌≡◌ {A = ℕ} 0 1 = cc in absurd (omega arith)
