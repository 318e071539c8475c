-- A whole session: a slot is opened with enough, ts are sent, the slot is closed.
use Rattle.std.proofs.Common.{◌≡◌, ℕ, ◌-◌, ◌≤◌, min, Bool, true, false, cond, eqb, List, length, Some, None, Ok, Err, Option, Result, sym, refl, ap, ◌∙◌, subst, arith}
use Rattle.refusal.specs.declared.refusals.Refusal.{Refusal}
use Rattle.refusal.specs.declared.refusals.Refusal.TheVariants.{SlotSize, NoRoom}
use Rattle.ssd1329.specs.declared.transfer.Transfer.{Transfer}
use Rattle.ssd1329.specs.Chip.{dropped}
use Rattle.link.specs.Links.{LinkMeaning, Closed, bad_size, open_closed, open_answer, open_after, close_answer, CloseAfter}
use Rattle.marks.specs.Sending.{sent_all, less_by, Session}

-- a grant is within the room
free : (b : Bool) (room n left : ℕ) → ◌≡◌ {A = Result ℕ Refusal} (Ok left) (cond b (Err NoRoom) (Ok (min n room))) → left ≤ room
free true room n left e = let z : ◌≡◌ {A = ℕ} 0 1 = cc in omega arith
free false room n left e = let z : left ≡ min n room = cc in omega arith

-- only a closed slot is opened
opens : (b : Bool) (s : Option ℕ) (room n left : ℕ) → Ok left ≡ cond b (Err SlotSize) (open_closed s room n) → (s ≡ None) × (left ≤ room)
opens true s room n left e = let z : ◌≡◌ {A = ℕ} 0 1 = cc in absurd (omega arith)
opens false (Some l) room n left e = let z : ◌≡◌ {A = ℕ} 0 1 = cc in absurd (omega arith)
opens false None room n left e = (refl, free (eqb room 0) room n left e)

-- what an accepted opening says of the link before
pub opened : (m : LinkMeaning) (n left : ℕ) → Ok left ≡ open_answer m n → (m.slot ≡ None) × (left ≤ m.room)
opened m n left e = opens (bad_size n) m.slot m.room n left e

-- an open slot closes
closes : (s : Option ℕ) (k : ℕ) (l : ℕ) → s ≡ less_by (Some l) k → close_answer s ≡ Ok tt
closes s k l e = ap close_answer e

-- opened, sent, closed
pub session : (m o p q : LinkMeaning) (n left : ℕ) (ts : List Transfer) (r : Result (Unit {0}) Refusal)
    → Ok left ≡ open_answer m n → o ≡ open_after m (Ok left) → length ts ≤ left → p ≡ sent_all o ts
    → r ≡ close_answer p.slot → CloseAfter p r q → Session m n left ts q
session m o p q n left ts r answer opened-to enough sends closed after =
    let was = opened m n left answer in
    let p_is : p ≡ sent_all (open_after m (Ok left)) ts = sends ∙ ap (λ x. sent_all x ts) opened-to in
    let ok : r ≡ Ok tt = closed ∙ closes p.slot (length ts) left (ap (λ x. x.slot) p_is) in
    let shut : Closed p q = subst (λ x. CloseAfter p x q) ok after in
    let fits = was.1 in
    let room_is : p.room ≡ m.room - length ts = ap (λ x. x.room) p_is in
    let room_less = shut.room_falls in
    record {
      opens = sym answer;
      within = enough;
      was_shut = was.0;
      chip = shut.drops ∙ ap (λ x. dropped x.chip) p_is;
      slot = shut.shut;
      taken = shut.taken_stays ∙ ap (λ x. x.taken) p_is;
      room = omega arith;
    }
