-- One transfer more over a link, and what is left of its slot.
use Rattle.std.proofs.Common.{◌≡◌, ℕ, ◌+◌, ◌-◌, ◌<◌, eqb, List, [], ◌∷◌, ◌++◌, length, Some, None, Ok, Option, Result, refl, ap, ◌∙◌, arith, length-append}
use Rattle.std.proofs.lemmas.Bool.{cond-false, ne_eqb}
use Rattle.refusal.specs.declared.refusals.Refusal.{Refusal}
use Rattle.ssd1329.specs.declared.transfer.Transfer.{Transfer}
use Rattle.ssd1329.specs.Chip.{Chip, run}
use Rattle.listing.specs.Listing.{less}
use Rattle.link.specs.Links.{LinkMeaning, lefts, send_answer, send_after, sent}
use Rattle.marks.specs.Sending.{sent_all, less_by}
use Rattle.marks.proofs.Model.{run_append, run_none, run_last}

-- after k transfers one more is taken, if there were more
pub answers_ok : (s : Option ℕ) (k : ℕ) → k < lefts s → send_answer (less_by s k) ≡ Ok tt
answers_ok None k h = absurd (omega arith)
answers_ok (Some left) k h = cond-false (eqb (left - k) 0) _ _ (ne_eqb (left - k) 0 (λ e. omega arith))

-- one less, and one more sent
pub less_more : (s : Option ℕ) (k : ℕ) → less (less_by s k) ≡ less_by s (k + 1)
less_more None k = refl
less_more (Some left) k = ap (λ n. Some n) (omega arith)

abbrev made : Chip → Option ℕ → ℕ → ℕ → LinkMeaning
made c s r t = record { chip = c; slot = s; room = r; taken = t }

-- one transfer more, part by part
pub sent_one : (m : LinkMeaning) (ts : List Transfer) (t : Transfer) (k : ℕ) → k ≡ length ts + 1 → sent (sent_all m ts) t ≡ made (run m.chip (ts ++ t ∷ [])) (less_by m.slot k) (m.room - k) (m.taken + k)
sent_one m ts t k e =
    let chips = run_last m.chip ts t in
    let slots = less_more m.slot (length ts) in
    let rooms : m.room - length ts - 1 ≡ m.room - (length ts + 1) = omega arith in
    let takens : m.taken + length ts + 1 ≡ m.taken + (length ts + 1) = omega arith in
    cc

-- the same by what the send answered and left
pub sent_more : (m n n' : LinkMeaning) (ts : List Transfer) (t : Transfer) (r : Result (Unit {0}) Refusal)
    → length ts < lefts m.slot → n ≡ sent_all m ts → r ≡ send_answer n.slot → n' ≡ send_after n t r
    → n' ≡ sent_all m (ts ++ t ∷ [])
sent_more m n n' ts t r enough was answer after =
    let ok : r ≡ Ok tt = answer ∙ ap (λ x. send_answer x.slot) was ∙ answers_ok m.slot (length ts) enough in
    let one : n' ≡ sent (sent_all m ts) t = after ∙ ap (send_after n t) ok ∙ ap (λ x. sent x t) was in
    one ∙ sent_one m ts t (length (ts ++ t ∷ [])) (simp length-append)

-- nothing sent, nothing changed
pub sent_none : (m : LinkMeaning) → m ≡ sent_all m []
sent_none m =
    let none : (s : Option ℕ) → s ≡ less_by s 0 = λ s. elim s as (λ s. s ≡ less_by s 0) [ None ↦ refl | Some l ↦ ap (λ n. Some n) (omega arith) ] in
    let chips = run_none m.chip in
    let slots = none m.slot in
    let rooms : m.room ≡ m.room - 0 = omega arith in
    let takens : m.taken ≡ m.taken + 0 = omega arith in
    let e : made m.chip m.slot m.room m.taken ≡ sent_all m [] = cc in
    e

-- one send in a slot with something left
pub one_sent : (m n : LinkMeaning) (t : Transfer) (r : Result (Unit {0}) Refusal)
    → 0 < lefts m.slot → r ≡ send_answer m.slot → n ≡ send_after m t r → n ≡ sent_all m (t ∷ [])
one_sent m n t r enough answer after = sent_more m m n [] t r enough (sent_none m) answer after

-- first j, then k
less_by_sum : (s : Option ℕ) (j k : ℕ) → less_by (less_by s j) k ≡ less_by s (j + k)
less_by_sum None j k = refl
less_by_sum (Some left) j k = ap (λ n. Some n) (omega arith)

-- first a, then b
pub sent_then : (m n p : LinkMeaning) (a b : List Transfer) → n ≡ sent_all m a → p ≡ sent_all n b → p ≡ sent_all m (a ++ b)
sent_then m n p a b first second =
    let chips = run_append m.chip a b in
    let long = length-append a b in
    let slots = less_by_sum m.slot (length a) (length b) in
    let rooms : m.room - length a - length b ≡ m.room - (length a + length b) = omega arith in
    let takens : m.taken + length a + length b ≡ m.taken + (length a + length b) = omega arith in
    let both : sent_all (sent_all m a) b ≡ sent_all m (a ++ b) = cc in
    second ∙ ap (λ x. sent_all x b) first ∙ both
