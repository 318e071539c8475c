-- A listing that grows by a line.
use Rattle.std.proofs.Common.{◌≡◌, ℕ, true, List, [], ◌∷◌, ◌++◌, None, Option, sym, ap, ◌∙◌}
use Rattle.listing.specs.declared.record.Record.{Record}
use Rattle.listing.specs.Listing.{line, text, allowed, slot_then, fits, slot_after, Lists}
use Rattle.listing.specs.ReadBack.{listed}
use Rattle.listing.proofs.OneLine.{more_lists, after_push}
use Rattle.listing.proofs.Back.{reads_back}

-- the text is a listing of what it reads back as, and the slot is the one after it
pub record Kept (s : List ℕ) (slot : Option ℕ) : Type 0 where
  pub spelled : s ≡ text (listed s)
  pub lawful : fits None (listed s) ≡ true
  pub stands : slot ≡ slot_after None (listed s)

pub kept_lists : {s : List ℕ} {slot : Option ℕ} → Kept s slot → Lists s (listed s)
kept_lists k = record { spelled = k.spelled; lawful = k.lawful }

pub record Grown (s n : List ℕ) (r : Record) (slot : Option ℕ) : Type 0 where
  pub kept : Kept n (slot_then slot r)
  pub more : listed n ≡ listed s ++ r ∷ []

pub grown : (s n : List ℕ) (r : Record) (slot : Option ℕ) → Kept s slot → n ≡ s ++ line r → allowed slot r ≡ true → Grown s n r slot
grown s n r slot k e f =
    let rs = listed s in
    let l : Lists n (rs ++ r ∷ []) = more_lists s n rs r (kept_lists k) e (ap (λ x. allowed x r) (sym k.stands) ∙ f) in
    let back = reads_back n (rs ++ r ∷ []) l in
    record {
      kept = record {
        spelled = l.spelled ∙ ap text (sym back);
        lawful = ap (fits None) back ∙ l.lawful;
        stands = ap (λ x. slot_then x r) k.stands ∙ sym (after_push None rs r) ∙ ap (slot_after None) (sym back);
      };
      more = back;
    }
