-- One line more.
use Rattle.std.proofs.Common.{◌≡◌, ℕ, ◌+◌, ◌≤◌, true, List, [], ◌∷◌, ◌++◌, length, take, drop, Some, None, Option, sym, refl, ap, ◌∙◌, arith, length-take, take-add}
use Rattle.std.proofs.lemmas.List.{append_assoc, append-nil}
use Rattle.std.proofs.lemmas.Bool.{and_from, and_parts}
use Rattle.std.proofs.lemmas.Bool.Decides.{nat_tests}
use Rattle.ssd1329.specs.declared.transfer.Transfer.TheVariants.{Command, Data}
use Rattle.listing.specs.declared.record.Record.{Record}
use Rattle.listing.specs.declared.record.Record.TheVariants.{Open, Sent, Close}
use Rattle.listing.specs.Listing.{line, wide, text, allowed, slot_then, fits, slot_after, Lists, Begins, Writable}

pub line_long : (r : Record) → length (line r) ≡ wide r
line_long (Open n) = refl
line_long (Sent (Command b)) = refl
line_long (Sent (Data b)) = refl
line_long Close = refl

pub wide_pos : (r : Record) → 1 ≤ wide r
wide_pos (Open n) = omega arith
wide_pos (Sent t) = omega arith
wide_pos Close = omega arith

-- one record more at the end
pub text_push : (rs : List Record) (r : Record) → text (rs ++ r ∷ []) ≡ text rs ++ line r
unfolding text
text_push [] r = append-nil (line r)
text_push (q ∷ rs) r = ap (λ l. line q ++ l) (text_push rs r) ∙ sym (append_assoc (line q) (text rs) (line r))

pub fits_push : (s : Option ℕ) (rs : List Record) (r : Record) → fits s rs ≡ true → allowed (slot_after s rs) r ≡ true → fits s (rs ++ r ∷ []) ≡ true
unfolding fits slot_after
fits_push s [] r e f = and_from _ _ f refl
fits_push s (q ∷ rs) r e f = let p = and_parts _ _ e in and_from _ _ p.0 (fits_push (slot_then s q) rs r p.1 f)

pub after_push : (s : Option ℕ) (rs : List Record) (r : Record) → slot_after s (rs ++ r ∷ []) ≡ slot_then (slot_after s rs) r
unfolding slot_after
after_push s [] r = refl
after_push s (q ∷ rs) r = after_push (slot_then s q) rs r

pub more_lists : (s n : List ℕ) (rs : List Record) (r : Record) → Lists s rs → n ≡ s ++ line r → allowed (slot_after None rs) r ≡ true → Lists n (rs ++ r ∷ [])
more_lists s n rs r l e f = record {
  spelled = e ∙ ap (λ a. a ++ line r) l.spelled ∙ sym (text_push rs r);
  lawful = fits_push None rs r l.lawful f;
}

-- a line that stands in a text
pub line_fits : (s : List ℕ) (r : Record) → Begins s r → wide r ≤ length s
line_fits s r b =
    let e : length (take (wide r) s) ≡ wide r = ap length b ∙ line_long r in
    omega (arith, length-take (wide r) s)

pub take_line : (s : List ℕ) (at : ℕ) (r : Record) → Begins (drop at s) r → take (at + wide r) s ≡ take at s ++ line r
take_line s at r b = take-add at (wide r) s ∙ ap (λ a. take at s ++ a) b

-- what may follow can be shown by a line
pub allowed_writable : (slot : Option ℕ) (r : Record) → allowed slot r ≡ true → Writable r
allowed_writable None (Open n) e = grind (arith, nat_tests)
allowed_writable None (Sent t) e = grind (arith, nat_tests)
allowed_writable None Close e = tt
allowed_writable (Some left) (Open n) e = grind (arith, nat_tests)
allowed_writable (Some left) (Sent t) e = grind (arith, nat_tests)
allowed_writable (Some left) Close e = tt
