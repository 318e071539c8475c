-- How texts are written into a buffer, one after the other, and how long they are.
use Rattle.std.proofs.Common.{◌≡◌, ℕ, ◌+◌, ◌*◌, ◌<◌, ◌≤◌, List, [], ◌++◌, length, take, drop, sym, refl, ap, ◌∙◌, subst, add-one, arith}
use borrow.Rule.Slice.PartMut.{put_mid}
use Rattle.std.proofs.lemmas.List.{append_assoc, drop-drop}
use Rattle.std.proofs.lemmas.Bool.Decides.{nat_tests}
use Rattle.std.proofs.lemmas.Grind.{common_steps}
use Rattle.ssd1329.specs.declared.controller.row_text.Text.{Text}
use Rattle.ssd1329.specs.RowText.{decimal, dot_line, dot_text, text_before, written, Put}
use Rattle.ssd1329.specs.Text.{Adds}

-- what a copy into a part of the buffer leaves
pub put_written : (s ys zs : List ℕ) (at k : ℕ) → ys ≡ zs → k ≡ length zs → put_mid at k s ys ≡ written s at zs
unfolding written
put_written s ys zs at k e h = grind (arith, common_steps)

-- nothing written
pub written_none : (s : List ℕ) (at : ℕ) → written s at [] ≡ s
unfolding written
written_none s at = grind (arith, common_steps)

-- the front of the buffer up to the end of what was written, and what stands after it
take_written : (s xs : List ℕ) (at : ℕ) → at ≤ length s → take (at + length xs) (written s at xs) ≡ take at s ++ xs
unfolding written
take_written s xs at h = grind (arith, common_steps)

drop_written : (s xs : List ℕ) (at n : ℕ) → at ≤ length s → drop (at + length xs + n) (written s at xs) ≡ drop (at + length xs + n) s
unfolding written
drop_written s xs at n h =
    let front = take at s ++ xs in
    let rest = drop (at + length xs) s in
    grind (arith, common_steps, append_assoc (take at s) xs rest, drop-drop n (at + length xs) (front ++ rest))

-- one text after another is their joint text
pub written_then : (s xs ys : List ℕ) (at : ℕ) → at ≤ length s → written (written s at xs) (at + length xs) ys ≡ written s at (xs ++ ys)
unfolding written
written_then s xs ys at h = grind (arith, common_steps, take_written s xs at h, drop_written s xs at (length ys) h)

-- the same, as two puts make one
pub and_then : {s t u xs ys : List ℕ} {at to end : ℕ} → at ≤ length s → Put s at xs t to → Put t to ys u end → Put s at (xs ++ ys) u end
and_then {s = s} {t = t} {u = u} {xs = xs} {ys = ys} {at = at} {to = to} h p q =
    record { text = grind (arith, written_then s xs ys at h, p.text, p.ends, q.text); ends = grind (arith, common_steps, p.ends, q.ends) }

pub written_long : (s xs : List ℕ) (at : ℕ) → at + length xs ≤ length s → length (written s at xs) ≡ length s
unfolding written
written_long s xs at h = grind (arith, common_steps)

-- the same of a text that grows
pub adds_then : {t u v : Text} {xs ys : List ℕ} → t.len ≤ length t.buffer.now → Adds t u xs → Adds u v ys → Adds t v (xs ++ ys)
adds_then h p q = record { put = and_then h p.put q.put; same_length = q.same_length ∙ p.same_length; same_buffer = q.same_buffer ∙ p.same_buffer }

-- the same text, spelled otherwise
pub adds_same : {t u : Text} {xs ys : List ℕ} → xs ≡ ys → Adds t u xs → Adds t u ys
adds_same {t = t} {u = u} e p = subst (λ z. Adds t u z) e p

pub decimal_short : (n : ℕ) → length (decimal n) ≤ 3
unfolding decimal
decimal_short n = grind (arith, nat_tests)

pub decimal_below_100 : (n : ℕ) → n < 100 → length (decimal n) ≤ 2
unfolding decimal
decimal_below_100 n h = grind (arith, nat_tests, common_steps)

-- a line takes at most 11 bytes
pub line_short : (y x gray : ℕ) → gray < 16 → length (dot_line y x gray) ≤ 11
unfolding dot_line
line_short y x gray h = grind (arith, common_steps, decimal_short y, decimal_short x, decimal_below_100 gray)

-- one dot more
pub text_more : (gray : ℕ → ℕ) (y x : ℕ) → text_before gray y (x + 1) ≡ text_before gray y x ++ dot_text y x (gray x)
unfolding text_before
text_more gray y x = rw add-one

-- the dots left of x are added to a text
pub record SoFar (gray : ℕ → ℕ) (y x : ℕ) (before after : Text) : Type 0 where
  pub added : Adds before after (text_before gray y x)
  pub short : after.len ≤ before.len + 11 * x

pub none_so_far : (gray : ℕ → ℕ) (y : ℕ) (t : Text) → t.len ≡ 0 → SoFar gray y 0 t t
unfolding text_before
none_so_far gray y t e =
    record { added = record { put = record { text = sym (written_none t.buffer.now t.len); ends = omega arith }; same_length = refl; same_buffer = refl }; short = omega arith }

-- a dot of gray 0 adds nothing
pub dark_more : (gray : ℕ → ℕ) (y x g : ℕ) (t u : Text) → g ≡ gray x → g ≤ 0 → SoFar gray y x t u → SoFar gray y (x + 1) t u
dark_more gray y x g t u e h s =
    record { added = adds_same (grind (arith, nat_tests, common_steps, text_more gray y x)) s.added; short = omega (arith, s.short) }

-- any other adds its line
pub lit_more : (gray : ℕ → ℕ) (y x g : ℕ) (t u v : Text) → g ≡ gray x → 0 < g → g < 16 → t.len ≤ length t.buffer.now
    → SoFar gray y x t u → Adds u v (dot_line y x g) → SoFar gray y (x + 1) t v
lit_more gray y x g t u v e h k room s a =
    record { added = adds_same (grind (arith, nat_tests, text_more gray y x)) (adds_then room s.added a); short = omega (arith, s.short, a.put.ends, line_short y x g k) }

pub so_far_is : {gray : ℕ → ℕ} {y x : ℕ} {t u v : Text} → v ≡ u → SoFar gray y x t u → SoFar gray y x t v
so_far_is {gray = gray} {y = y} {x = x} {t = t} e s = subst (λ w. SoFar gray y x t w) (sym e) s

-- the front of the buffer, up to the end of what was put
pub put_front : {s xs t : List ℕ} {at end : ℕ} → at ≤ length s → Put s at xs t end → take end t ≡ take at s ++ xs
put_front {s = s} {xs = xs} {t = t} {at = at} {end = end} h p =
    ap (λ n. take n t) p.ends ∙ ap (take (at + length xs)) p.text ∙ take_written s xs at h
