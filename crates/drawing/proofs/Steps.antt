-- Paints of other dots, one after the other, make one paint. So every loop that draws is carried.
use Rattle.std.proofs.Common.{◌≡◌, ℕ, ◌+◌, ◌*◌, ◌<◌, ◌≤◌, Bool, cond, ◌&&◌, ◌||◌, eqb, ◌⊎◌, Some, None, Option, sym, ◌∙◌, inl, inr, ⊎_elim, arith}
use Rattle.std.proofs.lemmas.Bool.{cases_eq}
use Rattle.std.proofs.lemmas.Bool.Decides.{nat_tests}
use Rattle.drawing.specs.declared.canvas.Canvas.{Canvas}
use Rattle.drawing.specs.Clips.{Side}
use Rattle.drawing.specs.Dots.{gray, due, Put}
use Rattle.drawing.specs.Drawing.{Paint, over, alters, Drawn, lined, ruled}

-- of two paints of a dot one is none, and the third is the other
abbrev pub Joins : Option ℕ → Option ℕ → Option ℕ → Type 0
Joins t u v = ((t ≡ None) × (v ≡ u)) ⊎ ((u ≡ None) × (v ≡ t))

join_gray : (t u v : Option ℕ) (a : ℕ) → Joins t u v → over u (over t a) ≡ over v a
join_gray t u v a j = ⊎_elim (λ h. rw (h.0, h.1)) (λ h. rw (h.0, h.1)) j

join_alters : (t u v : Option ℕ) (a : ℕ) → Joins t u v → (alters t a || alters u (over t a)) ≡ alters v a
join_alters t u v a j = ⊎_elim (λ h. rw (h.0, h.1)) (λ h. rw (h.0, h.1) (grind (arith, nat_tests))) j

regroup : (d a b a' b' a'' b'' : Bool) → (a || a') ≡ a'' → (b || b') ≡ b'' → ((d || (a || b)) || (a' || b')) ≡ (d || (a'' || b''))
regroup d a b a' b' a'' b'' p q = grind (arith, nat_tests)

pub drawn_then : (c d e : Canvas) (t u v : Paint) → Drawn c t d → Drawn d u e
    → ((x y : ℕ) → x < 128 → y < 128 → Joins (t x y) (u x y) (v x y)) → Drawn c v e
drawn_then c d e t u v f s j = record {
  grays = λ x y hx hy. s.grays x y hx hy ∙ rw (f.grays x y hx hy) (join_gray (t x y) (u x y) (v x y) (gray c x y) (j x y hx hy));
  marks = λ y k hy hk.
      let l : 2 * k < 128 = omega arith in let r : 2 * k + 1 < 128 = omega arith in
      s.marks y k hy hk ∙ rw (f.marks y k hy hk, f.grays (2 * k) y l hy, f.grays (2 * k + 1) y r hy)
      (regroup (due c y k) (alters (t (2 * k) y) (gray c (2 * k) y)) (alters (t (2 * k + 1) y) (gray c (2 * k + 1) y)) _ _ _ _
      (join_alters (t (2 * k) y) (u (2 * k) y) (v (2 * k) y) (gray c (2 * k) y) (j (2 * k) y l hy))
      (join_alters (t (2 * k + 1) y) (u (2 * k + 1) y) (v (2 * k + 1) y) (gray c (2 * k + 1) y) (j (2 * k + 1) y r hy)));
  whole = λ w. s.whole (f.whole w);
}

-- a paint that paints nothing
pub drawn_none : (c : Canvas) (t : Paint) → ((x y : ℕ) → x < 128 → y < 128 → t x y ≡ None) → Drawn c t c
drawn_none c t n = record {
  grays = λ x y hx hy. rw (n x y hx hy);
  marks = λ y k hy hk. let l : 2 * k < 128 = omega arith in let r : 2 * k + 1 < 128 = omega arith in rw (n (2 * k) y l hy, n (2 * k + 1) y r hy) (grind (arith, nat_tests));
  whole = λ w. w;
}

-- a paint that is the same on the canvas
pub drawn_like : (c d : Canvas) (t u : Paint) → ((x y : ℕ) → x < 128 → y < 128 → t x y ≡ u x y) → Drawn c t d → Drawn c u d
drawn_like c d t u h so = record {
  grays = λ x y hx hy. rw (sym (h x y hx hy)) (so.grays x y hx hy);
  marks = λ y k hy hk. let l : 2 * k < 128 = omega arith in let r : 2 * k + 1 < 128 = omega arith in
      rw (sym (h (2 * k) y l hy), sym (h (2 * k + 1) y r hy)) (so.marks y k hy hk);
  whole = so.whole;
}

-- the paint of one dot
abbrev spot : ℕ → ℕ → Option ℕ → Paint
spot a b o x y = cond (eqb x a && eqb y b) o None

drawn_put : (c d : Canvas) (a b g : ℕ) → Put c a b g d → Drawn c (spot a b (Some g)) d
drawn_put c d a b g h = record {
  grays = λ x y hx hy. h.grays x y hx hy ∙ grind (arith, nat_tests);
  marks = λ y k hy hk. h.marks y k hy hk ∙ grind (arith, nat_tests);
  whole = h.whole;
}

-- one more dot of a line
spot_joins : (t : Paint) (a b line x y : ℕ) → a ≤ b → Joins (lined t a b line x y) (spot b line (t b line) x y) (lined t a (b + 1) line x y)
spot_joins t a b line x y h =
    ⊎_elim (λ e. ⊎_elim (λ f. inl (grind (arith, nat_tests), grind (arith, nat_tests))) (λ n. inr (grind (arith, nat_tests), grind (arith, nat_tests))) (cases_eq y line))
    (λ n. inr (grind (arith, nat_tests), grind (arith, nat_tests))) (cases_eq x b)

pub line_some : (c d e : Canvas) (t : Paint) (a b line g : ℕ) → a ≤ b → t b line ≡ Some g
    → Drawn c (lined t a b line) d → Put d b line g e → Drawn c (lined t a (b + 1) line) e
line_some c d e t a b line g h is so put =
    drawn_then c d e (lined t a b line) (spot b line (Some g)) (lined t a (b + 1) line) so (drawn_put d e b line g put)
    (λ x y hx hy. rw (sym is) (spot_joins t a b line x y h))

pub line_none : (c d : Canvas) (t : Paint) (a b line : ℕ) → a ≤ b → t b line ≡ None
    → Drawn c (lined t a b line) d → Drawn c (lined t a (b + 1) line) d
line_none c d t a b line h is so =
    drawn_then c d d (lined t a b line) (spot b line (t b line)) (lined t a (b + 1) line) so (drawn_none d (spot b line (t b line)) (λ x y hx hy. rw is (grind (arith, nat_tests))))
    (λ x y hx hy. spot_joins t a b line x y h)

-- one more line of an area
pub rule_more : (c d e : Canvas) (t : Paint) (s : Side) (a b : ℕ) → a ≤ b
    → Drawn c (ruled t s a b) d → Drawn d (lined t s.from s.to b) e → Drawn c (ruled t s a (b + 1)) e
rule_more c d e t s a b h so more =
    drawn_then c d e (ruled t s a b) (lined t s.from s.to b) (ruled t s a (b + 1)) so more
    (λ x y hx hy. ⊎_elim (λ e. inl (grind (arith, nat_tests), grind (arith, nat_tests))) (λ n. inr (grind (arith, nat_tests), grind (arith, nat_tests))) (cases_eq y b))
