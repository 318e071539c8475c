-- Filling the common part of a clip and a rectangle draws within both, and a picture shows nothing outside its rectangle.
use Rattle.std.proofs.Common.{◌≡◌, ℕ, ◌<◌, ◌≤◌, min, Bool, true, false, cond, ◌&&◌, ◌||◌, ltb, leb, ◌⊎◌, ℤ, pos, negsuc, ◌+ℤ◌, ◌-ℤ◌, Some, None, Option, sym, refl, ap, ◌∙◌, inl, inr, ⊎_elim, arith}
use lib.Signed.{le_z, lt_z}
use Rattle.std.proofs.lemmas.Int.{ints}
use Rattle.std.proofs.lemmas.Bool.{cases_lt, lt-ltb, le-ltb, and_cases, or_cases}
use Rattle.std.proofs.lemmas.Bool.Decides.{nat_tests}
use Rattle.picture.specs.Pictures.{PictureMeaning}
use Rattle.picture.specs.Parts.{seen}
use Rattle.drawing.specs.declared.canvas.Canvas.{Canvas}
use Rattle.drawing.specs.Clips.{Side, Area, box, holds, inside, covers, clamp, covered, joint, empty, common}
use Rattle.drawing.specs.Drawing.{Drawn, clipped, behind, at_both, placed, bar_paint, place_paint}
use Rattle.drawing.specs.Pens.{PenMeaning}
use Rattle.drawing.specs.Solids.{solid}
use Rattle.drawing.proofs.Steps.{drawn_like}

-- the common part has the dots that both have
joint_holds : (s t : Side) (p : ℕ) → holds (joint s t) p ≡ (holds s p && holds t p)
joint_holds s t p = grind (arith, nat_tests)

none_in : (s : Side) (p : ℕ) → empty s ≡ true → holds s p ≡ false
none_in s p e = grind (arith, nat_tests)

both_ways : (e : Bool) (a b : Area) (p q : ℕ) → e ≡ (empty (joint a.across b.across) || empty (joint a.down b.down))
    → inside (cond e (box 0 0 0 0) (record { across = joint a.across b.across; down = joint a.down b.down })) p q
    ≡ (holds (joint a.across b.across) p && holds (joint a.down b.down) q)
both_ways true a b p q e =
    ⊎_elim (λ h. let n = none_in (joint a.across b.across) p h in rw n (grind (arith, nat_tests))) (λ h. let n = none_in (joint a.down b.down) q h in rw n (grind (arith, nat_tests))) (or_cases _ _ (sym e))
both_ways false a b p q e = refl

four : (a b c d : Bool) → ((a && b) && (c && d)) ≡ ((a && c) && (b && d))
four a b c d = grind (arith, nat_tests)

pub common_inside : (a b : Area) (p q : ℕ) → inside (common a b) p q ≡ (inside a p q && inside b p q)
common_inside a b p q =
    both_ways _ a b p q refl
    ∙ ap (λ h. h && holds (joint a.down b.down) q) (joint_holds a.across b.across p)
    ∙ ap (λ h. (holds a.across p && holds b.across p) && h) (joint_holds a.down b.down q)
    ∙ four (holds a.across p) (holds b.across p) (holds a.down q) (holds b.down q)

-- what a rectangle covers on the canvas
clamp_from : (z : ℤ) (p : ℕ) → p < 128 → leb (clamp z) p ≡ le_z z (pos p)
clamp_from (pos n) p h = grind (arith, nat_tests)
clamp_from (negsuc n) p h = grind (arith, nat_tests)

clamp_to : (z : ℤ) (p : ℕ) → p < 128 → ltb p (clamp z) ≡ lt_z (pos p) z
clamp_to (pos n) p h = grind (arith, nat_tests)
clamp_to (negsuc n) p h = grind (arith, nat_tests)

pub covered_inside : (x y : ℤ) (w h p q : ℕ) → p < 128 → q < 128 → inside (covered x y w h) p q ≡ (covers x w p && covers y h q)
covered_inside x y w h p q hp hq = rw (clamp_from x p hp, clamp_to (x +ℤ pos w) p hp, clamp_from y q hq, clamp_to (y +ℤ pos h) q hq)

-- a picture of one gray over the whole canvas
from_zero : (n : ℕ) → behind (pos n -ℤ pos 0) ≡ Some n
from_zero n = let e : pos n -ℤ pos 0 ≡ pos n = omega (arith, ints) in ap behind e

pub solid_placed : (g p q : ℕ) → g ≤ 15 → p < 128 → q < 128 → placed (solid g) (pos 0) (pos 0) p q ≡ Some g
unfolding placed
solid_placed g p q hg hp hq =
    let least : min g 15 ≡ g = omega arith in
    ap (λ o. at_both (seen (solid g)) o (behind (pos q -ℤ pos 0))) (from_zero p) ∙ ap (λ o. at_both (seen (solid g)) (Some p) o) (from_zero q)
    ∙ rw (lt-ltb p 128 hp, lt-ltb q 128 hq, least)

-- nothing is shown outside the rectangle of a picture
behind_some : (z : ℤ) (m : ℕ) → behind z ≡ Some m → z ≡ pos m
behind_some (pos n) m e = grind (arith, nat_tests)
behind_some (negsuc n) m e = grind (arith, nat_tests)

reached : (x : ℤ) (w p m : ℕ) → pos p -ℤ x ≡ pos m → m < w → covers x w p ≡ true
reached x w p m e h = grind (arith, ints)

too_far : (x : ℤ) (w p m : ℕ) → covers x w p ≡ false → behind (pos p -ℤ x) ≡ Some m → ltb m w ≡ false
too_far x w p m c e =
    ⊎_elim (λ h. let t = reached x w p m (behind_some (pos p -ℤ x) m e) h in grind (arith, nat_tests)) (λ h. le-ltb m w h) (cases_lt m w)

clear_at : (P : PictureMeaning) (a b : Option ℕ)
    → ((m : ℕ) → a ≡ Some m → ltb m P.width ≡ false) ⊎ ((m : ℕ) → b ≡ Some m → ltb m P.height ≡ false) → at_both (seen P) a b ≡ None
clear_at P (Some i) (Some j) o = ⊎_elim (λ f. let e = f i refl in rw e) (λ f. let e = f j refl in grind (arith, nat_tests)) o
clear_at P (Some i) None o = refl
clear_at P None (Some j) o = refl
clear_at P None None o = refl

pub placed_outside : (P : PictureMeaning) (x y : ℤ) (p q : ℕ) → (covers x P.width p && covers y P.height q) ≡ false → placed P x y p q ≡ None
unfolding placed
placed_outside P x y p q e =
    clear_at P (behind (pos p -ℤ x)) (behind (pos q -ℤ y))
    (⊎_elim (λ c. inl (λ m s. too_far x P.width p m c s)) (λ c. inr (λ m s. too_far y P.height q m c s)) (and_cases (covers x P.width p) (covers y P.height q) e))

-- a bar is filled with one gray
pub bar_drawn : (c d : Canvas) (pen : PenMeaning) (x y : ℤ) (w h : ℕ) → pen.ink ≤ 15
    → Drawn c (clipped (placed (solid pen.ink) (pos 0) (pos 0)) (common pen.clip (covered x y w h))) d → Drawn c (bar_paint pen x y w h) d
bar_drawn c d pen x y w h small so =
    drawn_like c d _ (bar_paint pen x y w h)
    (λ p q hp hq. ap (λ o. cond (inside (common pen.clip (covered x y w h)) p q) o None) (solid_placed pen.ink p q small hp hq)
    ∙ ap (λ b. cond b (Some pen.ink) None) (common_inside pen.clip (covered x y w h) p q ∙ ap (λ b. inside pen.clip p q && b) (covered_inside x y w h p q hp hq))) so

cut : (a b : Bool) (o : Option ℕ) → (b ≡ false → o ≡ None) → cond (a && b) o None ≡ cond a o None
cut true true o n = refl
cut true false o n = sym (n refl)
cut false true o n = refl
cut false false o n = refl

-- a placed picture is filled in its rectangle
pub place_drawn : (c d : Canvas) (pen : PenMeaning) (P : PictureMeaning) (x y : ℤ)
    → Drawn c (clipped (placed P x y) (common pen.clip (covered x y P.width P.height))) d → Drawn c (place_paint pen P x y) d
place_drawn c d pen P x y so =
    drawn_like c d _ (place_paint pen P x y)
    (λ p q hp hq. ap (λ b. cond b (placed P x y p q) None) (common_inside pen.clip (covered x y P.width P.height) p q ∙ ap (λ b. inside pen.clip p q && b) (covered_inside x y P.width P.height p q hp hq))
    ∙ cut (inside pen.clip p q) (covers x P.width p && covers y P.height q) (placed P x y p q) (placed_outside P x y p q)) so
