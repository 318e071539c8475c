-- One dot more on a canvas: its gray, and its byte's mark.
use Rattle.std.proofs.Common.{◌≡◌, ℕ, ◌+◌, ◌*◌, ◌/◌, ◌%◌, ◌^◌, ◌<◌, ◌≤◌, true, false, cond, ◌&&◌, ◌||◌, eqb, List, length, get_or, set, ap, ◌∙◌, ⊎_elim, arith, length-set, get_or-set_other, get_or-set_same}
use lib.Bits.{bit_or}
use Rattle.std.proofs.lemmas.Bool.{cases_eq, eq-eqb, ne_eqb}
use Rattle.std.proofs.lemmas.Bool.Decides.{nat_tests}
use Rattle.marks.specs.Marks.{bit}
use Rattle.marks.proofs.Bits.{bit_set}
use Rattle.drawing.specs.Dots.{half, gray, due, Put}
use Rattle.drawing.specs.declared.canvas.Canvas.{Canvas}

-- what a byte of a list is after a write
pub getD_set_is : (xs : List ℕ) (i j v : ℕ) → i < length xs → get_or (set xs i v) j 0 ≡ cond (eqb j i) v (get_or xs j 0)
getD_set_is xs i j v h =
    ⊎_elim (λ e. let s = get_or-set_same xs i v 0 h in rw (eq-eqb j i e) (ap (λ n. get_or (set xs i v) n 0) e ∙ s))
    (λ n. let o = get_or-set_other xs i j v 0 n in rw (ne_eqb j i n) o) (cases_eq j i)

-- the mark of a byte after one bit is set in its line's word
marked : (w v u k q y j : ℕ) → bit u k ≡ (bit v k || eqb k j) → (q ≡ y → w ≡ v) → bit (cond (eqb q y) u w) k ≡ (bit w k || (eqb q y && (eqb k j && true)))
marked w v u k q y j b same =
    ⊎_elim (λ e. rw (eq-eqb q y e) (b ∙ let s = same e in grind (arith, nat_tests))) (λ n. rw (ne_eqb q y n) (grind (arith, nat_tests))) (cases_eq q y)

-- a write of one gray
pub put_is : (c : Canvas) (x y g new : ℕ) → x < 128 → y < 128 → g ≤ 15 → length c.cells ≡ 8192 → length c.due ≡ 128
    → get_or c.cells (y * 64 + x / 2) 0 < 256
    → new ≡ cond (eqb (x % 2) 0) (get_or c.cells (y * 64 + x / 2) 0 / 16 * 16 + g) (g * 16 + get_or c.cells (y * 64 + x / 2) 0 % 16)
    → (new ≡ get_or c.cells (y * 64 + x / 2) 0 → ⊥)
    → Put c x y g (record { cells = set c.cells (y * 64 + x / 2) new; due = set c.due y (bit_or (get_or c.due y 0) (2 ^ (x / 2))) })
unfolding gray due
put_is c x y g new hx hy hg lc ld small is changed = record {
  grays = λ p q hp hq. let s = getD_set_is c.cells (y * 64 + x / 2) (q * 64 + p / 2) new (omega arith) in rw s (grind (arith, nat_tests));
  marks = λ q k hq hk. let s = getD_set_is c.due y q (bit_or (get_or c.due y 0) (2 ^ (x / 2))) (omega arith) in let b = bit_set (get_or c.due y 0) (x / 2) k in
      let d : eqb (half (get_or c.cells (y * 64 + x / 2) 0) x) g ≡ false = grind (arith, nat_tests) in rw (s, d) (marked (get_or c.due q 0) (get_or c.due y 0) (bit_or (get_or c.due y 0) (2 ^ (x / 2))) k q y (x / 2) b (λ e. ap (λ n. get_or c.due n 0) e));
  whole = λ w. record {
    cells = length-set c.cells (y * 64 + x / 2) new ∙ w.cells;
    words = length-set c.due y (bit_or (get_or c.due y 0) (2 ^ (x / 2))) ∙ w.words;
    bytes = λ i l.
        let s = getD_set_is c.cells (y * 64 + x / 2) i new (omega arith) in
        let b = w.bytes i l in
        let n : new < 256 = grind (arith, nat_tests) in
        rw s (grind (arith, nat_tests));
  };
}

pub put_none : (c : Canvas) (x y g : ℕ) → gray c x y ≡ g → Put c x y g c
put_none c x y g e = record { grays = λ p q hp hq. grind (arith, nat_tests); marks = λ q k hq hk. grind (arith, nat_tests); whole = λ w. w }
