-- The bits of a number, one by one: shifts, the mask, `!`, `&`, and where the zeros at its low end stop.
use Rattle.std.proofs.Common.{◌≡◌, ℕ, suc, ◌+◌, ◌-◌, ◌*◌, ◌/◌, ◌%◌, ◌^◌, ◌<◌, ◌≤◌, true, false, not, ◌&&◌, eqb, w64, ap, ◌∙◌, sym, ⊎_elim, arith, shr-shr}
use lib.Bits.{bit_and}
use lib.Pow.{mod-mod-pow}
use Rattle.std.proofs.lemmas.Nat.{field_of, shl-shr}
use Rattle.std.proofs.lemmas.Nat.Bits.{bit_at-suc, bit_at_lowest, bit_at_and, bit_at_not, bit_at_above, bit_at-zero, bit_at_ones, bit_at_cat_low, bit_at-lt, bit_at-trailing_zeros}
use lib.Count.{count_trailing_zeros, trailing_of_zero}
use Rattle.std.proofs.lemmas.Bool.{cases_lt}
use Rattle.std.proofs.lemmas.Bool.Decides.{nat_tests}
use Rattle.marks.specs.Marks.{bit}

-- the bits of n / 2 ^ s
pub bit_shr : (n s k : ℕ) → bit (n / 2 ^ s) k ≡ bit n (s + k)
unfolding bit
bit_shr n s k = rw shr-shr

-- the digits of a half are one place down
pub bit_suc : (n k : ℕ) → bit n (suc k) ≡ bit (n / 2) k
unfolding bit
bit_suc n k = rw (bit_at-suc n k)

-- the lowest digit is the remainder
pub bit_low : (n : ℕ) → bit n 0 ≡ eqb (n % 2) 1
unfolding bit
bit_low n = rw (bit_at_lowest n)

-- `&`, digit by digit
pub bit_of_and : (a b k : ℕ) → bit (bit_and a b) k ≡ (bit a k && bit b k)
unfolding bit
bit_of_and a b k =
    let p = bit_at-lt a k in
    let q = bit_at-lt b k in
    rw (bit_at_and a b k) (grind (arith, nat_tests))

-- `!x` of a word
pub bit_not : (x k : ℕ) → x < 2 ^ 64 → k < 64 → bit (2 ^ 64 - 1 - x) k ≡ not (bit x k)
unfolding bit
bit_not x k h l =
    let p = bit_at-lt x k in
    rw (bit_at_not w64 x k h l) (grind (arith, nat_tests))

-- no digit above the highest
pub bit_above : (K x k : ℕ) → x < 2 ^ K → K ≤ k → bit x k ≡ false
unfolding bit
bit_above K x k h l = rw (bit_at_above x K k h l)

-- 0 has no digit set
pub bit_zero : (k : ℕ) → bit 0 k ≡ false
unfolding bit
bit_zero k = rw (bit_at-zero k)

-- all ones
pub bit_full : (K k : ℕ) → k < K → bit (2 ^ K - 1) k ≡ true
unfolding bit
bit_full K k l = rw (bit_at_ones K k l)

-- a shift to the left moves the digits up
pub bit_shl : (x s k : ℕ) → bit (x * 2 ^ s) (s + k) ≡ bit x k
bit_shl x s k = sym (bit_shr (x * 2 ^ s) s k) ∙ ap (λ y. bit y k) (shl-shr x s)

-- and leaves zeros below
pub bit_shl_below : (x s k : ℕ) → k < s → bit (x * 2 ^ s) k ≡ false
unfolding bit
bit_shl_below x s k h =
    let e : x * 2 ^ s ≡ x * 2 ^ s + 0 = omega arith in
    ap (λ y. eqb (y / 2 ^ k % 2) 1) e ∙ ap (λ y. eqb y 1) (bit_at_cat_low x s 0 k h ∙ bit_at-zero k)

-- the low K digits
bit_mod_at : (j k x : ℕ) → bit (x % 2 ^ (j + 1 + k)) k ≡ bit x k
unfolding bit
bit_mod_at j k x = ap (λ y. eqb (y % 2) 1) (field_of x (j + 1) k) ∙ ap (λ y. eqb y 1) (mod-mod-pow (x / 2 ^ k) j 1)

-- the same at any K above k
pub bit_mod : (K x k : ℕ) → k < K → bit (x % 2 ^ K) k ≡ bit x k
bit_mod K x k h =
    let e : K - k - 1 + 1 + k ≡ K = omega arith in
    ap (λ y. bit (x % 2 ^ y) k) (sym e) ∙ bit_mod_at (K - k - 1) k x

-- `trailing_zeros` of a word: clear below
pub zeros_below : (n : ℕ) → n < 2 ^ 64 → (k : ℕ) → k < count_trailing_zeros 64 n → bit n k ≡ false
unfolding bit
zeros_below n fits k l = ⊎_elim
    (λ (some : 0 < n). rw ((bit_at-trailing_zeros w64 n some fits).2 k l))
    (λ (none : n ≤ 0). let e : n ≡ 0 = omega arith in rw (e, bit_at-zero k))
    (cases_lt 0 n)

-- and set there, if it is not 0
pub zeros_stop : (n : ℕ) → n < 2 ^ 64 → count_trailing_zeros 64 n < 64 → bit n (count_trailing_zeros 64 n) ≡ true
unfolding bit
zeros_stop n fits l = ⊎_elim
    (λ (some : 0 < n). rw (bit_at-trailing_zeros w64 n some fits).1)
    (λ (none : n ≤ 0). let e : n ≡ 0 = omega arith in absurd (omega (arith, ap (count_trailing_zeros 64) e, trailing_of_zero 64)))
    (cases_lt 0 n)
