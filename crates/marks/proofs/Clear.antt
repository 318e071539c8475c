-- The mask clears just the marks that it covers.
use Rattle.std.proofs.Common.{◌≡◌, ℕ, ◌+◌, ◌-◌, ◌*◌, ◌/◌, ◌%◌, ◌^◌, ◌<◌, ◌≤◌, true, false, not, ◌&&◌, sym, ap, ◌∙◌, ⊎_elim, mod-lt, arith, pow_pos}
use mathlib.Core.Bool.{and-true, and-false}
use lib.Bits.{bit_and, and_le_l}
use Rattle.std.proofs.lemmas.Bool.{cases_lt}
use Rattle.marks.specs.Marks.{bit, Cleared}
use Rattle.marks.proofs.Digits.{bit_of_and, bit_not, bit_mod, bit_shl, bit_shl_below, bit_shr, bit_full, bit_above}

module _ (w s m : ℕ) (fits : w < 2 ^ 64) (some : 0 < m) (within : s + m ≤ 64) where
  abbrev low : ℕ
  low = (2 ^ 64 - 1) / 2 ^ (64 - m)

  abbrev mask : ℕ
  mask = (low * 2 ^ s) % 2 ^ 64

  abbrev out : ℕ
  out = bit_and w (2 ^ 64 - 1 - mask)

  -- a mark stays just where the mask has none
  out_bit : (k : ℕ) → k < 64 → bit out k ≡ (bit w k && not (bit (low * 2 ^ s) k))
  out_bit k h =
      bit_of_and w (2 ^ 64 - 1 - mask) k
      ∙ ap (λ b. bit w k && b) (bit_not mask k (mod-lt (low * 2 ^ s) (pow_pos 64)) h ∙ ap not (bit_mod 64 (low * 2 ^ s) k h))

  -- the mask before its shift: m ones
  low_bit : (j : ℕ) → j < m → bit low j ≡ true
  low_bit j h = bit_shr (2 ^ 64 - 1) (64 - m) j ∙ bit_full 64 (64 - m + j) (omega arith)

  -- and zeros above
  low_above : (j : ℕ) → m ≤ j → bit low j ≡ false
  low_above j h = bit_shr (2 ^ 64 - 1) (64 - m) j ∙ bit_above 64 (2 ^ 64 - 1) (64 - m + j) (omega arith) (omega arith)

  -- the mask shifted to s
  at : (k : ℕ) → s ≤ k → bit (low * 2 ^ s) k ≡ bit low (k - s)
  at k h =
      let e : s + (k - s) ≡ k = omega arith in
      ap (bit (low * 2 ^ s)) (sym e) ∙ bit_shl low s (k - s)

  pub masked : Cleared w s m out
  masked = record {
    gone = λ k l u. out_bit k (omega arith) ∙ ap (λ b. bit w k && not b) (at k l ∙ low_bit (k - s) (omega arith)) ∙ and-false (bit w k);
    kept_below = λ k l. out_bit k (omega arith) ∙ ap (λ b. bit w k && not b) (bit_shl_below low s k l) ∙ and-true (bit w k);
    kept_above = λ k l. ⊎_elim
        (λ u. out_bit k u ∙ ap (λ b. bit w k && not b) (at k (omega arith) ∙ low_above (k - s) (omega arith)) ∙ and-true (bit w k))
        (λ u. bit_above 64 out k (omega (arith, and_le_l w (2 ^ 64 - 1 - mask))) u ∙ sym (bit_above 64 w k fits u))
        (cases_lt k 64);
  }
