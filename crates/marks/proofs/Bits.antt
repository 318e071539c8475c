-- Setting one mark.
use Rattle.std.proofs.Common.{◌≡◌, ℕ, ◌/◌, ◌%◌, ◌^◌, ◌||◌, max, eqb, ap, ◌∙◌, ⊎_elim, arith}
use lib.Bits.{bit_or}
use Rattle.std.proofs.lemmas.Bool.{cases_eq}
use Rattle.std.proofs.lemmas.Bool.Decides.{nat_tests}
use Rattle.std.proofs.lemmas.Nat.Bits.{bit_at_or, bit_at-pow_same, bit_at-pow_other, bit_at-lt}
use Rattle.marks.specs.Marks.{bit}

-- setting bit k sets that bit alone
pub bit_set : (w k j : ℕ) → bit (bit_or w (2 ^ k)) j ≡ (bit w j || eqb j k)
unfolding bit
bit_set w k j =
    let old = bit_at-lt w j in
    let either : bit_or w (2 ^ k) / 2 ^ j % 2 ≡ max (w / 2 ^ j % 2) (2 ^ k / 2 ^ j % 2) = bit_at_or w (2 ^ k) j in
    ⊎_elim
    (λ (e : j ≡ k). let one : 2 ^ k / 2 ^ j % 2 ≡ 1 = ap (λ i. 2 ^ k / 2 ^ i % 2) e ∙ bit_at-pow_same k in grind (arith, nat_tests))
    (λ other. let none : 2 ^ k / 2 ^ j % 2 ≡ 0 = bit_at-pow_other k j other in grind (arith, nat_tests))
    (cases_eq j k)
