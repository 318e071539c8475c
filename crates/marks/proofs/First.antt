-- The first run of a word that is not 0.
use Rattle.std.proofs.Common.{◌≡◌, ℕ, ◌+◌, ◌-◌, ◌/◌, ◌^◌, ◌<◌, ◌≤◌, true, false, sym, ap, ◌∙◌, ⊎_elim, div-le_self, arith}
use lib.Count.{count_trailing_zeros, trailing_le}
use borrow.Author.Numbers.{trailing_lt}
use Rattle.std.proofs.lemmas.Bool.{cases_lt, not-true, not-false, both_ways}
use Rattle.marks.specs.Marks.{bit, First}
use Rattle.marks.proofs.Digits.{bit_not, bit_shr, bit_above, zeros_below, zeros_stop}

module _ (w : ℕ) (fits : w < 2 ^ 64) (some : 0 < w) where
  abbrev pub s : ℕ
  s = count_trailing_zeros 64 w

  abbrev pub n : ℕ
  n = count_trailing_zeros 64 (2 ^ 64 - 1 - w / 2 ^ s)

  -- the zeros stop below 64
  s_lt : s < 64
  s_lt = trailing_lt 64 w some fits

  -- the shifted word fits
  u_lt : w / 2 ^ s < 2 ^ 64
  u_lt = omega (arith, div-le_self w (2 ^ s))

  -- there are at most 64 ones
  n_le : n ≤ 64
  n_le = trailing_le 64 (2 ^ 64 - 1 - w / 2 ^ s)

  -- the ones, at their places in w
  set : (j : ℕ) → j < n → bit w (s + j) ≡ true
  set j h =
      sym (bit_shr w s j)
      ∙ not-false (bit (w / 2 ^ s) j) (sym (bit_not (w / 2 ^ s) j u_lt (omega (arith, n_le))) ∙ zeros_below (2 ^ 64 - 1 - w / 2 ^ s) (omega arith) j h)

  -- bit 64 is clear, so they stop there at the latest
  within : s + n ≤ 64
  within = ⊎_elim
      (λ (l : 64 < s + n).
      let e : s + (64 - s) ≡ 64 = omega (arith, s_lt) in
      let h : 64 - s < n = omega (arith, s_lt) in
      absurd (both_ways (bit w 64) (bit_above 64 w 64 fits (omega arith)) (ap (bit w) (sym e) ∙ set (64 - s) h)))
      (λ l. l)
      (cases_lt 64 (s + n))

  -- behind the ones
  stop : bit w (s + n) ≡ false
  stop = ⊎_elim
      (λ (l : n < 64).
      sym (bit_shr w s n)
      ∙ not-true (bit (w / 2 ^ s) n) (sym (bit_not (w / 2 ^ s) n u_lt l) ∙ zeros_stop (2 ^ 64 - 1 - w / 2 ^ s) (omega arith) l))
      (λ l. bit_above 64 w (s + n) fits (omega arith))
      (cases_lt n 64)

  -- where the zeros stop
  here : bit w s ≡ true
  here = zeros_stop w fits s_lt

  -- so there is a one
  long : 0 < n
  long = ⊎_elim
      (λ l. l)
      (λ (l : n ≤ 0).
      let e : s + n ≡ s = omega arith in
      absurd (both_ways (bit w s) (ap (bit w) (sym e) ∙ stop) here))
      (cases_lt 0 n)

  pub first_of : First w s n
  first_of = record {
    within = within;
    some = long;
    before = zeros_below w fits;
    inside = λ k l u.
        let e : s + (k - s) ≡ k = omega arith in
        let h : k - s < n = omega arith in
        ap (bit w) (sym e) ∙ set (k - s) h;
    after = stop;
  }
