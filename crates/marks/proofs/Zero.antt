-- Words with no mark, and how many marks there can be.
use Rattle.std.proofs.Common.{◌≡◌, ℕ, zero, suc, ◌^◌, ◌<◌, ◌≤◌, Bool, true, false, List, [], ◌∷◌, length, get_or, sum_by, refl, ◌∙◌, ⊎_elim, arith}
use Rattle.std.proofs.lemmas.List.Sums.{sum_by-cons, get_or-le-sum_by}
use Rattle.std.proofs.lemmas.Bool.{cases_lt, cases_Bool}
use Rattle.std.proofs.lemmas.Bool.Decides.{nat_tests}
use Rattle.marks.specs.Marks.{bit, count, due}
use Rattle.marks.proofs.Digits.{bit_zero}
use Rattle.marks.proofs.Some.{some_due, count_some}
use Rattle.marks.specs.Blocks.{cost, worth, bytes_due}

-- no more places pass than there are
pub count_most : (f : ℕ → Bool) (n : ℕ) → count f n ≤ n
unfolding count
count_most f zero = omega arith
count_most f (suc n) = let ih = count_most f n in grind (arith, nat_tests)

-- a test that fails everywhere counts nothing
pub count_none : (f : ℕ → Bool) (n : ℕ) → ((k : ℕ) → f k ≡ false) → count f n ≡ 0
unfolding count
count_none f zero h = refl
count_none f (suc n) h = rw (h n) (omega (arith, count_none f n h))

-- 0 has no mark
pub due_none : due 0 ≡ 0
due_none = count_none (bit 0) 64 bit_zero

-- a sum over words that are all 0
pub sum_none : (f : ℕ → ℕ) (ws : List ℕ) → f 0 ≡ 0 → ((k : ℕ) → k < length ws → get_or ws k 0 ≡ 0) → sum_by f ws ≡ 0
sum_none f [] z h = refl
sum_none f (w ∷ ws) z h =
    let here : w ≡ 0 = h 0 (omega arith) in
    let rest : sum_by f ws ≡ 0 = sum_none f ws z (λ k l. h (suc k) (omega arith)) in
    sum_by-cons f w ws ∙ rw (here, z, rest)

-- no line has a mark: nothing is due
pub none_due : (ws : List ℕ) → ((k : ℕ) → k < length ws → get_or ws k 0 ≡ 0) → bytes_due ws ≡ 0
unfolding bytes_due
none_due ws h = sum_none due ws due_none h

-- what costs less than the least run has no mark
pub cheap : (ws : List ℕ) → ((k : ℕ) → k < length ws → get_or ws k 0 < 2 ^ 64) → worth ws < 7 → bytes_due ws ≡ 0
unfolding worth
cheap ws fits less = none_due ws (λ k l.
    let w = get_or ws k 0 in
    let part = get_or-le-sum_by cost ws k 0 l in
    ⊎_elim (λ (p : 0 < w). absurd (let d = some_due w (fits k l) p in omega (arith, d.0, d.1))) (λ (p : w ≤ 0). omega arith) (cases_lt 0 w))

-- nothing is due: no mark is set
pub none_marked : (ws : List ℕ) (y x : ℕ) → bytes_due ws ≡ 0 → y < length ws → x < 64 → bit (get_or ws y 0) x ≡ false
unfolding bytes_due
none_marked ws y x z l h = ⊎_elim
    (λ (t : bit (get_or ws y 0) x ≡ true). absurd (omega (arith, count_some (bit (get_or ws y 0)) x 64 h t, get_or-le-sum_by due ws y 0 l)))
    (λ t. t)
    (cases_Bool (bit (get_or ws y 0) x))
