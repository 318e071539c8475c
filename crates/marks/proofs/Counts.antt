-- How clearing the front of the first run changes the counts.
use Rattle.std.proofs.Common.{◌≡◌, ℕ, zero, suc, ◌+◌, ◌-◌, ◌/◌, ◌%◌, ◌^◌, ◌<◌, ◌≤◌, min, Bool, true, false, cond, not, ◌&&◌, sym, refl, ap, ◌∙◌, ap₂, ⊎_elim, pow-suc, add-one, arith}
use mathlib.Core.Bool.{and-true}
use lib.Count.{ones, ones_step}
use Rattle.std.proofs.lemmas.Bool.{cases_lt, lt-ltb, le-ltb, le-leb, lt-leb}
use Rattle.std.proofs.lemmas.Bool.Decides.{nat_tests}
use Rattle.marks.specs.Marks.{bit, count, inside, ends, due, runs, First, Cleared, starts, RunsStart}
use Rattle.marks.proofs.Digits.{bit_low, bit_suc, bit_above}

abbrev pub one : Bool → ℕ
one b = cond b 1 0

-- equal tests have equal counts
pub count_same : (f g : ℕ → Bool) (n : ℕ) → ((k : ℕ) → k < n → f k ≡ g k) → count f n ≡ count g n
unfolding count
count_same f g zero h = refl
count_same f g (suc n) h = ap₂ (λ x y. x + one y) (count_same f g n (λ k l. h k (omega arith))) (h n (omega arith))

-- the places of f are those of g and those of h
pub count_parts : (f g h : ℕ → Bool) (n : ℕ) → ((k : ℕ) → k < n → one (f k) ≡ one (g k) + one (h k)) → count f n ≡ count g n + count h n
unfolding count
count_parts f g h zero e = refl
count_parts f g h (suc n) e =
    let ih = count_parts f g h n (λ k l. e k (omega arith)) in
    let here = e n (omega arith) in
    omega arith

-- m places from s on, of those below n
pub count_inside : (s m n : ℕ) → count (inside s m) n ≡ min n (s + m) - min n s
unfolding count
count_inside s m zero = omega arith
count_inside s m (suc n) =
    let ih = count_inside s m n in
    grind (arith, nat_tests)

-- clearing m marks inside the first run takes m from the marks
module _ (w v s len m : ℕ) (first : First w s len) (part : m ≤ len) (some : 0 < m) (clear : Cleared w s m v) where
  -- a mark stays or is one of the m
  bit_parts : (k : ℕ) → one (bit w k) ≡ one (bit v k) + one (inside s m k)
  bit_parts k = ⊎_elim
      (λ l. rw (clear.kept_below k l, lt-leb s k l) (omega arith))
      (λ l. ⊎_elim
      (λ u. rw (clear.gone k l u, first.inside k l (omega arith), le-leb s k l, lt-ltb k (s + m) u))
      (λ u. rw (clear.kept_above k u, le-leb s k l, le-ltb k (s + m) u) (omega arith))
      (cases_lt k (s + m)))
      (cases_lt k s)

  pub due_falls : due w ≡ due v + m
  due_falls =
      let e = count_parts (bit w) (bit v) (inside s m) 64 (λ k _. bit_parts k) in
      let i = count_inside s m 64 in
      let fits = first.within in
      omega arith

  -- no run ends where the run goes on
  ends_kept : m < len → (k : ℕ) → ends w k ≡ ends v k
  ends_kept less k = ⊎_elim
      (λ l. rw (clear.kept_below k l, first.before k l))
      (λ l. ⊎_elim
      (λ u. rw (clear.gone k l u, first.inside k l (omega arith), first.inside (k + 1) (omega arith) (omega arith)))
      (λ u. rw (clear.kept_above k u, clear.kept_above (k + 1) (omega arith)))
      (cases_lt k (s + m)))
      (cases_lt k s)

  -- where all of the run goes, its end goes
  ends_parts : m ≡ len → (k : ℕ) → one (ends w k) ≡ one (ends v k) + one (inside (s + m - 1) 1 k)
  ends_parts all k = ⊎_elim
      (λ (l : k < s). rw (clear.kept_below k l, first.before k l, lt-leb (s + m - 1) k (omega arith)))
      (λ (l : s ≤ k). ⊎_elim
      (λ (u : k + 1 < s + m).
      rw (clear.gone k l (omega arith), first.inside k l (omega arith), first.inside (k + 1) (omega arith) (omega arith), lt-leb (s + m - 1) k (omega arith)))
      (λ (u : s + m ≤ k + 1). ⊎_elim
      (λ (t : k < s + m).
      let e : k + 1 ≡ s + len = omega arith in
      let stop : bit w (k + 1) ≡ false = ap (bit w) e ∙ first.after in
      rw (clear.gone k l t, first.inside k l (omega arith), stop, le-leb (s + m - 1) k (omega arith), lt-ltb k (s + m - 1 + 1) (omega arith)))
      (λ (t : s + m ≤ k).
      rw (clear.kept_above k t, clear.kept_above (k + 1) (omega arith), le-leb (s + m - 1) k (omega arith), le-ltb k (s + m - 1 + 1) (omega arith)) (omega arith))
      (cases_lt k (s + m)))
      (cases_lt (k + 1) (s + m)))
      (cases_lt k s)

  pub runs_kept : m < len → runs w ≡ runs v
  runs_kept less = count_same (ends w) (ends v) 64 (λ k _. ends_kept less k)

  pub runs_falls : m ≡ len → runs w ≡ runs v + 1
  runs_falls all =
      let e = count_parts (ends w) (ends v) (inside (s + m - 1) 1) 64 (λ k _. ends_parts all k) in
      let i = count_inside (s + m - 1) 1 64 in
      let fits = first.within in
      omega arith

-- the marks of a word of K digits
count_tail : (f : ℕ → Bool) (n : ℕ) → count f (suc n) ≡ one (f 0) + count (λ k. f (suc k)) n
unfolding count
count_tail f zero = omega arith
count_tail f (suc n) = let ih = count_tail f n in omega arith

-- `count_ones` counts the marks: the lowest digit, and those of the half
pub ones_count : (K w : ℕ) → w < 2 ^ K → ones w ≡ count (bit w) K
unfolding count ones
ones_count zero w h = let e : w ≡ 0 = omega arith in ap ones e
ones_count (suc K) w h =
    let lt : w / 2 < 2 ^ K = omega (arith, pow-suc 2 K) in
    let rest = count_same (λ k. bit w (suc k)) (bit (w / 2)) K (λ k _. bit_suc w k) in
    let low : w % 2 ≡ one (bit w 0) = rw (bit_low w) (grind (arith, nat_tests)) in
    let ih = ones_count K (w / 2) lt in
    omega (arith, ones_step w, count_tail (bit w) K)

-- A run that has started below n + 1 has ended below n, or goes on at n.
open_run : (p q : Bool) → one p + one (q && not p) ≡ one (p && not q) + one q
open_run true true = refl
open_run true false = refl
open_run false true = refl
open_run false false = refl

-- so up to n as many runs have started as have ended, but for one that goes on
starts_ends : (w n : ℕ) → count (starts w) (suc n) ≡ count (ends w) n + one (bit w n)
unfolding count
starts_ends w zero = refl
starts_ends w (suc n) =
    let ih = starts_ends w n in
    let more = open_run (bit w n) (bit w (suc n)) in
    let e = add-one n in
    rw e (omega arith)

-- and where the last place is clear behind, none goes on
whole_start : (w n : ℕ) → bit w (n + 1) ≡ false → count (starts w) (suc n) ≡ count (ends w) (suc n)
unfolding count
whole_start w n z =
    let e = starts_ends w n in
    let last : one (bit w n) ≡ one (ends w n) = rw z (ap one (sym (and-true (bit w n)))) in
    e ∙ ap (λ x. count (ends w) n + x) last

-- bit 64 of a word is clear
pub runs_start : RunsStart
runs_start w h = whole_start w 63 (bit_above 64 w 64 h (omega arith))
