-- A word that is not 0 has a due byte and a run.
use Rattle.std.proofs.Common.{◌≡◌, ℕ, zero, suc, ◌+◌, ◌-◌, ◌^◌, ◌<◌, ◌≤◌, Bool, true, false, ap, ◌∙◌, ⊎_elim, not-suc-le-zero, arith}
use Rattle.std.proofs.lemmas.Bool.{cases_lt}
use Rattle.marks.specs.Marks.{bit, count, ends, due, runs, First, Cleared}
use Rattle.marks.proofs.First.{first_of, s, n}

-- a place that passes counts
pub count_some : (f : ℕ → Bool) (k m : ℕ) → k < m → f k ≡ true → 0 < count f m
unfolding count
count_some f k zero h e = absurd (not-suc-le-zero h)
count_some f k (suc m) h e = ⊎_elim
    (λ (l : k < m). let ih = count_some f k m l e in omega arith)
    (λ (l : m ≤ k). let same : m ≡ k = omega arith in let here : f m ≡ true = ap f same ∙ e in rw here (omega arith))
    (cases_lt k m)

-- the first byte of a run is due
pub first_due : (w s len : ℕ) → First w s len → 0 < due w
first_due w s len h =
    let u = h.within in
    let p = h.some in
    count_some (bit w) s 64 (omega arith) (h.inside s (omega arith) (omega arith))

-- its last byte ends a run
pub first_runs : (w s len : ℕ) → First w s len → 0 < runs w
first_runs w s len h =
    let u = h.within in
    let p = h.some in
    let last : bit w (s + len - 1) ≡ true = h.inside (s + len - 1) (omega arith) (omega arith) in
    let e : s + len - 1 + 1 ≡ s + len = omega arith in
    let stop : bit w (s + len - 1 + 1) ≡ false = ap (bit w) e ∙ h.after in
    count_some (ends w) (s + len - 1) 64 (omega arith) (rw (last, stop))

-- a word that is not 0 has a first run
pub some_due : (w : ℕ) → w < 2 ^ 64 → 0 < w → (0 < due w) × (0 < runs w)
some_due w h p = (first_due w (s w h p) (n w h p) (first_of w h p), first_runs w (s w h p) (n w h p) (first_of w h p))

-- where a run was cut, its rest is due
pub cut_due : (w v s len m : ℕ) → First w s len → Cleared w s m v → m < len → 0 < due v
cut_due w v s len m f c l =
    let u = f.within in
    count_some (bit v) (s + m) 64 (omega arith) (c.kept_above (s + m) (omega arith) ∙ f.inside (s + m) (omega arith) (omega arith))
