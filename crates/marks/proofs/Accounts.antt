-- What blocks take of the due bytes, of their runs, and in transfers.
use Rattle.std.proofs.Common.{◌≡◌, ℕ, zero, suc, ◌+◌, ◌*◌, ◌<◌, ◌≤◌, List, [], ◌∷◌, length, get_or, set, sym, refl, ap, ◌∙◌, subst, mul-zero, mul-suc, arith, length-append, length-drop, length-set, length-take, get_or-set_other, get_or-set_same}
use Rattle.std.proofs.lemmas.List.{length-map}
use Rattle.std.proofs.lemmas.List.Sums.{sum_by-set, get_or-le-sum_by}
use Rattle.marks.specs.Marks.{due, First, Cleared}
use Rattle.marks.specs.Blocks.{Stretch, Block, Shaped, lines_of, row, bytes, words, traffic, Clears, Covers, bytes_due, cost, worth}
use Rattle.marks.proofs.Counts.{due_falls, runs_kept, runs_falls}
use Rattle.marks.proofs.Some.{first_runs, cut_due}

-- ---- transfers

-- a stretch on the canvas has as many bytes as it says
pub row_length : (canvas : List ℕ) (s : Stretch) → length canvas ≡ 8192 → s.from + s.size ≤ 64 → s.line < 128 → length (row canvas s) ≡ s.size
row_length canvas s wide fits low = simp (length-map, length-take, length-drop) (omega arith)

-- line by line
pub bytes_length : (canvas : List ℕ) (y a m h : ℕ) → length canvas ≡ 8192 → a + m ≤ 64 → y + h ≤ 128 → length (bytes canvas (lines_of y a m h)) ≡ m * h
bytes_length canvas y a m zero wide fits low = sym (mul-zero m)
bytes_length canvas y a m (suc h) wide fits low =
    let s : Stretch = record { line = y; from = a; size = m } in
    length-append (row canvas s) (bytes canvas (lines_of (y + 1) a m h))
    ∙ omega (arith, row_length canvas s wide fits (omega arith), bytes_length canvas (y + 1) a m h wide fits (omega arith), mul-suc m h)

-- the window is six
pub words_length : (canvas : List ℕ) (b : Block) → length canvas ≡ 8192 → Shaped b → length (words canvas b) ≡ 6 + b.size * b.height
words_length canvas b wide shape = omega (arith, bytes_length canvas b.line b.from b.size b.height wide shape.within shape.below)

-- ---- due bytes and runs: a stretch alone

module _ (ws : List ℕ) (y a m v len : ℕ) (inside : y < length ws) (first : First (get_or ws y 0) a len) (some : 0 < m) (part : m ≤ len) (clear : Cleared (get_or ws y 0) a m v) where
  abbrev w : ℕ
  w = get_or ws y 0

  -- m marks of the line go
  falls : due w ≡ due v + m
  falls = due_falls w v a len m first part some clear

  -- and so m due bytes of all
  line_bytes : bytes_due (set ws y v) + m ≡ bytes_due ws
  unfolding bytes_due
  line_bytes = omega (arith, sum_by-set due ws y v 0 inside, falls)

  -- a whole run goes with its six
  line_whole : m ≡ len → worth (set ws y v) + m + 6 ≡ worth ws
  unfolding worth
  line_whole e =
      let r = runs_falls w v a len m first part some clear e in
      omega (arith, sum_by-set cost ws y v 0 inside, falls)

  -- of a run that is cut, a byte and its six stay
  line_cut : m < len → (worth (set ws y v) + m ≡ worth ws) × (7 ≤ worth (set ws y v))
  unfolding worth
  line_cut l =
      let r = runs_kept w v a len m first part some clear l in
      let d = cut_due w v a len m first clear l in
      let has = first_runs w a len first in
      let some_left = get_or-le-sum_by cost (set ws y v) y 0 (simp length-set inside) in
      let some_cost : cost v ≤ worth (set ws y v) = rw (get_or-set_same ws y v 0 inside) at some_left in
      (omega (arith, sum_by-set cost ws y v 0 inside, falls), omega arith)

-- ---- the lines of a block

-- each byte was due
pub clears_bytes : (ws : List ℕ) (y a m h : ℕ) (vs : List ℕ) → Clears ws (lines_of y a m h) vs → bytes_due vs + m * h ≡ bytes_due ws
clears_bytes ws y a m zero vs e = omega (arith, ap bytes_due e, mul-zero m)
clears_bytes ws y a m (suc h) vs (v, inside, f, more) =
    let rest = clears_bytes (set ws y v) (y + 1) a m h vs more in
    omega (arith, line_bytes ws y a m v f.len inside f.first f.some f.part f.clear, mul-suc m h)

-- a block of whole runs
pub block_falls : (ws : List ℕ) (y a m h : ℕ) (vs : List ℕ) → Clears ws (lines_of y a m h) vs → ((k : ℕ) → k < h → First (get_or ws (y + k) 0) a m)
    → worth vs + m * h + 6 * h ≡ worth ws
block_falls ws y a m zero vs e whole = omega (arith, ap worth e, mul-zero m)
block_falls ws y a m (suc h) vs (v, inside, f, more) whole =
    let zero_on : y + 0 ≡ y = omega arith in
    let first : First (get_or ws y 0) a m = subst (λ (i : ℕ). First (get_or ws i 0) a m) zero_on (whole 0 (omega arith)) in
    let rest = block_falls (set ws y v) (y + 1) a m h vs more (λ k l.
    let e : y + (k + 1) ≡ y + 1 + k = omega arith in
    let other : get_or (set ws y v) (y + 1 + k) 0 ≡ get_or ws (y + 1 + k) 0 = get_or-set_other ws y (y + 1 + k) v 0 (omega arith) in
    rw other (subst (λ (i : ℕ). First (get_or ws i 0) a m) e (whole (k + 1) (omega arith)))) in
    omega (arith, line_whole ws y a m v m inside first f.some (omega arith) f.clear refl, mul-suc m h)

-- the front of a run that is longer
pub cut_falls : (ws : List ℕ) (y a m len : ℕ) (vs : List ℕ) → Clears ws (lines_of y a m 1) vs → First (get_or ws y 0) a len → m < len → (worth vs + m ≡ worth ws) × (7 ≤ worth vs)
cut_falls ws y a m len vs (v, inside, f, e) first l =
    let P : List ℕ → Type 0 = λ x. (worth x + m ≡ worth ws) × (7 ≤ worth x) in
    subst P (sym e) (line_cut ws y a m v len inside first f.some (omega arith) f.clear l)

-- ---- all blocks

-- a transfer for each byte that is no longer due, and six for each block
pub traffic_length : (canvas ws : List ℕ) (bs : List Block) (vs : List ℕ) → length canvas ≡ 8192 → Covers ws bs vs
    → length (traffic canvas bs) + bytes_due vs ≡ bytes_due ws + 6 * length bs
traffic_length canvas ws [] vs wide e = omega (arith, ap bytes_due e)
traffic_length canvas ws (b ∷ bs) vs wide (us, shape, clears, more) =
    let rest = traffic_length canvas us bs vs wide more in
    let here = clears_bytes ws b.line b.from b.size b.height us clears in
    omega (arith, length-append (words canvas b) (traffic canvas bs), words_length canvas b wide shape)
