-- What a sweep that is over has come to.
use Rattle.std.proofs.Common.{◌≡◌, ℕ, ◌+◌, ◌*◌, ◌^◌, ◌<◌, ◌≤◌, ◌⊎◌, List, [], ◌∷◌, length, get_or, sum_by, refl, inl, inr, ⊎_elim, mul-pos, arith}
use Rattle.std.proofs.lemmas.List.Sums.{sum_by-cons, get_or-le-sum_by}
use Rattle.std.proofs.lemmas.Bool.{cases_lt}
use Rattle.link.specs.Links.{LinkMeaning}
use Rattle.marks.specs.Marks.{due, runs}
use Rattle.marks.specs.Blocks.{Block, area, Boxed, traffic, bytes_due, runs_due, cost, worth}
use Rattle.marks.specs.Sending.{Swept, InOneBlock}
use Rattle.marks.proofs.Accounts.{traffic_length}
use Rattle.marks.proofs.Some.{some_due}
use Rattle.marks.proofs.Zero.{none_due, cheap}

-- worth is a transfer for each byte and six for each run
sums : (ws : List ℕ) → sum_by cost ws ≡ sum_by due ws + 6 * sum_by runs ws
sums [] = refl
sums (w ∷ ws) = omega (arith, sum_by-cons cost w ws, sum_by-cons due w ws, sum_by-cons runs w ws, sums ws)

-- by words
pub worth_is : (ws : List ℕ) → worth ws ≡ bytes_due ws + 6 * runs_due ws
unfolding worth bytes_due runs_due
worth_is ws = sums ws

-- without a run nothing is due
no_runs : (ws : List ℕ) → ((k : ℕ) → k < length ws → get_or ws k 0 < 2 ^ 64) → runs_due ws ≡ 0 → bytes_due ws ≡ 0
unfolding runs_due
no_runs ws fits z = none_due ws (λ k l.
    let w = get_or ws k 0 in
    ⊎_elim (λ (p : 0 < w). absurd (omega (arith, (some_due w (fits k l) p).1, get_or-le-sum_by runs ws k 0 l))) (λ (p : w ≤ 0). omega arith) (cases_lt 0 w))

module _ (m : LinkMeaning) (canvas ws : List ℕ) (grant : ℕ) (n : LinkMeaning) (vs : List ℕ) (left : ℕ) (w : Swept m canvas ws grant n vs left) where
  abbrev sent : ℕ
  sent = length (traffic canvas w.sweeping.blocks)

  -- it stops only where no byte is due, or where no window with a byte fits
  pub swept_over : (bytes_due vs ≡ 0) ⊎ (left < 8)
  swept_over = ⊎_elim
      (λ (l : length ws ≤ w.upto). inl (none_due vs (λ k i. w.sweeping.passed k (omega (arith, w.sweeping.long)))))
      (λ (l : left < 8). inr l)
      w.over

  -- with a window and a byte beside the closing command, some byte goes
  pub swept_moves : 8 ≤ grant → (bytes_due vs ≡ 0) ⊎ (bytes_due vs < bytes_due ws)
  swept_moves g = ⊎_elim (λ z. inl z) (λ (l : left < 8). inr (w.sweeping.fell (omega arith))) swept_over

  pub swept_most : sent ≤ worth ws
  swept_most = ⊎_elim
      (λ (a : sent + worth vs ≤ worth ws). omega arith)
      (λ (b : (left ≡ 1) × (sent + worth vs ≤ worth ws + 6) × (7 ≤ worth vs)). omega (arith, b.1, b.2))
      w.sweeping.pays

  -- where the grant has a transfer for each byte, six for each run and the closing one, nothing is left
  pub swept_all : ((k : ℕ) → k < length vs → get_or vs k 0 < 2 ^ 64) → worth ws + 1 ≤ grant → bytes_due vs ≡ 0
  swept_all fits g = ⊎_elim
      (λ z. z)
      (λ (l : left < 8). cheap vs fits (⊎_elim
      (λ (a : sent + worth vs ≤ worth ws). omega (arith, w.sweeping.spent))
      (λ (b : (left ≡ 1) × (sent + worth vs ≤ worth ws + 6) × (7 ≤ worth vs)). absurd (omega (arith, b.0, b.1, b.2, w.sweeping.spent)))
      w.sweeping.pays))
      swept_over

  -- a transfer for each byte that is no longer due, and six for each block
  pub swept_count : length canvas ≡ 8192 → sent + bytes_due vs ≡ bytes_due ws + 6 * length w.sweeping.blocks
  swept_count wide = traffic_length canvas ws w.sweeping.blocks vs wide w.sweeping.covers

  -- there are no more blocks than there were runs
  pub swept_blocks : ((k : ℕ) → k < length vs → get_or vs k 0 < 2 ^ 64) → length canvas ≡ 8192 → length w.sweeping.blocks ≤ runs_due ws
  swept_blocks fits wide = ⊎_elim
      (λ (a : sent + worth vs ≤ worth ws). omega (arith, swept_count wide, worth_is ws, worth_is vs))
      (λ (b : (left ≡ 1) × (sent + worth vs ≤ worth ws + 6) × (7 ≤ worth vs)). ⊎_elim
      (λ (p : 0 < runs_due vs). omega (arith, b.1, swept_count wide, worth_is ws, worth_is vs))
      (λ (p : runs_due vs ≤ 0). absurd (omega (arith, b.2, worth_is vs, no_runs vs fits (omega arith))))
      (cases_lt 0 (runs_due vs)))
      w.sweeping.pays

  -- where the bytes of one block were due, they take a window and a transfer each at most
  pub swept_box : InOneBlock ws grant vs left → (b : Block) → Boxed ws b → sent ≤ area b + 6
  swept_box one b box =
      let spent = w.sweeping.spent in
      ⊎_elim
      (λ (g : grant < area b + 7). omega (arith, w.sweeping.reserve))
      (λ (g : area b + 7 ≤ grant). ⊎_elim (λ f. omega (arith, f.0)) (λ f. omega (arith, f.0)) (one b box g))
      (cases_lt grant (area b + 7))

  -- and where the grant has as many beside the closing one, nothing is left
  pub swept_box_all : InOneBlock ws grant vs left → (b : Block) → Boxed ws b → area b + 7 ≤ grant → bytes_due vs ≡ 0
  swept_box_all one b box g = ⊎_elim
      (λ f. ⊎_elim (λ z. z) (λ (l : left < 8). absurd (omega (arith, f.0, mul-pos box.shaped.wide box.shaped.high))) swept_over)
      (λ f. f.1)
      (one b box g)
