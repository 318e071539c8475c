-- One line of a block more, and one block more.
use Rattle.std.proofs.Common.{◌≡◌, ℕ, zero, suc, ◌+◌, ◌-◌, ◌*◌, ◌/◌, ◌<◌, ◌≤◌, ◌⊎◌, List, [], ◌∷◌, ◌++◌, length, get_or, set, sym, refl, ap, ◌∙◌, subst, inl, inr, ⊎_elim, append_assoc, append-nil, mul-le-mul_left, mul-zero, mul-suc, add-one, arith, length-append, length-set, get_or-set_other}
use native.Mathlib.Nat.{mul-div-le, div_self}
use Rattle.std.proofs.lemmas.Bool.{cases_lt}
use Rattle.link.specs.Links.{LinkMeaning}
use Rattle.marks.specs.Marks.{First, Cleared}
use Rattle.marks.specs.Blocks.{Stretch, Block, Shaped, area, Boxed, lines_of, parts, row, bytes, window, words, traffic, Front, Part, Clears, Covers, bytes_due, worth}
use Rattle.marks.specs.Sending.{sent_all, Sweeping, InOneBlock, EndsThere, Chosen, Blocking}
use Rattle.marks.proofs.Accounts.{row_length, words_length, clears_bytes, block_falls, cut_falls}
use Rattle.marks.proofs.Boxes.{box_bytes, chosen_box}
use Rattle.marks.proofs.Sends.{sent_then, sent_none}

-- ---- a line of a block

-- one stretch more at the end
bytes_push : (canvas : List ℕ) (ss : List Stretch) (s : Stretch) → bytes canvas (ss ++ s ∷ []) ≡ bytes canvas ss ++ row canvas s
bytes_push canvas [] s = append-nil (row canvas s)
bytes_push canvas (t ∷ ss) s = ap (λ x. row canvas t ++ x) (bytes_push canvas ss s) ∙ sym (append_assoc (row canvas t) (bytes canvas ss) (row canvas s))

abbrev line_at : ℕ → ℕ → ℕ → Stretch
line_at y a m = record { line = y; from = a; size = m }

-- one line more below
lines_more : (y a m i : ℕ) → lines_of y a m (suc i) ≡ lines_of y a m i ++ line_at (y + i) a m ∷ []
lines_more y a m zero = let e : y ≡ y + 0 = omega arith in ap (λ v. line_at v a m ∷ []) e
lines_more y a m (suc i) =
    let e : y + 1 + i ≡ y + suc i = omega arith in
    ap (λ x. line_at y a m ∷ x) (lines_more (y + 1) a m i ∙ ap (λ v. lines_of (y + 1) a m i ++ line_at v a m ∷ []) e)

-- one stretch more to clear
pub clears_push : (ws : List ℕ) (ss : List Stretch) (vs : List ℕ) (s : Stretch) (v : ℕ) → Clears ws ss vs → s.line < length vs → Front (get_or vs s.line 0) s v
    → Clears ws (ss ++ s ∷ []) (set vs s.line v)
clears_push ws [] vs s v e l f =
    (v, subst (λ (x : List ℕ). s.line < length x) e l, subst (λ (x : List ℕ). Front (get_or x s.line 0) s v) e f, ap (λ x. set x s.line v) e)
clears_push ws (t ∷ ss) vs s v (u, k, h, c) l f = (u, k, h, clears_push (set ws t.line u) ss vs s v c l f)

-- no line is sent
pub blocking_none : (o : LinkMeaning) (canvas ws : List ℕ) (y a m : ℕ) → Blocking o canvas ws y a m o ws 0
blocking_none o canvas ws y a m = record { sends = sent_none o; clears = refl; ahead = λ u l. refl; long = refl; size = sym (mul-zero m) }

-- a line more: its bytes are sent, its marks are cleared
pub blocking_more : (o n n' : LinkMeaning) (canvas ws vs : List ℕ) (y a m i v : ℕ) → Blocking o canvas ws y a m n vs i
    → n' ≡ sent_all n (row canvas (line_at (y + i) a m)) → 0 < m → a + m ≤ 64 → length canvas ≡ 8192 → y + i < 128 → y + i < length vs
    → Part (get_or ws (y + i) 0) a m → Cleared (get_or vs (y + i) 0) a m v
    → Blocking o canvas ws y a m n' (set vs (y + i) v) (i + 1)
blocking_more o n n' canvas ws vs y a m i v b sends some fits wide low inside p clear =
    let s : Stretch = line_at (y + i) a m in
    let was : get_or vs (y + i) 0 ≡ get_or ws (y + i) 0 = b.ahead (y + i) (omega arith) in
    let first : First (get_or vs (y + i) 0) a p.len = rw was p.first in
    let front : Front (get_or vs (y + i) 0) s v = record { len = p.len; first = first; some = some; part = p.part; clear = clear } in
    let more : bytes canvas (lines_of y a m (suc i)) ≡ bytes canvas (lines_of y a m i) ++ row canvas s =
    ap (bytes canvas) (lines_more y a m i) ∙ bytes_push canvas (lines_of y a m i) s in
    let long : length (row canvas s) ≡ m = row_length canvas s wide fits low in
    rw add-one (record {
      sends = sent_then o n n' (bytes canvas (lines_of y a m i)) (row canvas s) b.sends sends ∙ ap (sent_all o) (sym more);
      clears = subst (λ (x : List Stretch). Clears ws x (set vs (y + i) v)) (sym (lines_more y a m i)) (clears_push ws (lines_of y a m i) vs s v b.clears inside front);
      ahead = λ u l. get_or-set_other vs (y + i) u v 0 (omega arith) ∙ b.ahead u (omega arith);
      long = length-set vs (y + i) v ∙ b.long;
      size = ap length more ∙ length-append (bytes canvas (lines_of y a m i)) (row canvas s) ∙ omega (arith, long, b.size, mul-suc m i);
    })

-- all lines are sent, behind the window
pub block_sent : (p o n : LinkMeaning) (canvas ws vs : List ℕ) (b : Block) (i : ℕ) → o ≡ sent_all p (window b) → Blocking o canvas ws b.line b.from b.size n vs i → i ≡ b.height
    → (n ≡ sent_all p (words canvas b)) × Clears ws (parts b) vs
block_sent p o n canvas ws vs b i aimed h e =
    let P : ℕ → Type 0 = λ k. (n ≡ sent_all p (window b ++ bytes canvas (lines_of b.line b.from b.size k))) × Clears ws (lines_of b.line b.from b.size k) vs in
    subst P e (sent_then p o n (window b) (bytes canvas (lines_of b.line b.from b.size i)) aimed h.sends, h.clears)

-- ---- a block

-- one block more at the end
pub traffic_push : (canvas : List ℕ) (bs : List Block) (b : Block) → traffic canvas (bs ++ b ∷ []) ≡ traffic canvas bs ++ words canvas b
traffic_push canvas [] b = append-nil (words canvas b)
traffic_push canvas (t ∷ bs) b = ap (λ x. words canvas t ++ x) (traffic_push canvas bs b) ∙ sym (append_assoc (words canvas t) (traffic canvas bs) (words canvas b))

-- one block more to cover
covers_push : (ws : List ℕ) (bs : List Block) (us : List ℕ) (b : Block) (vs : List ℕ) → Covers ws bs us → Shaped b → Clears us (parts b) vs → Covers ws (bs ++ b ∷ []) vs
covers_push ws [] us b vs e shape c = (vs, shape, subst (λ (x : List ℕ). Clears x (parts b) vs) e c, refl)
covers_push ws (t ∷ bs) us b vs (xs, sh, cl, more) shape c = (xs, sh, cl, covers_push xs bs us b vs more shape c)

-- nothing sent yet
pub sweep_none : (m : LinkMeaning) (canvas ws : List ℕ) (grant : ℕ) → 0 < grant → Sweeping m canvas ws grant m ws grant 0
sweep_none m canvas ws grant h = record {
  blocks = [];
  covers = refl;
  sends = sent_none m;
  spent = omega arith;
  reserve = h;
  long = refl;
  passed = λ u l. absurd (omega arith);
  fewer = omega arith;
  fell = λ l. absurd (omega arith);
  pays = inl (omega arith);
}

-- nothing is sent yet
pub box_none : (ws : List ℕ) (grant : ℕ) → InOneBlock ws grant ws grant
box_none ws grant = λ b box room. inl (refl, refl)

-- what a block leaves of the other lines
pub others_kept : (ws : List ℕ) (y a m h : ℕ) (vs : List ℕ) → Clears ws (lines_of y a m h) vs → (length vs ≡ length ws) × ((u : ℕ) → u < y → get_or vs u 0 ≡ get_or ws u 0)
others_kept ws y a m zero vs e = (ap length e, λ u l. ap (λ x. get_or x u 0) e)
others_kept ws y a m (suc h) vs (v, inside, f, more) =
    let r = others_kept (set ws y v) (y + 1) a m h vs more in
    (r.0 ∙ length-set ws y v, λ u l. r.1 u (omega arith) ∙ get_or-set_other ws y u v 0 (omega arith))

-- ---- the block that the loop takes: as many whole runs as there is room for, or the front of one

module _ (vs : List ℕ) (left y a len m h : ℕ) (c : Chosen vs left y a len m h) where
  abbrev block : Block
  block = record { line = y; from = a; size = m; height = h }

  pub chosen_wide : 0 < m
  chosen_wide = omega (arith, c.first.some, c.most, c.room)

  -- one transfer is left for the closing command
  pub chosen_fits : 7 + m * h ≤ left
  chosen_fits = omega (arith, mul-le-mul_left m c.fits, mul-div-le (left - 7) m, c.room)

  pub chosen_shaped : Shaped block
  chosen_shaped = record { high = c.high; wide = chosen_wide; within = omega (arith, c.first.within, c.most); below = c.below }

  module _ (us : List ℕ) (clears : Clears vs (lines_of y a m h) us) where
    -- each byte of the block was due
    pub chosen_falls : bytes_due us < bytes_due vs
    chosen_falls =
        let some_area : m * 1 ≤ m * h = mul-le-mul_left m c.high in
        omega (arith, clears_bytes vs y a m h us clears, chosen_wide)

    -- each transfer is for a byte or a run that goes; or the run is cut, and one transfer is left
    pub chosen_pays : (6 + m * h + worth us ≤ worth vs) ⊎ ((left ≡ 7 + m * h) × (m * h + worth us ≤ worth vs) × (7 ≤ worth us))
    chosen_pays = ⊎_elim
        (λ (l : m < len).
        let is : m ≡ left - 7 = omega (arith, c.most) in
        let one : h ≡ 1 = omega (arith, c.fits, c.high, c.room, ap (λ x. (left - 7) / x) is, div_self {n = left - 7} (omega (arith, c.room))) in
        let flat : m * h ≡ m = ap (λ x. m * x) one ∙ omega arith in
        let p = cut_falls vs y a m len us (subst (λ (x : ℕ). Clears vs (lines_of y a m x) us) one clears) c.first l in
        inr (omega (arith, c.room), omega (arith, p.0), p.1))
        (λ (l : len ≤ m).
        let e : len ≡ m = omega (arith, c.most) in
        let whole : (k : ℕ) → k < h → First (get_or vs (y + k) 0) a m = λ k i. ⊎_elim
        (λ (z : 0 < k). c.same k z i)
        (λ (z : k ≤ 0). let on : y + k ≡ y = omega arith in rw on (subst (λ (x : ℕ). First (get_or vs y 0) a x) e c.first))
        (cases_lt 0 k) in
        inl (omega (arith, block_falls vs y a m h us clears whole, c.high)))
        (cases_lt m len)

-- ---- a block more

module _ (o : LinkMeaning) (canvas ws : List ℕ) (grant : ℕ) (n n' : LinkMeaning) (vs us : List ℕ) (left y a len m h : ℕ) (i : Sweeping o canvas ws grant n vs left y)
    (c : Chosen vs left y a len m h) (wide : length canvas ≡ 8192) (lines : length ws ≡ 128) (clears : Clears vs (lines_of y a m h) us)
    (sends : n' ≡ sent_all n (words canvas (record { line = y; from = a; size = m; height = h }))) where
  abbrev b : Block
  b = record { line = y; from = a; size = m; height = h }

  abbrev bs : List Block
  bs = i.blocks ++ b ∷ []

  -- the block is on the canvas
  shape : Shaped b
  shape = chosen_shaped vs left y a len m h c

  -- its transfers
  long_more : length (traffic canvas bs) ≡ length (traffic canvas i.blocks) + (6 + m * h)
  long_more =
      ap length (traffic_push canvas i.blocks b)
      ∙ length-append (traffic canvas i.blocks) (words canvas b)
      ∙ ap (λ x. length (traffic canvas i.blocks) + x) (words_length canvas b wide shape)

  -- the run before it was not cut, since more than one transfer was left
  pays_more : (length (traffic canvas bs) + worth us ≤ worth ws) ⊎ ((left - (6 + m * h) ≡ 1) × (length (traffic canvas bs) + worth us ≤ worth ws + 6) × (7 ≤ worth us))
  pays_more =
      let l = long_more in
      let before : length (traffic canvas i.blocks) + worth vs ≤ worth ws = ⊎_elim (λ e. e) (λ b. absurd (omega (arith, b.0, c.room))) i.pays in
      ⊎_elim
      (λ (p : 6 + m * h + worth us ≤ worth vs). inl (omega arith))
      (λ (p : (left ≡ 7 + m * h) × (m * h + worth us ≤ worth vs) × (7 ≤ worth us)). inr (omega (arith, p.0), omega (arith, p.1), p.2))
      (chosen_pays vs left y a len m h c us clears)

  -- where the bytes of one block were due, this is it: it is the first, and takes them all
  box_more : InOneBlock ws grant vs left → EndsThere vs y a m ((left - 7) / m) h → InOneBlock ws grant us (left - (6 + m * h))
  box_more one ends d box room = ⊎_elim
      (λ (f : (left ≡ grant) × (vs ≡ ws)).
      let here : Boxed vs d = subst (λ (x : List ℕ). Boxed x d) (sym f.1) box in
      let same : m * h ≡ area d = chosen_box vs d here left y a len m h c ends (omega (arith, f.0)) i.passed in
      inr (omega (arith, f.0, chosen_fits vs left y a len m h c), omega (arith, clears_bytes vs y a m h us clears, box_bytes vs d here (i.long ∙ lines))))
      (λ (f : (left + (area d + 6) ≡ grant) × (bytes_due vs ≡ 0)). absurd (omega (arith, f.1, chosen_falls vs left y a len m h c us clears)))
      (one d box room)

  pub sweep_more : Sweeping o canvas ws grant n' us (left - (6 + m * h)) y
  sweep_more =
      let fits = chosen_fits vs left y a len m h c in
      let falls = chosen_falls vs left y a len m h c us clears in
      let others = others_kept vs y a m h us clears in
      record {
        blocks = bs;
        covers = covers_push ws i.blocks vs b us i.covers shape clears;
        sends = sent_then o n n' (traffic canvas i.blocks) (words canvas b) i.sends sends ∙ ap (sent_all o) (sym (traffic_push canvas i.blocks b));
        spent = omega (arith, long_more, i.spent, fits);
        reserve = omega arith;
        long = others.0 ∙ i.long;
        passed = λ u l. others.1 u l ∙ i.passed u l;
        fewer = omega (arith, falls, i.fewer);
        fell = λ _. omega (arith, falls, i.fewer);
        pays = pays_more;
      }

  -- both of what a block more leaves
  pub block_more : InOneBlock ws grant vs left → EndsThere vs y a m ((left - 7) / m) h
      → Sweeping o canvas ws grant n' us (left - (6 + m * h)) y × InOneBlock ws grant us (left - (6 + m * h))
  block_more one ends = (sweep_more, box_more one ends)
