-- Where the bytes of one block are due: how many they are, and that the first block taken is just this.
use Rattle.std.proofs.Common.{◌≡◌, ℕ, zero, suc, ◌+◌, ◌-◌, ◌*◌, ◌/◌, ◌<◌, ◌≤◌, true, false, cond, ◌&&◌, List, [], ◌∷◌, length, get_or, sum_by, sym, refl, ap, ◌∙◌, ap₂, inl, inr, ⊎_elim, mul_comm, mul-le-mul_left, le-div_iff_mul-le, mul-suc, arith}
use Rattle.std.proofs.lemmas.List.Sums.{sum_by-cons}
use Rattle.std.proofs.lemmas.Bool.{cases_lt, cases_Bool, cases_order, both_ways}
use Rattle.std.proofs.lemmas.Bool.Decides.{nat_tests}
use Rattle.marks.specs.Marks.{bit, inside, due, First}
use Rattle.marks.specs.Blocks.{Block, Shaped, area, Boxed, bytes_due}
use Rattle.marks.specs.Sending.{Other, EndsThere, Chosen}
use Rattle.marks.proofs.Counts.{count_same, count_inside}
use Rattle.marks.proofs.Digits.{bit_zero}
use Rattle.marks.proofs.Zero.{count_none}

-- a sum that is at most c at the h places from y on, and 0 elsewhere: without its first place, the others are one less
sum_some : (f : ℕ → ℕ) (c : ℕ) (ws : List ℕ) (y h : ℕ) → ((k : ℕ) → k < length ws → f (get_or ws k 0) ≤ cond (inside y h k) c 0) → sum_by f ws ≤ c * h
sum_some f c [] y h each = omega arith
sum_some f c (w ∷ ws) (suc y) h each =
    let less : (k : ℕ) → inside (suc y) h (suc k) ≡ inside y h k = λ k. grind (arith, nat_tests) in
    let off : inside (suc y) h 0 ≡ false = grind (arith, nat_tests) in
    let here : f w ≤ 0 = rw off at (each 0 (omega arith)) in
    let rest = sum_some f c ws y h (λ k l. rw (less k) at (each (suc k) (omega arith))) in
    omega (arith, sum_by-cons f w ws)
sum_some f c (w ∷ ws) zero zero each =
    let off : (k : ℕ) → inside 0 0 k ≡ false = λ k. grind (arith, nat_tests) in
    let here : f w ≤ 0 = each 0 (omega arith) in
    let rest = sum_some f c ws 0 0 (λ k l. rw (off k) (rw (off (suc k)) at (each (suc k) (omega arith)))) in
    omega (arith, sum_by-cons f w ws)
sum_some f c (w ∷ ws) zero (suc h) each =
    let less : (k : ℕ) → inside 0 (suc h) (suc k) ≡ inside 0 h k = λ k. grind (arith, nat_tests) in
    let on : inside 0 (suc h) 0 ≡ true = grind (arith, nat_tests) in
    let here : f w ≤ c = rw on at (each 0 (omega arith)) in
    let rest = sum_some f c ws 0 h (λ k l. rw (less k) at (each (suc k) (omega arith))) in
    omega (arith, sum_by-cons f w ws, mul-suc c h)

-- byte k of line y is one of b
record In (b : Block) (y k : ℕ) : Type 0 where
  top : b.line ≤ y
  bottom : y < b.line + b.height
  left : b.from ≤ k
  right : k < b.from + b.size

-- line y is one of b, and the len bytes from a on are its part of b
record Across (b : Block) (y a len : ℕ) : Type 0 where
  top : b.line ≤ y
  bottom : y < b.line + b.height
  start : a ≡ b.from
  long : len ≡ b.size

module _ (ws : List ℕ) (b : Block) (box : Boxed ws b) where
  abbrev w : ℕ → ℕ
  w y = get_or ws y 0

  shape : Shaped b
  shape = box.shaped

  -- each byte of the block is due
  box_due : (y k : ℕ) → In b y k → bit (w y) k ≡ true
  box_due y k i = box.marks y k (omega (arith, shape.below)) (omega (arith, shape.within)) ∙ grind (arith, nat_tests)

  -- a byte that is due is one of the block
  box_only : (y k : ℕ) → y < 128 → k < 64 → bit (w y) k ≡ true → In b y k
  box_only y k hy hk is =
      let e : (inside b.line b.height y && inside b.from b.size k) ≡ true = sym (box.marks y k hy hk) ∙ is in
      record { top = grind (arith, nat_tests); bottom = grind (arith, nat_tests); left = grind (arith, nat_tests); right = grind (arith, nat_tests) }

  -- a line of the block has a mark, at its first column
  box_some : (y : ℕ) → b.line ≤ y → y < b.line + b.height → w y ≡ 0 → ⊥
  box_some y t u z =
      let here : In b y b.from = record { top = t; bottom = u; left = omega arith; right = omega (arith, shape.wide) } in
      both_ways (bit (w y) b.from) (ap (λ x. bit x b.from) z ∙ bit_zero b.from) (box_due y b.from here)

  -- where a line has a first run, that is its part of the block
  box_run : (y a len : ℕ) → y < 128 → First (w y) a len → Across b y a len
  box_run y a len hy f =
      let within = shape.within in
      let here : In b y a = box_only y a hy (omega arith) (f.inside a (omega arith) (omega arith)) in
      let start : a ≡ b.from = ⊎_elim
      (λ (o : b.from < a). absurd (both_ways (bit (w y) b.from) (f.before b.from o)
      (box_due y b.from (record { top = here.top; bottom = here.bottom; left = omega arith; right = omega arith }))))
      (λ (o : a ≤ b.from). omega arith)
      (cases_lt b.from a) in
      let long : len ≡ b.size = ⊎_elim
      (λ o. o)
      (⊎_elim
      (λ (o : len < b.size). absurd (both_ways (bit (w y) (a + len)) f.after
      (box_due y (a + len) (record { top = here.top; bottom = here.bottom; left = omega arith; right = omega arith }))))
      (λ (o : b.size < len). absurd (omega (arith, (box_only y (a + b.size) hy (omega arith) (f.inside (a + b.size) (omega arith) (omega arith))).right))))
      (cases_order len b.size) in
      record { top = here.top; bottom = here.bottom; start = start; long = long }

  -- so no line of the block begins otherwise
  box_same : (y a m : ℕ) → Across b y a m → Other (w y) a m → ⊥
  box_same y a m i (inl z) = box_some y i.top i.bottom z
  box_same y a m i (inr (s, n, f, other)) =
      let r = box_run y s n (omega (arith, shape.below)) f in
      other (r.start ∙ sym i.start) (r.long ∙ sym i.long)

  -- as many bytes of a line are due as the block has columns, or none
  box_line : (y : ℕ) → y < 128 → due (w y) ≤ cond (inside b.line b.height y) b.size 0
  box_line y hy = ⊎_elim
      (λ (on : inside b.line b.height y ≡ true).
      rw on (omega (arith, count_same (bit (w y)) (inside b.from b.size) 64 (λ k hk. box.marks y k hy hk ∙ rw on), count_inside b.from b.size 64)))
      (λ (off : inside b.line b.height y ≡ false).
      rw off (omega (arith, count_same (bit (w y)) (λ k. false) 64 (λ k hk. box.marks y k hy hk ∙ rw off), count_none (λ k. false) 64 (λ k. refl))))
      (cases_Bool (inside b.line b.height y))

  -- and so of all lines
  pub box_bytes : length ws ≡ 128 → bytes_due ws ≤ area b
  unfolding bytes_due
  box_bytes lines = sum_some due b.size ws b.line b.height (λ y l. box_line y (omega arith))

  -- the block that is taken at line y, with nothing due above and room for all of b
  module _ (left y a len m h : ℕ) (c : Chosen ws left y a len m h) (ends : EndsThere ws y a m ((left - 7) / m) h) (room : area b + 7 ≤ left) (passed : (u : ℕ) → u < y → w u ≡ 0) where
    -- it is in b
    run : Across b y a len
    run = box_run y a len (omega (arith, c.below, c.high)) c.first

    -- every line above is done, so it begins where b does
    top : y ≡ b.line
    top = ⊎_elim
        (λ (o : b.line < y). absurd (box_some b.line (omega arith) (omega (arith, shape.high)) (passed b.line o)))
        (λ (o : y ≤ b.line). omega (arith, run.top))
        (cases_lt b.line y)

    -- there is room for all columns
    whole : m ≡ b.size
    whole = omega (arith, c.most, run.long, mul-le-mul_left b.size shape.high)

    -- no line below b begins with its columns
    low : h ≤ b.height
    low = ⊎_elim
        (λ (o : b.height < h). absurd (omega (arith, top, (box_run (y + b.height) a m (omega (arith, c.below)) (c.same b.height shape.high o)).bottom)))
        (λ (o : h ≤ b.height). o)
        (cases_lt b.height h)

    -- there is room for all lines
    fits : b.height ≤ (left - 7) / m
    fits = (le-div_iff_mul-le {k = m} {x = b.height} {y = left - 7} (omega (arith, whole, shape.wide))).1 (omega (arith, ap (λ x. b.height * x) whole, mul_comm b.height b.size))

    -- and none of them begins otherwise
    high : b.height ≤ h
    high = ⊎_elim
        (λ (o : h < b.height). absurd (⊎_elim
        (λ (e : h ≡ (left - 7) / m). omega (arith, fits))
        (⊎_elim
        (λ (e : y + h ≡ 128). omega (arith, top, shape.below))
        (λ (e : Other (w (y + h)) a m). box_same (y + h) a m (record { top = omega (arith, top); bottom = omega (arith, top); start = run.start; long = whole }) e))
        ends))
        (λ (o : b.height ≤ h). o)
        (cases_lt h b.height)

    -- so it has as many bytes as b
    pub chosen_box : m * h ≡ area b
    chosen_box = let e : h ≡ b.height = omega (arith, low, high) in ap₂ (λ x z. x * z) whole e
