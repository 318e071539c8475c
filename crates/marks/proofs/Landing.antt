-- Blocks land where they should, by the marks.
use Rattle.std.proofs.Common.{◌≡◌, ℕ, zero, suc, ◌+◌, ◌-◌, ◌<◌, ◌≤◌, Bool, true, false, ◌⊎◌, List, [], ◌∷◌, ◌++◌, length, get_or, set, sym, refl, ap, ◌∙◌, subst, inl, inr, ⊎_elim, arith, length-set, get_or-set_other, get_or-set_same}
use Rattle.std.proofs.lemmas.Bool.{cases_lt, cases_eq, cases_Bool, both_ways}
use Rattle.ssd1329.specs.declared.transfer.Transfer.{Transfer}
use Rattle.ssd1329.specs.declared.transfer.Transfer.TheVariants.{Command}
use Rattle.ssd1329.specs.Area.{Area}
use Rattle.ssd1329.specs.Settings.{Settings}
use Rattle.ssd1329.specs.Remap.{runs_down}
use Rattle.ssd1329.specs.Chip.{Chip, address, run, dropped}
use Rattle.marks.specs.Marks.{bit}
use Rattle.marks.specs.Blocks.{Stretch, Block, Shaped, lines_of, parts, row, bytes, window, words, traffic, Front, Clears, Covers}
use Rattle.marks.specs.Landing.{byte, kept, Landed, Closes, TrafficLands}
use Rattle.marks.proofs.Model.{idle, idle_idles, Settles, settles_own, settles_idle, run_append, run_none, window_set, ends_quiet, ends_awake, dropped_idle}
use Rattle.marks.proofs.Rows.{Wrote, aim, row_lands}

-- ---- what has landed composes

-- no mark went, no byte changed
pub landed_none : (c : Chip) (canvas ws : List ℕ) → Landed c c canvas ws ws
landed_none c canvas ws = record {
  put = λ y x l p q. absurd (both_ways (bit (get_or ws y 0) x) q p);
  clean = λ y x l p. refl;
  still = λ y x l p. refl;
  fewer = λ y x p. p;
}

-- a byte whose mark goes with the first is not due for the second, which leaves it
pub landed_then : (a b c : Chip) (canvas ws us vs : List ℕ) → b.settings ≡ a.settings → Landed a b canvas ws us → Landed b c canvas us vs → Landed a c canvas ws vs
landed_then a b c canvas ws us vs e f g = record {
  put = λ y x l p q. ⊎_elim
      (λ (t : bit (get_or us y 0) x ≡ true). g.put y x l t q ∙ ap (λ s. kept s (get_or canvas (address y x) 0)) e)
      (λ (t : bit (get_or us y 0) x ≡ false). g.clean y x l t ∙ f.put y x l p t)
      (cases_Bool (bit (get_or us y 0) x));
  clean = λ y x l p. g.clean y x l (f.fewer y x p) ∙ f.clean y x l p;
  still = λ y x l q. ⊎_elim
      (λ (t : bit (get_or us y 0) x ≡ true). g.still y x l q ∙ f.still y x l t)
      (λ (t : bit (get_or us y 0) x ≡ false). absurd (both_ways (bit (get_or vs y 0) x) (g.fewer y x t) q))
      (cases_Bool (bit (get_or us y 0) x));
  fewer = λ y x p. g.fewer y x (f.fewer y x p);
}

-- only the memories and the settings matter
pub landed_like : (a b a' b' : Chip) (canvas ws vs : List ℕ) → a'.settings ≡ a.settings → a'.memory ≡ a.memory → b'.memory ≡ b.memory → Landed a b canvas ws vs
    → Landed a' b' canvas ws vs
landed_like a b a' b' canvas ws vs s m n f =
    let old : (y x : ℕ) → byte a y x ≡ byte a' y x = λ y x. ap (λ k. get_or k (address y x) 0) (sym m) in
    let new : (y x : ℕ) → byte b' y x ≡ byte b y x = λ y x. ap (λ k. get_or k (address y x) 0) n in
    record {
      put = λ y x l p q. new y x ∙ f.put y x l p q ∙ ap (λ t. kept t (get_or canvas (address y x) 0)) (sym s);
      clean = λ y x l p. new y x ∙ f.clean y x l p ∙ old y x;
      still = λ y x l q. new y x ∙ f.still y x l q ∙ old y x;
      fewer = f.fewer;
    }

-- ---- one stretch

module _ (m n : List ℕ) (d e : Area) (t : Settings) (w : Bool) (canvas ws : List ℕ) (s : Stretch) (v : ℕ) (inside : s.line < length ws)
    (fits : s.from + s.size ≤ 64) (f : Front (get_or ws s.line 0) s v) (h : Wrote t m n (address s.line s.from) s.size canvas) where
  abbrev a : ℕ
  a = s.from

  abbrev k : ℕ
  k = s.size

  -- a column is outside what was sent, or inside
  where_is : (x : ℕ) → ((x < a) ⊎ (a + k ≤ x)) ⊎ ((a ≤ x) × (x < a + k))
  where_is x = ⊎_elim
      (λ (o : x < a). inl (inl o))
      (λ (o : a ≤ x). ⊎_elim (λ (p : x < a + k). inr (o, p)) (λ (p : a + k ≤ x). inl (inr p)) (cases_lt x (a + k)))
      (cases_lt x a)

  -- the word of the line is v now
  now_is : get_or (set ws s.line v) s.line 0 ≡ v
  now_is = get_or-set_same ws s.line v 0 inside

  -- a byte of the line, outside what was sent
  out : (x : ℕ) → (x < a) ⊎ (a + k ≤ x) → get_or n (address s.line x) 0 ≡ get_or m (address s.line x) 0
  out x = ⊎_elim (λ (o : x < a). h.other (address s.line x) (inl (omega arith))) (λ (o : a + k ≤ x). h.other (address s.line x) (inr (omega arith)))

  -- a byte of another line
  elsewhere : (y x : ℕ) → x < 64 → (y ≡ s.line → ⊥) → get_or n (address y x) 0 ≡ get_or m (address y x) 0
  elsewhere y x l ne = ⊎_elim
      (λ (o : y < s.line). h.other (address y x) (inl (omega arith)))
      (λ (o : s.line ≤ y). h.other (address y x) (inr (omega arith)))
      (cases_lt y s.line)

  -- a mark outside is as it was
  out_bit : (x : ℕ) → (x < a) ⊎ (a + k ≤ x) → bit v x ≡ bit (get_or ws s.line 0) x
  out_bit x = ⊎_elim (λ (o : x < a). f.clear.kept_below x o) (λ (o : a + k ≤ x). f.clear.kept_above x o)

  -- a mark inside was set
  was : (x : ℕ) → a ≤ x → x < a + k → bit (get_or ws s.line 0) x ≡ true
  was x o p = f.first.inside x o (omega (arith, f.part))

  -- by the line: this one, or another
  by_line : (P : ℕ → ℕ → ℕ → Type 0) (y : ℕ) → P s.line (get_or ws s.line 0) v
      → ((y ≡ s.line → ⊥) → P y (get_or ws y 0) (get_or ws y 0)) → P y (get_or ws y 0) (get_or (set ws s.line v) y 0)
  by_line P y here there = ⊎_elim
      (λ (q : y ≡ s.line). rw q (rw now_is here))
      (λ (ne : y ≡ s.line → ⊥). rw (get_or-set_other ws s.line y v 0 ne) (there ne))
      (cases_eq y s.line)

  pub landed_one : Landed (idle m d t w) (idle n e t w) canvas ws (set ws s.line v)
  landed_one = record {
    put = λ y x l. by_line (λ y w u. bit w x ≡ true → bit u x ≡ false → get_or n (address y x) 0 ≡ kept t (get_or canvas (address y x) 0)) y
        (λ p q. ⊎_elim (λ o. absurd (both_ways (bit v x) q (out_bit x o ∙ p))) (λ i. h.put (address s.line x) (omega (arith, i.0)) (omega (arith, i.1))) (where_is x))
        (λ ne p q. absurd (both_ways (bit (get_or ws y 0) x) q p));
    clean = λ y x l. by_line (λ y w u. bit w x ≡ false → get_or n (address y x) 0 ≡ get_or m (address y x) 0) y
        (λ p. ⊎_elim (λ o. out x o) (λ i. absurd (both_ways (bit (get_or ws s.line 0) x) p (was x i.0 i.1))) (where_is x))
        (λ ne p. elsewhere y x l ne);
    still = λ y x l. by_line (λ y w u. bit u x ≡ true → get_or n (address y x) 0 ≡ get_or m (address y x) 0) y
        (λ q. ⊎_elim (λ o. out x o) (λ i. absurd (both_ways (bit v x) (f.clear.gone x i.0 i.1) q)) (where_is x))
        (λ ne p. elsewhere y x l ne);
    fewer = λ y x. by_line (λ y w u. bit w x ≡ false → bit u x ≡ false) y
        (λ p. ⊎_elim (λ o. out_bit x o ∙ p) (λ i. f.clear.gone x i.0 i.1) (where_is x))
        (λ ne p. p);
  }

-- ---- one after another

-- From a controller with memory m and area a to d: the marks went from ws to vs.
pub record Lands (d : Chip) (m : List ℕ) (a : Area) (s : Settings) (w : Bool) (canvas ws vs : List ℕ) : Type 0 where
  pub memory : List ℕ
  pub area : Area
  pub settles : Settles d memory area s w
  pub long : length memory ≡ length m
  pub landed : Landed (idle m a s w) (idle memory area s w) canvas ws vs

-- nothing was sent
lands_none : (c : Chip) (m : List ℕ) (a : Area) (s : Settings) (w : Bool) (canvas ws vs : List ℕ) → Settles c m a s w → vs ≡ ws → Lands (run c []) m a s w canvas ws vs
lands_none c m a s w canvas ws vs h e =
    let P : Chip → Type 0 = λ z. Settles z m a s w in
    let Q : List ℕ → Type 0 = λ x. Landed (idle m a s w) (idle m a s w) canvas ws x in
    record { memory = m; area = a; settles = subst P (sym (run_none c)) h; long = refl; landed = subst Q (sym e) (landed_none (idle m a s w) canvas ws) }

-- first ts, then us
lands_then : (c : Chip) (ts us : List Transfer) (m : List ℕ) (a : Area) (s : Settings) (w : Bool) (canvas ws vs xs : List ℕ)
    → (f : Lands (run c ts) m a s w canvas ws vs) → Lands (run (run c ts) us) f.memory f.area s w canvas vs xs → Lands (run c (ts ++ us)) m a s w canvas ws xs
lands_then c ts us m a s w canvas ws vs xs f g =
    let P : Chip → Type 0 = λ z. Settles z g.memory g.area s w in
    record {
      memory = g.memory;
      area = g.area;
      settles = subst P (sym (run_append c ts us)) g.settles;
      long = g.long ∙ f.long;
      landed = landed_then (idle m a s w) (idle f.memory f.area s w) (idle g.memory g.area s w) canvas ws vs xs refl f.landed g.landed;
    }

-- The lines of a block, one after another: at the window's right edge the pointer goes on to the next line.
rows_land : (c : Chip) (m : List ℕ) (d : Area) (s : Settings) (w : Bool) (canvas ws : List ℕ) (t b y a k h : ℕ) (vs : List ℕ)
    → Settles c m d s w → (0 < h → d ≡ aim a (a + k - 1) t b a y) → runs_down s ≡ false → length m ≡ 8192 → length canvas ≡ 8192 → length ws ≡ 128
    → y + h ≡ b + 1 → 0 < k → a + k ≤ 64 → b < 128 → Clears ws (lines_of y a k h) vs
    → Lands (run c (bytes canvas (lines_of y a k h))) m d s w canvas ws vs
rows_land c m d s w canvas ws t b y a k zero vs settles aimed along long wide marks end some fits low e = lands_none c m d s w canvas ws vs settles e
rows_land c m d s w canvas ws t b y a k (suc h) vs settles aimed along long wide marks end some fits low (v, inside, f, more) =
    let r = a + k - 1 in
    let st : Stretch = record { line = y; from = a; size = k } in
    let ts = row canvas st in
    let start : Settles c m (aim a r t b a y) s w = subst (λ (x : Area). Settles c m x s w) (aimed (omega arith)) settles in
    let one = row_lands c m s w a r t b y k canvas start along long wide (omega arith) (omega arith) (omega arith) (omega arith) in
    let us = set ws y v in
    let first : Lands (run c ts) m d s w canvas ws us = record {
      memory = one.memory;
      area = one.area;
      settles = one.settles;
      long = one.wrote.long;
      landed = landed_one m one.memory d one.area s w canvas ws st v inside fits f one.wrote;
    } in
    let rest = rows_land (run c ts) one.memory one.area s w canvas us t b (y + 1) a k h vs one.settles (λ left. one.turned (omega arith) (omega arith)) along
    (one.wrote.long ∙ long) wide (length-set ws y v ∙ marks) (omega arith) some fits low more in
    lands_then c ts (bytes canvas (lines_of (y + 1) a k h)) m d s w canvas ws us vs first rest

-- a block: its window, and its lines
block_lands : (c : Chip) (m : List ℕ) (d : Area) (s : Settings) (w : Bool) (canvas ws : List ℕ) (b : Block) (vs : List ℕ)
    → Settles c m d s w → runs_down s ≡ false → length m ≡ 8192 → length canvas ≡ 8192 → length ws ≡ 128 → Shaped b → Clears ws (parts b) vs
    → Lands (run c (words canvas b)) m d s w canvas ws vs
block_lands c m d s w canvas ws b vs settles along long wide marks shape clears =
    let high = shape.high in
    let some = shape.wide in
    let y = b.line in
    let z = b.line + b.height - 1 in
    let a = b.from in
    let r = b.from + b.size - 1 in
    let e = window_set c m d s w a r y z settles (omega arith) (omega (arith, shape.within)) (omega arith) (omega (arith, shape.below)) in
    let aimed : Settles (run c (window b)) m (aim a r y z a y) s w = subst (λ (x : Chip). Settles x m (aim a r y z a y) s w) (sym e) (settles_idle m (aim a r y z a y) s w) in
    let rows = rows_land (run c (window b)) m (aim a r y z a y) s w canvas ws y z y a b.size b.height vs aimed (λ _. refl) along long wide marks (omega arith) some shape.within
    (omega (arith, shape.below)) clears in
    let f : Lands (run c (window b)) m d s w canvas ws ws = record {
      memory = m;
      area = aim a r y z a y;
      settles = aimed;
      long = refl;
      landed = landed_like (idle m d s w) (idle m d s w) (idle m d s w) (idle m (aim a r y z a y) s w) canvas ws ws refl refl refl (landed_none (idle m d s w) canvas ws);
    } in
    lands_then c (window b) (bytes canvas (parts b)) m d s w canvas ws ws vs f rows

-- clearing keeps the number of lines
pub clears_long : (ws : List ℕ) (ss : List Stretch) (vs : List ℕ) → Clears ws ss vs → length vs ≡ length ws
clears_long ws [] vs e = ap length e
clears_long ws (r ∷ ss) vs (v, i, f, more) = clears_long (set ws r.line v) ss vs more ∙ length-set ws r.line v

-- the same by blocks
pub covers_long : (ws : List ℕ) (bs : List Block) (vs : List ℕ) → Covers ws bs vs → length vs ≡ length ws
covers_long ws [] vs e = ap length e
covers_long ws (b ∷ bs) vs (us, shape, clears, more) = covers_long us bs vs more ∙ clears_long ws (parts b) us clears

-- block after block
pub blocks_land : (c : Chip) (m : List ℕ) (d : Area) (s : Settings) (w : Bool) (canvas ws : List ℕ) (bs : List Block) (vs : List ℕ)
    → Settles c m d s w → runs_down s ≡ false → length m ≡ 8192 → length canvas ≡ 8192 → length ws ≡ 128 → Covers ws bs vs
    → Lands (run c (traffic canvas bs)) m d s w canvas ws vs
blocks_land c m d s w canvas ws [] vs settles along long wide marks e = lands_none c m d s w canvas ws vs settles e
blocks_land c m d s w canvas ws (b ∷ bs) vs settles along long wide marks (us, shape, clears, more) =
    let first = block_lands c m d s w canvas ws b us settles along long wide marks shape clears in
    let rest = blocks_land (run c (words canvas b)) first.memory first.area s w canvas us bs vs first.settles along (first.long ∙ long) wide
    (clears_long ws (parts b) us clears ∙ marks) more in
    lands_then c (words canvas b) (traffic canvas bs) m d s w canvas ws us vs first rest

-- ---- and the end of the slot

-- what the closing command leaves, awake or as it was
closes : (c d : Chip) (m : List ℕ) (a : Area) (w : Bool) (canvas ws vs : List ℕ) → d ≡ idle m a c.settings w → length m ≡ 8192
    → Landed (idle c.memory c.area c.settings c.awake) (idle m a c.settings c.awake) canvas ws vs
    → Closes c (dropped d) canvas ws vs × ((dropped d).awake ≡ w)
closes c d m a w canvas ws vs e long landed =
    let s = c.settings in
    let is : dropped d ≡ idle m a s w = ap dropped e ∙ dropped_idle m a s w in
    let P : Chip → Type 0 = λ z. Closes c z canvas ws vs × (z.awake ≡ w) in
    subst P (sym is) (
      record {
        idle = idle_idles m a s w long;
        settings = refl;
        landed = landed_like (idle c.memory c.area s c.awake) (idle m a s c.awake) c (idle m a s w) canvas ws vs refl refl refl landed;
      },
      refl,
    )

-- the closing command stores the last byte, so the end of the slot drops none
pub traffic_lands : TrafficLands
traffic_lands c canvas ws bs vs i along wide marks covers =
    let s = c.settings in
    let d = run c (traffic canvas bs) in
    let h = blocks_land c c.memory c.area s c.awake canvas ws bs vs (settles_own c i) along i.whole wide marks covers in
    let quiet = run_append c (traffic canvas bs) (Command 0xE3 ∷ []) ∙ ends_quiet d h.memory h.area s c.awake h.settles in
    let bright = run_append c (traffic canvas bs) (Command 0xAF ∷ []) ∙ ends_awake d h.memory h.area s c.awake h.settles in (
      closes c (run c (traffic canvas bs ++ Command 0xE3 ∷ [])) h.memory h.area c.awake canvas ws vs quiet (h.long ∙ i.whole) h.landed,
      closes c (run c (traffic canvas bs ++ Command 0xAF ∷ [])) h.memory h.area true canvas ws vs bright (h.long ∙ i.whole) h.landed,
    )
