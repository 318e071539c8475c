-- The bytes of one line, in a window that stands.
use Rattle.std.proofs.Common.{◌≡◌, ℕ, zero, suc, ◌+◌, ◌<◌, ◌≤◌, Bool, true, false, eqb, ◌⊎◌, List, [], ◌∷◌, ◌++◌, map, length, get_or, take, drop, set, sym, refl, ap, ◌∙◌, subst, inl, inr, ⊎_elim, add-one, arith, length-drop, length-set, get_or-set_other, get_or-set_same}
use Rattle.std.proofs.lemmas.List.{map_more, get_or-drop}
use Rattle.std.proofs.lemmas.Bool.{cases_lt, eq-eqb, ne_eqb}
use Rattle.ssd1329.specs.declared.transfer.Transfer.TheVariants.{Data}
use Rattle.ssd1329.specs.Area.{Area, advanced}
use Rattle.ssd1329.specs.Settings.{Settings}
use Rattle.ssd1329.specs.Remap.{runs_down}
use Rattle.ssd1329.specs.Chip.{Chip, address, step, run}
use Rattle.marks.specs.Landing.{kept}
use Rattle.marks.proofs.Model.{Settles, stores, run_none, run_last}

-- the n bytes of src from place i on stand in new at their places, and all else is as in old
pub record Wrote (s : Settings) (old new : List ℕ) (i n : ℕ) (src : List ℕ) : Type 0 where
  pub put : (k : ℕ) → i ≤ k → k < i + n → get_or new k 0 ≡ kept s (get_or src k 0)
  pub other : (k : ℕ) → (k < i) ⊎ (i + n ≤ k) → get_or new k 0 ≡ get_or old k 0
  pub long : length new ≡ length old

-- nothing came, nothing changed
wrote_none : (s : Settings) (m : List ℕ) (i : ℕ) (src : List ℕ) → Wrote s m m i 0 src
wrote_none s m i src = record { put = λ k l u. absurd (omega arith); other = λ k o. refl; long = refl }

-- one byte more, right behind the others
wrote_more : (s : Settings) (old new : List ℕ) (i n : ℕ) (src : List ℕ) → Wrote s old new i n src → i + n < length old
    → Wrote s old (set new (i + n) (kept s (get_or src (i + n) 0))) i (suc n) src
wrote_more s old new i n src h inside =
    let v = kept s (get_or src (i + n) 0) in
    let fits : i + n < length new = omega (arith, h.long) in
    record {
      put = λ k l u. ⊎_elim
          (λ (o : k < i + n). get_or-set_other new (i + n) k v 0 (omega arith) ∙ h.put k l o)
          (λ (o : i + n ≤ k). let same : k ≡ i + n = omega arith in rw same (get_or-set_same new (i + n) v 0 fits))
          (cases_lt k (i + n));
      other = λ k. ⊎_elim
          (λ (o : k < i). get_or-set_other new (i + n) k v 0 (omega arith) ∙ h.other k (inl o))
          (λ (o : i + suc n ≤ k). get_or-set_other new (i + n) k v 0 (omega arith) ∙ h.other k (inr (omega arith)));
      long = length-set new (i + n) v ∙ h.long;
    }

-- a window with its pointers
abbrev pub aim : ℕ → ℕ → ℕ → ℕ → ℕ → ℕ → Area
aim l r t b column line = record { left = l; right = r; top = t; bottom = b; column = column; line = line }

-- along the line
moves_on : (s : Settings) (l r t b x y : ℕ) → runs_down s ≡ false → x < r → advanced (aim l r t b x y) (runs_down s) ≡ aim l r t b (x + 1) y
moves_on s l r t b x y along h =
    let no : eqb x r ≡ false = ne_eqb x r (λ e. omega arith) in
    ap (advanced (aim l r t b x y)) along ∙ rw no

-- from its end on to the next line
turns : (s : Settings) (l r t b x y : ℕ) → runs_down s ≡ false → x ≡ r → y < b → advanced (aim l r t b x y) (runs_down s) ≡ aim l r t b l (y + 1)
turns s l r t b x y along e h =
    let yes : eqb x r ≡ true = eq-eqb x r e in
    let no : eqb y b ≡ false = ne_eqb y b (λ e. omega arith) in
    ap (advanced (aim l r t b x y)) along ∙ rw (yes, no)

-- of the line y, n bytes have come
pub record Fed (c : Chip) (m : List ℕ) (s : Settings) (w : Bool) (l r t b y n : ℕ) (src : List ℕ) : Type 0 where
  pub memory : List ℕ
  pub area : Area
  pub settles : Settles c memory area s w
  pub wrote : Wrote s m memory (address y l) n src
  pub next : l + n ≤ r → area ≡ aim l r t b (l + n) y
  -- all of the line have come, and it is not the last
  pub turned : l + n ≡ r + 1 → y < b → area ≡ aim l r t b l (y + 1)

-- byte after byte along the line
pub row_lands : (c : Chip) (m : List ℕ) (s : Settings) (w : Bool) (l r t b y n : ℕ) (src : List ℕ) → Settles c m (aim l r t b l y) s w
    → runs_down s ≡ false → length m ≡ 8192 → length src ≡ 8192 → l ≤ r → r < 64 → y < 128 → l + n ≤ r + 1
    → Fed (run c (map Data (take n (drop (address y l) src)))) m s w l r t b y n src
row_lands c m s w l r t b y zero src h along long wide lr r63 yh fits =
    let P : Chip → Type 0 = λ z. Settles z m (aim l r t b l y) s w in
    record {
      memory = m;
      area = aim l r t b l y;
      settles = subst P (sym (run_none c)) h;
      wrote = wrote_none s m (address y l) src;
      next = λ _. let e : l ≡ l + 0 = omega arith in ap (λ x. aim l r t b x y) e;
      turned = λ full under. absurd (omega arith);
    }
row_lands c m s w l r t b y (suc n) src h along long wide lr r63 yh fits =
    let ih = row_lands c m s w l r t b y n src h along long wide lr r63 yh (omega arith) in
    let i = address y l in
    let d = get_or src (i + n) 0 in
    let ts = map Data (take n (drop i src)) in
    let here : address y (l + n) ≡ i + n = omega arith in
    let now : Settles (run c ts) ih.memory (aim l r t b (l + n) y) s w = subst (λ (a : Area). Settles (run c ts) ih.memory a s w) (ih.next (omega arith)) ih.settles in
    let stored = stores (run c ts) ih.memory (aim l r t b (l + n) y) s w d now in
    let inside : n < length (drop i src) = simp length-drop (omega arith) in
    let more : map Data (take (suc n) (drop i src)) ≡ ts ++ Data d ∷ [] =
    ap (λ k. map Data (take k (drop i src))) (sym (add-one n)) ∙ map_more Data (drop i src) n 0 inside ∙ ap (λ x. ts ++ Data x ∷ []) (get_or-drop i src n 0) in
    let e : run c (map Data (take (suc n) (drop i src))) ≡ step (run c ts) (Data d) = ap (run c) more ∙ run_last c ts (Data d) in
    let P : Chip → Type 0 = λ z. Fed z m s w l r t b y (suc n) src in
    subst P (sym e) (record {
      memory = set ih.memory (i + n) (kept s d);
      area = advanced (aim l r t b (l + n) y) (runs_down s);
      settles = subst (λ (k : ℕ). Settles (step (run c ts) (Data d)) (set ih.memory k (kept s d)) (advanced (aim l r t b (l + n) y) (runs_down s)) s w) here stored;
      wrote = wrote_more s m ih.memory i n src ih.wrote (omega arith);
      next = λ on.
          let q : l + n + 1 ≡ l + suc n = omega arith in
          moves_on s l r t b (l + n) y along (omega arith) ∙ ap (λ x. aim l r t b x y) q;
      turned = λ full under. turns s l r t b (l + n) y along (omega arith) under;
    })
