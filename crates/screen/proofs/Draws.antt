-- A drawing call keeps a screen sound: a byte that does not become due has both its grays as they were.
use Rattle.std.proofs.Common.{◌≡◌, ℕ, ◌+◌, ◌*◌, ◌/◌, ◌%◌, ◌<◌, false, eqb, get_or, Some, None, Ok, Err, Option, Result, sym, refl, ap, ◌∙◌, subst, arith}
use Rattle.std.proofs.lemmas.Bool.{or_parts, not-false, eqb-true}
use Rattle.refusal.specs.declared.refusals.Refusal.{Refusal}
use Rattle.ssd1329.specs.Chip.{address}
use Rattle.drawing.specs.declared.canvas.Canvas.{Canvas}
use Rattle.drawing.specs.Dots.{gray, due, Whole}
use Rattle.drawing.specs.Drawing.{Paint, over, alters, Drawn, Painted}
use Rattle.screen.specs.Lives.{World, Drew}
use Rattle.screen.proofs.Sound.{Sound, view}

-- a paint that alters nothing
same_gray : (p : Option ℕ) (old : ℕ) → alters p old ≡ false → over p old ≡ old
same_gray (Some g) old e = sym (eqb-true old g (not-false (eqb old g) e))
same_gray None old e = refl

-- the two grays of a byte are its halves
gray_low : (c : Canvas) (y k : ℕ) → gray c (2 * k) y ≡ get_or c.cells (address y k) 0 % 16
unfolding gray
gray_low c y k =
    let even : 2 * k % 2 ≡ 0 = omega arith in
    let place : 2 * k / 2 ≡ k = omega arith in
    rw (even, place)

-- the odd dot has the high half
gray_high : (c : Canvas) (y k : ℕ) → gray c (2 * k + 1) y ≡ get_or c.cells (address y k) 0 / 16
unfolding gray
gray_high c y k =
    let odd : (2 * k + 1) % 2 ≡ 1 = omega arith in
    let place : (2 * k + 1) / 2 ≡ k = omega arith in
    rw (odd, place)

-- a byte that is not due after the paint was not due before, and is the same
drawn_clean : (c d : Canvas) (t : Paint) (y k : ℕ) → Drawn c t d → y < 128 → k < 64 → due d y k ≡ false
    → (due c y k ≡ false) × (get_or d.cells (address y k) 0 ≡ get_or c.cells (address y k) 0)
drawn_clean c d t y k f hy hk q =
    let l : 2 * k < 128 = omega arith in
    let r : 2 * k + 1 < 128 = omega arith in
    let p = or_parts (due c y k) _ (sym (f.marks y k hy hk) ∙ q) in
    let a = or_parts (alters (t (2 * k) y) (gray c (2 * k) y)) (alters (t (2 * k + 1) y) (gray c (2 * k + 1) y)) p.1 in
    let low = sym (gray_low d y k) ∙ f.grays (2 * k) y l hy ∙ same_gray (t (2 * k) y) (gray c (2 * k) y) a.0 ∙ gray_low c y k in
    let high = sym (gray_high d y k) ∙ f.grays (2 * k + 1) y r hy ∙ same_gray (t (2 * k + 1) y) (gray c (2 * k + 1) y) a.1 ∙ gray_high c y k in
    (p.0, omega (arith, low, high))

-- the same of a call that may have been refused
painted_clean : (refusal : Option Refusal) (c d : Canvas) (t : Paint) (r : Result (Unit {0}) Refusal) (y k : ℕ) → Painted refusal c t r d → y < 128 → k < 64 → due d y k ≡ false
    → (due c y k ≡ false) × (get_or d.cells (address y k) 0 ≡ get_or c.cells (address y k) 0)
painted_clean refusal c d t (Ok x) y k p hy hk q = drawn_clean c d t y k p.1 hy hk q
painted_clean refusal c d t (Err e) y k p hy hk q = (ap (λ z. due z y k) (sym p.1) ∙ q, ap (λ (z : Canvas). get_or z.cells (address y k) 0) p.1)

-- a canvas stays whole, whatever is painted
painted_whole : (refusal : Option Refusal) (c d : Canvas) (t : Paint) (r : Result (Unit {0}) Refusal) → Painted refusal c t r d → Whole c → Whole d
painted_whole refusal c d t (Ok x) p h = p.1.whole h
painted_whole refusal c d t (Err e) p h = subst Whole (sym p.1) h

module _ (w v : World) (refusal : Option Refusal) (t : Paint) (r : Result (Unit {0}) Refusal) (h : Sound w.screen) (f : Drew w (λ c d. Painted refusal c t r d) v) where
  -- neither the link nor the wiring changes
  pub draw_views : (x y : ℕ) → view v.screen x y ≡ view w.screen x y
  draw_views x y = rw (f.wiring, f.link)

  -- the controller is as it was, and the canvas has changed only where bytes are due
  pub draw_sound : Sound v.screen
  draw_sound = record {
    shut = ap (λ l. l.slot) f.link ∙ h.shut;
    idle = rw f.link h.idle;
    shift = rw f.wiring h.shift;
    whole = painted_whole refusal w.screen.canvas v.screen.canvas t r f.canvas h.whole;
    settings = rw (f.link, f.wiring, f.remap_owed, f.offset_owed) h.settings;
    image = λ y k hy hk q.
        let p = painted_clean refusal w.screen.canvas v.screen.canvas t r y k f.canvas hy hk q in
        rw (f.link, f.wiring, p.1) (h.image y k hy hk p.0);
    awake = rw (f.link, f.lit) h.awake;
    remap_sent = λ e. f.remap_owed ∙ h.remap_sent (sym f.lit ∙ e);
    offset_sent = λ e. f.offset_owed ∙ h.offset_sent (sym f.lit ∙ e);
  }
