-- What every life keeps, call by call.
use Rattle.std.proofs.Common.{◌≡◌, ℕ, ◌<◌, Bool, true, false, ◌||◌, leb, ◌⊎◌, List, [], ◌∷◌, ℤ, Some, None, Ok, Err, Option, Result, sym, refl, ap, ◌∙◌, subst, inl, inr, ⊎_elim}
use Rattle.std.proofs.lemmas.Bool.{both_ways, cond-true, cond-false, le-leb, lt-leb}
use Rattle.refusal.specs.declared.refusals.Refusal.{Refusal}
use Rattle.ssd1329.specs.Glass.{Wires}
use Rattle.drawing.specs.Book.{Book, painted, with_pen, unless, entered, Draws}
use Rattle.drawing.specs.Book as book-of
use Rattle.drawing.specs.Clips.{covered, position_refusal, rectangle_refusal}
use Rattle.drawing.specs.Drawing.{Paint, Painted, dot_paint, bar_paint, place_paint}
use Rattle.drawing.specs.Dots.{gray}
use Rattle.drawing.specs.Pens.{PenMeaning, fresh_pen, with_ink, narrowed}
use Rattle.drawing.proofs.Books.{drawn_by_the_book}
use Rattle.link.specs.Links.{LinkMeaning, Lawful}
use Rattle.screen.specs.declared.answers.FlushFault.{FlushFault}
use Rattle.screen.specs.declared.answers.FlushFault.TheVariants as by
use Rattle.screen.specs.Flushing.{complete, Flushed}
use Rattle.screen.specs.Lives.{World, Event, inked, dotted, barred, placed, narrowed_to, ended, flushed, call, Drew, EndStep, Follows, Life, book, done, ever_done, Since}
use Rattle.screen.specs.Screens.{ScreenMeaning, fresh_link, fresh_screen}
use Rattle.screen.proofs.Draws.{draw_sound, draw_views}
use Rattle.screen.proofs.SoundFlush.{flush_sound, shows_or_stays, complete_shows, flush_draws}
use Rattle.screen.proofs.Sound.{Sound, view}
use Rattle.screen.proofs.Starts.{starts_sound, all_dark}

pub record Keeps (es : List Event) (w : World) : Type 0 where
  pub sound : Sound w.screen
  pub lit : w.screen.lit ≡ ever_done es
  pub since : ever_done es ≡ true → (x y : ℕ) → x < 128 → y < 128 → Since es x y (view w.screen x y)
  pub canvas : Draws w.screen.canvas (book es)
  pub pen : w.pen ≡ (book es).pen
  pub stack : w.stack ≡ (book es).stack

-- ---- calls that are no done flush, and change nothing of what the memory has

-- nothing more
or_none : (b : Bool) → (b || false) ≡ b
or_none true = refl
or_none false = refl

-- such a call changes nothing of whether a flush was done
never_done : (es : List Event) (e : Event) → done e ≡ false → ever_done (e ∷ es) ≡ ever_done es
unfolding ever_done
never_done es e undone = ap (λ b. ever_done es || b) undone ∙ or_none (ever_done es)

-- what was shown since the latest done flush was shown since it
since_then : (es : List Event) (e : Event) (x y g : ℕ) → done e ≡ false → Since es x y g ⊎ ((ever_done es ≡ true) × (g ≡ (book (e ∷ es)).drawing x y)) → Since (e ∷ es) x y g
unfolding Since
since_then es e x y g undone h = rw undone h

-- what the book has after a call
book_is : (es : List Event) (e : Event) → book (e ∷ es) ≡ entered (book es) (call e)
unfolding book
book_is es e = refl

module _ (es : List Event) (e : Event) (w v : World) (k : Keeps es w) (undone : done e ≡ false) where
  quiet : Sound v.screen → v.screen.lit ≡ w.screen.lit → ((x y : ℕ) → view v.screen x y ≡ view w.screen x y)
      → Draws v.screen.canvas (book (e ∷ es)) → v.pen ≡ (book (e ∷ es)).pen → v.stack ≡ (book (e ∷ es)).stack → Keeps (e ∷ es) v
  quiet sound lit same draws pen stack = record {
    sound = sound;
    lit = lit ∙ k.lit ∙ sym (never_done es e undone);
    since = λ d x y hx hy. since_then es e x y (view v.screen x y) undone (inl (rw (same x y) (k.since (sym (never_done es e undone) ∙ d) x y hx hy)));
    canvas = draws;
    pen = pen;
    stack = stack;
  }

  -- a call that leaves the screen as it was, and enters a pen and a stack
  still : (b : Book) → v.screen ≡ w.screen → book (e ∷ es) ≡ b → ((x y : ℕ) → b.drawing x y ≡ (book es).drawing x y) → v.pen ≡ b.pen → v.stack ≡ b.stack → Keeps (e ∷ es) v
  still b same is draws pen stack =
      quiet (subst Sound (sym same) k.sound) (ap (λ (s : ScreenMeaning). s.lit) same) (λ x y. ap (λ (s : ScreenMeaning). view s x y) same)
      (λ x y hx hy. ap (λ (s : ScreenMeaning). gray s.canvas x y) same ∙ k.canvas x y hx hy ∙ sym (draws x y) ∙ sym (ap (λ (a : Book). a.drawing x y) is))
      (pen ∙ sym (ap (λ (a : Book). a.pen) is)) (stack ∙ sym (ap (λ (a : Book). a.stack) is))

-- ---- pens and narrowings

-- the ink, taken or refused
ink_keeps : (es : List Event) (w v : World) (g : ℕ) (r : Result (Unit {0}) Refusal) → Keeps es w → Follows w (inked g r) v → Keeps (inked g r ∷ es) v
ink_keeps es w v g (Ok u) k ((small, pen), same, stack) =
    still es (inked g (Ok u)) w v k refl (with_pen (book es) (with_ink (book es).pen g) (book es).stack) same
    (book_is es (inked g (Ok u)) ∙ cond-true (leb g 15) _ _ (le-leb g 15 small)) (λ x y. refl) (pen ∙ ap (λ p. with_ink p g) k.pen) (stack ∙ k.stack)
ink_keeps es w v g (Err e) k ((large, is, pen), same, stack) =
    still es (inked g (Err e)) w v k refl (book es) same
    (book_is es (inked g (Err e)) ∙ cond-false (leb g 15) _ _ (lt-leb g 15 large)) (λ x y. refl) (pen ∙ k.pen) (stack ∙ k.stack)

-- a narrowing, taken or refused
narrow_keeps : (es : List Event) (w v : World) (x y : ℤ) (a b : ℕ) (r : Result (Unit {0}) Refusal) → Keeps es w → Follows w (narrowed_to x y a b r) v → Keeps (narrowed_to x y a b r ∷ es) v
narrow_keeps es w v x y a b (Ok u) k (free, is) =
    let B = book es in
    let to = with_pen B (narrowed B.pen (covered x y a b)) (B.pen ∷ B.stack) in
    still es (narrowed_to x y a b (Ok u)) w v k refl to (ap (λ (z : World). z.screen) is)
    (book_is es (narrowed_to x y a b (Ok u)) ∙ ap (λ o. unless o to B) free) (λ _ _. refl)
    (ap (λ (z : World). z.pen) is ∙ ap (λ p. narrowed p (covered x y a b)) k.pen)
    (ap (λ (z : World). z.stack) is ∙ ap (λ p. p ∷ w.stack) k.pen ∙ ap (λ s. B.pen ∷ s) k.stack)
narrow_keeps es w v x y a b (Err e) k (refused, is) =
    let B = book es in
    let to = with_pen B (narrowed B.pen (covered x y a b)) (B.pen ∷ B.stack) in
    still es (narrowed_to x y a b (Err e)) w v k refl B (ap (λ (z : World). z.screen) is)
    (book_is es (narrowed_to x y a b (Err e)) ∙ ap (λ o. unless o to B) refused) (λ _ _. refl)
    (ap (λ (z : World). z.pen) is ∙ k.pen) (ap (λ (z : World). z.stack) is ∙ k.stack)

-- the end of the latest narrowing: l is the stack of the book
end_keeps : (es : List Event) (w v : World) (l : List PenMeaning) → Keeps es w → (book es).stack ≡ l → EndStep w l v → Keeps (ended ∷ es) v
end_keeps es w v [] k is f = absurd f
end_keeps es w v (p ∷ s) k is f =
    still es ended w v k refl (with_pen (book es) p s) (ap (λ (z : World). z.screen) f)
    (book_is es ended ∙ ap (book-of.ended (book es)) is) (λ _ _. refl) (ap (λ (z : World). z.pen) f) (ap (λ (z : World). z.stack) f)

-- ---- drawing calls

-- a paint that depends on the pen; e is the call's event
draw_keeps : (es : List Event) (e : Event) (w v : World) (refusal : Option Refusal) (paint : PenMeaning → Paint) (r : Result (Unit {0}) Refusal) → done e ≡ false
    → entered (book es) (call e) ≡ unless refusal (painted (book es) (paint (book es).pen)) (book es)
    → Keeps es w → Drew w (λ c d. Painted refusal c (paint w.pen) r d) v → Keeps (e ∷ es) v
draw_keeps es e w v refusal paint r undone enters k f =
    let B = book es in
    let is : book (e ∷ es) ≡ unless refusal (painted B (paint B.pen)) B = book_is es e ∙ enters in
    quiet es e w v k undone (draw_sound w v refusal (paint w.pen) r k.sound f) f.lit (draw_views w v refusal (paint w.pen) r k.sound f)
    (subst (Draws v.screen.canvas) (sym is)
    (drawn_by_the_book refusal paint w.pen w.screen.canvas v.screen.canvas r f.canvas B (sym k.pen) k.canvas))
    (f.pen ∙ k.pen ∙ sym (ap (λ (a : Book). a.pen) is ∙ unless_pen refusal B (paint B.pen)))
    (f.stack ∙ k.stack ∙ sym (ap (λ (a : Book). a.stack) is ∙ unless_stack refusal B (paint B.pen)))
  where
    -- a paint leaves the pen
    unless_pen : (o : Option Refusal) (b : Book) (t : Paint) → (unless o (painted b t) b).pen ≡ b.pen
    unless_pen None b t = refl
    unless_pen (Some e) b t = refl

    -- nor the stack
    unless_stack : (o : Option Refusal) (b : Book) (t : Paint) → (unless o (painted b t) b).stack ≡ b.stack
    unless_stack None b t = refl
    unless_stack (Some e) b t = refl

-- ---- flushes

module _ (es : List Event) (w v : World) (n : ℕ) (k : Keeps es w) (f : Flushed w.screen n v.screen) where
  abbrev s : ScreenMeaning
  s = w.screen

  abbrev t : ScreenMeaning
  t = v.screen

  -- the book stays as it is
  still_draws : (x y : ℕ) → x < 128 → y < 128 → gray t.canvas x y ≡ (book es).drawing x y
  still_draws x y hx hy = flush_draws s t n k.sound f x y ∙ k.canvas x y hx hy

  -- whatever is answered: done says just whether something is left to send
  flush_keeps : (r : Result ℕ FlushFault) → done (flushed n r) ≡ complete t → v.pen ≡ w.pen → v.stack ≡ w.stack
      → ((x y : ℕ) → x < 128 → y < 128 → ever_done (flushed n r ∷ es) ≡ true → Since (flushed n r ∷ es) x y (view t x y)) → Keeps (flushed n r ∷ es) v
  unfolding book ever_done
  flush_keeps r is pen stack since = record {
    sound = flush_sound s t n k.sound f;
    lit = f.lit ∙ ap (λ b. b || complete t) k.lit ∙ ap (λ b. ever_done es || b) (sym is);
    since = λ d x y hx hy. since x y hx hy d;
    canvas = still_draws;
    pen = pen ∙ k.pen;
    stack = stack ∙ k.stack;
  }

  -- nothing is left to send: each dot is as it is drawn
  done_keeps : (count : ℕ) → complete t ≡ true → v.pen ≡ w.pen → v.stack ≡ w.stack → Keeps (flushed n (Ok count) ∷ es) v
  unfolding Since book
  done_keeps count all pen stack =
      flush_keeps (Ok count) (sym all) pen stack (λ x y hx hy d. complete_shows s t n k.sound f all x y hx hy ∙ still_draws x y hx hy)

  -- something is left: each dot is as it is drawn, or as it was
  left_keeps : (e : FlushFault) → complete t ≡ false → v.pen ≡ w.pen → v.stack ≡ w.stack → Keeps (flushed n (Err e) ∷ es) v
  unfolding book
  left_keeps e left pen stack =
      flush_keeps (Err e) (sym left) pen stack (λ x y hx hy d.
      let was : ever_done es ≡ true = sym (never_done es (flushed n (Err e)) refl) ∙ d in
      since_then es (flushed n (Err e)) x y (view t x y) refl (⊎_elim
      (λ (p : view t x y ≡ gray t.canvas x y). inr (was, p ∙ still_draws x y hx hy))
      (λ (p : view t x y ≡ view s x y). inl (subst (λ (g : ℕ). Since es x y g) (sym p) (k.since was x y hx hy)))
      (shows_or_stays s t n k.sound f x y hx hy)))

-- by the answer: done, refused, or something left
flush_step_keeps : (es : List Event) (w v : World) (n : ℕ) (r : Result ℕ FlushFault) → Keeps es w → Follows w (flushed n r) v → Keeps (flushed n r ∷ es) v
flush_step_keeps es w v n (Ok count) k (f, pen, stack) = done_keeps es w v n k f.flushed count f.all pen stack
flush_step_keeps es w v n (Err (by.Refused e)) k (f, pen, stack) =
    still es (flushed n (Err (by.Refused e))) w v k refl (book es) f.0 (book_is es (flushed n (Err (by.Refused e)))) (λ _ _. refl) (pen ∙ k.pen) (stack ∙ k.stack)
flush_step_keeps es w v n (Err (by.LeftOver l)) k (f, pen, stack) = left_keeps es w v n k f.flushed (by.LeftOver l) f.not_all pen stack

-- ---- every call

-- by the call
step_keeps : (es : List Event) (w : World) (e : Event) (v : World) → Keeps es w → Follows w e v → Keeps (e ∷ es) v
step_keeps es w (inked g r) v k f = ink_keeps es w v g r k f
step_keeps es w (dotted x y r) v k f = draw_keeps es (dotted x y r) w v (position_refusal x y) (λ p. dot_paint p x y) r refl refl k f
step_keeps es w (barred x y a b r) v k f = draw_keeps es (barred x y a b r) w v (rectangle_refusal x y a b) (λ p. bar_paint p x y a b) r refl refl k f
step_keeps es w (placed q x y r) v k f = draw_keeps es (placed q x y r) w v (position_refusal x y) (λ p. place_paint p q x y) r refl refl k f
step_keeps es w (narrowed_to x y a b r) v k f = narrow_keeps es w v x y a b r k f
step_keeps es w ended v k f = end_keeps es w v (book es).stack k refl (subst (λ (l : List PenMeaning). EndStep w l v) k.stack f)
step_keeps es w (flushed n r) v k f = flush_step_keeps es w v n r k f

-- a fresh screen: its book is empty
start_keeps : (wires : Wires) (m : LinkMeaning) → wires.shift < 128 → Lawful m → fresh_link m ≡ true → Keeps [] (record { screen = fresh_screen wires m; pen = fresh_pen; stack = [] })
unfolding book ever_done
start_keeps wires m low laws fresh = record {
  sound = starts_sound wires m low laws fresh;
  lit = refl;
  since = λ d x y hx hy. absurd (both_ways false refl d);
  canvas = all_dark;
  pen = refl;
  stack = refl;
}

-- by the number of calls
pub every_life_keeps : (es : List Event) (w : World) → Life es w → Keeps es w
unfolding Life
every_life_keeps [] w (wires, m, low, laws, fresh, is) = subst (Keeps []) (sym is) (start_keeps wires m low laws fresh)
every_life_keeps (e ∷ es) v (w, life, does) = step_keeps es w e v (every_life_keeps es w life) does
