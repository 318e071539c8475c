-- What every life keeps makes it faithful.
use Rattle.std.proofs.Common.{◌≡◌, ℕ, ◌<◌, Bool, true, false, not, ◌&&◌, ◌⊎◌, List, [], ◌∷◌, sym, refl, ap, ◌∙◌, subst, inl, inr, ⊎_elim, arith}
use Rattle.std.proofs.lemmas.Bool.{or_right}
use Rattle.ssd1329.specs.Chip.{Chip}
use Rattle.ssd1329.specs.Glass.{lit}
use Rattle.ssd1329.specs.Wiring.{settings_for}
use Rattle.ssd1329.proofs.Upright.{upright}
use Rattle.marks.specs.Blocks.{bytes_due}
use Rattle.screen.specs.Flushing.{owing, complete, Flushed}
use Rattle.screen.specs.Lives.{World, Event, book, done, ever_done, Either, Since, JustDone, shown_at, Paid, Faithful, EveryLifeIsFaithful}
use Rattle.screen.specs.Screens.{ScreenMeaning}
use Rattle.screen.proofs.SoundFlush.{all_sent}
use Rattle.screen.proofs.Keeps.{Keeps, every_life_keeps}
use Rattle.screen.proofs.Sound.{lacking, view}

-- a controller that is not astray is lit just where it is awake
lit_is : (awake astray : Bool) → astray ≡ false → (awake && not astray) ≡ awake
lit_is true astray e = ap not e
lit_is false astray e = refl

-- at a done flush, what was shown since is the drawing
since_done : (es : List Event) (x y g : ℕ) → JustDone es → Since es x y g → g ≡ (book es).drawing x y
unfolding Since
since_done [] x y g d h = absurd d
since_done (e ∷ es) x y g d h = subst (λ (b : Bool). Either b (g ≡ (book (e ∷ es)).drawing x y) (Since es x y g ⊎ ((ever_done es ≡ true) × (g ≡ (book (e ∷ es)).drawing x y)))) d h

-- a flush that was done just now was done
just_ever : (es : List Event) → JustDone es → ever_done es ≡ true
unfolding ever_done
just_ever [] d = absurd d
just_ever (e ∷ es) d = or_right (ever_done es) (done e) d

module _ (es : List Event) (w : World) (k : Keeps es w) where
  abbrev s : ScreenMeaning
  s = w.screen

  abbrev c : Chip
  c = s.link.chip

  -- awake, and not astray
  lights : lit c ≡ ever_done es
  lights = lit_is c.awake c.astray k.sound.idle.true_to ∙ k.sound.awake ∙ k.lit

  -- the wiring's settings are in the registers, so the glass shows the memory
  glass_views : ever_done es ≡ true → (x y : ℕ) → x < 128 → y < 128 → shown_at w x y ≡ view s x y
  glass_views d x y hx hy =
      let on : s.lit ≡ true = k.lit ∙ d in
      let set : c.settings ≡ settings_for s.wiring = k.sound.settings ∙ ap (λ r. lacking s.wiring r s.offset_owed) (k.sound.remap_sent on) ∙ ap (lacking s.wiring false) (k.sound.offset_sent on) in
      upright s.wiring c x y k.sound.shift hx hy set (lights ∙ d)

  -- so what the memory had since the latest done flush, the glass shows
  shows_since : ever_done es ≡ true → (x y : ℕ) → x < 128 → y < 128 → Since es x y (shown_at w x y)
  shows_since d x y hx hy = subst (λ (g : ℕ). Since es x y g) (sym (glass_views d x y hx hy)) (k.since d x y hx hy)

  -- a flush that leaves nothing to send leaves the screen lit, and no byte due
  module _ (n : ℕ) (t : ScreenMeaning) (f : Flushed s n t) where
    brought : complete t ≡ true → (t.lit ≡ true) × (bytes_due t.canvas.due ≡ 0)
    brought e = (f.lit ∙ or_right s.lit (complete t) e, (all_sent t e).none_due)

    -- nothing is owed once some flush was done
    owes_none : ever_done es ≡ true → owing s ≡ 0
    owes_none d =
        let on : s.lit ≡ true = k.lit ∙ d in
        rw (k.sound.remap_sent on, k.sound.offset_sent on)

    -- the bounds of a flush, with nothing owed once some flush was done
    paid : Paid es s n t f
    paid = record {
      moves = λ h. ⊎_elim (λ (e : complete t ≡ true). inl (brought e)) (λ l. inr l) (f.moves (omega arith));
      most = λ d. let z = owes_none d in let m = f.most in omega arith;
      brings = λ d h. let z = owes_none d in brought (f.all (omega arith));
    }

  -- all of the promise, at one step
  pub keeps_faith : Faithful es w
  keeps_faith = record {
    lit_when_done = lights;
    shows_since = shows_since;
    shows_drawing = λ j x y hx hy. since_done es x y (shown_at w x y) j (shows_since (just_ever es j) x y hx hy);
    canvas = k.canvas;
    pen = k.pen;
    stack = k.stack;
    paid = paid;
  }

-- and so at every step
pub every_life_is_faithful : EveryLifeIsFaithful
every_life_is_faithful es w life = keeps_faith es w (every_life_keeps es w life)
