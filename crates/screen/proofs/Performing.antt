-- A script goes on with a life, and keeps it faithful.
use Rattle.std.proofs.Common.{ℕ, List, [], ◌∷◌, ◌++◌, Ok, Err, sym, ap, subst}
use Rattle.picture.specs.declared.pictures.Picture.{Ghosts as PictureGhosts}
use Rattle.drawing.specs.declared.canvas.Canvas.{Canvas}
use Rattle.drawing.specs.Pens.{PenMeaning}
use Rattle.screen.specs.declared.scripts.Call.{Call}
use Rattle.screen.specs.declared.scripts.Answer.{Answer}
use Rattle.screen.specs.Lives.{World, Event, inked, dotted, barred, placed, narrowed_to, ended, flushed, Drew, EndStep, Follows, Life}
use Rattle.screen.specs.Scripts.{Line, made, idle, Goes, closing, Ran, lived, FaithfulLife, inside, Performed}
use Rattle.screen.proofs.Faith.{every_life_is_faithful}

module _ (outer : List PenMeaning) where
  -- what is drawn does not depend on the narrowings outside
  drew_inside : (w v : World) (Changes : Canvas → Canvas → Type 0) → Drew w Changes v → Drew (inside outer w) Changes (inside outer v)
  drew_inside w v Changes f = record {
    canvas = f.canvas;
    wiring = f.wiring;
    link = f.link;
    lit = f.lit;
    remap_owed = f.remap_owed;
    offset_owed = f.offset_owed;
    pen = f.pen;
    stack = ap (λ s. s ++ outer) f.stack;
  }

  -- nor is what an end gives back
  end_inside : (w v : World) (stack : List PenMeaning) → EndStep w stack v → EndStep (inside outer w) (stack ++ outer) (inside outer v)
  end_inside w v [] f = absurd f
  end_inside w v (p ∷ s) f = ap (inside outer) f

  -- so each call does inside them what it does outside
  follows_inside : (w : World) (e : Event) (v : World) → Follows w e v → Follows (inside outer w) e (inside outer v)
  follows_inside w (inked g r) v (pen, screen, stack) = (pen, screen, ap (λ s. s ++ outer) stack)
  follows_inside w (dotted x y r) v f = drew_inside w v _ f
  follows_inside w (barred x y a b r) v f = drew_inside w v _ f
  follows_inside w (placed p x y r) v f = drew_inside w v _ f
  follows_inside w (narrowed_to x y a b (Ok u)) v (free, is) = (free, ap (inside outer) is)
  follows_inside w (narrowed_to x y a b (Err e)) v (refused, is) = (refused, ap (inside outer) is)
  follows_inside w ended v f = end_inside w v w.stack f
  follows_inside w (flushed n r) v (f, pen, stack) = (f, pen, ap (λ s. s ++ outer) stack)

  -- a life goes on with the lines of a script
  life_on : (ls : List Line) (w v : World) (past : List Event) → Goes w ls v → Life past (inside outer w) → Life (lived ls past) (inside outer v)
  unfolding Goes Life
  life_on [] w v past same life = subst (λ (u : World). Life past (inside outer u)) (sym same) life
  life_on (made e ∷ ls) w v past (u, does, goes) life = life_on ls u v (e ∷ past) goes (inside outer w, life, follows_inside w e u does)
  life_on (idle ∷ ls) w v past (u, does, goes) life = life_on ls u v past goes (subst (λ (z : World). Life past (inside outer z)) (sym does.1) life)

-- a life is faithful at each of its steps
faithful_steps : (es : List Event) (w : World) → Life es w → FaithfulLife es w
unfolding Life FaithfulLife
faithful_steps [] w life = (life, every_life_is_faithful [] w life)
faithful_steps (e ∷ es) v (w, life, does) = (w, faithful_steps es w life, does, every_life_is_faithful (e ∷ es) v (w, life, does))

-- a script that ran is performed
pub performed : {P : Type 0} (k : PictureGhosts P) (w v : World) (script : List (Call P)) (answers : List Answer) (unended : ℕ) → Ran k w script [] answers unended v
    → Performed k w script answers v
performed k w v script answers unended ran = record {
  unended = unended;
  ran = ran;
  faithful = λ outer past life. faithful_steps _ _ (life_on outer (ran.lines ++ closing unended) w v past ran.goes life);
}
