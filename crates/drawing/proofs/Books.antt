-- The calls do what the book does.
use Rattle.std.proofs.Common.{◌≡◌, Ok, Err, Option, Result, sym, ap, ◌∙◌}
use Rattle.refusal.specs.declared.refusals.Refusal.{Refusal}
use Rattle.drawing.specs.declared.canvas.Canvas.{Canvas}
use Rattle.drawing.specs.Book.{Book, painted, unless, Draws}
use Rattle.drawing.specs.Dots.{gray}
use Rattle.drawing.specs.Drawing.{Paint, over, Painted}
use Rattle.drawing.specs.Pens.{PenMeaning}

-- a paint that depends on the pen: drawn on the canvas, and entered in the book
pub drawn_by_the_book : (refusal : Option Refusal) (paint : PenMeaning → Paint) (pen : PenMeaning) (before after : Canvas) (r : Result (Unit {0}) Refusal)
    → Painted refusal before (paint pen) r after → (b : Book) → b.pen ≡ pen → Draws before b → Draws after (unless refusal (painted b (paint b.pen)) b)
drawn_by_the_book refusal paint pen before after (Ok x) p b same draws =
    λ x y hx hy.
    p.1.grays x y hx hy ∙ ap (over (paint pen x y)) (draws x y hx hy)
    ∙ ap (λ q. over (paint q x y) (b.drawing x y)) (sym same)
    ∙ ap (λ o. (unless o (painted b (paint b.pen)) b).drawing x y) (sym p.0)
drawn_by_the_book refusal paint pen before after (Err e) p b same draws =
    λ x y hx hy.
    ap (λ c. gray c x y) p.1 ∙ draws x y hx hy ∙ ap (λ o. (unless o (painted b (paint b.pen)) b).drawing x y) (sym p.0)
