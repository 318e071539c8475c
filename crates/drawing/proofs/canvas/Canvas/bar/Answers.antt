use Rattle.std.proofs.Common.{pos, Ok, ap, ◌∙◌, subst}
use Rattle.std.proofs.lemmas.Int.{to_z-of_z}
use Rattle.drawing.specs.Clips.{common, rectangle_refusal}
use Rattle.drawing.specs.Drawing.{Drawn, clipped, placed, bar_paint}
use Rattle.drawing.specs.Pens.{pen_means}
use Rattle.drawing.specs.Solids.{solid}
use Rattle.drawing.proofs.Books.{drawn_by_the_book}
use Rattle.drawing.proofs.Outside.{bar_drawn}
use Rattle.drawing.proofs.canvas.Canvas.bar.Goals as goal

pub returns : goal.returns
returns c =
    let fx = c.ranges.x in let fy = c.ranges.y in
    let x = c.args.x in let y = c.args.y in let w = c.args.w in let h = c.args.h in
    let pen = pen_means c.args.pen.now in
    let made = simp to_z-of_z at c.in_ok-rectangle.ensures in
    let part = c.common-part.ensures ∙ ap (common pen.clip) made.1 in
    let drawn = bar_drawn c.args.self.now c.fill.new.self pen x y w h c.args.pen.now.setting.gray
    (subst (λ a. Drawn c.args.self.now (clipped (placed (solid pen.ink) (pos 0) (pos 0)) a) c.fill.new.self) part c.fill.ensures) in
    record {
      painted = (made.0, drawn);
      book = drawn_by_the_book (rectangle_refusal x y w h) (λ p. bar_paint p x y w h) pen c.args.self.now c.fill.new.self (Ok tt) (made.0, drawn);
    }
