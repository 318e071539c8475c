use Rattle.std.proofs.Common.{Ok, ap, ◌∙◌}
use Rattle.std.proofs.lemmas.Int.{to_z-of_z}
use Rattle.drawing.specs.Clips.{common, position_refusal}
use Rattle.drawing.specs.Drawing.{place_paint}
use Rattle.drawing.specs.Pens.{pen_means}
use Rattle.drawing.proofs.Books.{drawn_by_the_book}
use Rattle.drawing.proofs.Outside.{place_drawn}
use Rattle.drawing.proofs.canvas.Canvas.place.Goals as goal

pub returns : goal.returns
returns g c =
    let fx = c.ranges.x in let fy = c.ranges.y in
    let P = g.P.Picture.means c.args.picture.now in
    let x = c.args.x in let y = c.args.y in
    let pen = pen_means c.args.pen.now in
    let made = simp to_z-of_z at c.in_ok-corner.ensures.ok in
    let lies = rw (made.1, made.2, c.width.ensures, c.height.ensures) at c.at-rectangle.ensures in
    let part = c.common-part.ensures ∙ ap (common pen.clip) lies in
    let drawn = place_drawn c.args.self.now c.fill.new.self pen P x y (rw (made.1, made.2, part) at c.fill.ensures) in
    record {
      painted = (made.0, drawn);
      book = drawn_by_the_book (position_refusal x y) (λ p. place_paint p P x y) pen c.args.self.now c.fill.new.self (Ok tt) (made.0, drawn);
    }
