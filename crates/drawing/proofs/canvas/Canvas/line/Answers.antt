use Rattle.std.proofs.Common.{◌≤◌, sym, ◌∙◌, arith}
use Rattle.drawing.specs.Drawing.{Paint, placed}
use Rattle.drawing.proofs.Steps.{line_some, line_none}
use Rattle.drawing.proofs.canvas.Canvas.line.Goals as goal
use Rattle.drawing.proofs.canvas.Canvas.line.Goals.{in-Some, in_default}

pub loop-x-preserved : goal.loop-x-preserved
loop-x-preserved g c =
    let t : Paint = placed (g.P.Picture.means c.args.picture.now) c.args.at.x.at c.args.at.y.at in
    let a : c.args.across.from ≤ c.loop-x.x = omega arith in
    elim c.match-tint.branch [
      | in-Some w ↦ simp w.self-is (line_some c.args.self.now c.loop-x.self w.put.new.self t c.args.across.from c.loop-x.x c.args.y w.in-Some.gray a
          (sym c.tint.ensures.value ∙ w.in-Some.is) c.loop-x.invariant w.put.ensures)
      | in_default w ↦ simp w.self-is (line_none c.args.self.now c.loop-x.self t c.args.across.from c.loop-x.x c.args.y a
          (sym c.tint.ensures.value ∙ w.in_default.is) c.loop-x.invariant)
    ]
