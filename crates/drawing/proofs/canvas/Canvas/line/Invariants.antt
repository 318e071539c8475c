use Rattle.drawing.specs.Drawing.{Drawn, placed, lined}
use Rattle.drawing.proofs.canvas.Canvas.line.Given as goal

abbrev pub invariant-loop-x : goal.invariant-loop-x
invariant-loop-x g l =
    Drawn l.initial.self (lined (placed (g.P.Picture.means l.picture) l.at.x.at l.at.y.at) l.initial.x l.x l.y) l.self
