use Rattle.drawing.specs.Clips.{span_side}
use Rattle.drawing.specs.Drawing.{Drawn, placed, ruled}
use Rattle.drawing.proofs.canvas.Canvas.fill.Given as goal

abbrev pub invariant-loop-y : goal.invariant-loop-y
invariant-loop-y g l =
    Drawn l.initial.self (ruled (placed (g.P.Picture.means l.picture) l.at.x.at l.at.y.at) (span_side l.clip.across) l.initial.y l.y) l.self
