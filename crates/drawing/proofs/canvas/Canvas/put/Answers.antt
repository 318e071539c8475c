use Rattle.std.proofs.Common.{◌+◌, ◌*◌, ◌/◌, ◌<◌, get_or, arith, rules}
use Rattle.std.proofs.lemmas.Nat.{one_shl}
use Rattle.std.proofs.lemmas.Bool.Decides.{nat_tests}
use Rattle.drawing.proofs.OneDot.{put_is, put_none}
use Rattle.drawing.specs.Dots.{gray}
use Rattle.drawing.proofs.canvas.Canvas.put.Goals as goal
use Rattle.drawing.proofs.canvas.Canvas.put.Goals.{then-dot-eq0, else-dot-eq0}

pub returns-then-new-old : goal.returns-then-new-old
returns-then-new-old c =
    rw (one_shl (c.args.dot.x / 2) 64 (omega arith))
    (put_is c.args.self.now c.args.dot.x c.args.dot.y c.args.gray c.if-dot-eq0.new (omega arith) (omega arith) (omega arith) (search rules) (search rules) (search rules) (elim c.if-dot-eq0.branch [ then-dot-eq0 w ↦ let n = w.new-is in let t = w.if-dot-eq0.true in grind (arith, nat_tests) | else-dot-eq0 w ↦ let n = w.new-is in let t = w.if-dot-eq0.false in grind (arith, nat_tests) ]) (search rules))

pub returns-else-new-old : goal.returns-else-new-old
unfolding gray
returns-else-new-old c = put_none c.args.self.now c.args.dot.x c.args.dot.y c.args.gray
    (let small : get_or c.args.self.now.cells (c.args.dot.y * 64 + c.args.dot.x / 2) 0 < 256 = search rules in
    elim c.if-dot-eq0.branch [ then-dot-eq0 w ↦ let n = w.new-is in let t = w.if-dot-eq0.true in grind (arith, nat_tests) | else-dot-eq0 w ↦ let n = w.new-is in let t = w.if-dot-eq0.false in grind (arith, nat_tests) ])
