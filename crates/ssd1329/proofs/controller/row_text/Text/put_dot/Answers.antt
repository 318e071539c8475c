use Rattle.std.proofs.Common.{◌≤◌, length, append_assoc, arith}
use Rattle.ssd1329.specs.RowText.{dot_line}
use Rattle.ssd1329.proofs.Texts.{adds_then, adds_same}
use Rattle.ssd1329.proofs.controller.row_text.Text.put_dot.Goals as goal

-- six texts, one after the other
pub returns : goal.returns
unfolding dot_line
returns c =
    let h : c.args.self.now.len ≤ length c.args.self.now.buffer.now = omega arith in
    rw (← c.y.view_is, ← c.x.view_is, ← c.gray.view_is)
    (adds_same (simp append_assoc)
    (adds_then h (adds_then h (adds_then h (adds_then h (adds_then h c.put_decimal.ensures c.put.ensures) c.put_decimal-2.ensures) c.put-2.ensures) c.put_decimal-3.ensures) c.put-3.ensures))
