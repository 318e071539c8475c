use Rattle.ssd1329.specs.Meaning.{chip, wires}
use Rattle.ssd1329.specs.RowTextCall.{Written}
use Rattle.listing.proofs.Rows.{none_above, row_more}
use Rattle.listing.proofs.view_text.show_dots.Goals as goal

pub loop-y-init : goal.loop-y-init
loop-y-init g c = none_above _ _ _

pub loop-y-preserved : goal.loop-y-preserved
loop-y-preserved g c =
    let row : Written (wires c.args.wiring.now) (chip c.args.controller.now) c.loop-y.y c.loop-y.row c.row_text.new.out c.unwrap-n.result = rw c.unwrap-n.ensures at c.row_text.ensures in
    row_more _ _ _ _ _ c.loop-y.y row c.loop-y.invariant c.in_ok-write_all.ensures.bytes
