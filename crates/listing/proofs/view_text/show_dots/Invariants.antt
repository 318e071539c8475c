use Rattle.std.specs.Io.KnownBytes.{Appends}
use Rattle.ssd1329.specs.Meaning.{chip, wires}
use Rattle.listing.specs.Viewing.{rows_above}
use Rattle.listing.proofs.view_text.show_dots.Given as goal

abbrev pub invariant-loop-y : goal.invariant-loop-y
invariant-loop-y g l = Appends (g.W.Write.contents l.fn.out) (g.W.Write.contents l.out) (rows_above (wires l.wiring) (chip l.controller) l.y)
