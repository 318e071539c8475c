use Rattle.std.proofs.Common.{leb, length, take, ap, ◌∙◌, arith}
use Rattle.std.proofs.lemmas.List.{length-take, take_min}
use Rattle.script.specs.Parts.{parts, lines_by, room}
use Rattle.script.specs.Ahead.{ahead}
use Rattle.script.proofs.ahead.Ahead.of.Goals as goal

pub invariant_of-result : goal.invariant_of-result
invariant_of-result c = record { short = omega (arith, length-take c.min.result c.args.text.now) }

pub returns : goal.returns
unfolding ahead
returns c =
    let text = c.args.text.now in
    ap (λ s. lines_by (leb (length text) room) (parts 10 s)) (ap (λ n. take n text) c.min.ensures ∙ take_min room text)
