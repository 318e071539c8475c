use Rattle.ssd1329.specs.Meaning.{chip, wires}
use Rattle.ssd1329.specs.Glass.{glass}
use Rattle.ssd1329.proofs.Texts.{SoFar}
use Rattle.ssd1329.proofs.controller.Controller.row_text.Given as goal

abbrev pub invariant-loop-x : goal.invariant-loop-x
invariant-loop-x l = SoFar (λ x. glass (wires l.wiring) (chip l.self) x l.row) l.row l.x l.initial.text l.text
