use Rattle.std.proofs.Common.{◌≡◌, ℕ, ◌<◌, refl, arith, rules}
use Rattle.ssd1329.specs.Meaning.{chip, wires}
use Rattle.ssd1329.specs.Glass.{glass}
use Rattle.ssd1329.specs.RowText.{row_text}
use Rattle.ssd1329.proofs.Texts.{none_so_far, dark_more, lit_more, so_far_is}
use Rattle.ssd1329.proofs.controller.Controller.row_text.Goals as goal
use Rattle.ssd1329.proofs.controller.Controller.row_text.Goals.{then-gray-gt0, else-gray-gt0}

pub loop-x-init : goal.loop-x-init
loop-x-init c = none_so_far _ _ _ refl

pub loop-x-preserved : goal.loop-x-preserved
loop-x-preserved c =
    let gray : ℕ → ℕ = λ x. glass (wires c.args.wiring.now) (chip c.args.self.now) x c.in_ok-row.row in
    let y = c.in_ok-row.row in
    let x = c.loop-x.x in
    let g = c.gray-gray.result in
    let is = c.gray-gray.ensures in
    let k : g < 16 = omega (arith, c.gray.view_is, c.gray.invariant) in
    elim c.if-gray-gt0.branch [
      | then-gray-gt0 w ↦ so_far_is w.text-is (lit_more gray y x g _ _ _ is (rw (← c.gray.view_is) w.if-gray-gt0.true) k (omega arith) c.loop-x.invariant w.put_dot.ensures)
      | else-gray-gt0 w ↦ so_far_is w.text-is (dark_more gray y x g _ _ is (rw (← c.gray.view_is) w.if-gray-gt0.false) c.loop-x.invariant)
    ]

pub returns : goal.returns
unfolding row_text
returns c =
    let gray : ℕ → ℕ = λ x. glass (wires c.args.wiring.now) (chip c.args.self.now) x c.in_ok-row.row in
    let whole : c.loop-x.x ≡ 128 = omega arith in
    let all = rw whole at c.loop-x.invariant in
    let ends = all.added.put.ends in
    let text = all.added.put.text in
    rw (← c.in_ok-row.ensures) (record { row = omega arith; long = omega arith; answer = omega (arith, ends); bound = omega (arith, all.short); text = search rules })
