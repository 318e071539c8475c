use Rattle.std.proofs.Common.{◌≡◌, ◌*◌, ◌/◌, ◌%◌, ap, ◌∙◌, bit_or, arith}
use Rattle.std.proofs.lemmas.Nat.{or_shifted}
use Rattle.ssd1329.proofs.controller.rules.swapped.Goals as goal

-- the high half falls out on the left and comes back on the right
pub returns : goal.returns
returns c =
    let b = c.args.b in
    let left : b * 16 % 256 ≡ b % 16 * 16 = omega arith in
    c.rotate_left.ensures ∙ ap (λ n. bit_or n (b / 16)) left ∙ or_shifted (b % 16) 4 (b / 16) (omega arith)
