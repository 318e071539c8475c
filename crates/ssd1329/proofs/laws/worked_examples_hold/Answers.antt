use Rattle.std.proofs.Common.{rules}
use Rattle.ssd1329.specs.Chip.{reset, blank, step, run, dropped}
use Rattle.ssd1329.specs.Glass.{glass}
use Rattle.ssd1329.proofs.Blank.{all_zero}
use Rattle.ssd1329.proofs.laws.worked_examples_hold.Goals as goal

-- each example computes
pub returns : goal.returns
unfolding reset blank step run dropped glass
returns c = search (rules, all_zero)
