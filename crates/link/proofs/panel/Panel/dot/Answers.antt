use Rattle.std.proofs.Common.{rules}
use Rattle.ssd1329.specs.Chip.{reset, blank}
use Rattle.ssd1329.specs.Glass.{glass}
use Rattle.link.proofs.panel.Panel.dot.Goals as goal

pub returns-in-Err-2 : goal.returns-in-Err-2
unfolding reset blank glass
returns-in-Err-2 c = search rules
