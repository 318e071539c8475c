use Rattle.std.proofs.Common.{rules}
use Rattle.ssd1329.specs.Chip.{reset, blank}
use Rattle.link.proofs.panel.Panel.shows.Goals as goal

pub returns-in-Err : goal.returns-in-Err
unfolding reset blank
returns-in-Err c = search rules
