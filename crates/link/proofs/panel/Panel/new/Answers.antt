use Rattle.std.proofs.Common.{rules}
use Rattle.ssd1329.proofs.Fresh.{reset_passes, blank_passes, reset_memory}
use Rattle.link.proofs.panel.Panel.new.Goals as goal

pub invariant_of-result-clause-fresh : goal.invariant_of-result-clause-fresh
invariant_of-result-clause-fresh c =
    let made = reset_passes c.args.memory.items in
    let idle = blank_passes in
    search rules

pub returns-clause-keeps : goal.returns-clause-keeps
returns-clause-keeps c = let e = reset_memory c.args.memory.items in search rules
