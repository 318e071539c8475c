use Rattle.std.proofs.Common.{ap, ◌∙◌}
use Rattle.ssd1329.specs.Chip.{reset, blank}
use Rattle.ssd1329.proofs.controller.Controller.blank.Goals as goal

pub returns : goal.returns
unfolding blank
returns c = c.at_reset.ensures ∙ ap reset (c.in_ok-vec.ensures.items_if_clones_equal (λ _ same. same))
