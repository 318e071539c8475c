use Rattle.std.proofs.Common.{sym, ap, ◌∙◌, rules}
use Rattle.ssd1329.specs.Fresh.{is_reset}
use Rattle.ssd1329.specs.Meaning.{chip}
use Rattle.ssd1329.proofs.Fresh.{dropped_blank, dropped_passes}
use Rattle.link.specs.Seats.{seat_chip}
use Rattle.link.proofs.panel.calls.PanelLink.close.Goals as goal

pub invariant_of-self-in-Ok-clause-fresh : goal.invariant_of-self-in-Ok-clause-fresh
invariant_of-self-in-Ok-clause-fresh c z =
    let fresh = ap (λ s. is_reset (seat_chip s)) (sym c.in-Ok.is) ∙ c.args.self.now.fresh z in
    ap is_reset c.end_slot.ensures.ended ∙ dropped_passes (chip c.in-Ok.controller) fresh

pub returns-in_default-clause-after : goal.returns-in_default-clause-after
returns-in_default-clause-after c = let e = dropped_blank in search rules
