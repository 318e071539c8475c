-- A panel keeps the laws of links, by the facts that its type keeps.
use Rattle.std.specs.Prelude.{◌≡◌, length, Ok, Err}
use Rattle.std.proofs.Common.{sym, ◌∙◌}
use Rattle.ssd1329.proofs.Fresh.{reset_is, blank_sized}
use Rattle.link.specs.declared.panel.Panel.{Panel}
use Rattle.link.specs.Links.{Lawful}
use Rattle.link.specs.Seats.{Seat, seat_chip}
use Rattle.link.specs.Panels.{panel_meaning}

seat_sized : (s : Seat) → length (seat_chip s).memory ≡ 8192
seat_sized (Ok c) = sym c.memory.ok.0 ∙ c.size
seat_sized (Err memory) = blank_sized

pub panel_lawful : (p : Panel) → Lawful (panel_meaning p)
panel_lawful p = record { sized = seat_sized p.seat; counted = p.counted; fresh = λ z. reset_is (seat_chip p.seat) (p.fresh z); within = p.within }
