-- What a panel means, fresh and later. Assumes nothing.
use Rattle.std.specs.Prelude.{◌≡◌, ℕ, cond, List, length, None, Ok, Err, vec_items, ◌==◌}
use Rattle.ssd1329.specs.Chip.{Chip, reset}
use Rattle.ssd1329.specs.Meaning.{chip}
use Rattle.ssd1329.specs.Chip.{blank}
use Rattle.link.specs.declared.panel.Panel.{Panel}
use Rattle.link.specs.Links.{LinkMeaning}
use Rattle.link.specs.Seats.{Seat, seat_chip}

abbrev pub panel_meaning : Panel → LinkMeaning
panel_meaning p = record { chip = seat_chip p.seat; slot = p.slot; room = p.room; taken = p.taken }

-- the memory that a panel was given, as it is now
abbrev pub seat_memory : Seat → List ℕ
seat_memory (Ok c) = (chip c).memory
seat_memory (Err memory) = vec_items memory

-- a fresh link: its controller at reset, its slot closed, nothing taken
abbrev pub fresh_link : Chip → ℕ → LinkMeaning
fresh_link c room = record { chip = c; slot = None; room = room; taken = 0 }

-- over 8,192 bytes a panel can take the transfers that it is given, over other memory none
abbrev pub NewPanel : List ℕ → ℕ → LinkMeaning → Type 0
NewPanel memory transfers m = m ≡ cond (length memory == 8192) (fresh_link (reset memory) transfers) (fresh_link blank 0)
