-- What a panel sits on: a controller, or memory that is none's. Over such memory the panel means a controller at reset that takes nothing.
use Rattle.std.specs.Prelude.{ℕ, Ok, Err, Result, Vec}
use Rattle.std.specs.declared.alloc.Global.{Global}
use Rattle.ssd1329.specs.declared.controller.Controller.{Controller}
use Rattle.ssd1329.specs.Chip.{Chip}
use Rattle.ssd1329.specs.Meaning.{chip}
use Rattle.ssd1329.specs.Chip.{blank}

abbrev pub Seat : Type 0
Seat = Result Controller (Vec ℕ Global)

abbrev pub seat_chip : Seat → Chip
seat_chip (Ok c) = chip c
seat_chip (Err memory) = blank
