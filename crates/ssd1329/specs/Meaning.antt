-- What the values of the program mean. Assumes nothing.
use Rattle.std.specs.Prelude.{vec_items}
use Rattle.ssd1329.specs.declared.controller.Window.{Window}
use Rattle.ssd1329.specs.declared.controller.Registers.{Registers}
use Rattle.ssd1329.specs.declared.controller.Controller.{Controller}
use Rattle.ssd1329.specs.declared.wiring.Wiring.{Wiring}
use Rattle.ssd1329.specs.Area.{Area}
use Rattle.ssd1329.specs.Settings.{Settings}
use Rattle.ssd1329.specs.Chip.{Chip}
use Rattle.ssd1329.specs.Glass.{Wires}

abbrev pub area : Window → Area
area w =
    record {
      left = w.columns.first;
      right = w.columns.last;
      top = w.lines.first;
      bottom = w.lines.last;
      column = w.columns.at;
      line = w.lines.at;
    }

abbrev pub settings : Registers → Settings
settings r = record { remap = r.remap; start = r.start; offset = r.offset; mux = r.mux }

abbrev pub chip : Controller → Chip
chip c = record { memory = vec_items c.memory; area = area c.window; settings = settings c.registers; awake = c.awake; astray = c.astray; awaited = c.awaited; held = c.held }

abbrev pub wires : Wiring → Wires
wires w = record { mirrored = w.mirrored; flipped = w.flipped; comb = w.comb; shift = w.shift }
