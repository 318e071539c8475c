-- Whether a controller is at reset, as a test. Assumes nothing.
use Rattle.std.specs.Prelude.{ℕ, Bool, true, false, not, ◌&&◌, Some, None, Option, ◌==◌}
use Rattle.ssd1329.specs.declared.controller.Awaited.{Awaited}
use Rattle.ssd1329.specs.declared.controller.Awaited.TheVariants.{Opcode, FirstColumn, LastColumn, FirstLine, LastLine, Remap, StartLine, Offset, Mux}
use Rattle.ssd1329.specs.Area.{Area}
use Rattle.ssd1329.specs.Settings.{Settings}
use Rattle.ssd1329.specs.Chip.{Chip}

abbrev pub is_whole : Area → Bool
is_whole a = a.left == 0 && a.right == 63 && a.top == 0 && a.bottom == 127 && a.column == 0 && a.line == 0

abbrev pub is_at_reset : Settings → Bool
is_at_reset s = s.remap == 0 && s.start == 0 && s.offset == 0 && s.mux == 127

abbrev pub awaits_opcode : Awaited → Bool
awaits_opcode Opcode = true
awaits_opcode FirstColumn = false
awaits_opcode (LastColumn first) = false
awaits_opcode FirstLine = false
awaits_opcode (LastLine first) = false
awaits_opcode Remap = false
awaits_opcode StartLine = false
awaits_opcode Offset = false
awaits_opcode Mux = false

abbrev pub holds_nothing : Option ℕ → Bool
holds_nothing None = true
holds_nothing (Some b) = false

unfoldable pub is_reset : Chip → Bool
is_reset c = is_whole c.area && is_at_reset c.settings && not c.awake && not c.astray && awaits_opcode c.awaited && holds_nothing c.held
