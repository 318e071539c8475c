-- The controller as a pure machine: its state, and what a transfer does to it. Assumes nothing.
use Rattle.std.specs.Prelude.{ℕ, ◌+◌, ◌*◌, ◌/◌, ◌%◌, Bool, true, false, cond, ◌&&◌, List, [], ◌∷◌, replicate, Some, None, Option, ◌==◌, nat_le, slice_set}
use Rattle.ssd1329.specs.declared.controller.Awaited.{Awaited}
use Rattle.ssd1329.specs.declared.controller.Awaited.TheVariants.{Opcode, FirstColumn, LastColumn, FirstLine, LastLine, Remap, StartLine, Offset, Mux}
use Rattle.ssd1329.specs.declared.transfer.Transfer.{Transfer}
use Rattle.ssd1329.specs.declared.transfer.Transfer.TheVariants.{Command, Data}
use Rattle.ssd1329.specs.Area.{Area, whole, columns, lines, advanced}
use Rattle.ssd1329.specs.Settings.{Settings, at_reset, with_remap, with_start, with_offset, with_mux}
use Rattle.ssd1329.specs.Remap.{legal, halves_swapped, runs_down}

pub record Chip : Type 0 where
  -- 128 lines of 64 bytes
  pub memory : List ℕ
  pub area : Area
  pub settings : Settings
  pub awake : Bool
  pub astray : Bool
  -- what the next command byte is taken for
  pub awaited : Awaited
  -- a data byte that is not yet stored
  pub held : Option ℕ

-- reset does not set the memory
unfoldable pub reset : List ℕ → Chip
reset memory = record { memory = memory; area = whole; settings = at_reset; awake = false; astray = false; awaited = Opcode; held = None }

-- a controller at reset whose memory is all 0
unfoldable pub blank : Chip
blank = reset (replicate 8192 0)

-- the parts that a transfer changes

abbrev pub lost : Chip → Chip
lost c = record { memory = c.memory; area = c.area; settings = c.settings; awake = c.awake; astray = true; awaited = c.awaited; held = c.held }

abbrev pub awaiting : Chip → Awaited → Chip
awaiting c a = record { memory = c.memory; area = c.area; settings = c.settings; awake = c.awake; astray = c.astray; awaited = a; held = c.held }

abbrev pub holding : Chip → Option ℕ → Chip
holding c h = record { memory = c.memory; area = c.area; settings = c.settings; awake = c.awake; astray = c.astray; awaited = c.awaited; held = h }

abbrev pub asleep_or_awake : Chip → Bool → Chip
asleep_or_awake c b = record { memory = c.memory; area = c.area; settings = c.settings; awake = b; astray = c.astray; awaited = c.awaited; held = c.held }

-- the last operand has come
abbrev pub windowed : Chip → Area → Chip
windowed c a = record { memory = c.memory; area = a; settings = c.settings; awake = c.awake; astray = c.astray; awaited = Opcode; held = c.held }

abbrev pub set_up : Chip → Settings → Chip
set_up c s = record { memory = c.memory; area = c.area; settings = s; awake = c.awake; astray = c.astray; awaited = Opcode; held = c.held }

-- storing

abbrev pub swapped : ℕ → ℕ
swapped b = b % 16 * 16 + b / 16

-- where a line and a column stand in the memory
abbrev pub address : ℕ → ℕ → ℕ
address line column = line * 64 + column

-- a byte goes to the memory at both pointers, its halves exchanged if so set, and the pointers move on
abbrev pub put : Chip → ℕ → Chip
put c b =
    record {
      memory = slice_set c.memory (address c.area.line c.area.column) (cond (halves_swapped c.settings) (swapped b) b);
      area = advanced c.area (runs_down c.settings);
      settings = c.settings;
      awake = c.awake;
      astray = c.astray;
      awaited = c.awaited;
      held = None;
    }

-- a held byte is stored
abbrev pub stored : Chip → Chip
stored c = elim c.held [ None ↦ c | Some b ↦ put c b ]

-- commands

abbrev pub opcode_met : Chip → ℕ → Chip
opcode_met c b =
    cond (b == 0x15) (awaiting c FirstColumn)
    (cond (b == 0x75) (awaiting c FirstLine)
    (cond (b == 0xA0) (awaiting c Remap)
    (cond (b == 0xA1) (awaiting c StartLine)
    (cond (b == 0xA2) (awaiting c Offset)
    (cond (b == 0xA8) (awaiting c Mux)
    (cond (b == 0xAE) (asleep_or_awake c false)
    (cond (b == 0xAF) (asleep_or_awake c true)
    (cond (b == 0xE3) c (lost c)))))))))

-- operands are judged when the last one has come
abbrev pub command_met : Chip → Awaited → ℕ → Chip
command_met c Opcode b = opcode_met c b
command_met c FirstColumn b = awaiting c (LastColumn b)
command_met c (LastColumn first) b = cond (nat_le first b && nat_le b 63) (windowed c (columns c.area first b)) (lost c)
command_met c FirstLine b = awaiting c (LastLine b)
command_met c (LastLine first) b = cond (nat_le first b && nat_le b 127) (windowed c (lines c.area first b)) (lost c)
command_met c Remap b = cond (legal b) (set_up c (with_remap c.settings b)) (lost c)
command_met c StartLine b = cond (nat_le b 127) (set_up c (with_start c.settings b)) (lost c)
command_met c Offset b = cond (nat_le b 127) (set_up c (with_offset c.settings b)) (lost c)
command_met c Mux b = cond (nat_le 15 b && nat_le b 127) (set_up c (with_mux c.settings b)) (lost c)

-- a data byte is held; where an operand is awaited it leads astray
abbrev pub data_met : Chip → Awaited → ℕ → Chip
data_met c Opcode b = holding c (Some b)
data_met c FirstColumn b = lost c
data_met c (LastColumn first) b = lost c
data_met c FirstLine b = lost c
data_met c (LastLine first) b = lost c
data_met c Remap b = lost c
data_met c StartLine b = lost c
data_met c Offset b = lost c
data_met c Mux b = lost c

abbrev pub met : Chip → Transfer → Chip
met c (Command b) = command_met c c.awaited b
met c (Data b) = data_met c c.awaited b

-- a transfer: an astray controller changes no more, and a held byte is stored first
unfoldable pub step : Chip → Transfer → Chip
step c t = elim c.astray [ true ↦ c | false ↦ met (stored c) t ]

-- one transfer after another
unfoldable pub run : Chip → List Transfer → Chip
run c [] = c
run c (t ∷ ts) = run (step c t) ts

-- the end of a slot: a held byte is dropped, and no pointer moves
unfoldable pub dropped : Chip → Chip
dropped c = holding c None
