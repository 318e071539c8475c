-- What the traffic of blocks, and of settings, does to a controller. Assumes nothing.
use Rattle.std.specs.Prelude.{◌≡◌, ℕ, ◌<◌, ◌≤◌, true, false, cond, List, [], ◌∷◌, ◌++◌, length, None, slice_index}
use Rattle.ssd1329.specs.declared.controller.Awaited.TheVariants.{Opcode}
use Rattle.ssd1329.specs.declared.transfer.Transfer.{Transfer}
use Rattle.ssd1329.specs.declared.transfer.Transfer.TheVariants.{Command}
use Rattle.ssd1329.specs.Settings.{Settings, with_remap, with_offset}
use Rattle.ssd1329.specs.Remap.{legal, halves_swapped, runs_down}
use Rattle.ssd1329.specs.Chip.{Chip, address, swapped, asleep_or_awake, set_up, run, dropped}
use Rattle.marks.specs.Marks.{bit}
use Rattle.marks.specs.Blocks.{Block, traffic, Covers}

-- a controller between two slots: it does as it is told, holds no byte and awaits no operand
pub record Idle (c : Chip) : Type 0 where
  pub whole : length c.memory ≡ 8192
  pub idles : c.awaited ≡ Opcode
  pub true_to : c.astray ≡ false
  pub free : c.held ≡ None

-- the byte of line y and column x
abbrev pub byte : Chip → ℕ → ℕ → ℕ
byte c y x = slice_index c.memory (address y x)

-- what the memory keeps of a byte that is sent
abbrev pub kept : Settings → ℕ → ℕ
kept s b = cond (halves_swapped s) (swapped b) b

-- The memory went from old to new as the marks went from ws to vs.
pub record Landed (old new : Chip) (canvas ws vs : List ℕ) : Type 0 where
  -- a mark that is gone: the byte is stored
  pub put : (y x : ℕ) → x < 64 → bit (slice_index ws y) x ≡ true → bit (slice_index vs y) x ≡ false → byte new y x ≡ kept old.settings (slice_index canvas (address y x))
  -- a byte that was not due, or is due still, is as it was
  pub clean : (y x : ℕ) → x < 64 → bit (slice_index ws y) x ≡ false → byte new y x ≡ byte old y x
  pub still : (y x : ℕ) → x < 64 → bit (slice_index vs y) x ≡ true → byte new y x ≡ byte old y x
  -- no mark is set
  pub fewer : (y x : ℕ) → bit (slice_index ws y) x ≡ false → bit (slice_index vs y) x ≡ false

-- what blocks and a closing command leave of the controller c when the slot ends
pub record Closes (c d : Chip) (canvas ws vs : List ℕ) : Type 0 where
  pub idle : Idle d
  pub settings : d.settings ≡ c.settings
  pub landed : Landed c d canvas ws vs

-- An idle controller that runs along the lines is fed blocks which take the marks from ws to vs, and a closing command.
-- When the slot ends it is idle again: it has stored those bytes and no others, and is awake if it was, or was told to be.
abbrev pub TrafficLands : Type 0
TrafficLands =
    (c : Chip) (canvas ws : List ℕ) (bs : List Block) (vs : List ℕ) → Idle c → runs_down c.settings ≡ false → length canvas ≡ 8192 → length ws ≡ 128 → Covers ws bs vs
    → (let d = dropped (run c (traffic canvas bs ++ Command 0xE3 ∷ [])) in Closes c d canvas ws vs × (d.awake ≡ c.awake))
    × (let d = dropped (run c (traffic canvas bs ++ Command 0xAF ∷ [])) in Closes c d canvas ws vs × (d.awake ≡ true))

-- An idle controller that is sent a setting is idle again, and only that register has changed.
pub record SettingsLand : Type 0 where
  pub remap : (c : Chip) (r : ℕ) (ts : List Transfer) → Idle c → legal r ≡ true
      → (let d = set_up c (with_remap c.settings r) in Idle d × (run c (Command 0xA0 ∷ Command r ∷ ts) ≡ run d ts))
  pub offset : (c : Chip) (o : ℕ) (ts : List Transfer) → Idle c → o ≤ 127
      → (let d = set_up c (with_offset c.settings o) in Idle d × (run c (Command 0xA2 ∷ Command o ∷ ts) ≡ run d ts))
  -- the closing commands alone, and the end of the slot
  pub quiet : (c : Chip) → Idle c → run c (Command 0xE3 ∷ []) ≡ c
  pub wakes : (c : Chip) → Idle c → Idle (asleep_or_awake c true) × (run c (Command 0xAF ∷ []) ≡ asleep_or_awake c true)
  pub ends : (c : Chip) → Idle c → dropped c ≡ c
