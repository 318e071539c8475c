-- The settings that a wiring needs, and the theorem that justifies them. Assumes nothing.
use Rattle.std.specs.Prelude.{◌≡◌, ℕ, ◌+◌, ◌-◌, ◌/◌, ◌%◌, ◌<◌, true, cond, slice_index}
use Rattle.ssd1329.specs.Settings.{Settings}
use Rattle.ssd1329.specs.Chip.{Chip, address}
use Rattle.ssd1329.specs.Glass.{Wires, half, lit, glass}

abbrev pub settings_for : Wires → Settings
settings_for w =
    record {
      remap = cond w.mirrored 0x03 0 + cond w.flipped 0x10 0 + cond w.comb 0x40 0;
      start = 0;
      offset = cond w.flipped w.shift ((128 - w.shift) % 128);
      mux = 127;
    }

-- the half of a memory byte that belongs to dot x: the low half to an even x, and the other way round on a mirrored module
abbrev pub half_for : Wires → ℕ → ℕ → ℕ
half_for w x byte = cond w.mirrored (half (x + 1) byte) (half x byte)

-- Every module that is lit under the settings that its wiring needs shows at (x, y)
-- the half that belongs to dot x of memory line y, column x div 2.
abbrev pub EveryWiringShowsTheMemory : Type 0
EveryWiringShowsTheMemory =
    (w : Wires) (c : Chip) (x y : ℕ) → w.shift < 128 → x < 128 → y < 128
    → c.settings ≡ settings_for w → lit c ≡ true
    → glass w c x y ≡ half_for w x (slice_index c.memory (address y (x / 2)))
