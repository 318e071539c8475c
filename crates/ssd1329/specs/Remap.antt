-- The bits of the re-map byte, bit 0 the lowest. Assumes nothing.
use Rattle.std.specs.Prelude.{ℕ, Bool, not, ◌==◌, bit_and}
use Rattle.ssd1329.specs.Settings.{Settings}

-- some bit of the mask is set
abbrev pub has : ℕ → ℕ → Bool
has n mask = not (bit_and n mask == 0)

-- bits 3, 5 and 7 have to be zero
abbrev pub legal : ℕ → Bool
legal n = bit_and n 0xA8 == 0

-- bit 0: segments count columns from the right
abbrev pub columns_reversed : Settings → Bool
columns_reversed s = has s.remap 0x01

-- bit 1: the halves of a stored byte are exchanged
abbrev pub halves_swapped : Settings → Bool
halves_swapped s = has s.remap 0x02

-- bit 2: the pointers run down the columns
abbrev pub runs_down : Settings → Bool
runs_down s = has s.remap 0x04

-- bit 4: commons scan from the last row back
abbrev pub commons_reversed : Settings → Bool
commons_reversed s = has s.remap 0x10

-- bit 6: even commons on the first 64 pins, odd ones on the last 64
abbrev pub commons_split : Settings → Bool
commons_split s = has s.remap 0x40
