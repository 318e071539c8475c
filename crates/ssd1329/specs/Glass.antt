-- From memory to glass, through the controller's registers and the module's wiring. Assumes nothing.
use Rattle.std.specs.Prelude.{ℕ, ◌+◌, ◌-◌, ◌*◌, ◌/◌, ◌%◌, Bool, false, cond, not, ◌&&◌, Ok, Err, Result, ◌==◌, nat_lt, slice_index}
use Rattle.refusal.specs.declared.refusals.Refusal.{Refusal}
use Rattle.refusal.specs.declared.refusals.Refusal.TheVariants.{Position}
use Rattle.ssd1329.specs.declared.shows.Shows.{Shows}
use Rattle.ssd1329.specs.declared.shows.Shows.TheVariants.{Astray, Dark, Lit}
use Rattle.ssd1329.specs.Settings.{Settings}
use Rattle.ssd1329.specs.Remap.{columns_reversed, commons_reversed, commons_split}
use Rattle.ssd1329.specs.Chip.{Chip, address}

-- the card of a module: a wiring
pub record Wires : Type 0 where
  pub mirrored : Bool
  pub flipped : Bool
  pub comb : Bool
  pub shift : ℕ

abbrev pub card : Bool → Bool → Bool → ℕ → Wires
card mirrored flipped comb shift = record { mirrored = mirrored; flipped = flipped; comb = comb; shift = shift }

abbrev pub unmarked : Wires
unmarked = card false false false 0

-- the segment of the dots (x, _)
abbrev pub segment_of : Wires → ℕ → ℕ
segment_of w x = cond w.mirrored (127 - x) x

-- the place of the dots (_, y)
abbrev pub place_of : Wires → ℕ → ℕ
place_of w y = cond w.flipped ((127 - y + w.shift) % 128) ((y + w.shift) % 128)

-- a comb glass has its even places on the first 64 pins and its odd ones on the last 64
abbrev pub combed : ℕ → ℕ
combed q = cond (q % 2 == 0) (q / 2) (64 + q / 2)

abbrev pub pin_of : Wires → ℕ → ℕ
pin_of w y = cond w.comb (combed (place_of w y)) (place_of w y)

-- the common that a pin carries
abbrev pub common_on : Settings → ℕ → ℕ
common_on s pin = cond (commons_split s) (cond (nat_lt pin 64) (2 * pin) (2 * (pin - 64) + 1)) pin

-- the row that a common scans
abbrev pub row_of : Settings → ℕ → ℕ
row_of s common = cond (commons_reversed s) ((s.mux + s.offset + 128 - common) % 128) ((common + s.offset) % 128)

-- an even segment takes the low four bits, an odd one the high four
abbrev pub half : ℕ → ℕ → ℕ
half segment byte = cond (segment % 2 == 0) (byte % 16) (byte / 16)

abbrev pub column_of : Settings → ℕ → ℕ
column_of s segment = cond (columns_reversed s) (63 - segment / 2) (segment / 2)

-- what a segment shows in a row: a row above mux is dark
abbrev pub cell : Chip → ℕ → ℕ → ℕ
cell c segment row =
    cond (nat_lt c.settings.mux row) 0
    (half segment (slice_index c.memory (address ((row + c.settings.start) % 128) (column_of c.settings segment))))

abbrev pub lit : Chip → Bool
lit c = c.awake && not c.astray

abbrev pub shown : Chip → Shows
shown c = cond c.astray Astray (cond c.awake Lit Dark)

-- the gray of dot (x, y), counted from the top left; every dot is 0 where the glass is not lit
unfoldable pub glass : Wires → Chip → ℕ → ℕ → ℕ
glass w c x y = cond (lit c) (cell c (segment_of w x) (row_of c.settings (common_on c.settings (pin_of w y)))) 0

-- what a caller is told who asks for a dot: a position above 127 is refused
abbrev pub glass_answer : Wires → Chip → ℕ → ℕ → Result ℕ Refusal
glass_answer w c x y = cond (nat_lt x 128 && nat_lt y 128) (Ok (glass w c x y)) (Err Position)
