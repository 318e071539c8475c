-- Eight examples, worked by the rules. Assumes nothing.
use Rattle.std.specs.Prelude.{◌≡◌, ℕ, true, false, List, [], ◌∷◌, ◌++◌, map, slice_index_or}
use Rattle.ssd1329.specs.declared.shows.Shows.TheVariants.{Dark}
use Rattle.ssd1329.specs.declared.transfer.Transfer.{Transfer}
use Rattle.ssd1329.specs.declared.transfer.Transfer.TheVariants.{Command, Data}
use Rattle.ssd1329.specs.Settings.{Settings}
use Rattle.ssd1329.specs.Chip.{Chip, blank, run, dropped, address}
use Rattle.ssd1329.specs.Glass.{card, unmarked, place_of, row_of, shown, glass}

abbrev pub commands : List ℕ → List Transfer
commands = map Command

-- a window of one byte, at line 0, column 0
abbrev pub corner : List Transfer
corner = commands (0x15 ∷ 0 ∷ 0 ∷ 0x75 ∷ 0 ∷ 0 ∷ [])

abbrev pub one_byte : Chip
one_byte = run blank (corner ++ Data 0x5A ∷ commands (0xE3 ∷ 0xAF ∷ []))

abbrev pub mirrored_byte : Chip
mirrored_byte = run blank (commands (0xA0 ∷ 0x03 ∷ []) ++ corner ++ Data 0x5A ∷ commands (0xE3 ∷ 0xAF ∷ []))

-- the slot ends on the data byte, and AFh comes in the next
abbrev pub lost_byte : Chip
lost_byte = run (dropped (run blank (corner ++ Data 0x5A ∷ []))) (commands (0xAF ∷ []))

-- five bytes into a window of four
abbrev pub five_bytes : Chip
five_bytes = run blank (commands (0x15 ∷ 0 ∷ 1 ∷ 0x75 ∷ 0 ∷ 1 ∷ []) ++ map Data (1 ∷ 2 ∷ 3 ∷ 4 ∷ 5 ∷ []) ++ commands (0xE3 ∷ []))

abbrev pub turned : Settings
turned = record { remap = 0x10; start = 0; offset = 8; mux = 127 }

pub record WorkedExamples : Type 0 where
  pub no_transfer_is_dark : shown blank ≡ Dark
  pub low_half_first : glass unmarked one_byte 0 0 ≡ 10
  pub high_half_next : glass unmarked one_byte 1 0 ≡ 5
  pub mirrored_high : glass unmarked mirrored_byte 126 0 ≡ 5
  pub mirrored_low : glass unmarked mirrored_byte 127 0 ≡ 10
  pub closing_drops : (x y : ℕ) → glass unmarked lost_byte x y ≡ 0
  pub last_column_taken : (run blank (commands (0x15 ∷ 0x3F ∷ 0x3F ∷ []))).astray ≡ false
  pub least_mux_taken : (run blank (commands (0xA8 ∷ 0x0F ∷ []))).astray ≡ false
  pub column_beyond_astray : (run blank (commands (0x15 ∷ 0x40 ∷ 0x40 ∷ []))).astray ≡ true
  pub mux_below_astray : (run blank (commands (0xA8 ∷ 0x0E ∷ []))).astray ≡ true
  pub first_common_turned : row_of turned 0 ≡ 7
  pub ninth_common_turned : row_of turned 8 ≡ 127
  pub fifth_goes_round : slice_index_or five_bytes.memory (address 0 0) 0 ≡ 5
  pub flipped_place : place_of (card false true false 5) 0 ≡ 4
