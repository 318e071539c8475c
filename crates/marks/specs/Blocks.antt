-- What goes over the wire for due bytes, and what it leaves of the marks. Assumes nothing.
-- A canvas is a list of 8,192 bytes, 64 to a line; marks are a list of 128 words, one to a line.
use Rattle.std.specs.Prelude.{◌≡◌, ℕ, zero, suc, ◌+◌, ◌-◌, ◌*◌, ◌<◌, ◌≤◌, ◌&&◌, List, [], ◌∷◌, ◌++◌, map, length, take, drop, sum_by, slice_index, slice_set}
use Rattle.ssd1329.specs.declared.transfer.Transfer.{Transfer}
use Rattle.ssd1329.specs.declared.transfer.Transfer.TheVariants.{Command, Data}
use Rattle.ssd1329.specs.Chip.{address}
use Rattle.marks.specs.Marks.{bit, inside, due, runs, First, Cleared}

-- some bytes of one line, side by side
pub record Stretch : Type 0 where
  pub line : ℕ
  pub from : ℕ
  pub size : ℕ

-- as many bytes, side by side, of some lines one below the other
pub record Block : Type 0 where
  pub line : ℕ
  pub from : ℕ
  pub size : ℕ
  pub height : ℕ

-- the block of m columns from a on, of the h lines from y on
abbrev pub block : ℕ → ℕ → ℕ → ℕ → Block
block y a m h = record { line = y; from = a; size = m; height = h }

-- a block has a byte, and is all on the canvas
pub record Shaped (b : Block) : Type 0 where
  pub high : 0 < b.height
  pub wide : 0 < b.size
  pub within : b.from + b.size ≤ 64
  pub below : b.line + b.height ≤ 128

-- how many bytes it has
abbrev pub area : Block → ℕ
area b = b.size * b.height

-- the bytes of b are due, and no others
pub record Boxed (ws : List ℕ) (b : Block) : Type 0 where
  pub shaped : Shaped b
  pub marks : (y k : ℕ) → y < 128 → k < 64 → bit (slice_index ws y) k ≡ (inside b.line b.height y && inside b.from b.size k)

-- h lines from y on, m bytes from a on of each, from the top
abbrev pub lines_of : ℕ → ℕ → ℕ → ℕ → List Stretch
lines_of y a m zero = []
lines_of y a m (suc h) = record { line = y; from = a; size = m } ∷ lines_of (y + 1) a m h

abbrev pub parts : Block → List Stretch
parts b = lines_of b.line b.from b.size b.height

-- the bytes of a stretch, as data
abbrev pub row : List ℕ → Stretch → List Transfer
row canvas s = map Data (take s.size (drop (address s.line s.from) canvas))

-- the bytes of some stretches, one after the other
abbrev pub bytes : List ℕ → List Stretch → List Transfer
bytes canvas [] = []
bytes canvas (s ∷ ss) = row canvas s ++ bytes canvas ss

-- the window of a block: 15h with its first and last column, 75h with its first and last line
abbrev pub window : Block → List Transfer
window b = map Command (0x15 ∷ b.from ∷ (b.from + b.size - 1) ∷ 0x75 ∷ b.line ∷ (b.line + b.height - 1) ∷ [])

-- what is sent for a block: its window, and its bytes
abbrev pub words : List ℕ → Block → List Transfer
words canvas b = window b ++ bytes canvas (parts b)

-- what is sent for blocks, one after the other
abbrev pub traffic : List ℕ → List Block → List Transfer
traffic canvas [] = []
traffic canvas (b ∷ bs) = words canvas b ++ traffic canvas bs

-- s is the front part of the first due run of the mark word w, and v is w without it
pub record Front (w : ℕ) (s : Stretch) (v : ℕ) : Type 0 where
  pub len : ℕ
  pub first : First w s.from len
  pub some : 0 < s.size
  pub part : s.size ≤ len
  pub clear : Cleared w s.from s.size v

-- the first due run of w has m bytes at a, and maybe more behind them
pub record Part (w a m : ℕ) : Type 0 where
  pub len : ℕ
  pub first : First w a len
  pub part : m ≤ len

-- One stretch after another, each the front of the first due run of what is left of its line, takes the marks from ws to vs.
abbrev pub Clears : List ℕ → List Stretch → List ℕ → Type 0
Clears ws [] vs = vs ≡ ws
Clears ws (s ∷ ss) vs = (v : ℕ) × (s.line < length ws) × Front (slice_index ws s.line) s v × Clears (slice_set ws s.line v) ss vs

-- the same by blocks
abbrev pub Covers : List ℕ → List Block → List ℕ → Type 0
Covers ws [] vs = vs ≡ ws
Covers ws (b ∷ bs) vs = (us : List ℕ) × Shaped b × Clears ws (parts b) us × Covers us bs vs

-- how many bytes are due
unfoldable pub bytes_due : List ℕ → ℕ
bytes_due ws = sum_by due ws

-- in how many runs
unfoldable pub runs_due : List ℕ → ℕ
runs_due ws = sum_by runs ws

-- the transfers that the due bytes of a line take at most: one for each byte, and six for each run
abbrev pub cost : ℕ → ℕ
cost w = due w + 6 * runs w

-- the same of all lines
unfoldable pub worth : List ℕ → ℕ
worth ws = sum_by cost ws
