-- The dots of a canvas, and its marks. Assumes nothing.
use Rattle.std.specs.Prelude.{◌≡◌, ℕ, ◌+◌, ◌*◌, ◌/◌, ◌%◌, ◌<◌, Bool, cond, not, ◌&&◌, ◌||◌, length, replicate, ◌==◌, slice_index}
use Rattle.marks.specs.Marks.{bit}
use Rattle.drawing.specs.declared.canvas.Canvas.{Canvas}

-- one of the two dots of a byte: the low half is the even one
abbrev pub half : ℕ → ℕ → ℕ
half byte x = cond (x % 2 == 0) (byte % 16) (byte / 16)

-- the gray of the dot (x, y)
unfoldable pub gray : Canvas → ℕ → ℕ → ℕ
gray c x y = half (slice_index c.cells (y * 64 + x / 2)) x

-- byte k of line y is due
unfoldable pub due : Canvas → ℕ → ℕ → Bool
due c y k = bit (slice_index c.due y) k

-- every gray 0, every byte due
abbrev pub fresh_canvas : Canvas
fresh_canvas = record { cells = replicate 8192 0; due = replicate 128 18446744073709551615 }

-- 128 lines of 64 bytes, and a word of marks for each line
pub record Whole (c : Canvas) : Type 0 where
  pub cells : length c.cells ≡ 8192
  pub words : length c.due ≡ 128
  pub bytes : (i : ℕ) → i < 8192 → slice_index c.cells i < 256

-- the dot (x, y) has got a gray; its byte became due if that changed the dot, and nothing else changed
pub record Put (before : Canvas) (x y g : ℕ) (after : Canvas) : Type 0 where
  pub grays : (p q : ℕ) → p < 128 → q < 128 → gray after p q ≡ cond (p == x && q == y) g (gray before p q)
  pub marks : (q k : ℕ) → q < 128 → k < 64 → due after q k ≡ (due before q k || (q == y && (k == x / 2 && not (gray before x y == g))))
  pub whole : Whole before → Whole after
