-- Clips and rectangles. Assumes nothing.
use Rattle.std.specs.Prelude.{◌≡◌, ℕ, min, max, Bool, cond, ◌&&◌, ◌||◌, ℤ, pos, negsuc, ◌+ℤ◌, Some, None, Ok, Err, Option, Result, ◌==◌, int_le, int_lt, nat_le, nat_lt}
use Rattle.refusal.specs.declared.refusals.Refusal.{Refusal}
use Rattle.refusal.specs.declared.refusals.Refusal.TheVariants.{Position, Size}
use Rattle.drawing.specs.declared.span.Span.{Span}
use Rattle.drawing.specs.declared.clip.Clip.{Clip}
use Rattle.drawing.specs.declared.rectangle.Rectangle.{Rectangle}

-- places from `from` to before `to`
pub record Side : Type 0 where
  pub from : ℕ
  pub to : ℕ

-- left to right, and top to bottom; right and bottom are excluded
pub record Area : Type 0 where
  pub across : Side
  pub down : Side

abbrev pub side : ℕ → ℕ → Side
side from to = record { from = from; to = to }

abbrev pub box : ℕ → ℕ → ℕ → ℕ → Area
box left top right bottom = record { across = side left right; down = side top bottom }

abbrev pub whole : Area
whole = box 0 0 128 128

-- what a span and a clip mean
abbrev pub span_side : Span → Side
span_side s = side s.from s.to

abbrev pub area : Clip → Area
area c = record { across = span_side c.across; down = span_side c.down }

abbrev pub holds : Side → ℕ → Bool
holds s p = nat_le s.from p && nat_lt p s.to

-- the area has the dot (x, y)
abbrev pub inside : Area → ℕ → ℕ → Bool
inside a x y = holds a.across x && holds a.down y

-- p is one of the `len` places from `at` on
abbrev pub covers : ℤ → ℕ → ℕ → Bool
covers at len p = int_le at (pos p) && int_lt (pos p) (at +ℤ pos len)

-- a number brought into 0 to 128
abbrev pub clamp : ℤ → ℕ
clamp (pos n) = min n 128
clamp (negsuc n) = 0

-- the part of the canvas that w by h dots from (x, y) cover
abbrev pub covered : ℤ → ℤ → ℕ → ℕ → Area
covered x y w h = box (clamp x) (clamp y) (clamp (x +ℤ pos w)) (clamp (y +ℤ pos h))

-- what two sides, and two areas, have in common; an empty part is 0, 0, 0, 0
abbrev pub joint : Side → Side → Side
joint s t = cond (nat_lt (max s.from t.from) (min s.to t.to)) (side (max s.from t.from) (min s.to t.to)) (side 0 0)

abbrev pub empty : Side → Bool
empty s = s.from == s.to

abbrev pub common : Area → Area → Area
common a b = cond (empty (joint a.across b.across) || empty (joint a.down b.down)) (box 0 0 0 0) (record { across = joint a.across b.across; down = joint a.down b.down })

-- positions run from −1,024 to 1,023, sizes from 0 to 255
abbrev pub in_reach : ℤ → Bool
in_reach z = int_le (negsuc 1023) z && int_le z (pos 1023)

-- why a position, or a rectangle, is refused, if it is: the position is judged first
abbrev pub position_refusal : ℤ → ℤ → Option Refusal
position_refusal x y = cond (in_reach x && in_reach y) None (Some Position)

abbrev pub rectangle_refusal : ℤ → ℤ → ℕ → ℕ → Option Refusal
rectangle_refusal x y w h = cond (in_reach x && in_reach y) (cond (nat_le w 255 && nat_le h 255) None (Some Size)) (Some Position)

-- what the making of a rectangle answers
abbrev pub Boxed : ℤ → ℤ → ℕ → ℕ → Result Rectangle Refusal → Type 0
Boxed x y w h (Ok r) = (rectangle_refusal x y w h ≡ None) × (area r.part ≡ covered x y w h)
Boxed x y w h (Err e) = rectangle_refusal x y w h ≡ Some e
