-- What it means that something is drawn. Assumes nothing.
use Rattle.std.specs.Prelude.{◌≡◌, ℕ, ◌+◌, ◌*◌, ◌<◌, Bool, false, cond, not, ◌&&◌, ◌||◌, ℤ, pos, negsuc, ◌-ℤ◌, Some, None, Ok, Err, Option, Result, ◌==◌, nat_le, nat_lt}
use Rattle.refusal.specs.declared.refusals.Refusal.{Refusal}
use Rattle.picture.specs.Pictures.{PictureMeaning}
use Rattle.picture.specs.Parts.{seen}
use Rattle.drawing.specs.declared.canvas.Canvas.{Canvas}
use Rattle.drawing.specs.Clips.{Area, Side, holds, inside, covers, position_refusal, rectangle_refusal}
use Rattle.drawing.specs.Dots.{gray, due, Whole}
use Rattle.drawing.specs.Pens.{PenMeaning}

-- A paint says for each dot which gray it gets, or None: it keeps the gray that it has.
abbrev pub Paint : Type 0
Paint = ℕ → ℕ → Option ℕ

-- the gray of a dot after a paint
abbrev pub over : Option ℕ → ℕ → ℕ
over (Some g) old = g
over None old = old

-- that is another gray
abbrev pub alters : Option ℕ → ℕ → Bool
alters (Some g) old = not (old == g)
alters None old = false

-- the paint is drawn: each dot has its paint, or stays; a byte becomes due just where a dot of it changes
pub record Drawn (before : Canvas) (paint : Paint) (after : Canvas) : Type 0 where
  pub grays : (x y : ℕ) → x < 128 → y < 128 → gray after x y ≡ over (paint x y) (gray before x y)
  pub marks : (y k : ℕ) → y < 128 → k < 64
      → due after y k ≡ (due before y k || (alters (paint (2 * k) y) (gray before (2 * k) y) || alters (paint (2 * k + 1) y) (gray before (2 * k + 1) y)))
  pub whole : Whole before → Whole after

-- a paint in an area alone
abbrev pub clipped : Paint → Area → Paint
clipped t a x y = cond (inside a x y) (t x y) None

-- the pen's ink on w by h dots from (a, b), within the pen's clip
abbrev pub bar_paint : PenMeaning → ℤ → ℤ → ℕ → ℕ → Paint
bar_paint pen a b w h x y = cond (inside pen.clip x y && (covers a w x && covers b h y)) (Some pen.ink) None

abbrev pub dot_paint : PenMeaning → ℤ → ℤ → Paint
dot_paint pen a b = bar_paint pen a b 1 1

-- how far a place lies behind another, if it does
abbrev pub behind : ℤ → Option ℕ
behind (pos n) = Some n
behind (negsuc n) = None

abbrev pub at_both : (ℕ → ℕ → Option ℕ) → Option ℕ → Option ℕ → Option ℕ
at_both d (Some i) (Some j) = d i j
at_both d (Some i) None = None
at_both d None (Some j) = None
at_both d None None = None

-- what a picture with its corner at (a, b) has for the dot (x, y): nothing outside it
unfoldable pub placed : PictureMeaning → ℤ → ℤ → Paint
placed p a b x y = at_both (seen p) (behind (pos x -ℤ a)) (behind (pos y -ℤ b))

-- a picture's grays with its corner at (a, b), within the pen's clip
abbrev pub place_paint : PenMeaning → PictureMeaning → ℤ → ℤ → Paint
place_paint pen p a b = clipped (placed p a b) pen.clip

-- what a drawing call answers and leaves: the paint is drawn, or the refusal came, and the canvas is as it was
abbrev pub Painted : Option Refusal → Canvas → Paint → Result (Unit {0}) Refusal → Canvas → Type 0
Painted refusal before paint (Ok x) after = (refusal ≡ None) × Drawn before paint after
Painted refusal before paint (Err e) after = (refusal ≡ Some e) × (after ≡ before)

-- the same of each drawing call
abbrev pub DotStep : PenMeaning → ℤ → ℤ → Canvas → Result (Unit {0}) Refusal → Canvas → Type 0
DotStep pen x y before r after = Painted (position_refusal x y) before (dot_paint pen x y) r after

abbrev pub BarStep : PenMeaning → ℤ → ℤ → ℕ → ℕ → Canvas → Result (Unit {0}) Refusal → Canvas → Type 0
BarStep pen x y w h before r after = Painted (rectangle_refusal x y w h) before (bar_paint pen x y w h) r after

abbrev pub PlaceStep : PenMeaning → PictureMeaning → ℤ → ℤ → Canvas → Result (Unit {0}) Refusal → Canvas → Type 0
PlaceStep pen p x y before r after = Painted (position_refusal x y) before (place_paint pen p x y) r after

-- parts of a fill: a paint on places from a to before b of one line; and in a side's columns, on lines from a to before b
abbrev pub lined : Paint → ℕ → ℕ → ℕ → Paint
lined t a b line x y = cond (y == line && (nat_le a x && nat_lt x b)) (t x y) None

abbrev pub ruled : Paint → Side → ℕ → ℕ → Paint
ruled t s a b x y = cond (holds s x && (nat_le a y && nat_lt y b)) (t x y) None
