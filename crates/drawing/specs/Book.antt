-- The book: what the calls of a life draw, kept from their arguments alone. It never looks at a screen or an answer.
use Rattle.std.specs.Prelude.{◌≡◌, ℕ, ◌<◌, cond, List, [], ◌∷◌, ℤ, Some, None, Option, nat_le}
use Rattle.refusal.specs.declared.refusals.Refusal.{Refusal}
use Rattle.picture.specs.Pictures.{PictureMeaning}
use Rattle.drawing.specs.declared.canvas.Canvas.{Canvas}
use Rattle.drawing.specs.Clips.{Area, covered, position_refusal, rectangle_refusal}
use Rattle.drawing.specs.Dots.{gray}
use Rattle.drawing.specs.Drawing.{Paint, over, dot_paint, bar_paint, place_paint}
use Rattle.drawing.specs.Pens.{PenMeaning, fresh_pen, with_ink, narrowed}

-- the calls of a screen's life
pub data Call : Type 0 where
  inks : ℕ → Call
  dots : ℤ → ℤ → Call
  bars : ℤ → ℤ → ℕ → ℕ → Call
  places : PictureMeaning → ℤ → ℤ → Call
  narrows : ℤ → ℤ → ℕ → ℕ → Call
  -- the end of the latest narrowed drawing
  ends : Call
  flushes : ℕ → Call

pub record Book : Type 0 where
  -- the gray of each dot
  pub drawing : ℕ → ℕ → ℕ
  pub pen : PenMeaning
  -- the pens of the narrowings that have not ended, the latest first
  pub stack : List PenMeaning

abbrev pub fresh_book : Book
fresh_book = record { drawing = λ x y. 0; pen = fresh_pen; stack = [] }

abbrev pub painted : Book → Paint → Book
painted b t = record { drawing = λ x y. over (t x y) (b.drawing x y); pen = b.pen; stack = b.stack }

abbrev pub with_pen : Book → PenMeaning → List PenMeaning → Book
with_pen b p s = record { drawing = b.drawing; pen = p; stack = s }

-- a call that is refused leaves the book as it is
abbrev pub unless : Option Refusal → Book → Book → Book
unless None after before = after
unless (Some e) after before = before

-- the latest pen comes back
abbrev pub ended : Book → List PenMeaning → Book
ended b [] = b
ended b (p ∷ s) = with_pen b p s

abbrev pub entered : Book → Call → Book
entered b (inks g) = cond (nat_le g 15) (with_pen b (with_ink b.pen g) b.stack) b
entered b (dots x y) = unless (position_refusal x y) (painted b (dot_paint b.pen x y)) b
entered b (bars x y w h) = unless (rectangle_refusal x y w h) (painted b (bar_paint b.pen x y w h)) b
entered b (places p x y) = unless (position_refusal x y) (painted b (place_paint b.pen p x y)) b
entered b (narrows x y w h) = unless (rectangle_refusal x y w h) (with_pen b (narrowed b.pen (covered x y w h)) (b.pen ∷ b.stack)) b
entered b ends = ended b b.stack
entered b (flushes n) = b

-- the canvas shows the book's drawing
abbrev pub Draws : Canvas → Book → Type 0
Draws c b = (x y : ℕ) → x < 128 → y < 128 → gray c x y ≡ b.drawing x y

-- a call took the canvas from one drawing to the next, as the book has it, with the book's pen
abbrev pub ByTheBook : Call → PenMeaning → Canvas → Canvas → Type 0
ByTheBook call pen before after = (b : Book) → b.pen ≡ pen → Draws before b → Draws after (entered b call)

-- a call took the pen from one setting to the next, as the book has it
abbrev pub PenByTheBook : Call → PenMeaning → PenMeaning → Type 0
PenByTheBook call before after = (b : Book) → b.pen ≡ before → (entered b call).pen ≡ after

-- a narrowing by an area: of every rectangle that covers it, the book narrows to the same pen, and keeps the former one
abbrev pub Narrowing : Area → PenMeaning → PenMeaning → Type 0
Narrowing a before after = (b : Book) (x y : ℤ) (w h : ℕ) → rectangle_refusal x y w h ≡ None → a ≡ covered x y w h → b.pen ≡ before
    → ((entered b (narrows x y w h)).pen ≡ after) × ((entered b (narrows x y w h)).stack ≡ before ∷ b.stack)

-- the end of a narrowed drawing that began with a pen: the book takes the same pen from its stack
abbrev pub Ending : PenMeaning → PenMeaning → Type 0
Ending was after = (b : Book) (rest : List PenMeaning) → b.stack ≡ was ∷ rest → ((entered b ends).pen ≡ after) × ((entered b ends).stack ≡ rest)
