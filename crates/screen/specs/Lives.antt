-- Whole lives of a screen: it is made over a fresh link with a fresh pen, and then called, and each call does what its contract says.
use Rattle.std.specs.Prelude.{◌≡◌, ℕ, ◌+◌, ◌<◌, ◌≤◌, Bool, true, false, ◌||◌, ◌⊎◌, List, [], ◌∷◌, length, ℤ, Some, None, Ok, Err, Result}
use Rattle.refusal.specs.declared.refusals.Refusal.{Refusal}
use Rattle.ssd1329.specs.Glass.{Wires, lit, glass}
use Rattle.picture.specs.Pictures.{PictureMeaning}
use Rattle.drawing.specs.declared.canvas.Canvas.{Canvas}
use Rattle.drawing.specs.Book.{Call, inks, dots, bars, places, narrows, ends, flushes, Book, fresh_book, entered, Draws}
use Rattle.drawing.specs.Clips.{covered, rectangle_refusal}
use Rattle.drawing.specs.Drawing.{DotStep, BarStep, PlaceStep}
use Rattle.drawing.specs.Pens.{PenMeaning, fresh_pen, narrowed, InkStep}
use Rattle.link.specs.declared.links.Link.{Ghosts}
use Rattle.link.specs.Links.{LinkMeaning, Lawful}
use Rattle.marks.specs.Blocks.{bytes_due, worth}
use Rattle.screen.specs.declared.answers.FlushFault.{FlushFault}
use Rattle.screen.specs.Flushing.{sending, Flushed, FlushStep}
use Rattle.screen.specs.declared.screens.Screen.{Screen}
use Rattle.screen.specs.Screens.{ScreenMeaning, shows, fresh_link, fresh_screen}

-- a screen, a pen, and the pens that the open narrowings will give back, the latest first
pub record World : Type 0 where
  pub screen : ScreenMeaning
  pub pen : PenMeaning
  pub stack : List PenMeaning

-- a call with its answer
pub data Event : Type 0 where
  inked : ℕ → Result (Unit {0}) Refusal → Event
  dotted : ℤ → ℤ → Result (Unit {0}) Refusal → Event
  barred : ℤ → ℤ → ℕ → ℕ → Result (Unit {0}) Refusal → Event
  placed : PictureMeaning → ℤ → ℤ → Result (Unit {0}) Refusal → Event
  narrowed_to : ℤ → ℤ → ℕ → ℕ → Result (Unit {0}) Refusal → Event
  ended : Event
  flushed : ℕ → Result ℕ FlushFault → Event

abbrev pub call : Event → Call
call (inked g r) = inks g
call (dotted x y r) = dots x y
call (barred x y w h r) = bars x y w h
call (placed p x y r) = places p x y
call (narrowed_to x y w h r) = narrows x y w h
call ended = ends
call (flushed n r) = flushes n

-- the canvas changed, and nothing else of the world
pub record Drew (w : World) (Changes : Canvas → Canvas → Type 0) (v : World) : Type 0 where
  pub canvas : Changes w.screen.canvas v.screen.canvas
  pub wiring : v.screen.wiring ≡ w.screen.wiring
  pub link : v.screen.link ≡ w.screen.link
  pub lit : v.screen.lit ≡ w.screen.lit
  pub remap_owed : v.screen.remap_owed ≡ w.screen.remap_owed
  pub offset_owed : v.screen.offset_owed ≡ w.screen.offset_owed
  pub pen : v.pen ≡ w.pen
  pub stack : v.stack ≡ w.stack

-- a rectangle that is refused narrows nothing
abbrev pub NarrowStep : World → ℤ → ℤ → ℕ → ℕ → Result (Unit {0}) Refusal → World → Type 0
NarrowStep w x y a b (Ok u) v = (rectangle_refusal x y a b ≡ None) × (v ≡ record { screen = w.screen; pen = narrowed w.pen (covered x y a b); stack = w.pen ∷ w.stack })
NarrowStep w x y a b (Err e) v = (rectangle_refusal x y a b ≡ Some e) × (v ≡ w)

-- the latest pen comes back
abbrev pub EndStep : World → List PenMeaning → World → Type 0
EndStep w [] v = ⊥
EndStep w (p ∷ s) v = v ≡ record { screen = w.screen; pen = p; stack = s }

-- what each call does, by the very relation of its contract
abbrev pub Follows : World → Event → World → Type 0
Follows w (inked g r) v = InkStep w.pen g r v.pen × (v.screen ≡ w.screen) × (v.stack ≡ w.stack)
Follows w (dotted x y r) v = Drew w (λ c d. DotStep w.pen x y c r d) v
Follows w (barred x y a b r) v = Drew w (λ c d. BarStep w.pen x y a b c r d) v
Follows w (placed p x y r) v = Drew w (λ c d. PlaceStep w.pen p x y c r d) v
Follows w (narrowed_to x y a b r) v = NarrowStep w x y a b r v
Follows w ended v = EndStep w w.stack v
Follows w (flushed n r) v = FlushStep w.screen n r v.screen × (v.pen ≡ w.pen) × (v.stack ≡ w.stack)

-- a life, the latest call first: at its beginning the link is fresh and keeps the laws of links
unfoldable pub Life : List Event → World → Type 0
Life [] w = (wires : Wires) × (m : LinkMeaning) × (wires.shift < 128) × Lawful m × (fresh_link m ≡ true) × (w ≡ record { screen = fresh_screen wires m; pen = fresh_pen; stack = [] })
Life (e ∷ es) v = (w : World) × Life es w × Follows w e v

-- a new screen with a fresh pen begins a life
abbrev pub Begins : {L : Type 0} → Ghosts L → Screen L → Type 0
Begins k s = Life [] (record { screen = shows k s; pen = fresh_pen; stack = [] })

-- the book of a life
unfoldable pub book : List Event → Book
book [] = fresh_book
book (e ∷ es) = entered (book es) (call e)

-- a flush that answered done
abbrev pub done : Event → Bool
done (inked g r) = false
done (dotted x y r) = false
done (barred x y w h r) = false
done (placed p x y r) = false
done (narrowed_to x y w h r) = false
done ended = false
done (flushed n (Ok count)) = true
done (flushed n (Err f)) = false

unfoldable pub ever_done : List Event → Bool
ever_done [] = false
ever_done (e ∷ es) = ever_done es || done e

abbrev pub Either : Bool → Type 0 → Type 0 → Type 0
Either true A B = A
Either false A B = B

-- g is a gray that the drawing had at (x, y) at the latest done flush, or after a call since then
unfoldable pub Since : List Event → ℕ → ℕ → ℕ → Type 0
Since [] x y g = ⊥
Since (e ∷ es) x y g = Either (done e) (g ≡ (book (e ∷ es)).drawing x y) (Since es x y g ⊎ ((ever_done es ≡ true) × (g ≡ (book (e ∷ es)).drawing x y)))

-- the newest step is a done flush
abbrev pub JustDone : List Event → Type 0
JustDone [] = ⊥
JustDone (e ∷ es) = done e ≡ true

-- what the glass shows, by link and wiring
abbrev pub shown_at : World → ℕ → ℕ → ℕ
shown_at w x y = glass w.screen.wiring w.screen.link.chip x y

-- a flush that follows, with B bytes due in R runs before it: worth is B + 6 × R
pub record Paid (es : List Event) (s : ScreenMeaning) (n : ℕ) (t : ScreenMeaning) (f : Flushed s n t) : Type 0 where
  -- with a grant of 20 or more it is done, or fewer bytes are due
  pub moves : 20 ≤ f.grant → ((t.lit ≡ true) × (bytes_due t.canvas.due ≡ 0)) ⊎ (bytes_due t.canvas.due < bytes_due s.canvas.due)
  -- once some flush was done, it takes at most B + 6 × R + 3 transfers, and a grant of as many brings done
  pub most : ever_done es ≡ true → length (sending s f.blocks t) ≤ worth s.canvas.due + 3
  pub brings : ever_done es ≡ true → worth s.canvas.due + 3 ≤ f.grant → (t.lit ≡ true) × (bytes_due t.canvas.due ≡ 0)

-- THE PROMISE, at each step of a life
pub record Faithful (es : List Event) (w : World) : Type 0 where
  -- lit exactly when some flush has answered done
  pub lit_when_done : lit w.screen.link.chip ≡ ever_done es
  -- from then on each dot shows a gray that the drawing had there at the latest done flush or after a call since
  pub shows_since : ever_done es ≡ true → (x y : ℕ) → x < 128 → y < 128 → Since es x y (shown_at w x y)
  -- directly after a done flush the glass is the drawing
  pub shows_drawing : JustDone es → (x y : ℕ) → x < 128 → y < 128 → shown_at w x y ≡ (book es).drawing x y
  -- the canvas is the book's drawing, the pen its pen, the open narrowings its stack
  pub canvas : Draws w.screen.canvas (book es)
  pub pen : w.pen ≡ (book es).pen
  pub stack : w.stack ≡ (book es).stack
  -- every flush that follows
  pub paid : (n : ℕ) (t : ScreenMeaning) (f : Flushed w.screen n t) → Paid es w.screen n t f

abbrev pub EveryLifeIsFaithful : Type 0
EveryLifeIsFaithful = (es : List Event) (w : World) → Life es w → Faithful es w
