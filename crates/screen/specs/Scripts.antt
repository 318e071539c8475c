-- Scripts: the life that a script of calls is, with its answers. Assumes nothing.
use Rattle.std.specs.Prelude.{◌≡◌, ℕ, Bool, true, false, List, [], ◌∷◌, ◌++◌, map, replicate}
use Rattle.picture.specs.declared.pictures.Picture.{Ghosts as PictureGhosts}
use Rattle.link.specs.declared.links.Link.{Ghosts as LinkGhosts}
use Rattle.drawing.specs.declared.pen.Pen.{Pen}
use Rattle.drawing.specs.Book as book
use Rattle.drawing.specs.Book.{inks, dots, bars, places, narrows, ends, flushes}
use Rattle.drawing.specs.Pens.{PenMeaning, pen_means}
use Rattle.screen.specs.declared.screens.Screen.{Screen}
use Rattle.screen.specs.declared.scripts.Call.{Call}
use Rattle.screen.specs.declared.scripts.Call.TheVariants.{Ink, Dot, Bar, Place, Narrow, End, Flush}
use Rattle.screen.specs.declared.scripts.Answer.{Answer}
use Rattle.screen.specs.declared.scripts.Answer.TheVariants.{Judged, Ended, NoneOpen, Flushed}
use Rattle.screen.specs.Lives.{World, Event, inked, dotted, barred, placed, narrowed_to, ended, flushed, call, Follows, Life, Faithful}
use Rattle.screen.specs.Screens.{shows}

-- a call of a script, as the book has it
abbrev pub meant : {P : Type 0} → PictureGhosts P → Call P → book.Call
meant k (Ink g) = inks g
meant k (Dot x y) = dots x y
meant k (Bar x y w h) = bars x y w h
meant k (Place p x y) = places (k.means p) x y
meant k (Narrow x y w h) = narrows x y w h
meant k End = ends
meant k (Flush n) = flushes n

-- what an event answered
abbrev pub told : Event → Answer
told (inked g r) = Judged r
told (dotted x y r) = Judged r
told (barred x y w h r) = Judged r
told (placed p x y r) = Judged r
told (narrowed_to x y w h r) = Judged r
told ended = Ended
told (flushed n r) = Flushed r

-- a call of a script that was made: an event of a life, or an end with no narrowing open
pub data Line : Type 0 where
  made : Event → Line
  idle : Line

abbrev pub line_call : Line → book.Call
line_call (made e) = call e
line_call idle = ends

abbrev pub line_answer : Line → Answer
line_answer (made e) = told e
line_answer idle = NoneOpen

-- what a line does: an idle end does nothing, and comes only where no narrowing is open
abbrev pub Makes : World → Line → World → Type 0
Makes w (made e) v = Follows w e v
Makes w idle v = (w.stack ≡ []) × (v ≡ w)

-- one line after another
unfoldable pub Goes : World → List Line → World → Type 0
Goes w [] v = v ≡ w
Goes w (l ∷ ls) v = (u : World) × Makes w l u × Goes u ls v

-- the ends of so many narrowings
abbrev pub closing : ℕ → List Line
closing n = replicate n (made ended)

-- a screen and a pen, with the narrowings that the script has open
abbrev pub world : {L : Type 0} → LinkGhosts L → Screen L → Pen → List PenMeaning → World
world k s p stack = record { screen = shows k s; pen = pen_means p; stack = stack }

-- From w to v: exactly these calls were made, and their answers stand behind those before; then so many narrowings that they left open have ended.
pub record Ran {P : Type 0} (k : PictureGhosts P) (w : World) (script : List (Call P)) (before after : List Answer) (unended : ℕ) (v : World) : Type 0 where
  pub lines : List Line
  pub calls : map line_call lines ≡ map (meant k) script
  pub answers : after ≡ before ++ map line_answer lines
  pub goes : Goes w (lines ++ closing unended) v

-- the first calls of a script were made, down to those that are left, and each narrowing that they began has ended
pub record SoFar {P : Type 0} (k : PictureGhosts P) (w : World) (script : List (Call P)) (before after : List Answer) (v : World) (left : List (Call P)) : Type 0 where
  pub made_now : List (Call P)
  pub parts : script ≡ made_now ++ left
  pub ran : Ran k w made_now before after 0 v

-- down to an end that matches none of their narrowings, with the calls that are left behind it; or all, and narrowings that they left open have ended
abbrev pub Reached : {P : Type 0} → PictureGhosts P → World → List (Call P) → List Answer → List Answer → World → Bool → List (Call P) → Type 0
Reached k w script before after v true left = SoFar k w script before after v (End ∷ left)
Reached k w script before after v false left = (unended : ℕ) × Ran k w script before after unended v

-- the events of a life that goes on with these lines, the latest first
abbrev pub lived : List Line → List Event → List Event
lived [] past = past
lived (made e ∷ ls) past = lived ls (e ∷ past)
lived (idle ∷ ls) past = lived ls past

-- a life that is faithful at each of its steps
unfoldable pub FaithfulLife : List Event → World → Type 0
FaithfulLife [] w = Life [] w × Faithful [] w
FaithfulLife (e ∷ es) v = (w : World) × FaithfulLife es w × Follows w e v × Faithful (e ∷ es) v

-- a world inside narrowings that were open before
abbrev pub inside : List PenMeaning → World → World
inside outer w = record { screen = w.screen; pen = w.pen; stack = w.stack ++ outer }

-- A script was performed, with these answers. Whatever life it goes on from, it makes a life of exactly these calls and answers, faithful at each step.
pub record Performed {P : Type 0} (k : PictureGhosts P) (w : World) (script : List (Call P)) (answers : List Answer) (v : World) : Type 0 where
  pub unended : ℕ
  pub ran : Ran k w script [] answers unended v
  pub faithful : (outer : List PenMeaning) (past : List Event) → Life past (inside outer w) → FaithfulLife (lived (ran.lines ++ closing unended) past) (inside outer v)
