-- Narrowed drawings of a script.
use Rattle.std.proofs.Common.{◌≡◌, ℕ, suc, List, [], ◌∷◌, ◌++◌, ℤ, None, Ok, sym, ap, ◌∙◌, refl}
use Rattle.picture.specs.declared.pictures.Picture.{Ghosts as PictureGhosts}
use Rattle.link.specs.declared.links.Link.{Ghosts as LinkGhosts}
use Rattle.drawing.specs.declared.pen.Pen.{Pen}
use Rattle.drawing.specs.Clips.{Area, covered, rectangle_refusal}
use Rattle.drawing.specs.Pens.{PenMeaning, pen_means, narrowed}
use Rattle.screen.specs.declared.screens.Screen.{Screen}
use Rattle.screen.specs.declared.scripts.Call.{Call}
use Rattle.screen.specs.declared.scripts.Call.TheVariants.{Narrow, End}
use Rattle.screen.specs.declared.scripts.Answer.{Answer}
use Rattle.screen.specs.declared.scripts.Answer.TheVariants.{Judged, Ended}
use Rattle.screen.specs.Lives.{World, narrowed_to, ended}
use Rattle.screen.specs.Screens.{shows}
use Rattle.screen.specs.Scripts.{meant, made, Makes, world, Ran, SoFar}
use Rattle.screen.proofs.Lines.{so_far_then, so_far_more, so_far_all, ran_ended}

-- The call c begins a narrowing: the pen q narrows p. Then calls are made inside, and leave the screen s2 and the pen p2; the pen that comes back means what p did.
module _ {L P : Type 0} (l : LinkGhosts L) (k : PictureGhosts P) (script left : List (Call P)) (stack : List PenMeaning)
    (w : World) (s s2 : Screen L) (p q p2 : Pen) (b m n a : List Answer) (c : Call P) (rest : List (Call P)) (x y : ℤ) (wide high : ℕ) (part : Area)
    (so : SoFar k w script b m (world l s p stack) left)
    (is : left ≡ c ∷ rest) (narrows : c ≡ Narrow x y wide high) (tells : n ≡ m ++ Judged (Ok tt) ∷ [])
    (free : rectangle_refusal x y wide high ≡ None) (covers : part ≡ covered x y wide high) (reduced : pen_means q ≡ narrowed (pen_means p) part)
    (back : PenMeaning) (former : back ≡ pen_means p) where
  abbrev inner : World
  inner = world l s q (pen_means p ∷ stack)

  abbrev behind : World
  behind = world l s2 p2 (pen_means p ∷ stack)

  abbrev after : World
  after = record { screen = shows l s2; pen = back; stack = stack }

  begins : Makes (world l s p stack) (made (narrowed_to x y wide high (Ok tt))) inner
  begins = (free, ap (λ z. record { screen = shows l s; pen = z; stack = pen_means p ∷ stack }) (reduced ∙ ap (narrowed (pen_means p)) covers))

  begun : SoFar k w script b n inner rest
  begun = so_far_more k w (world l s p stack) script left b m so inner n c rest (made (narrowed_to x y wide high (Ok tt))) is (sym (ap (meant k) narrows)) tells begins

  finishes : Makes behind (made ended) after
  finishes = ap (λ z. record { screen = shows l s2; pen = z; stack = stack }) former

  -- left open at the script's end
  pub left_open : (unended : ℕ) → Ran k inner rest n a unended behind → Ran k w script b a (suc unended) after
  left_open unended ran = ran_ended k w behind after script b a unended (so_far_all k w inner script rest b n begun behind a unended ran) finishes

  -- ended by the script
  pub ended_here : (d : List Answer) (last : List (Call P)) → SoFar k inner rest n a behind (End ∷ last) → d ≡ a ++ Ended ∷ [] → SoFar k w script b d after last
  ended_here d last inside closes =
      so_far_more k w behind script (End ∷ last) b a (so_far_then k w inner script rest b n begun behind a (End ∷ last) inside) after d End last (made ended) refl refl closes finishes
