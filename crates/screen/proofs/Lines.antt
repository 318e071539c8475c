-- The lines of a script, one after the other.
use Rattle.std.proofs.Common.{◌≡◌, ℕ, zero, suc, List, [], ◌∷◌, ◌++◌, length, map, sym, refl, ap, ◌∙◌, subst, append_assoc, append-nil, arith}
use mathlib.Core.List.{map-append}
use Rattle.picture.specs.declared.pictures.Picture.{Ghosts as PictureGhosts}
use Rattle.link.specs.declared.links.Link.{Ghosts as LinkGhosts}
use Rattle.ssd1329.specs.Meaning.{wires}
use Rattle.drawing.specs.declared.canvas.Canvas.{Canvas}
use Rattle.drawing.specs.declared.pen.Pen.{Pen}
use Rattle.drawing.specs.Pens.{PenMeaning}
use Rattle.screen.specs.declared.screens.Screen.{Screen}
use Rattle.screen.specs.declared.scripts.Call.{Call}
use Rattle.screen.specs.declared.scripts.Answer.{Answer}
use Rattle.screen.specs.Lives.{World, Drew, ended}
use Rattle.screen.specs.Screens.{OnlyCanvas}
use Rattle.screen.specs.Scripts.{meant, Line, made, line_call, line_answer, Makes, Goes, closing, world, Ran, SoFar}

-- a call that changes only the canvas is a drawing call
pub drew : {L : Type 0} (k : LinkGhosts L) (s t : Screen L) (p : Pen) (stack : List PenMeaning) (Changes : Canvas → Canvas → Type 0)
    → Changes s.canvas t.canvas → OnlyCanvas s t → Drew (world k s p stack) Changes (world k t p stack)
drew k s t p stack Changes draws same = record {
  canvas = draws;
  wiring = ap wires same.wiring;
  link = ap (λ l. k.means l) same.link;
  lit = same.lit;
  remap_owed = ap (λ o. o.remap) same.owed;
  offset_owed = ap (λ o. o.offset) same.owed;
  pen = refl;
  stack = refl;
}

-- some lines, and then more
goes_join : (w u v : World) (ls ms : List Line) → Goes w ls u → Goes u ms v → Goes w (ls ++ ms) v
unfolding Goes
goes_join w u v [] ms e h = subst (λ z. Goes z ms v) e h
goes_join w u v (l ∷ ls) ms (x, m, g) h = (x, m, goes_join x u v ls ms g h)

-- one line
goes_one : (w v : World) (l : Line) → Makes w l v → Goes w (l ∷ []) v
unfolding Goes
goes_one w v l m = (v, m, refl)

-- one end more
closing_more : (n : ℕ) → closing n ++ made ended ∷ [] ≡ closing (suc n)
closing_more zero = refl
closing_more (suc n) = ap (λ ls. made ended ∷ ls) (closing_more n)

module _ {P : Type 0} (k : PictureGhosts P) (w : World) where
  -- no call yet
  pub ran_none : (b : List Answer) → Ran k w [] b b 0 w
  unfolding Goes
  ran_none b = record { lines = []; calls = refl; answers = sym (append-nil b); goes = refl }

  -- some calls, and then more
  pub ran_join : (u v : World) (s r : List (Call P)) (b m a : List Answer) (n : ℕ) → Ran k w s b m 0 u → Ran k u r m a n v → Ran k w (s ++ r) b a n v
  ran_join u v s r b m a n f g = record {
    lines = f.lines ++ g.lines;
    calls = map-append line_call f.lines g.lines ∙ ap (λ x. x ++ map line_call g.lines) f.calls ∙ ap (λ x. map (meant k) s ++ x) g.calls ∙ sym (map-append (meant k) s r);
    answers = g.answers ∙ ap (λ x. x ++ map line_answer g.lines) f.answers ∙ append_assoc b (map line_answer f.lines) (map line_answer g.lines)
        ∙ ap (λ x. b ++ x) (sym (map-append line_answer f.lines g.lines));
    goes = subst (λ ls. Goes w ls v) (sym (append_assoc f.lines g.lines (closing n)))
        (goes_join w u v f.lines (g.lines ++ closing n) (subst (λ ls. Goes w ls u) (append-nil f.lines) f.goes) g.goes);
  }

  -- the end of a narrowing that was left open
  pub ran_ended : (u v : World) (s : List (Call P)) (b a : List Answer) (n : ℕ) → Ran k w s b a n u → Makes u (made ended) v → Ran k w s b a (suc n) v
  ran_ended u v s b a n f m = record {
    lines = f.lines;
    calls = f.calls;
    answers = f.answers;
    goes = subst (λ ls. Goes w ls v) (append_assoc f.lines (closing n) (made ended ∷ []) ∙ ap (λ ls. f.lines ++ ls) (closing_more n))
        (goes_join w u v (f.lines ++ closing n) (made ended ∷ []) f.goes (goes_one u v (made ended) m));
  }

  -- no call yet, and each of the script is left
  pub so_far_none : (script : List (Call P)) (b a : List Answer) → a ≡ b → SoFar k w script b a w script
  so_far_none script b a e = record { made_now = []; parts = refl; ran = subst (λ x. Ran k w [] b x 0 w) (sym e) (ran_none b) }

  module _ (u : World) (script left : List (Call P)) (b m : List Answer) (so : SoFar k w script b m u left) where
    -- calls of those that are left, and then more
    pub so_far_then : (v : World) (a : List Answer) (rest : List (Call P)) → SoFar k u left m a v rest → SoFar k w script b a v rest
    so_far_then v a rest more = record {
      made_now = so.made_now ++ more.made_now;
      parts = so.parts ∙ ap (λ x. so.made_now ++ x) more.parts ∙ sym (append_assoc so.made_now more.made_now rest);
      ran = ran_join u v so.made_now more.made_now b m a 0 so.ran more.ran;
    }

    -- one call more
    pub so_far_more : (v : World) (a : List Answer) (c : Call P) (rest : List (Call P)) (l : Line) → left ≡ c ∷ rest → line_call l ≡ meant k c → a ≡ m ++ line_answer l ∷ [] → Makes u l v
        → SoFar k w script b a v rest
    so_far_more v a c rest l is asks tells does =
        so_far_then v a rest (record { made_now = c ∷ []; parts = is; ran = record { lines = l ∷ []; calls = ap (λ x. x ∷ []) asks; answers = tells; goes = goes_one u v l does } })

    -- all that are left
    pub so_far_all : (v : World) (a : List Answer) (n : ℕ) → Ran k u left m a n v → Ran k w script b a n v
    so_far_all v a n ran = subst (λ s. Ran k w s b a n v) (sym so.parts) (ran_join u v so.made_now left b m a n so.ran ran)

-- none is left
pub so_far_end : {P : Type 0} (k : PictureGhosts P) (w u : World) (script left : List (Call P)) (b m : List Answer) → SoFar k w script b m u left → length left ≡ 0 → Ran k w script b m 0 u
so_far_end k w u script [] b m so e = so_far_all k w u script [] b m so u m 0 (ran_none k u m)
so_far_end k w u script (c ∷ left) b m so e = absurd (omega arith)
