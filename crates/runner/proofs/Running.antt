-- A fresh screen, and what was performed on it.
use Rattle.std.proofs.Common.{◌≡◌, List, [], Option, ap, ◌∙◌, subst}
use Rattle.refusal.specs.declared.refusals.Refusal.{Refusal}
use Rattle.ssd1329.specs.Glass.{Wires}
use Rattle.drawing.specs.Pens.{PenMeaning, fresh_pen}
use Rattle.link.specs.Links.{LinkMeaning}
use Rattle.screen.specs.declared.scripts.Call.{Call}
use Rattle.screen.specs.declared.scripts.Answer.{Answer}
use Rattle.screen.specs.Lives.{World, Life}
use Rattle.screen.specs.Screens.{ScreenMeaning, fresh_screen}
use Rattle.screen.specs.Scripts.{Performed}
use Rattle.script.specs.Calls.{Line}
use Rattle.script.specs.Meanings.{Figure, figure_kind}
use Rattle.runner.specs.Plans.{calls_of, Planned}
use Rattle.runner.specs.Runs.{fresh_world, RanFresh}

-- a screen and a pen that are fresh are where a life begins, and what was performed from there was performed fresh
pub ran_fresh : (w : Wires) (m k n : LinkMeaning) (s : ScreenMeaning) (p : PenMeaning) (lines : List Line) (script calls : List (Call Figure)) (answers : List Answer) (refused : List (Option Refusal)) (after : World)
    → s ≡ fresh_screen w k → k ≡ m → p ≡ fresh_pen → Life [] (record { screen = s; pen = fresh_pen; stack = [] }) → Planned lines calls refused → script ≡ calls
    → Performed figure_kind (record { screen = s; pen = p; stack = [] }) script answers after → after.screen.link ≡ n → RanFresh w m lines answers refused n
ran_fresh w m k n s p lines script calls answers refused after fresh is pen life plan same done link =
    let screens : s ≡ fresh_screen w m = fresh ∙ ap (fresh_screen w) is in
    let starts : ◌≡◌ {A = World} (record { screen = s; pen = p; stack = [] }) (fresh_world w m) = ap (λ x. record { screen = x; pen = p; stack = [] }) screens ∙ ap (λ x. record { screen = fresh_screen w m; pen = x; stack = [] }) pen in
    record {
      begins = subst (λ x. Life [] (record { screen = x; pen = fresh_pen; stack = [] })) screens life;
      after = after;
      performed = subst (λ x. Performed figure_kind x (calls_of lines) answers after) starts
          (subst (λ x. Performed figure_kind (record { screen = s; pen = p; stack = [] }) x answers after) (same ∙ plan.calls_are) done);
      link = link;
      refusals = plan.refused_are;
    }
