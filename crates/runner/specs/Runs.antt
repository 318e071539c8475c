-- What running a script's lines gives. Assumes nothing.
use Rattle.std.specs.Prelude.{◌≡◌, List, [], Option}
use Rattle.refusal.specs.declared.refusals.Refusal.{Refusal}
use Rattle.ssd1329.specs.Glass.{Wires}
use Rattle.drawing.specs.Pens.{fresh_pen}
use Rattle.link.specs.Links.{LinkMeaning}
use Rattle.screen.specs.declared.scripts.Answer.{Answer}
use Rattle.screen.specs.Lives.{World, Life}
use Rattle.screen.specs.Screens.{fresh_screen}
use Rattle.screen.specs.Scripts.{Performed}
use Rattle.script.specs.Calls.{Line}
use Rattle.script.specs.Meanings.{figure_kind}
use Rattle.runner.specs.Plans.{calls_of, refusals_of}

-- a fresh screen over a link, with a fresh pen
abbrev pub fresh_world : Wires → LinkMeaning → World
fresh_world w m = record { screen = fresh_screen w m; pen = fresh_pen; stack = [] }

-- The calls of the lines were performed on a fresh screen over the link m, which is n after them; a life began there, so each step of it is faithful.
pub record RanFresh (w : Wires) (m : LinkMeaning) (lines : List Line) (answers : List Answer) (refused : List (Option Refusal)) (n : LinkMeaning) : Type 0 where
  pub begins : Life [] (fresh_world w m)
  pub after : World
  pub performed : Performed figure_kind (fresh_world w m) (calls_of lines) answers after
  pub link : after.screen.link ≡ n
  pub refusals : refused ≡ refusals_of lines
