-- Lines, one after the other.
use Rattle.std.proofs.Common.{◌≡◌, List, [], ◌∷◌, ◌++◌, None, Option, Ok, sym, ap, ◌∙◌, append_assoc}
use Rattle.refusal.specs.declared.refusals.Refusal.{Refusal}
use Rattle.screen.specs.declared.scripts.Call.{Call}
use Rattle.script.specs.Calls.{Line}
use Rattle.script.specs.Meanings.{Figure}
use Rattle.runner.specs.Plans.{calls_of, refusals_of}

-- of all lines, some are planned, and the rest is to come
pub record Planning (all rest : List Line) (cs : List (Call Figure)) (rs : List (Option Refusal)) : Type 0 where
  pub calls_left : calls_of all ≡ cs ++ calls_of rest
  pub refused_left : refusals_of all ≡ rs ++ refusals_of rest

-- a line whose picture was made has a call
pub planning_made : (all rest more : List Line) (cs ds : List (Call Figure)) (rs ss : List (Option Refusal)) (c : Call Figure) → Planning all rest cs rs → rest ≡ Ok c ∷ more
    → ds ≡ cs ++ c ∷ [] → ss ≡ rs ++ None ∷ [] → Planning all more ds ss
planning_made all rest more cs ds rs ss c p is e f = record {
  calls_left = p.calls_left ∙ ap (λ x. cs ++ calls_of x) is ∙ sym (append_assoc cs (c ∷ []) (calls_of more)) ∙ ap (λ x. x ++ calls_of more) (sym e);
  refused_left = p.refused_left ∙ ap (λ x. rs ++ refusals_of x) is ∙ sym (append_assoc rs (None ∷ []) (refusals_of more)) ∙ ap (λ x. x ++ refusals_of more) (sym f);
}
