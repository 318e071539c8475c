-- What a look at a link tells of it.
use Rattle.std.proofs.Common.{◌≡◌, ℕ, ◌≤◌, true, false, is_some, Option, sym, ap, ◌∙◌, arith}
use Rattle.std.proofs.lemmas.Bool.{and_from, eq-eqb}
use Rattle.ssd1329.specs.Glass.{Wires}
use Rattle.ssd1329.specs.Wiring.{settings_for}
use Rattle.drawing.specs.declared.canvas.Canvas.{Canvas}
use Rattle.drawing.specs.Dots.{fresh_canvas}
use Rattle.link.specs.Links.{LinkMeaning}
use Rattle.link.proofs.Recorded.{none_left}
use Rattle.screen.specs.Screens.{ScreenMeaning, is_shut, fresh_link, lacks, fresh_screen}

pub seen_fresh : (m : LinkMeaning) (left : Option ℕ) (n : ℕ) → left ≡ m.slot → n ≡ m.taken → false ≡ is_some left → n ≤ 0 → true ≡ fresh_link m
seen_fresh m left n e f shut none =
    let z : m.taken ≡ 0 = omega arith in
    sym (and_from (is_shut m.slot) _ (ap is_shut (sym e ∙ none_left left (sym shut))) (eq-eqb m.taken 0 z))

-- a screen of fresh parts
pub fresh_parts : (w : Wires) (m : LinkMeaning) (k : Canvas) (r o : ℕ) → k ≡ fresh_canvas → r ≡ (settings_for w).remap → o ≡ (settings_for w).offset
    → ◌≡◌ {A = ScreenMeaning} (record { wiring = w; canvas = k; link = m; lit = false; remap_owed = lacks r; offset_owed = lacks o }) (fresh_screen w m)
fresh_parts w m k r o e f g =
    let over : Canvas → ℕ → ℕ → ScreenMeaning = λ k r o. record { wiring = w; canvas = k; link = m; lit = false; remap_owed = lacks r; offset_owed = lacks o } in
    ap (λ x. over x r o) e ∙ ap (λ x. over fresh_canvas x o) f ∙ ap (over fresh_canvas (settings_for w).remap) g
