use Rattle.std.proofs.Common.{◌≡◌, ℕ, ◌+◌, ◌-◌, ◌<◌, ◌≤◌, List, length, get_or, take, Some, None, Option, ap, ◌∙◌, subst, arith, rules, tests, length-take, length-drop}
use Rattle.std.specs.List.{AllWithin, HoldsAt, between}
use Rattle.std.specs.Option.{MatchOption, unwrap_or}
use Rattle.std.proofs.lemmas.Iterator.{IsFirst-from_position, YieldsList-from_slice}
use Rattle.std.proofs.lemmas.List.{get_or-take}
use Rattle.std.proofs.lemmas.List.Edits.{length-between, get_or-between}
use Rattle.marks.specs.Marks.{First}
use Rattle.screen.proofs.sweeps.height_of.Goals as goal

-- the items before the first that is not so, or all
front : (F : ℕ → Type 0) (xs : List ℕ) (r : Option ℕ) → MatchOption r (AllWithin F xs 0 (length xs)) (λ i. (i < length xs) × HoldsAt (λ w. Unit {0}) xs i × AllWithin F xs 0 i)
    → (unwrap_or r (length xs) ≤ length xs) × AllWithin F xs 0 (unwrap_or r (length xs))
front F xs None h = (omega arith, h)
front F xs (Some i) h = (omega arith, h.2)

abbrev under : ℕ → ℕ → List ℕ → List ℕ
under y n ws = take n (between (y + 1) 128 ws)

-- a line below y
line_under : (ws : List ℕ) (y n k : ℕ) → n ≤ 127 - y → 0 < k → k < 1 + n → get_or (under y n ws) (k - 1) 0 ≡ get_or ws (y + k) 0
line_under ws y n k fits some l =
    let e : y + 1 + (k - 1) ≡ y + k = omega arith in
    get_or-take n (between (y + 1) 128 ws) (k - 1) 0 (omega arith) ∙ get_or-between ws (y + 1) 128 (k - 1) 0 (omega arith) ∙ ap (λ i. get_or ws i 0) e

-- the same of the lines below y
below : (F : ℕ → Type 0) (ws : List ℕ) (y n : ℕ) (r : Option ℕ) → length ws ≡ 128 → y < 128 → n ≤ 127 - y
    → MatchOption r (AllWithin F (under y n ws) 0 (length (under y n ws))) (λ i. (i < length (under y n ws)) × HoldsAt (λ w. Unit {0}) (under y n ws) i × AllWithin F (under y n ws) 0 i)
    → (unwrap_or r n ≤ n) × ((k : ℕ) → 0 < k → k < 1 + unwrap_or r n → F (get_or ws (y + k) 0))
below F ws y n r lines inside fits h =
    let long : length (under y n ws) ≡ n = simp (length-take, length-drop) (omega arith) in
    let so : (unwrap_or r n ≤ n) × AllWithin F (under y n ws) 0 (unwrap_or r n) =
    subst (λ m. (unwrap_or r m ≤ m) × AllWithin F (under y n ws) 0 (unwrap_or r m)) long (front F _ r h) in
    (so.0, λ k some l. subst F (line_under ws y n k fits some (omega (arith, so.0))) (so.1 (k - 1) 0 (omega arith) (omega arith)))

pub returns-clause-tall : goal.returns-clause-tall
returns-clause-tall c =
    let run = c.args.run in
    let ws = c.args.due.now in
    let lines : length ws ≡ 128 = search rules in
    let n = c.min-most.result in
    let fits : n ≤ 127 - c.args.y = omega (arith, c.min-most.ensures, length-between ws (c.args.y + 1) 128 (omega arith)) in
    let found = IsFirst-from_position _ _ c.position.result (λ w. Unit {0}) (λ w. First w run.start run.len) c.position.ensures.ran (YieldsList-from_slice (under c.args.y n ws) c.iter.ensures.rest) (λ x q k. tt) (λ x q k. search (rules, tests)) in
    let so = below (λ w. First w run.start run.len) ws c.args.y n c.position.result lines c.requires.0 fits found in
    rw c.unwrap_or-alike.ensures (omega arith, omega (arith, so.0, c.min-most.ensures), omega (arith, so.0), so.1)
