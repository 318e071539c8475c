-- Readings: what fields say, taken from the front one after the other. Assumes nothing.
use Rattle.std.specs.Prelude.{ℕ, List, [], ◌∷◌, Some, None, Option}
use Rattle.script.specs.declared.shapes.Corner.{Corner}
use Rattle.script.specs.declared.shapes.Extent.{Extent}
use Rattle.script.specs.declared.shapes.Part.{Part}
use Rattle.script.specs.Numbers.{unsigned, signed}

-- something said, with the fields that are left
abbrev pub Said : Type 0 → Type 0
Said A = Option (A × List (List ℕ))

abbrev pub with_left : {A : Type 0} → Option A → List (List ℕ) → Said A
with_left None fs = None
with_left (Some a) fs = Some (a, fs)

-- one field, by what it says alone
abbrev pub field : {A : Type 0} → (List ℕ → Option A) → List (List ℕ) → Said A
field says [] = None
field says (f ∷ fs) = with_left (says f) fs

-- reading on in the fields that are left
abbrev pub then : {A B : Type 0} → Said A → (A → List (List ℕ) → Said B) → Said B
then None on = None
then (Some s) on = on s.0 s.1

-- all that is said, if no field is left
abbrev pub nothing_left : {A : Type 0} → A → List (List ℕ) → Option A
nothing_left a [] = Some a
nothing_left a (f ∷ fs) = None

abbrev pub only : {A : Type 0} → Said A → Option A
only None = None
only (Some s) = nothing_left s.0 s.1

-- a position, and a width and a height
abbrev pub corner : List (List ℕ) → Said Corner
corner fs = then (field signed fs) (λ x fs. then (field signed fs) (λ y fs. Some (record { x = x; y = y }, fs)))

abbrev pub extent : List (List ℕ) → Said Extent
extent fs = then (field unsigned fs) (λ w fs. then (field unsigned fs) (λ h fs. Some (record { width = w; height = h }, fs)))

-- a part of a picture: where it begins, and its width and height
abbrev pub part : List (List ℕ) → Said Part
part fs =
    then (field unsigned fs) (λ left fs. then (field unsigned fs) (λ top fs. then (extent fs) (λ size fs. Some (record { left = left; top = top; size = size }, fs))))
