-- The fields that are left of a line.
use Rattle.std.specs.Prelude.{◌≡◌, ℕ, List, [], ◌∷◌, Some, None, Option}
use Rattle.std.specs.Borrow.{Bor}
use Rattle.script.specs.declared.fields.Fields.{Fields}
use Rattle.script.specs.Parts.{fields}

abbrev pub parted : Option (Bor (List ℕ)) → List (List ℕ)
parted None = []
parted (Some bytes) = fields bytes.now

unfoldable pub left : Fields → List (List ℕ)
left f = parted f.rest

-- some field is left
abbrev pub GoesOn : List (List ℕ) → Type 0
GoesOn fs = (first : List ℕ) × (rest : List (List ℕ)) × (fs ≡ first ∷ rest)
