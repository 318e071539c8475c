-- A refused call leaves everything as it was, bit for bit. Assumes nothing.
use Rattle.std.specs.Prelude.{◌≡◌, Ok, Err, Result}
use Rattle.refusal.specs.declared.refusals.Refusal.{Refusal}

abbrev pub Untouched : {A X : Type 0} → Result A Refusal → X → X → Type 0
Untouched (Ok a) before after = Unit {0}
Untouched (Err e) before after = after ≡ before
