-- What reading a part of a line answers: what the part says, or that it cannot be read, or that memory ran out. Assumes nothing.
use Rattle.std.specs.Prelude.{◌≡◌, ℕ, List, Some, None, Ok, Err, Option, Result}
use Rattle.refusal.specs.declared.refusals.Refusal.{Refusal}
use Rattle.script.specs.declared.fault.Fault.{Fault}
use Rattle.script.specs.declared.fault.Fault.TheVariants.{Unreadable, NoMemory}
use Rattle.script.specs.declared.fault.Unmade.{Unmade}
use Rattle.script.specs.declared.fault.Unmade.TheVariants.{Refused, NotRead}
use Rattle.script.specs.declared.script.Unread.{Unread}
use Rattle.script.specs.declared.script.Unread.TheVariants.{BadLine}
use Rattle.script.specs.declared.script.Unread.TheVariants as unread
use Rattle.script.specs.declared.fields.Fields.{Fields}
use Rattle.script.specs.Readings.{Said}
use Rattle.script.specs.Left.{left}

-- `said` is what the text says; without memory nothing is known of it
abbrev pub Reads : {A B : Type 0} → (A → B) → Option B → Result A Fault → Type 0
Reads means said (Ok a) = said ≡ Some (means a)
Reads means said (Err Unreadable) = said ≡ None
Reads means said (Err NoMemory) = Unit {0}

-- the same of fields that are taken from the front, by a reading of them
abbrev pub Takes : {A B : Type 0} → (A → B) → (List (List ℕ) → Said B) → Fields → Fields → Result A Fault → Type 0
Takes means reading before after r = Reads (λ a. (means a, left after)) (reading (left before)) r

-- the same where a picture may stand, whose refusal is said too
abbrev pub ReadsOrRefuses : {A B : Type 0} → (A → B) → (Refusal → B) → Said B → List (List ℕ) → Result A Unmade → Type 0
ReadsOrRefuses means refused said left (Ok a) = said ≡ Some (means a, left)
ReadsOrRefuses means refused said left (Err (Refused why)) = said ≡ Some (refused why, left)
ReadsOrRefuses means refused said left (Err (NotRead Unreadable)) = said ≡ None
ReadsOrRefuses means refused said left (Err (NotRead NoMemory)) = Unit {0}

abbrev pub TakesOrRefuses : {A B : Type 0} → (A → B) → (Refusal → B) → (List (List ℕ) → Said B) → Fields → Fields
    → Result A Unmade → Type 0
TakesOrRefuses means refused reading before after r =
    ReadsOrRefuses means refused (reading (left before)) (left after) r

-- at the line of this number
abbrev pub at_line : ℕ → Fault → Unread
at_line n Unreadable = BadLine n
at_line n NoMemory = unread.NoMemory
