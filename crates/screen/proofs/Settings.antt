-- Settings that are sent, or not.
use Rattle.std.proofs.Common.{◌≡◌, ℕ, ◌+◌, ◌≤◌, Bool, true, false, cond, ◌&&◌, ltb, [], length, refl, subst, arith}
use Rattle.std.proofs.lemmas.Bool.{le-ltb}
use Rattle.link.specs.Links.{LinkMeaning}
use Rattle.marks.specs.Sending.{sent_all}
use Rattle.screen.specs.Flushing.{setting}

-- a setting that stays as it was sends nothing
pub no_setting : (opcode value : ℕ) (owed : Bool) → setting opcode value owed owed ≡ []
no_setting opcode value true = refl
no_setting opcode value false = refl

-- a setting takes two transfers at most
pub two : (owed : Bool) → cond owed 2 0 ≤ 2
two true = omega arith
two false = omega arith

pub setting_long : (opcode value : ℕ) (was now : Bool) → length (setting opcode value was now) ≤ cond was 2 0
setting_long opcode value true true = omega arith
setting_long opcode value true false = omega arith
setting_long opcode value false true = omega arith
setting_long opcode value false false = omega arith

-- with two transfers and the closing one it is sent
pub sent_now : (owed : Bool) (grant : ℕ) → (owed ≡ true → 3 ≤ grant) → (owed && ltb grant 3) ≡ false
sent_now true grant h = le-ltb grant 3 (h refl)
sent_now false grant h = refl

-- what was sent, with the value that the wiring has
pub setting_of : (m n : LinkMeaning) (opcode value is : ℕ) (was now : Bool) (left grant : ℕ) → value ≡ is
    → (n ≡ sent_all m (setting opcode value was now)) × (left + length (setting opcode value was now) ≡ grant)
    → (n ≡ sent_all m (setting opcode is was now)) × (left + length (setting opcode is was now) ≡ grant)
setting_of m n opcode value is was now left grant e h =
    subst (λ v. (n ≡ sent_all m (setting opcode v was now)) × (left + length (setting opcode v was now) ≡ grant)) e h
