-- A controller that passes the test is at reset.
use Rattle.std.proofs.Common.{◌≡◌, ℕ, true, List, length, replicate, refl, arith}
use Rattle.std.proofs.lemmas.List.{length-replicate}
use Rattle.std.proofs.lemmas.Bool.Decides.{nat_tests}
use Rattle.ssd1329.specs.Chip.{Chip, reset, blank, dropped}
use Rattle.ssd1329.specs.Fresh.{is_reset}

pub reset_is : (c : Chip) → is_reset c ≡ true → c ≡ reset c.memory
unfolding is_reset reset
reset_is c e = grind (arith, nat_tests)

pub reset_passes : (m : List ℕ) → is_reset (reset m) ≡ true
unfolding is_reset reset
reset_passes m = refl

-- the end of a slot is nothing to a controller at reset
pub dropped_passes : (c : Chip) → is_reset c ≡ true → is_reset (dropped c) ≡ true
unfolding is_reset dropped
dropped_passes c e = grind (arith, nat_tests)

pub reset_memory : (m : List ℕ) → (reset m).memory ≡ m
unfolding reset
reset_memory m = refl

-- a blank controller is at reset
pub blank_passes : is_reset blank ≡ true
unfolding blank
blank_passes = reset_passes (replicate 8192 0)

pub dropped_blank : dropped blank ≡ blank
unfolding blank dropped reset
dropped_blank = refl

pub blank_sized : length blank.memory ≡ 8192
unfolding blank reset
blank_sized = length-replicate {A = ℕ} 8192 0

pub blank_reset : blank ≡ reset blank.memory
unfolding blank reset
blank_reset = refl
