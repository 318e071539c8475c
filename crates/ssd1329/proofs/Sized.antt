-- A transfer keeps the memory's length.
use Rattle.std.proofs.Common.{◌≡◌, length, refl, arith, length-set}
use Rattle.ssd1329.specs.declared.transfer.Transfer.{Transfer}
use Rattle.ssd1329.specs.Chip.{Chip, step, dropped}

pub step_sized : (c : Chip) (t : Transfer) → length (step c t).memory ≡ length c.memory
unfolding step
step_sized c t = grind (arith, length-set)

pub dropped_memory : (c : Chip) → (dropped c).memory ≡ c.memory
unfolding dropped
dropped_memory c = refl
