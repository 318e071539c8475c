-- A glass over a memory of zeros shows no dot above 0.
use Rattle.std.proofs.Common.{◌≡◌, ℕ, get_or, replicate, arith}
use Rattle.std.proofs.lemmas.Grind.{common_steps}
use Rattle.ssd1329.specs.Chip.{Chip, reset, blank, step, run, dropped}
use Rattle.ssd1329.specs.Glass.{Wires, unmarked, glass}
use Rattle.ssd1329.specs.Examples.{lost_byte}

zeros : (n k : ℕ) → ◌≡◌ {A = ℕ} (get_or (replicate n 0) k 0) 0
zeros n k = grind (arith, common_steps)

pub zero_glass : (w : Wires) (c : Chip) → ((k : ℕ) → get_or c.memory k 0 ≡ 0) → (x y : ℕ) → glass w c x y ≡ 0
unfolding glass
zero_glass w c z x y = grind (arith, z)

-- the byte that the end of a slot dropped is not in the memory
pub all_zero : (x y : ℕ) → glass unmarked lost_byte x y ≡ 0
unfolding reset blank step run dropped
all_zero x y = zero_glass unmarked lost_byte (zeros 8192) x y
