use Rattle.std.proofs.Common.{◌≡◌, length, vec_items}
use Rattle.script.specs.Hex.{bytes_of_hex}
use Rattle.script.proofs.Octets.{bytes_and}
use Rattle.script.proofs.hex.hex_bytes.Given as goal

abbrev pub invariant-loop-rest : goal.invariant-loop-rest
invariant-loop-rest l = bytes_of_hex l.field ≡ bytes_and (vec_items l.bytes) (bytes_of_hex l.rest)

abbrev pub decreases-loop-rest : goal.decreases-loop-rest
decreases-loop-rest l = length l.rest
