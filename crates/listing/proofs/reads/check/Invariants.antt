use Rattle.std.proofs.Common.{◌≡◌, ◌-◌, length}
use Rattle.listing.proofs.reads.check.Given as goal

abbrev pub invariant-loop : goal.invariant-loop
invariant-loop l = l.reader.text.now ≡ l.text

abbrev pub decreases-loop : goal.decreases-loop
decreases-loop l = length l.initial.text - l.reader.at
