use Rattle.std.proofs.Common.{refl, rules}
use Rattle.listing.specs.Listing.{text, fits, slot_after}
use Rattle.listing.specs.ReadBack.{listed, lines}
use Rattle.listing.proofs.reader.Reader.new.Goals as goal

pub invariant_of-result : goal.invariant_of-result
unfolding text fits slot_after listed lines
invariant_of-result c = record { inside = search rules; spelled = refl; lawful = refl; stands = refl }
