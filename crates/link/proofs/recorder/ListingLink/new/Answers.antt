use Rattle.std.proofs.Common.{refl, arith}
use Rattle.listing.specs.Listing.{text, fits, slot_after}
use Rattle.listing.specs.ReadBack.{listed, lines}
use Rattle.link.specs.Space.{transfers}
use Rattle.link.proofs.Recorded.{nothing_recorded}
use Rattle.link.proofs.recorder.ListingLink.new.Goals as goal

pub invariant_of-result : goal.invariant_of-result
unfolding text fits slot_after listed lines transfers
invariant_of-result c = record { inside = omega arith; spelled = refl; lawful = refl; stands = refl; counted = refl; few = omega arith }

pub returns-clause-means : goal.returns-clause-means
unfolding listed lines
returns-clause-means c = nothing_recorded _

pub returns-clause-empty : goal.returns-clause-empty
unfolding listed lines
returns-clause-empty c = refl
