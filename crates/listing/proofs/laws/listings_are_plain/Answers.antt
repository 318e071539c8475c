use Rattle.listing.proofs.Back.{laws}
use Rattle.listing.proofs.laws.listings_are_plain.Goals as goal

pub returns : goal.returns
returns c = laws
