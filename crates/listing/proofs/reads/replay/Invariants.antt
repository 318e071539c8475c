use Rattle.std.proofs.Common.{◌≡◌, ◌-◌, length, take}
use Rattle.ssd1329.specs.Meaning.{chip}
use Rattle.listing.specs.ReadBack.{listed}
use Rattle.listing.specs.Replay.{replayed}
use Rattle.listing.proofs.reads.replay.Given as goal

abbrev pub invariant-loop-r : goal.invariant-loop-r
invariant-loop-r l = (l.reader.text.now ≡ l.text) × (chip l.controller ≡ replayed (chip l.initial.controller) (listed (take l.reader.at l.text)))

abbrev pub decreases-loop-r : goal.decreases-loop-r
decreases-loop-r l = length l.initial.text - l.reader.at
