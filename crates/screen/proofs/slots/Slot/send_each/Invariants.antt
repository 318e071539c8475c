use Rattle.std.proofs.Common.{◌≡◌, ℕ, ◌+◌, map, take}
use Rattle.ssd1329.specs.declared.transfer.Transfer.{Transfer}
use Rattle.screen.specs.Slots.{Sends}
use Rattle.screen.proofs.slots.Slot.send_each.Given as goal

abbrev pub invariant-loop-byte : goal.invariant-loop-byte
invariant-loop-byte g l =
    (l.self.left + l.byte-index ≡ l.initial.self.left)
    × ((transfer : ℕ → Transfer) → ((b : ℕ) (t : Transfer) → goal.F-post g l.of b t → t ≡ transfer b)
    → Sends g.L.Link l.initial.self (map transfer (take l.byte-index l.bytes)) l.self)
