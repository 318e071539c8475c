-- A slot that is sent on. Assumes nothing.
use Rattle.std.specs.Prelude.{◌≡◌, ◌+◌, List, length}
use Rattle.ssd1329.specs.declared.transfer.Transfer.{Transfer}
use Rattle.link.specs.declared.links.Link.{Ghosts}
use Rattle.marks.specs.Sending.{sent_all}
use Rattle.screen.specs.declared.slots.Slot.{Slot}

-- exactly ts were sent, over the same link
pub record Sends {L : Type 0} (k : Ghosts L) (before : Slot L k) (ts : List Transfer) (after : Slot L k) : Type 0 where
  pub same_link : after.link.ghost_name ≡ before.link.ghost_name
  pub sent : k.means after.link.now ≡ sent_all (k.means before.link.now) ts
  pub spent : after.left + length ts ≡ before.left
