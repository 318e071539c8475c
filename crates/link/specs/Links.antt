-- What a link means, and what each of its calls answers and leaves. Assumes nothing.
use Rattle.std.specs.Prelude.{◌≡◌, ℕ, ◌+◌, ◌-◌, ◌≤◌, min, Bool, cond, ◌||◌, length, Some, None, Ok, Err, Option, Result, ◌==◌, nat_lt}
use Rattle.refusal.specs.declared.refusals.Refusal.{Refusal}
use Rattle.refusal.specs.declared.refusals.Refusal.TheVariants.{InUse, GrantSpent, NoSlot, NoRoom, SlotSize}
use Rattle.ssd1329.specs.declared.transfer.Transfer.{Transfer}
use Rattle.ssd1329.specs.Chip.{Chip, reset, step, dropped}
use Rattle.listing.specs.Listing.{less}

pub record LinkMeaning : Type 0 where
  pub chip : Chip
  -- closed, None, or open with so many transfers left
  pub slot : Option ℕ
  -- how many transfers it can still take
  pub room : ℕ
  -- how many it took since it was fresh
  pub taken : ℕ

-- what is left of the slot
abbrev pub lefts : Option ℕ → ℕ
lefts None = 0
lefts (Some left) = left

-- the laws of every link
pub record Lawful (m : LinkMeaning) : Type 0 where
  -- a controller has 128 lines of 64 bytes
  pub sized : length m.chip.memory ≡ 8192
  pub counted : m.room + m.taken ≤ 4294967295
  -- while nothing was taken the controller is at reset, whatever its memory
  pub fresh : m.taken ≡ 0 → m.chip ≡ reset m.chip.memory
  pub within : lefts m.slot ≤ m.room

-- opening: the size is judged first, then the slot, then the room

abbrev pub bad_size : ℕ → Bool
bad_size n = nat_lt n 1 || nat_lt 9999 n

abbrev pub open_closed : Option ℕ → ℕ → ℕ → Result ℕ Refusal
open_closed (Some left) room n = Err InUse
open_closed None room n = cond (room == 0) (Err NoRoom) (Ok (min n room))

abbrev pub open_answer : LinkMeaning → ℕ → Result ℕ Refusal
open_answer m n = cond (bad_size n) (Err SlotSize) (open_closed m.slot m.room n)

abbrev pub opened : LinkMeaning → ℕ → LinkMeaning
opened m grant = record { chip = m.chip; slot = Some grant; room = m.room; taken = m.taken }

abbrev pub open_after : LinkMeaning → Result ℕ Refusal → LinkMeaning
open_after m (Ok grant) = opened m grant
open_after m (Err e) = m

-- sending

abbrev pub send_answer : Option ℕ → Result (Unit {0}) Refusal
send_answer None = Err NoSlot
send_answer (Some left) = cond (left == 0) (Err GrantSpent) (Ok tt)

abbrev pub sent : LinkMeaning → Transfer → LinkMeaning
sent m t = record { chip = step m.chip t; slot = less m.slot; room = m.room - 1; taken = m.taken + 1 }

abbrev pub send_after : LinkMeaning → Transfer → Result (Unit {0}) Refusal → LinkMeaning
send_after m t (Ok x) = sent m t
send_after m t (Err e) = m

-- closing: it may lower the room, and never raises it

abbrev pub close_answer : Option ℕ → Result (Unit {0}) Refusal
close_answer None = Err NoSlot
close_answer (Some left) = Ok tt

pub record Closed (m n : LinkMeaning) : Type 0 where
  pub drops : n.chip ≡ dropped m.chip
  pub shut : n.slot ≡ None
  pub taken_stays : n.taken ≡ m.taken
  pub room_falls : n.room ≤ m.room

abbrev pub CloseAfter : LinkMeaning → Result (Unit {0}) Refusal → LinkMeaning → Type 0
CloseAfter m (Ok x) n = Closed m n
CloseAfter m (Err e) n = n ≡ m
