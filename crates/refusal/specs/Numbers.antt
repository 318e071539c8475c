-- The number of every refusal, as a caller is told it. Assumes nothing.
use Rattle.std.specs.Prelude.{ℕ}
use Rattle.refusal.specs.declared.refusals.Refusal.{Refusal}
use Rattle.refusal.specs.declared.refusals.Refusal.TheVariants.{InUse, GrantSpent, NoSlot, NoRoom, SlotSize, Position, Size, Gray, PictureShape, CropOutside, Shift, OutsidePicture, Memory}

abbrev pub number : Refusal → ℕ
number InUse = 1
number GrantSpent = 2
number NoSlot = 3
number NoRoom = 4
number SlotSize = 5
number Position = 6
number Size = 7
number Gray = 8
number PictureShape = 9
number CropOutside = 10
number Shift = 11
number OutsidePicture = 12
number Memory = 15

-- a bad listing comes with the place of its first bad line
abbrev pub bad_listing_number : ℕ
bad_listing_number = 13

-- a flush that has something left to send comes with its count, how many bytes are due, and the first of them
abbrev pub left_over_number : ℕ
left_over_number = 14
