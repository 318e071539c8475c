-- What a listing is: the text of its records, line by line, and which record may follow which. Assumes nothing.
-- It is defined by writing: a text is a listing when it is the text of records that may follow one another.
use Rattle.std.specs.Prelude.{◌≡◌, ℕ, ◌+◌, ◌-◌, ◌/◌, ◌%◌, ◌<◌, ◌≤◌, Bool, true, false, cond, ◌&&◌, ◌⊎◌, List, [], ◌∷◌, ◌++◌, length, take, Some, None, Option, nat_lt}
use Rattle.ssd1329.specs.declared.transfer.Transfer.{Transfer}
use Rattle.ssd1329.specs.declared.transfer.Transfer.TheVariants.{Command, Data}
use Rattle.listing.specs.declared.record.Record.{Record}
use Rattle.listing.specs.declared.record.Record.TheVariants.{Open, Sent, Close}

-- the characters of a digit, decimal and hexadecimal
abbrev pub dec : ℕ → ℕ
dec d = 48 + d

abbrev pub hex : ℕ → ℕ
hex d = cond (nat_lt d 10) (48 + d) (55 + d)

-- the line of a record: O, C, D or Z, a tab and the digits (Z has none), a newline
abbrev pub line : Record → List ℕ
line (Open n) = 79 ∷ 9 ∷ dec (n / 1000 % 10) ∷ dec (n / 100 % 10) ∷ dec (n / 10 % 10) ∷ dec (n % 10) ∷ 10 ∷ []
line (Sent (Command b)) = 67 ∷ 9 ∷ hex (b / 16) ∷ hex (b % 16) ∷ 10 ∷ []
line (Sent (Data b)) = 68 ∷ 9 ∷ hex (b / 16) ∷ hex (b % 16) ∷ 10 ∷ []
line Close = 90 ∷ 10 ∷ []

-- how many bytes the line has
abbrev pub wide : Record → ℕ
wide (Open n) = 7
wide (Sent t) = 5
wide Close = 2

unfoldable pub text : List Record → List ℕ
text [] = []
text (r ∷ rs) = line r ++ text rs

-- the numbers that a line can show
abbrev pub byte_of : Transfer → ℕ
byte_of (Command b) = b
byte_of (Data b) = b

abbrev pub Writable : Record → Type 0
Writable (Open n) = n < 10000
Writable (Sent t) = byte_of t < 256
Writable Close = Unit {0}

-- A slot is closed, None, or open with so many transfers left.
-- Slots do not nest, and hold no more transfers than granted; outside a slot only an open may stand.
abbrev pub allowed : Option ℕ → Record → Bool
allowed None (Open n) = nat_lt 0 n && nat_lt n 10000
allowed None (Sent t) = false
allowed None Close = false
allowed (Some left) (Open n) = false
allowed (Some left) (Sent t) = nat_lt 0 left && nat_lt (byte_of t) 256
allowed (Some left) Close = true

abbrev pub less : Option ℕ → Option ℕ
less None = None
less (Some left) = Some (left - 1)

-- the slot after a record
abbrev pub slot_then : Option ℕ → Record → Option ℕ
slot_then slot (Open n) = Some n
slot_then slot (Sent t) = less slot
slot_then slot Close = None

-- each record may follow those before it
unfoldable pub fits : Option ℕ → List Record → Bool
fits slot [] = true
fits slot (r ∷ rs) = allowed slot r && fits (slot_then slot r) rs

-- the slot after all of them
unfoldable pub slot_after : Option ℕ → List Record → Option ℕ
slot_after slot [] = slot
slot_after slot (r ∷ rs) = slot_after (slot_then slot r) rs

-- the text lists the records, from a closed slot on; the last slot may lack its close
pub record Lists (bytes : List ℕ) (records : List Record) : Type 0 where
  pub spelled : bytes ≡ text records
  pub lawful : fits None records ≡ true

-- the first bad line begins at the place: there the longest front that is a listing ends, short of the text's end
pub record BadAt (bytes : List ℕ) (place : ℕ) : Type 0 where
  pub more : place < length bytes
  pub records : List Record
  pub front : Lists (take place bytes) records
  pub longest : (q : ℕ) (qs : List Record) → q ≤ length bytes → Lists (take q bytes) qs → q ≤ place

-- a text that is too long is refused before its lines are looked at
abbrev pub RefusedAt : List ℕ → ℕ → Type 0
RefusedAt bytes place = ((65535 < length bytes) × (place ≡ 65535)) ⊎ ((length bytes ≤ 65535) × BadAt bytes place)

-- words for one line

-- the text begins with the line of the record
abbrev pub Begins : List ℕ → Record → Type 0
Begins bytes r = take (wide r) bytes ≡ line r

-- the characters of n: four decimal, two hexadecimal
abbrev pub Four : ℕ → ℕ → ℕ → ℕ → ℕ → Type 0
Four a b c d n = (a ≡ dec (n / 1000 % 10)) × (b ≡ dec (n / 100 % 10)) × (c ≡ dec (n / 10 % 10)) × (d ≡ dec (n % 10))

abbrev pub Two : ℕ → ℕ → ℕ → Type 0
Two a b n = (a ≡ hex (n / 16)) × (b ≡ hex (n % 16))
