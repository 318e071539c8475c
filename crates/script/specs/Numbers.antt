-- What a field says as a number or as bytes, or None where it says none. Assumes nothing.
use Rattle.std.specs.Prelude.{ℕ, ◌+◌, ◌-◌, ◌*◌, ◌^◌, min, Bool, cond, ◌&&◌, List, [], ◌∷◌, ℤ, pos, neg_ℤ, Some, None, Option, ◌==◌, nat_le, nat_lt}

-- a value, where it passes a test
abbrev pub passing : {A : Type 0} → Bool → A → Option A
passing test a = cond test (Some a) None

-- whether a byte is a decimal digit
abbrev pub is_digit : ℕ → Bool
is_digit c = nat_le 48 c && nat_le c 57

-- the number that goes on with these digits
unfoldable pub number_on : ℕ → List ℕ → Option ℕ
number_on n [] = Some n
number_on n (c ∷ cs) = cond (is_digit c) (number_on (10 * n + (c - 48)) cs) None

-- the number that decimal digits write, at least one
abbrev pub decimal : List ℕ → Option ℕ
decimal [] = None
decimal (c ∷ cs) = number_on 0 (c ∷ cs)

-- a number that fits 32 bits
abbrev pub fitting : Option ℕ → Option ℕ
fitting None = None
fitting (Some n) = passing (nat_lt n (2 ^ 32)) n

unfoldable pub unsigned : List ℕ → Option ℕ
unsigned field = fitting (decimal field)

-- a gray is a byte: a number above 255 counts as 255, which is refused just the same
abbrev pub as_gray : ℕ → ℕ
as_gray n = min n 255

-- the same with a sign: 31 bits are left, and one number more below zero
abbrev pub positive : Option ℕ → Option ℤ
positive None = None
positive (Some n) = passing (nat_lt n (2 ^ 31)) (pos n)

abbrev pub negative : Option ℕ → Option ℤ
negative None = None
negative (Some n) = passing (nat_le n (2 ^ 31)) (neg_ℤ (pos n))

-- a minus may stand in front
unfoldable pub signed : List ℕ → Option ℤ
signed [] = None
signed (c ∷ cs) = cond (c == 45) (negative (unsigned cs)) (positive (unsigned (c ∷ cs)))
