-- The byte that two capital hexadecimal digits write, as a value. Assumes nothing.
use Rattle.std.specs.Prelude.{ℕ, ◌+◌, ◌-◌, ◌*◌, cond, ◌&&◌, Some, None, Option, nat_le}

-- the number of a digit, 0 to 9 or A to F
abbrev pub digit_of_hex : ℕ → Option ℕ
digit_of_hex c = cond (nat_le 48 c && nat_le c 57) (Some (c - 48)) (cond (nat_le 65 c && nat_le c 70) (Some (c - 55)) None)

abbrev pub two_digits : Option ℕ → Option ℕ → Option ℕ
two_digits None b = None
two_digits (Some a) None = None
two_digits (Some a) (Some b) = Some (16 * a + b)

abbrev pub octet : ℕ → ℕ → Option ℕ
octet a b = two_digits (digit_of_hex a) (digit_of_hex b)
