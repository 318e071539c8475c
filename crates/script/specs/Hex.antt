-- The bytes that capital hexadecimal digits write, two a byte. Assumes nothing.
use Rattle.std.specs.Prelude.{ℕ, List, [], ◌∷◌, Some, None, Option}
use Rattle.listing.specs.Octets.{octet}

-- a byte, and those after it
abbrev pub byte_and : Option ℕ → Option (List ℕ) → Option (List ℕ)
byte_and None bytes = None
byte_and (Some b) None = None
byte_and (Some b) (Some bytes) = Some (b ∷ bytes)

-- no digits write no bytes; one digit alone writes none
unfoldable pub bytes_of_hex : List ℕ → Option (List ℕ)
bytes_of_hex [] = Some []
bytes_of_hex (a ∷ []) = None
bytes_of_hex (a ∷ b ∷ more) = byte_and (octet a b) (bytes_of_hex more)
