-- Bytes read two digits at a time.
use Rattle.std.proofs.Common.{◌≡◌, ℕ, ◌≤◌, List, [], ◌∷◌, ◌++◌, ◌-◌, length, get_or, take, drop, Some, None, Option, sym, refl, ap, ◌∙◌, arith}
use Rattle.std.proofs.lemmas.List.{append_assoc, append-nil, take_rest}
use Rattle.listing.specs.Octets.{octet}
use Rattle.script.specs.Hex.{byte_and, bytes_of_hex}

-- bytes that are read, and those that follow them
abbrev pub bytes_and : List ℕ → Option (List ℕ) → Option (List ℕ)
bytes_and xs None = None
bytes_and xs (Some ys) = Some (xs ++ ys)

-- A byte that follows is one more that is read.
byte_more : (xs : List ℕ) (b : ℕ) (more : Option (List ℕ)) → bytes_and xs (byte_and (Some b) more) ≡ bytes_and (xs ++ b ∷ []) more
byte_more xs b None = refl
byte_more xs b (Some ys) = ap Some (sym (append_assoc xs (b ∷ []) ys))

-- Two digits more.
pair_on : (xs : List ℕ) (byte : ℕ) (rest : List ℕ) → 2 ≤ length rest → octet (get_or rest 0 0) (get_or rest 1 0) ≡ Some byte
    → bytes_and xs (bytes_of_hex rest) ≡ bytes_and (xs ++ byte ∷ []) (bytes_of_hex (drop 2 rest))
unfolding bytes_of_hex
pair_on xs byte [] l e = absurd (omega arith)
pair_on xs byte (a ∷ []) l e = absurd (omega arith)
pair_on xs byte (a ∷ b ∷ more) l e = ap (λ o. bytes_and xs (byte_and o (bytes_of_hex more))) e ∙ byte_more xs byte (bytes_of_hex more)

pub pair_goes_on : (xs ys : List ℕ) (byte : ℕ) (rest : List ℕ) → 2 ≤ length rest
    → octet (get_or rest 0 0) (get_or rest 1 0) ≡ Some byte → ys ≡ xs ++ byte ∷ []
    → bytes_and xs (bytes_of_hex rest) ≡ bytes_and ys (bytes_of_hex (take (length rest - 2) (drop 2 rest)))
pair_goes_on xs ys byte rest l e more =
    pair_on xs byte rest l e ∙ ap (λ v. bytes_and v (bytes_of_hex (drop 2 rest))) (sym more)
    ∙ ap (λ s. bytes_and ys (bytes_of_hex s)) (sym (take_rest rest 2))

-- Two that write no byte: nothing after them mends that.
pub pair_stops : (xs rest : List ℕ) → 2 ≤ length rest → octet (get_or rest 0 0) (get_or rest 1 0) ≡ None → bytes_and xs (bytes_of_hex rest) ≡ None
unfolding bytes_of_hex
pair_stops xs [] l e = absurd (omega arith)
pair_stops xs (a ∷ []) l e = absurd (omega arith)
pair_stops xs (a ∷ b ∷ more) l e = ap (λ o. bytes_and xs (byte_and o (bytes_of_hex more))) e

-- One digit alone stops it too.
pub lone_stops : (xs rest : List ℕ) → length rest ≡ 1 → bytes_and xs (bytes_of_hex rest) ≡ None
unfolding bytes_of_hex
lone_stops xs [] l = absurd (omega arith)
lone_stops xs (a ∷ []) l = refl
lone_stops xs (a ∷ b ∷ more) l = absurd (omega arith)

-- Where no digit is left, the bytes are all.
pub pairs_end : (xs rest : List ℕ) → length rest ≡ 0 → bytes_and xs (bytes_of_hex rest) ≡ Some xs
unfolding bytes_of_hex
pairs_end xs [] l = ap Some (append-nil xs)
pairs_end xs (a ∷ more) l = absurd (omega arith)

-- what each turn of reading digits needs
pub ruleset octets = (pair_goes_on, pair_stops, lone_stops, pairs_end)
