-- The text of one row of the glass. Assumes nothing.
use Rattle.std.specs.Prelude.{◌≡◌, ℕ, zero, suc, ◌+◌, ◌/◌, ◌%◌, cond, List, [], ◌∷◌, ◌++◌, length, take, drop, ◌==◌, nat_lt}
use Rattle.ssd1329.specs.Chip.{Chip}
use Rattle.ssd1329.specs.Glass.{Wires, glass}

-- the character of a decimal digit
abbrev pub digit : ℕ → ℕ
digit d = 48 + d

-- a number below 1,000 in decimal digits, none of them a leading 0
unfoldable pub decimal : ℕ → List ℕ
decimal n =
    cond (nat_lt n 10) (digit n ∷ [])
    (cond (nat_lt n 100) (digit (n / 10) ∷ digit (n % 10) ∷ [])
    (digit (n / 100) ∷ digit (n / 10 % 10) ∷ digit (n % 10) ∷ []))

-- y, a tab, x, a tab, the gray and a newline
unfoldable pub dot_line : ℕ → ℕ → ℕ → List ℕ
dot_line y x gray = decimal y ++ (9 ∷ []) ++ decimal x ++ (9 ∷ []) ++ decimal gray ++ (10 ∷ [])

-- only a dot above 0 has a line
abbrev pub dot_text : ℕ → ℕ → ℕ → List ℕ
dot_text y x gray = cond (gray == 0) [] (dot_line y x gray)

-- the lines of the dots left of x, from left to right
unfoldable pub text_before : (ℕ → ℕ) → ℕ → ℕ → List ℕ
text_before gray y zero = []
text_before gray y (suc x) = text_before gray y x ++ dot_text y x (gray x)

unfoldable pub row_text : Wires → Chip → ℕ → List ℕ
row_text w c y = text_before (λ x. glass w c x y) y 128

-- the buffer once the bytes are written into it at a place: what stands before and after them stays
unfoldable pub written : List ℕ → ℕ → List ℕ → List ℕ
written buffer at bytes = take at buffer ++ (bytes ++ drop (at + length bytes) buffer)

-- the bytes were written at a place, and the answer is where they end
pub record Put (before : List ℕ) (at : ℕ) (bytes after : List ℕ) (end : ℕ) : Type 0 where
  pub text : after ≡ written before at bytes
  pub ends : end ≡ at + length bytes
