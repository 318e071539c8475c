-- How a text is parted: into lines by its newlines, a line into fields by its tabs. Assumes nothing.
use Rattle.std.specs.Prelude.{ℕ, Bool, cond, ◌&&◌, List, [], ◌∷◌, length, take, ◌==◌, nat_le}

-- a byte more in front of the first part
abbrev pub longer : ℕ → List (List ℕ) → List (List ℕ)
longer b [] = (b ∷ []) ∷ []
longer b (p ∷ ps) = (b ∷ p) ∷ ps

-- the parts between the bytes that are the mark, one more than there are such bytes
unfoldable pub parts : ℕ → List ℕ → List (List ℕ)
parts mark [] = [] ∷ []
parts mark (b ∷ bs) = cond (b == mark) ([] ∷ parts mark bs) (longer b (parts mark bs))

-- the fields of a line
abbrev pub fields : List ℕ → List (List ℕ)
fields line = parts 9 line

-- the lines of a text
pub data Lines : Type 0 where
  -- the text ends
  no_more : Lines
  -- what follows has no newline, or none within the room
  unended : Lines
  a_line : List ℕ → Lines → Lines

-- every part but the last is a line; nothing may come after the last newline. `whole`: nothing stands past the room
unfoldable pub lines_by : Bool → List (List ℕ) → Lines
lines_by whole [] = no_more
lines_by whole (p ∷ []) = cond (whole && length p == 0) no_more unended
lines_by whole (p ∷ q ∷ ps) = a_line p (lines_by whole (q ∷ ps))

-- a text has room for 65,535 bytes
abbrev pub room : ℕ
room = 65535

abbrev pub lines : List ℕ → Lines
lines text = lines_by (nat_le (length text) room) (parts 10 (take room text))
