-- The window: the part of the memory that data bytes fill, and the place of the next byte. Assumes nothing.
use Rattle.std.specs.Prelude.{ℕ, ◌+◌, Bool, true, false, cond, ◌==◌}

pub record Area : Type 0 where
  pub left : ℕ
  pub right : ℕ
  pub top : ℕ
  pub bottom : ℕ
  -- the column pointer and the line pointer
  pub column : ℕ
  pub line : ℕ

-- the whole memory
abbrev pub whole : Area
whole = record { left = 0; right = 63; top = 0; bottom = 127; column = 0; line = 0 }

-- new columns; the column pointer goes to the first
abbrev pub columns : Area → ℕ → ℕ → Area
columns a first last = record { left = first; right = last; top = a.top; bottom = a.bottom; column = first; line = a.line }

-- new lines; the line pointer goes to the first
abbrev pub lines : Area → ℕ → ℕ → Area
lines a first last = record { left = a.left; right = a.right; top = first; bottom = last; column = a.column; line = first }

abbrev pub pointed : Area → ℕ → ℕ → Area
pointed a column line = record { left = a.left; right = a.right; top = a.top; bottom = a.bottom; column = column; line = line }

-- a pointer's next place: from the last back to the first
abbrev pub following : ℕ → ℕ → ℕ → ℕ
following first last n = cond (n == last) first (n + 1)

-- the pointers after a store: along the line, and from its end on to the next line; or down, with the parts changed
abbrev pub advanced : Area → Bool → Area
advanced a false = pointed a (following a.left a.right a.column) (cond (a.column == a.right) (following a.top a.bottom a.line) a.line)
advanced a true = pointed a (cond (a.line == a.bottom) (following a.left a.right a.column) a.column) (following a.top a.bottom a.line)
