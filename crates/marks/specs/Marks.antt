-- Due marks: a word has a mark for each byte of a line. Bit k set: byte k is due. Assumes nothing.
use Rattle.std.specs.Prelude.{◌≡◌, ℕ, zero, suc, ◌+◌, ◌/◌, ◌%◌, ◌^◌, ◌<◌, ◌≤◌, Bool, true, false, cond, not, ◌&&◌, ◌==◌, nat_le, nat_lt}

-- byte k is due
unfoldable pub bit : ℕ → ℕ → Bool
bit w k = w / 2 ^ k % 2 == 1

-- how many places below n pass the test
unfoldable pub count : (ℕ → Bool) → ℕ → ℕ
count f zero = 0
count f (suc n) = count f n + cond (f n) 1 0

-- k is one of the m places from s on
abbrev pub inside : ℕ → ℕ → ℕ → Bool
inside s m k = nat_le s k && nat_lt k (s + m)

-- a run ends at k: byte k is due and byte k + 1 is not
abbrev pub ends : ℕ → ℕ → Bool
ends w k = bit w k && not (bit w (k + 1))

-- how many bytes of a line are due
abbrev pub due : ℕ → ℕ
due w = count (bit w) 64

-- in how many runs
abbrev pub runs : ℕ → ℕ
runs w = count (ends w) 64

-- the first run of w: m bytes from s on
pub record First (w s m : ℕ) : Type 0 where
  pub within : s + m ≤ 64
  pub some : 0 < m
  pub before : (k : ℕ) → k < s → bit w k ≡ false
  pub inside : (k : ℕ) → s ≤ k → k < s + m → bit w k ≡ true
  pub after : bit w (s + m) ≡ false

-- v is w with the m marks from s on cleared
pub record Cleared (w s m v : ℕ) : Type 0 where
  pub gone : (k : ℕ) → s ≤ k → k < s + m → bit v k ≡ false
  pub kept_below : (k : ℕ) → k < s → bit v k ≡ bit w k
  pub kept_above : (k : ℕ) → s + m ≤ k → bit v k ≡ bit w k

-- the same where the marks are within a word; else v is w
pub record Clearing (w s m v : ℕ) : Type 0 where
  pub within : s + m ≤ 64 → Cleared w s m v
  pub beyond : 64 < s + m → v ≡ w

-- a run starts at k: byte k is due, and k is 0 or byte k - 1 is not due
abbrev pub starts : ℕ → ℕ → Bool
starts w zero = bit w 0
starts w (suc k) = bit w (suc k) && not (bit w k)

-- a word has as many runs by their starts as by their ends
abbrev pub RunsStart : Type 0
RunsStart = (w : ℕ) → w < 2 ^ 64 → count (starts w) 64 ≡ runs w
