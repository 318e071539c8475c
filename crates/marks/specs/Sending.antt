-- Many transfers over a link, and a whole slot. Assumes nothing.
use Rattle.std.specs.Prelude.{◌≡◌, ℕ, ◌+◌, ◌-◌, ◌*◌, ◌/◌, ◌<◌, ◌≤◌, min, ◌⊎◌, List, length, Some, None, Ok, Option, ◌≢◌, slice_index}
use Rattle.ssd1329.specs.declared.transfer.Transfer.{Transfer}
use Rattle.ssd1329.specs.Chip.{run, dropped}
use Rattle.link.specs.Links.{LinkMeaning, open_answer}
use Rattle.marks.specs.Marks.{First}
use Rattle.marks.specs.Blocks.{Block, area, Boxed, lines_of, bytes, traffic, Clears, Covers, bytes_due, worth}

-- a slot after k transfers
abbrev pub less_by : Option ℕ → ℕ → Option ℕ
less_by None k = None
less_by (Some left) k = Some (left - k)

-- what a link means after all of ts
abbrev pub sent_all : LinkMeaning → List Transfer → LinkMeaning
sent_all m ts = record { chip = run m.chip ts; slot = less_by m.slot (length ts); room = m.room - length ts; taken = m.taken + length ts }

-- From m to n: a slot was opened, `asked` transfers asked and `grant` granted; exactly ts were sent; it was closed.
pub record Session (m : LinkMeaning) (asked grant : ℕ) (ts : List Transfer) (n : LinkMeaning) : Type 0 where
  pub opens : open_answer m asked ≡ Ok grant
  pub within : length ts ≤ grant
  pub was_shut : m.slot ≡ None
  pub chip : n.chip ≡ dropped (run m.chip ts)
  pub slot : n.slot ≡ None
  pub taken : n.taken ≡ m.taken + length ts
  pub room : n.room + length ts ≤ m.room

-- From m, with a grant, to n, with left: some blocks were sent. All lines above y are done.
pub record Sweeping (m : LinkMeaning) (canvas ws : List ℕ) (grant : ℕ) (n : LinkMeaning) (vs : List ℕ) (left y : ℕ) : Type 0 where
  pub blocks : List Block
  pub covers : Covers ws blocks vs
  pub sends : n ≡ sent_all m (traffic canvas blocks)
  pub spent : left + length (traffic canvas blocks) ≡ grant
  pub reserve : 0 < left
  pub long : length vs ≡ length ws
  pub passed : (u : ℕ) → u < y → slice_index vs u ≡ 0
  pub fewer : bytes_due vs ≤ bytes_due ws
  pub fell : left < grant → bytes_due vs < bytes_due ws
  -- each transfer was for a byte or a run that is gone; or the last run was cut, and one transfer is left
  pub pays : (length (traffic canvas blocks) + worth vs ≤ worth ws)
      ⊎ ((left ≡ 1) × (length (traffic canvas blocks) + worth vs ≤ worth ws + 6) × (7 ≤ worth vs))

-- the same at the end: no line is left to look at, or no window with a byte fits beside the closing command
pub record Swept (m : LinkMeaning) (canvas ws : List ℕ) (grant : ℕ) (n : LinkMeaning) (vs : List ℕ) (left : ℕ) : Type 0 where
  pub upto : ℕ
  pub sweeping : Sweeping m canvas ws grant n vs left upto
  pub over : (length ws ≤ upto) ⊎ (left < 8)

-- Where the bytes of one block were due, and there is room for all of it: nothing is sent yet, or just this block.
abbrev pub InOneBlock : List ℕ → ℕ → List ℕ → ℕ → Type 0
InOneBlock ws grant vs left =
    (b : Block) → Boxed ws b → area b + 7 ≤ grant → ((left ≡ grant) × (vs ≡ ws)) ⊎ ((left + (area b + 6) ≡ grant) × (bytes_due vs ≡ 0))

-- the first due run of w is not the m bytes from a on: no byte is due, or another run comes first
abbrev pub Other : ℕ → ℕ → ℕ → Type 0
Other w a m = (w ≡ 0) ⊎ ((s : ℕ) × (n : ℕ) × First w s n × (s ≡ a → n ≢ m))

-- Of the lines from y on, h are taken, of which at most `most` may be, and one more cannot be:
-- no more may be, or there is no line below, or it does not begin with just the m bytes from a on.
abbrev pub EndsThere : List ℕ → ℕ → ℕ → ℕ → ℕ → ℕ → Type 0
EndsThere ws y a m most h = (h ≡ most) ⊎ ((y + h ≡ 128) ⊎ Other (slice_index ws (y + h)) a m)

-- The block that is taken at line y where `left` transfers are left. The first due run there has len bytes from a on;
-- m of them fit beside a window and the closing command; and of the lines from y on that begin with just these, h fit.
pub record Chosen (ws : List ℕ) (left y a len m h : ℕ) : Type 0 where
  pub room : 8 ≤ left
  pub first : First (slice_index ws y) a len
  pub most : m ≡ min len (left - 7)
  pub high : 0 < h
  pub fits : h ≤ (left - 7) / m
  pub below : y + h ≤ 128
  pub same : (k : ℕ) → 0 < k → k < h → First (slice_index ws (y + k)) a m

-- of a block, i lines are sent
pub record Blocking (o : LinkMeaning) (canvas ws : List ℕ) (y a m : ℕ) (n : LinkMeaning) (vs : List ℕ) (i : ℕ) : Type 0 where
  pub sends : n ≡ sent_all o (bytes canvas (lines_of y a m i))
  pub clears : Clears ws (lines_of y a m i) vs
  pub ahead : (u : ℕ) → y + i ≤ u → slice_index vs u ≡ slice_index ws u
  pub long : length vs ≡ length ws
  pub size : length (bytes canvas (lines_of y a m i)) ≡ m * i
