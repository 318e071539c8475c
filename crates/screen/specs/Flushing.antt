-- What a flush sends, answers and leaves. Only the choice of the blocks is open. Assumes nothing.
use Rattle.std.specs.Prelude.{◌≡◌, ℕ, ◌+◌, ◌-◌, ◌*◌, ◌<◌, ◌≤◌, Bool, true, false, cond, not, ◌&&◌, ◌||◌, ◌⊎◌, List, [], ◌∷◌, ◌++◌, length, Some, None, Ok, Err, Option, Result, ◌==◌, nat_lt, slice_index}
use Rattle.ssd1329.specs.declared.transfer.Transfer.{Transfer}
use Rattle.ssd1329.specs.declared.transfer.Transfer.TheVariants.{Command}
use Rattle.ssd1329.specs.Wiring.{settings_for}
use Rattle.link.specs.Links.{open_answer}
use Rattle.marks.specs.Marks.{bit}
use Rattle.marks.specs.Blocks.{Block, area, Boxed, traffic, Covers, bytes_due, runs_due, worth}
use Rattle.marks.specs.Sending.{Session}
use Rattle.screen.specs.declared.answers.Place.{Place}
use Rattle.screen.specs.declared.answers.LeftOver.{LeftOver}
use Rattle.screen.specs.declared.answers.FlushFault.{FlushFault}
use Rattle.screen.specs.declared.answers.FlushFault.TheVariants as by
use Rattle.screen.specs.Screens.{ScreenMeaning}

-- the transfers of a setting that is sent now: it was owed, and is so no more
abbrev pub setting : ℕ → ℕ → Bool → Bool → List Transfer
setting opcode value was now = cond (was && not now) (Command opcode ∷ Command value ∷ []) []

abbrev pub remap_sent : ScreenMeaning → ScreenMeaning → List Transfer
remap_sent s t = setting 0xA0 (settings_for s.wiring).remap s.remap_owed t.remap_owed

abbrev pub offset_sent : ScreenMeaning → ScreenMeaning → List Transfer
offset_sent s t = setting 0xA2 (settings_for s.wiring).offset s.offset_owed t.offset_owed

-- nothing is left to send
abbrev pub complete : ScreenMeaning → Bool
complete s = (not s.remap_owed && not s.offset_owed) && bytes_due s.canvas.due == 0

-- the closing command: AFh the first time that nothing is left to send, else E3h
abbrev pub closing : Bool → Bool → ℕ
closing lit all = cond (all && not lit) 0xAF 0xE3

-- all that a flush sends: nothing where nothing was left to send
unfoldable pub sending : ScreenMeaning → List Block → ScreenMeaning → List Transfer
sending s blocks t =
    cond (s.lit && complete s) []
    (remap_sent s t ++ (offset_sent s t ++ (traffic s.canvas.cells blocks ++ Command (closing s.lit (complete t)) ∷ [])))

-- the transfers that the settings still take
abbrev pub owing : ScreenMeaning → ℕ
owing s = cond s.remap_owed 2 0 + cond s.offset_owed 2 0

-- a flush that asked for n transfers took the screen from s to t
pub record Flushed (s : ScreenMeaning) (n : ℕ) (t : ScreenMeaning) : Type 0 where
  pub grant : ℕ
  pub blocks : List Block
  pub covers : Covers s.canvas.due blocks t.canvas.due
  pub session : Session s.link n grant (sending s blocks t) t.link
  pub cells : t.canvas.cells ≡ s.canvas.cells
  pub wiring : t.wiring ≡ s.wiring
  pub lit : t.lit ≡ (s.lit || complete t)
  -- a setting is sent where two transfers and the closing one are granted
  pub remap_owed : t.remap_owed ≡ (s.remap_owed && nat_lt grant 3)
  pub offset_owed : t.offset_owed ≡ (s.offset_owed && nat_lt (grant - length (remap_sent s t)) 3)
  -- at most the settings, a transfer for each due byte, six for each run, and the closing one; where the grant has as many, all is sent
  pub most : length (sending s blocks t) ≤ owing s + worth s.canvas.due + 1
  pub all : owing s + worth s.canvas.due + 1 ≤ grant → complete t ≡ true
  -- counted by blocks, of which there are no more than runs
  pub by_blocks : length (sending s blocks t) ≤ owing s + bytes_due s.canvas.due + 6 * length blocks + 1
  pub few_blocks : length blocks ≤ runs_due s.canvas.due
  -- it stops only where no byte is due, or where no window with a byte fits beside the closing command
  pub full : (bytes_due t.canvas.due ≡ 0) ⊎ (grant < length (sending s blocks t) + 7)
  pub moves : 12 ≤ grant → (complete t ≡ true) ⊎ (bytes_due t.canvas.due < bytes_due s.canvas.due)

-- the first due byte by line and column, or none
pub record FirstDue (ws : List ℕ) (p : Place) : Type 0 where
  pub on_canvas : (p.line < 128) × (p.column < 64)
  pub marked : bit (slice_index ws p.line) p.column ≡ true
  pub above : (y : ℕ) → y < p.line → slice_index ws y ≡ 0
  pub left : (k : ℕ) → k < p.column → bit (slice_index ws p.line) k ≡ false

abbrev pub Found : List ℕ → Option Place → Type 0
Found ws (Some p) = FirstDue ws p
Found ws None = bytes_due ws ≡ 0

-- what is told after so many transfers, with so many bytes still due
abbrev pub Told : Bool → ℕ → ℕ → List ℕ → Result ℕ FlushFault → Type 0
Told all count left ws (Ok n) = (all ≡ true) × (n ≡ count)
Told all count left ws (Err (by.Refused e)) = ⊥
Told all count left ws (Err (by.LeftOver l)) = (all ≡ false) × (l.count ≡ count) × (l.due ≡ left) × Found ws l.first

-- done, with the count: nothing is left to send
pub record Done (s : ScreenMeaning) (n count : ℕ) (t : ScreenMeaning) : Type 0 where
  pub flushed : Flushed s n t
  pub all : complete t ≡ true
  pub counted : count ≡ length (sending s flushed.blocks t)

-- something is left to send
pub record Left (s : ScreenMeaning) (n : ℕ) (l : LeftOver) (t : ScreenMeaning) : Type 0 where
  pub flushed : Flushed s n t
  pub not_all : complete t ≡ false
  pub counted : l.count ≡ length (sending s flushed.blocks t)
  pub due : l.due ≡ bytes_due t.canvas.due
  pub first : Found t.canvas.due l.first

abbrev pub FlushStep : ScreenMeaning → ℕ → Result ℕ FlushFault → ScreenMeaning → Type 0
FlushStep s n (Ok count) t = Done s n count t
FlushStep s n (Err (by.Refused e)) t = (t ≡ s) × (open_answer s.link n ≡ Err e)
FlushStep s n (Err (by.LeftOver l)) t = Left s n l t

-- A flush that asked for n transfers and told that it took `count` led from s to t. Where the bytes of one block were due, these are
-- at most the settings, its window, a transfer for each byte, and the closing one; where the grant has as many, all is sent.
pub record InOneWindow (s : ScreenMeaning) (n count : ℕ) (t : ScreenMeaning) : Type 0 where
  pub most : (b : Block) → Boxed s.canvas.due b → count ≤ owing s + 6 + area b + 1
  pub all : (b : Block) → Boxed s.canvas.due b → (grant : ℕ) → open_answer s.link n ≡ Ok grant → owing s + 6 + area b + 1 ≤ grant → complete t ≡ true

abbrev pub WindowStep : ScreenMeaning → ℕ → Result ℕ FlushFault → ScreenMeaning → Type 0
WindowStep s n (Ok count) t = InOneWindow s n count t
WindowStep s n (Err (by.Refused e)) t = Unit {0}
WindowStep s n (Err (by.LeftOver l)) t = InOneWindow s n l.count t
