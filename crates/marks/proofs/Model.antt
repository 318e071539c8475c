-- The controller by what it is once the byte that it holds is stored. No other file opens `step`.
use Rattle.std.proofs.Common.{◌≡◌, ℕ, ◌≤◌, Bool, true, false, ◌&&◌, leb, List, [], ◌∷◌, ◌++◌, map, length, set, Some, None, Option, sym, refl, ap, ◌∙◌, subst}
use Rattle.std.proofs.lemmas.Bool.{le-leb, cond-true, and_from}
use Rattle.ssd1329.specs.declared.controller.Awaited.{Awaited}
use Rattle.ssd1329.specs.declared.controller.Awaited.TheVariants.{Opcode}
use Rattle.ssd1329.specs.declared.transfer.Transfer.{Transfer}
use Rattle.ssd1329.specs.declared.transfer.Transfer.TheVariants.{Command, Data}
use Rattle.ssd1329.specs.Area.{Area, columns, lines, advanced}
use Rattle.ssd1329.specs.Settings.{Settings, with_remap, with_offset}
use Rattle.ssd1329.specs.Remap.{legal, runs_down}
use Rattle.ssd1329.specs.Chip.{Chip, reset, address, holding, asleep_or_awake, set_up, stored, met, step, run, dropped}
use Rattle.marks.specs.Landing.{Idle, kept, SettingsLand}

-- the controller once the byte that it holds is stored
unfoldable pub settled : Chip → Chip
settled c = stored c

-- a controller that is not astray, holds nothing and awaits nothing
abbrev pub idle : List ℕ → Area → Settings → Bool → Chip
idle m a s w = record { memory = m; area = a; settings = s; awake = w; astray = false; awaited = Opcode; held = None }

-- c is not astray, and is such a controller once its byte is stored
pub record Settles (c : Chip) (m : List ℕ) (a : Area) (s : Settings) (w : Bool) : Type 0 where
  pub true_to : c.astray ≡ false
  pub is : settled c ≡ idle m a s w

-- three parts are known, the others are its own
all_parts : (m : List ℕ) (a : Area) (s : Settings) (w g : Bool) (o : Awaited) (h : Option ℕ) → g ≡ false → o ≡ Opcode → h ≡ None
    → ◌≡◌ {A = Chip} (record { memory = m; area = a; settings = s; awake = w; astray = g; awaited = o; held = h }) (idle m a s w)
all_parts m a s w g o h e1 e2 e3 = cc

-- so an idle controller is one by its parts
pub idle_is : (c : Chip) → Idle c → c ≡ idle c.memory c.area c.settings c.awake
idle_is c i = all_parts c.memory c.area c.settings c.awake c.astray c.awaited c.held i.true_to i.idles i.free

-- and one by its parts is idle
pub idle_idles : (m : List ℕ) (a : Area) (s : Settings) (w : Bool) → length m ≡ 8192 → Idle (idle m a s w)
idle_idles m a s w e = record { whole = e; idles = refl; true_to = refl; free = refl }

-- a controller at reset is idle, whatever its memory
pub reset_idles : (m : List ℕ) → length m ≡ 8192 → Idle (reset m)
unfolding reset
reset_idles m e = record { whole = e; idles = refl; true_to = refl; free = refl }

-- where nothing is held, nothing is stored
pub settles_idle : (m : List ℕ) (a : Area) (s : Settings) (w : Bool) → Settles (idle m a s w) m a s w
unfolding settled
settles_idle m a s w = record { true_to = refl; is = refl }

-- an idle controller is settled already
pub settles_own : (c : Chip) → Idle c → Settles c c.memory c.area c.settings c.awake
settles_own c i =
    let P : Chip → Type 0 = λ x. Settles x c.memory c.area c.settings c.awake in
    subst P (sym (idle_is c i)) (settles_idle c.memory c.area c.settings c.awake)

-- ---- one transfer after another

-- first a, then b
pub run_append : (c : Chip) (a b : List Transfer) → run c (a ++ b) ≡ run (run c a) b
unfolding run
run_append c [] b = refl
run_append c (t ∷ ts) b = run_append (step c t) ts b

-- nothing sent
pub run_none : (c : Chip) → run c [] ≡ c
unfolding run
run_none c = refl

-- the last one
pub run_last : (c : Chip) (ts : List Transfer) (t : Transfer) → run c (ts ++ t ∷ []) ≡ step (run c ts) t
unfolding run
run_last c ts t = run_append c ts (t ∷ [])

-- ---- one transfer

-- a controller that is not astray stores what it holds, and then meets the transfer
meets : (c : Chip) (m : List ℕ) (a : Area) (s : Settings) (w : Bool) (t : Transfer) → Settles c m a s w → step c t ≡ met (idle m a s w) t
unfolding step settled
meets c m a s w t h = ap (λ g. elim g as (λ _. Chip) [ true ↦ c | false ↦ met (stored c) t ]) h.true_to ∙ ap (λ x. met x t) h.is

-- a command stores what is held, and then does what it does to a controller that holds nothing
pub obeys : (c : Chip) (m : List ℕ) (a : Area) (s : Settings) (w : Bool) (b : ℕ) → Settles c m a s w → step c (Command b) ≡ step (idle m a s w) (Command b)
obeys c m a s w b h = meets c m a s w (Command b) h ∙ sym (meets (idle m a s w) m a s w (Command b) (settles_idle m a s w))

-- once the held byte is stored, it stands in the memory
holding_settles : (m : List ℕ) (a : Area) (s : Settings) (w : Bool) (d : ℕ)
    → Settles (holding (idle m a s w) (Some d)) (set m (address a.line a.column) (kept s d)) (advanced a (runs_down s)) s w
unfolding settled
holding_settles m a s w d = record { true_to = refl; is = refl }

-- a data byte goes to the pointers' place, and they move on
pub stores : (c : Chip) (m : List ℕ) (a : Area) (s : Settings) (w : Bool) (d : ℕ) → Settles c m a s w
    → Settles (step c (Data d)) (set m (address a.line a.column) (kept s d)) (advanced a (runs_down s)) s w
stores c m a s w d h =
    let P : Chip → Type 0 = λ x. Settles x (set m (address a.line a.column) (kept s d)) (advanced a (runs_down s)) s w in
    subst P (sym (meets c m a s w (Data d) h)) (holding_settles m a s w d)

-- ---- the window

-- `15` with two operands in order
columns_set : (m : List ℕ) (a : Area) (s : Settings) (w : Bool) (l r : ℕ) → l ≤ r → r ≤ 63
    → step (step (step (idle m a s w) (Command 0x15)) (Command l)) (Command r) ≡ idle m (columns a l r) s w
unfolding step
columns_set m a s w l r h k = cond-true (leb l r && leb r 63) _ _ (and_from (leb l r) (leb r 63) (le-leb l r h) (le-leb r 63 k))

-- `75` with two operands in order
lines_set : (m : List ℕ) (a : Area) (s : Settings) (w : Bool) (t b : ℕ) → t ≤ b → b ≤ 127
    → step (step (step (idle m a s w) (Command 0x75)) (Command t)) (Command b) ≡ idle m (lines a t b) s w
unfolding step
lines_set m a s w t b h k = cond-true (leb t b && leb b 127) _ _ (and_from (leb t b) (leb b 127) (le-leb t b h) (le-leb b 127 k))

-- the six transfers: all that was held is stored, and both pointers stand at the window's first place
pub window_set : (c : Chip) (m : List ℕ) (a : Area) (s : Settings) (w : Bool) (l r t b : ℕ) → Settles c m a s w → l ≤ r → r ≤ 63 → t ≤ b → b ≤ 127
    → run c (map Command (0x15 ∷ l ∷ r ∷ 0x75 ∷ t ∷ b ∷ [])) ≡ idle m (record { left = l; right = r; top = t; bottom = b; column = l; line = t }) s w
unfolding run
window_set c m a s w l r t b h lr r63 tb b127 =
    ap (λ x. step (step (step (step (step x (Command l)) (Command r)) (Command 0x75)) (Command t)) (Command b)) (obeys c m a s w 0x15 h)
    ∙ ap (λ x. step (step (step x (Command 0x75)) (Command t)) (Command b)) (columns_set m a s w l r lr r63)
    ∙ lines_set m (columns a l r) s w t b tb b127

-- ---- the end of a slot

-- `E3` does nothing
quiet_idle : (m : List ℕ) (a : Area) (s : Settings) (w : Bool) → step (idle m a s w) (Command 0xE3) ≡ idle m a s w
unfolding step
quiet_idle m a s w = refl

-- `AF` wakes
wakes_idle : (m : List ℕ) (a : Area) (s : Settings) (w : Bool) → step (idle m a s w) (Command 0xAF) ≡ idle m a s true
unfolding step
wakes_idle m a s w = refl

-- `E3` stores what is held
pub ends_quiet : (c : Chip) (m : List ℕ) (a : Area) (s : Settings) (w : Bool) → Settles c m a s w → run c (Command 0xE3 ∷ []) ≡ idle m a s w
unfolding run
ends_quiet c m a s w h = obeys c m a s w 0xE3 h ∙ quiet_idle m a s w

-- `AF` stores what is held too, and wakes the controller
pub ends_awake : (c : Chip) (m : List ℕ) (a : Area) (s : Settings) (w : Bool) → Settles c m a s w → run c (Command 0xAF ∷ []) ≡ idle m a s true
unfolding run
ends_awake c m a s w h = obeys c m a s w 0xAF h ∙ wakes_idle m a s w

-- nothing is held that could be dropped
pub dropped_idle : (m : List ℕ) (a : Area) (s : Settings) (w : Bool) → dropped (idle m a s w) ≡ idle m a s w
unfolding dropped
dropped_idle m a s w = refl

-- ---- settings

-- `A0` with a legal operand
remap_set : (m : List ℕ) (a : Area) (s : Settings) (w : Bool) (r : ℕ) → legal r ≡ true → step (step (idle m a s w) (Command 0xA0)) (Command r) ≡ idle m a (with_remap s r) w
unfolding step
remap_set m a s w r e = cond-true (legal r) _ _ e

-- `A2` with an operand in range
offset_set : (m : List ℕ) (a : Area) (s : Settings) (w : Bool) (o : ℕ) → o ≤ 127 → step (step (idle m a s w) (Command 0xA2)) (Command o) ≡ idle m a (with_offset s o) w
unfolding step
offset_set m a s w o h = cond-true (leb o 127) _ _ (le-leb o 127 h)

-- an idle controller with other settings is idle
set_idle : (c : Chip) (s : Settings) → Idle c → Idle (set_up c s) × (set_up c s ≡ idle c.memory c.area s c.awake)
set_idle c s i = (record { whole = i.whole; idles = refl; true_to = i.true_to; free = i.free }, ap (λ (x : Chip). set_up x s) (idle_is c i))

-- two transfers that make d of an idle c
two_make : (c d : Chip) (b n : ℕ) (ts : List Transfer) (s : Settings) → Idle c → d ≡ idle c.memory c.area s c.awake
    → step (step (idle c.memory c.area c.settings c.awake) (Command b)) (Command n) ≡ idle c.memory c.area s c.awake
    → run c (Command b ∷ Command n ∷ ts) ≡ run d ts
unfolding run
two_make c d b n ts s i is e = ap (λ x. run (step (step x (Command b)) (Command n)) ts) (idle_is c i) ∙ ap (λ x. run x ts) (e ∙ sym is)

-- every setting, and both closing commands, from an idle controller
pub settings_land : SettingsLand
settings_land = record {
  remap = λ c r ts i e.
      let s = with_remap c.settings r in
      let d = set_idle c s i in
      (d.0, two_make c (set_up c s) 0xA0 r ts s i d.1 (remap_set c.memory c.area c.settings c.awake r e));
  offset = λ c o ts i h.
      let s = with_offset c.settings o in
      let d = set_idle c s i in
      (d.0, two_make c (set_up c s) 0xA2 o ts s i d.1 (offset_set c.memory c.area c.settings c.awake o h));
  quiet = λ c i. ends_quiet c c.memory c.area c.settings c.awake (settles_own c i) ∙ sym (idle_is c i);
  wakes = λ c i. (
    record { whole = i.whole; idles = i.idles; true_to = i.true_to; free = i.free },
    ends_awake c c.memory c.area c.settings c.awake (settles_own c i) ∙ sym (ap (λ x. asleep_or_awake x true) (idle_is c i)),
  );
  ends = λ c i. ap dropped (idle_is c i) ∙ dropped_idle c.memory c.area c.settings c.awake ∙ sym (idle_is c i);
}
