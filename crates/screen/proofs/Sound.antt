-- What stays true of a screen and of its controller, from call to call.
use Rattle.std.proofs.Common.{◌≡◌, ℕ, ◌+◌, ◌/◌, ◌%◌, ◌<◌, Bool, true, false, cond, get_or, None, refl, ap, ◌∙◌, arith}
use Rattle.std.proofs.lemmas.Bool.Decides.{nat_tests}
use Rattle.ssd1329.specs.Settings.{Settings}
use Rattle.ssd1329.specs.Remap.{has, legal}
use Rattle.ssd1329.specs.Chip.{address, swapped}
use Rattle.ssd1329.specs.Glass.{Wires}
use Rattle.ssd1329.specs.Glass as glass
use Rattle.ssd1329.specs.Wiring.{settings_for, half_for}
use Rattle.drawing.specs.Dots.{half, gray, due, Whole}
use Rattle.marks.specs.Landing.{Idle, byte, kept}
use Rattle.screen.specs.Screens.{ScreenMeaning}

-- the registers of a controller that lacks what is owed
abbrev pub lacking : Wires → Bool → Bool → Settings
lacking w remap_owed offset_owed =
    record { remap = cond remap_owed 0 (settings_for w).remap; start = 0; offset = cond offset_owed 0 (settings_for w).offset; mux = 127 }

pub record Sound (s : ScreenMeaning) : Type 0 where
  pub shut : s.link.slot ≡ None
  -- not astray, nothing held, nothing awaited
  pub idle : Idle s.link.chip
  pub shift : s.wiring.shift < 128
  pub whole : Whole s.canvas
  pub settings : s.link.chip.settings ≡ lacking s.wiring s.remap_owed s.offset_owed
  -- the memory keeps each byte that is not due
  pub image : (y k : ℕ) → y < 128 → k < 64 → due s.canvas y k ≡ false → byte s.link.chip y k ≡ kept (settings_for s.wiring) (get_or s.canvas.cells (address y k) 0)
  pub awake : s.link.chip.awake ≡ s.lit
  pub remap_sent : s.lit ≡ true → s.remap_owed ≡ false
  pub offset_sent : s.lit ≡ true → s.offset_owed ≡ false

-- what the memory has for the dot (x, y)
abbrev pub view : ScreenMeaning → ℕ → ℕ → ℕ
view s x y = half_for s.wiring x (byte s.link.chip y (x / 2))

-- ---- the bits of the re-map byte that a wiring needs

abbrev needed : Bool → Bool → Bool → ℕ
needed m f c = cond m 0x03 0 + cond f 0x10 0 + cond c 0x40 0

-- it is legal, the pointers run along the lines, and the halves are exchanged just where the module is mirrored
pub record Bits (m f c : Bool) : Type 0 where
  pub lawful : legal (needed m f c) ≡ true
  pub along : has (needed m f c) 0x04 ≡ false
  pub halves : has (needed m f c) 0x02 ≡ m

-- for each of the eight
pub bits : (m f c : Bool) → Bits m f c
bits true true true = record { lawful = refl; along = refl; halves = refl }
bits true true false = record { lawful = refl; along = refl; halves = refl }
bits true false true = record { lawful = refl; along = refl; halves = refl }
bits true false false = record { lawful = refl; along = refl; halves = refl }
bits false true true = record { lawful = refl; along = refl; halves = refl }
bits false true false = record { lawful = refl; along = refl; halves = refl }
bits false false true = record { lawful = refl; along = refl; halves = refl }
bits false false false = record { lawful = refl; along = refl; halves = refl }

-- ---- a byte that the memory keeps shows the two grays of the canvas byte

-- on a mirrored module the halves are exchanged twice
halves_back : (m : Bool) (x b : ℕ) → b < 256 → cond m (glass.half (x + 1) (cond m (swapped b) b)) (glass.half x (cond m (swapped b) b)) ≡ half b x
halves_back true x b h =
    let low : swapped b % 16 ≡ b / 16 = omega arith in
    let high : swapped b / 16 ≡ b % 16 = omega arith in
    grind (arith, nat_tests)
halves_back false x b h = refl

-- the same for a wiring
pub kept_shows : (w : Wires) (x b : ℕ) → b < 256 → half_for w x (kept (settings_for w) b) ≡ half b x
kept_shows w x b h =
    let e = (bits w.mirrored w.flipped w.comb).halves in
    rw e (halves_back w.mirrored x b h)

-- a dot whose byte the memory keeps is as it is drawn
pub image_shows : (s : ScreenMeaning) (x y : ℕ) → Sound s → x < 128 → y < 128
    → byte s.link.chip y (x / 2) ≡ kept (settings_for s.wiring) (get_or s.canvas.cells (address y (x / 2)) 0) → view s x y ≡ gray s.canvas x y
unfolding gray
image_shows s x y h hx hy e =
    ap (half_for s.wiring x) e ∙ kept_shows s.wiring x (get_or s.canvas.cells (address y (x / 2)) 0) (h.whole.bytes (address y (x / 2)) (omega arith))
