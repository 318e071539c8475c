-- Under the settings that it needs, a wiring shows the memory upright: one argument for all wirings.
use Rattle.std.proofs.Common.{◌≡◌, ℕ, ◌+◌, ◌-◌, ◌*◌, ◌/◌, ◌%◌, ◌<◌, Bool, cond, ltb, List, get_or, arith}
use Rattle.std.proofs.lemmas.Bool.Decides.{nat_tests}
use Rattle.ssd1329.specs.Remap.{has}
use Rattle.ssd1329.specs.Chip.{address}
use Rattle.ssd1329.specs.Glass.{combed, half, segment_of, glass}
use Rattle.ssd1329.specs.Wiring.{EveryWiringShowsTheMemory}

-- the bits of the re-map byte that a wiring needs are its marks
abbrev marked : Bool → Bool → Bool → ℕ → Bool
marked m f c mask = has (cond m 0x03 0 + cond f 0x10 0 + cond c 0x40 0) mask

marks : (m f c : Bool) → (marked m f c 0x01 ≡ m) × (marked m f c 0x10 ≡ f) × (marked m f c 0x40 ≡ c)
marks m f c = grind (arith, nat_tests)

-- place, pin, common and row, one after the other, come out at y: f is flipped, c is comb
row_is : (f c : Bool) (shift y : ℕ) → shift < 128 → y < 128
    → let place = cond f ((127 - y + shift) % 128) ((y + shift) % 128) in
    let pin = cond c (combed place) place in
    let common = cond c (cond (ltb pin 64) (2 * pin) (2 * (pin - 64) + 1)) pin in
    let offset = cond f shift ((128 - shift) % 128) in
    cond f ((127 + offset + 128 - common) % 128) ((common + offset) % 128) ≡ y
row_is f c shift y hs hy = grind (arith, nat_tests)

-- segment and column come out at x / 2: m is mirrored
column_is : (m : Bool) (x : ℕ) → x < 128 → cond m (63 - cond m (127 - x) x / 2) (cond m (127 - x) x / 2) ≡ x / 2
column_is m x h = grind (arith, nat_tests)

half_is : (m : Bool) (x byte : ℕ) → x < 128 → half (cond m (127 - x) x) byte ≡ cond m (half (x + 1) byte) (half x byte)
half_is m x byte h = grind (arith, nat_tests)

-- at mux 127 no row is dark, and at start line 0 row y shows line y
line_is : (memory : List ℕ) (s y k : ℕ) → y < 128
    → cond (ltb 127 y) 0 (half s (get_or memory (address ((y + 0) % 128) k) 0)) ≡ half s (get_or memory (address y k) 0)
line_is memory s y k h = grind (arith, nat_tests)

pub upright : EveryWiringShowsTheMemory
unfolding glass
upright w c x y hs hx hy set lit =
    let m = marks w.mirrored w.flipped w.comb in
    rw (lit, set, m.0, m.1, m.2, row_is w.flipped w.comb w.shift y hs hy, column_is w.mirrored x hx, line_is c.memory (segment_of w x) y (x / 2) hy, half_is w.mirrored x (get_or c.memory (address y (x / 2)) 0) hx)
