-- A fresh screen is sound.
use Rattle.std.proofs.Common.{◌≡◌, ℕ, ◌+◌, ◌*◌, ◌/◌, ◌<◌, true, false, cond, eqb, List, Some, None, Option, sym, refl, ap, ◌∙◌, subst, arith}
use lib.ListN.{length-replicate, get_or-replicate}
use Rattle.std.proofs.lemmas.Bool.{both_ways, and_parts, eqb-true}
use Rattle.std.proofs.lemmas.Bool.Decides.{nat_tests}
use Rattle.ssd1329.specs.Settings.{at_reset}
use Rattle.ssd1329.specs.Chip.{Chip, reset}
use Rattle.ssd1329.specs.Glass.{Wires}
use Rattle.ssd1329.specs.Wiring.{settings_for}
use Rattle.drawing.specs.Dots.{gray, due, Whole, fresh_canvas}
use Rattle.link.specs.Links.{LinkMeaning, Lawful}
use Rattle.marks.specs.Marks.{bit}
use Rattle.marks.specs.Landing.{Idle}
use Rattle.marks.proofs.Model.{reset_idles}
use Rattle.marks.proofs.Digits.{bit_full}
use Rattle.screen.specs.Screens.{is_shut, fresh_link, lacks, fresh_screen}
use Rattle.screen.proofs.Sound.{lacking, Sound}

-- every byte is due
pub all_due : (y k : ℕ) → y < 128 → k < 64 → due fresh_canvas y k ≡ true
unfolding due
all_due y k hy hk = ap (λ w. bit w k) (get_or-replicate 128 y 18446744073709551615 0 hy) ∙ bit_full 64 k hk

-- every gray is 0
pub all_dark : (x y : ℕ) → x < 128 → y < 128 → gray fresh_canvas x y ≡ 0
unfolding gray
all_dark x y hx hy =
    let e = get_or-replicate {A = ℕ} 8192 (y * 64 + x / 2) 0 0 (omega arith) in
    rw e (grind (arith, nat_tests))

-- as many bytes and words as it takes
fresh_whole : Whole fresh_canvas
fresh_whole = record {
  cells = length-replicate {A = ℕ} 8192 0;
  words = length-replicate {A = ℕ} 128 18446744073709551615;
  bytes = λ i l. let e = get_or-replicate {A = ℕ} 8192 i 0 0 l in omega (arith, e);
}

-- a slot that is shut
closed_slot : (o : Option ℕ) → is_shut o ≡ true → o ≡ None
closed_slot None e = refl
closed_slot (Some left) e = absurd (both_ways false refl e)

-- a controller at reset has the settings of reset, and is asleep
reset_settings : (m : List ℕ) → (reset m).settings ≡ at_reset
unfolding reset
reset_settings m = refl

reset_asleep : (m : List ℕ) → (reset m).awake ≡ false
unfolding reset
reset_asleep m = refl

-- what a register lacks is not 0, so either way it is 0
lacks_zero : (n : ℕ) → 0 ≡ cond (lacks n) 0 n
lacks_zero n = grind (arith, nat_tests)

-- so the registers at reset are those that lack all that is owed
lacks_all : (w : Wires) → at_reset ≡ lacking w (lacks (settings_for w).remap) (lacks (settings_for w).offset)
lacks_all w =
    ap (λ (r : ℕ). record { remap = r; start = 0; offset = 0; mux = 127 }) (lacks_zero (settings_for w).remap)
    ∙ ap (λ (o : ℕ). record { remap = cond (lacks (settings_for w).remap) 0 (settings_for w).remap; start = 0; offset = o; mux = 127 }) (lacks_zero (settings_for w).offset)

-- a link that has taken nothing has its controller at reset
pub starts_sound : (w : Wires) (m : LinkMeaning) → w.shift < 128 → Lawful m → fresh_link m ≡ true → Sound (fresh_screen w m)
starts_sound w m low laws fresh =
    let p = and_parts (is_shut m.slot) (eqb m.taken 0) fresh in
    let e : m.chip ≡ reset m.chip.memory = laws.fresh (eqb-true m.taken 0 p.1) in
    record {
      shut = closed_slot m.slot p.0;
      idle = subst (λ (c : Chip). Idle c) (sym e) (reset_idles m.chip.memory laws.sized);
      shift = low;
      whole = fresh_whole;
      settings = ap (λ (c : Chip). c.settings) e ∙ reset_settings m.chip.memory ∙ lacks_all w;
      image = λ y k hy hk q. absurd (both_ways (due fresh_canvas y k) q (all_due y k hy hk));
      awake = ap (λ (c : Chip). c.awake) e ∙ reset_asleep m.chip.memory;
      remap_sent = λ d. absurd (both_ways false refl d);
      offset_sent = λ d. absurd (both_ways false refl d);
    }
