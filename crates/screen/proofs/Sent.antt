-- What a flush sends, does to the controller.
use Rattle.std.proofs.Common.{◌≡◌, ℕ, ◌-◌, ◌%◌, ◌<◌, ◌≤◌, Bool, true, false, cond, ◌||◌, List, [], ◌∷◌, ◌++◌, length, refl, ap, ◌∙◌, append_assoc, mul-pos, arith, length-append}
use Rattle.std.proofs.lemmas.Bool.{both_ways}
use Rattle.ssd1329.specs.declared.transfer.Transfer.{Transfer}
use Rattle.ssd1329.specs.declared.transfer.Transfer.TheVariants.{Command}
use Rattle.ssd1329.specs.Settings.{Settings, with_remap, with_offset}
use Rattle.ssd1329.specs.Remap.{runs_down}
use Rattle.ssd1329.specs.Chip.{Chip, set_up, run, dropped}
use Rattle.ssd1329.specs.Glass.{Wires}
use Rattle.ssd1329.specs.Wiring.{settings_for}
use Rattle.marks.specs.Blocks.{Block, words, traffic, Covers, bytes_due}
use Rattle.marks.specs.Landing.{Idle, Closes}
use Rattle.marks.proofs.Accounts.{words_length, clears_bytes}
use Rattle.marks.proofs.Landing.{traffic_lands}
use Rattle.marks.proofs.Model.{settings_land}
use Rattle.screen.specs.Flushing.{setting, closing}
use Rattle.screen.proofs.Sound.{lacking, bits}

-- ---- settings

-- c takes ts, and is idle again: only registers have changed
pub record Turned (c : Chip) (ts : List Transfer) (s : Settings) : Type 0 where
  pub to : Chip
  pub idle : Idle to
  pub memory : to.memory ≡ c.memory
  pub awake : to.awake ≡ c.awake
  pub settings : to.settings ≡ s
  pub runs : (us : List Transfer) → run c (ts ++ us) ≡ run to us

-- nothing is sent
turned_none : (c : Chip) (s : Settings) → Idle c → c.settings ≡ s → Turned c [] s
turned_none c s i e = record { to = c; idle = i; memory = refl; awake = refl; settings = e; runs = λ us. refl }

-- the re-map: it was owed and is so still, it is sent now, or it was sent
pub remap_turns : (w : Wires) (c : Chip) (was now o : Bool) → Idle c → c.settings ≡ lacking w was o → (now ≡ true → was ≡ true)
    → Turned c (setting 0xA0 (settings_for w).remap was now) (lacking w now o)
remap_turns w c true true o i e k = turned_none c (lacking w true o) i e
remap_turns w c true false o i e k =
    let r = (settings_for w).remap in
    let ok = (bits w.mirrored w.flipped w.comb).lawful in
    record {
      to = set_up c (with_remap c.settings r);
      idle = (settings_land.remap c r [] i ok).0;
      memory = refl;
      awake = refl;
      settings = ap (λ s. with_remap s r) e;
      runs = λ us. (settings_land.remap c r us i ok).1;
    }
remap_turns w c false true o i e k = absurd (both_ways false refl (k refl))
remap_turns w c false false o i e k = turned_none c (lacking w false o) i e

-- the offset that a wiring needs is legal
offset_fits : (f : Bool) (shift : ℕ) → shift < 128 → cond f shift ((128 - shift) % 128) ≤ 127
offset_fits true shift h = omega arith
offset_fits false shift h = omega arith

-- the offset in the same way
pub offset_turns : (w : Wires) (c : Chip) (r was now : Bool) → w.shift < 128 → Idle c → c.settings ≡ lacking w r was → (now ≡ true → was ≡ true)
    → Turned c (setting 0xA2 (settings_for w).offset was now) (lacking w r now)
offset_turns w c r true true l i e k = turned_none c (lacking w r true) i e
offset_turns w c r true false l i e k =
    let o = (settings_for w).offset in
    let ok = offset_fits w.flipped w.shift l in
    record {
      to = set_up c (with_offset c.settings o);
      idle = (settings_land.offset c o [] i ok).0;
      memory = refl;
      awake = refl;
      settings = ap (λ s. with_offset s o) e;
      runs = λ us. (settings_land.offset c o us i ok).1;
    }
offset_turns w c r false true l i e k = absurd (both_ways false refl (k refl))
offset_turns w c r false false l i e k = turned_none c (lacking w r false) i e

-- one after the other
pub turned_then : (c : Chip) (ts us : List Transfer) (s t : Settings) (f : Turned c ts s) → Turned f.to us t → Turned c (ts ++ us) t
turned_then c ts us s t f g = record {
  to = g.to;
  idle = g.idle;
  memory = g.memory ∙ f.memory;
  awake = g.awake ∙ f.awake;
  settings = g.settings;
  runs = λ vs. ap (run c) (append_assoc ts us vs) ∙ f.runs (us ++ vs) ∙ g.runs vs;
}

-- ---- blocks

-- what takes fewer transfers than a window is no block
pub short_none : (canvas ws : List ℕ) (bs : List Block) (vs : List ℕ) → length canvas ≡ 8192 → length (traffic canvas bs) < 6 → Covers ws bs vs → vs ≡ ws
short_none canvas ws [] vs wide less e = e
short_none canvas ws (b ∷ bs) vs wide less (us, shape, clears, more) =
    absurd (omega (arith, length-append (words canvas b) (traffic canvas bs), words_length canvas b wide shape))

-- a block has a byte, so where none is due there is none
pub due_none : (ws : List ℕ) (bs : List Block) (vs : List ℕ) → bytes_due ws ≡ 0 → Covers ws bs vs → vs ≡ ws
due_none ws [] vs z e = e
due_none ws (b ∷ bs) vs z (us, shape, clears, more) =
    let here = clears_bytes ws b.line b.from b.size b.height us clears in
    absurd (omega (arith, here, mul-pos shape.wide shape.high))

-- either the re-map is owed, and is 0, or it is the wiring's
pub along : (w : Wires) (r o : Bool) → runs_down (lacking w r o) ≡ false
along w true o = refl
along w false o = (bits w.mirrored w.flipped w.comb).along

-- what blocks and the closing command leave
pub record Ended (c d : Chip) (canvas ws vs : List ℕ) (awake : Bool) : Type 0 where
  pub closes : Closes c d canvas ws vs
  pub wakes : d.awake ≡ awake

-- by the closing command: AFh wakes the controller, E3h does nothing
pub blocks_end : (c : Chip) (canvas ws : List ℕ) (bs : List Block) (vs : List ℕ) (lit all : Bool)
    → Idle c → runs_down c.settings ≡ false → length canvas ≡ 8192 → length ws ≡ 128 → Covers ws bs vs → c.awake ≡ lit
    → Ended c (dropped (run c (traffic canvas bs ++ Command (closing lit all) ∷ []))) canvas ws vs (lit || all)
blocks_end c canvas ws bs vs true true i down wide marks covers e =
    let T = traffic_lands c canvas ws bs vs i down wide marks covers in record { closes = T.0.0; wakes = T.0.1 ∙ e }
blocks_end c canvas ws bs vs true false i down wide marks covers e =
    let T = traffic_lands c canvas ws bs vs i down wide marks covers in record { closes = T.0.0; wakes = T.0.1 ∙ e }
blocks_end c canvas ws bs vs false true i down wide marks covers e =
    let T = traffic_lands c canvas ws bs vs i down wide marks covers in record { closes = T.1.0; wakes = T.1.1 }
blocks_end c canvas ws bs vs false false i down wide marks covers e =
    let T = traffic_lands c canvas ws bs vs i down wide marks covers in record { closes = T.0.0; wakes = T.0.1 ∙ e }
