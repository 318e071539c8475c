-- A flush keeps a screen sound, and its memory has each byte as before, or as it is drawn now.
use Rattle.std.proofs.Common.{◌≡◌, ℕ, ◌+◌, ◌*◌, ◌/◌, ◌<◌, Bool, true, false, not, ◌&&◌, ◌||◌, eqb, ltb, ◌⊎◌, List, [], ◌∷◌, ◌++◌, length, get_or, sym, refl, ap, ◌∙◌, subst, inl, inr, ⊎_elim, append_assoc, arith, length-append}
use Rattle.std.proofs.lemmas.Bool.{both_ways, cases_Bool, and_parts, and_left, or_cases, not-true, ltb-true, eqb-true, cond-true, cond-false}
use Rattle.ssd1329.specs.declared.transfer.Transfer.{Transfer}
use Rattle.ssd1329.specs.declared.transfer.Transfer.TheVariants.{Command}
use Rattle.ssd1329.specs.Remap.{runs_down}
use Rattle.ssd1329.specs.Chip.{Chip, address, run, dropped}
use Rattle.ssd1329.specs.Glass.{Wires}
use Rattle.ssd1329.specs.Wiring.{settings_for, half_for}
use Rattle.drawing.specs.Dots.{half, gray, due}
use Rattle.marks.specs.Marks.{bit}
use Rattle.marks.specs.Blocks.{traffic, bytes_due}
use Rattle.marks.specs.Landing.{Idle, byte, kept, Landed}
use Rattle.marks.proofs.Landing.{covers_long}
use Rattle.marks.proofs.Model.{run_none, settings_land}
use Rattle.marks.proofs.Zero.{none_marked}
use Rattle.screen.specs.Flushing.{remap_sent, offset_sent, complete, closing, sending, Flushed}
use Rattle.screen.specs.Screens.{ScreenMeaning}
use Rattle.screen.proofs.Sound.{lacking, Sound, view, image_shows}
use Rattle.screen.proofs.Sent.{Turned, remap_turns, offset_turns, turned_then, short_none, due_none, along, blocks_end}

-- nothing is left to send: nothing is owed, and no byte is due
pub record AllSent (s : ScreenMeaning) : Type 0 where
  pub remap : s.remap_owed ≡ false
  pub offset : s.offset_owed ≡ false
  pub none_due : bytes_due s.canvas.due ≡ 0

-- the parts of the test
pub all_sent : (s : ScreenMeaning) → complete s ≡ true → AllSent s
all_sent s e =
    let p = and_parts (not s.remap_owed && not s.offset_owed) (eqb (bytes_due s.canvas.due) 0) e in
    let q = and_parts (not s.remap_owed) (not s.offset_owed) p.0 in
    record { remap = not-true s.remap_owed q.0; offset = not-true s.offset_owed q.1; none_due = eqb-true (bytes_due s.canvas.due) 0 p.1 }

-- The memory went from old to new as the marks went from ws to vs, with the halves of each byte as the wiring w has them.
pub record Stored (w : Wires) (old new : Chip) (cells ws vs : List ℕ) : Type 0 where
  pub put : (y k : ℕ) → k < 64 → bit (get_or ws y 0) k ≡ true → bit (get_or vs y 0) k ≡ false → byte new y k ≡ kept (settings_for w) (get_or cells (address y k) 0)
  pub clean : (y k : ℕ) → k < 64 → bit (get_or ws y 0) k ≡ false → byte new y k ≡ byte old y k
  pub still : (y k : ℕ) → k < 64 → bit (get_or vs y 0) k ≡ true → byte new y k ≡ byte old y k

-- where no mark goes, nothing is stored
stored_none : (w : Wires) (old new : Chip) (cells ws vs : List ℕ) → vs ≡ ws → ((y k : ℕ) → byte new y k ≡ byte old y k) → Stored w old new cells ws vs
stored_none w old new cells ws vs e same = record {
  put = λ y k l p q. absurd (both_ways (bit (get_or ws y 0) k) (sym (ap (λ v. bit (get_or v y 0) k) e) ∙ q) p);
  clean = λ y k l p. same y k;
  still = λ y k l p. same y k;
}

-- what has landed, where the register is the wiring's, or where no mark goes
stored_landed : (w : Wires) (r o : Bool) (old mid new : Chip) (cells ws vs : List ℕ)
    → mid.memory ≡ old.memory → mid.settings ≡ lacking w r o → (r ≡ true → vs ≡ ws) → Landed mid new cells ws vs → Stored w old new cells ws vs
stored_landed w r o old mid new cells ws vs m s none f =
    let was : (y k : ℕ) → byte mid y k ≡ byte old y k = λ y k. ap (λ x. get_or x (address y k) 0) m in
    record {
      put = λ y k l p q. by_owed r s none y k l p q;
      clean = λ y k l p. f.clean y k l p ∙ was y k;
      still = λ y k l q. f.still y k l q ∙ was y k;
    }
  where
    by_owed : (r : Bool) → mid.settings ≡ lacking w r o → (r ≡ true → vs ≡ ws) → (y k : ℕ) → k < 64 → bit (get_or ws y 0) k ≡ true → bit (get_or vs y 0) k ≡ false
        → byte new y k ≡ kept (settings_for w) (get_or cells (address y k) 0)
    by_owed true s none y k l p q = absurd (both_ways (bit (get_or ws y 0) k) (sym (ap (λ v. bit (get_or v y 0) k) (none refl)) ∙ q) p)
    by_owed false s none y k l p q = f.put y k l p q ∙ ap (λ t. kept t (get_or cells (address y k) 0)) s

-- what a flush leaves of the controller
pub record Reached (s t : ScreenMeaning) (d : Chip) : Type 0 where
  pub idle : Idle d
  pub settings : d.settings ≡ lacking s.wiring t.remap_owed t.offset_owed
  pub awake : d.awake ≡ (s.lit || complete t)
  pub stored : Stored s.wiring s.link.chip d s.canvas.cells s.canvas.due t.canvas.due

module _ (s t : ScreenMeaning) (n : ℕ) (h : Sound s) (f : Flushed s n t) where
  abbrev c : Chip
  c = s.link.chip

  abbrev w : Wires
  w = s.wiring

  abbrev rest : List Transfer
  rest = traffic s.canvas.cells f.blocks ++ Command (closing s.lit (complete t)) ∷ []

  abbrev resting : Bool
  resting = s.lit && complete s

  -- a setting that is owed now was owed before, and what was sent stays so
  remap_was : t.remap_owed ≡ true → s.remap_owed ≡ true
  remap_was e = (and_parts s.remap_owed _ (sym f.remap_owed ∙ e)).0

  offset_was : t.offset_owed ≡ true → s.offset_owed ≡ true
  offset_was e = (and_parts s.offset_owed _ (sym f.offset_owed ∙ e)).0

  remap_stays : s.remap_owed ≡ false → t.remap_owed ≡ false
  remap_stays e = f.remap_owed ∙ and_left s.remap_owed _ e

  offset_stays : s.offset_owed ≡ false → t.offset_owed ≡ false
  offset_stays e = f.offset_owed ∙ and_left s.offset_owed _ e

  -- ---- nothing was left to send, and nothing is sent

  -- then the list is empty
  sends_none : resting ≡ true → sending s f.blocks t ≡ []
  unfolding sending
  sends_none e = cond-true resting _ _ e

  -- the controller is as it was: no block has a byte to send
  rested : resting ≡ true → Reached s t t.link.chip
  rested e =
      let lit = (and_parts s.lit (complete s) e).0 in
      let p = all_sent s (and_parts s.lit (complete s) e).1 in
      let is : t.link.chip ≡ c = f.session.chip ∙ ap (λ ts. dropped (run c ts)) (sends_none e) ∙ ap dropped (run_none c) ∙ settings_land.ends c h.idle in
      let same = due_none s.canvas.due f.blocks t.canvas.due p.none_due f.covers in
      subst (Reached s t) (sym is) (record {
        idle = h.idle;
        settings = h.settings ∙ rw (p.remap, p.offset, remap_stays p.remap, offset_stays p.offset);
        awake = h.awake ∙ lit ∙ sym (ap (λ b. b || complete t) lit);
        stored = stored_none w c c s.canvas.cells s.canvas.due t.canvas.due same (λ y k. refl);
      })

  -- ---- settings, blocks and the closing command

  -- settings first, then the blocks, then the closing command
  sends_all : resting ≡ false → sending s f.blocks t ≡ (remap_sent s t ++ offset_sent s t) ++ rest
  unfolding sending
  sends_all e = cond-false resting _ _ e ∙ sym (append_assoc (remap_sent s t) (offset_sent s t) rest)

  -- a grant that has no room for the re-map has none for a block
  no_block : resting ≡ false → t.remap_owed ≡ true → t.canvas.due ≡ s.canvas.due
  no_block e owed =
      let few = ltb-true f.grant 3 (and_parts s.remap_owed (ltb f.grant 3) (sym f.remap_owed ∙ owed)).1 in
      let fits = f.session.within in
      let T = traffic s.canvas.cells f.blocks in
      let all : length (sending s f.blocks t) ≡ length (remap_sent s t ++ offset_sent s t) + (length T + 1) = ap length (sends_all e) ∙ simp length-append in
      short_none s.canvas.cells s.canvas.due f.blocks t.canvas.due h.whole.cells (omega arith) f.covers

  -- the controller once the settings are sent
  set_now : Turned c (remap_sent s t ++ offset_sent s t) (lacking w t.remap_owed t.offset_owed)
  set_now =
      let first = remap_turns w c s.remap_owed t.remap_owed s.offset_owed h.idle h.settings remap_was in
      let second = offset_turns w first.to t.remap_owed s.offset_owed t.offset_owed h.shift first.idle first.settings offset_was in
      turned_then c (remap_sent s t) (offset_sent s t) _ _ first second

  -- from there the blocks land, and the slot ends
  sent : resting ≡ false → Reached s t t.link.chip
  sent e =
      let d = set_now.to in
      let set = set_now.settings in
      let end = blocks_end d s.canvas.cells s.canvas.due f.blocks t.canvas.due s.lit (complete t) set_now.idle
      (ap (λ z. runs_down z) set ∙ along w t.remap_owed t.offset_owed) h.whole.cells h.whole.words f.covers (set_now.awake ∙ h.awake) in
      let is : t.link.chip ≡ dropped (run d rest) = f.session.chip ∙ ap (λ ts. dropped (run c ts)) (sends_all e) ∙ ap dropped (set_now.runs rest) in
      subst (Reached s t) (sym is) (record {
        idle = end.closes.idle;
        settings = end.closes.settings ∙ set;
        awake = end.wakes;
        stored = stored_landed w t.remap_owed t.offset_owed c d _ s.canvas.cells s.canvas.due t.canvas.due set_now.memory set (no_block e) end.closes.landed;
      })

  -- either way
  pub reached : Reached s t t.link.chip
  reached = ⊎_elim rested sent (cases_Bool resting)

  -- ---- the screen after the flush

  -- a byte that is not due now was stored now, or was not due before either
  kept_now : (y k : ℕ) → y < 128 → k < 64 → due t.canvas y k ≡ false → byte t.link.chip y k ≡ kept (settings_for w) (get_or s.canvas.cells (address y k) 0)
  unfolding due
  kept_now y k hy hk q = ⊎_elim
      (λ (p : bit (get_or s.canvas.due y 0) k ≡ true). reached.stored.put y k hk p q)
      (λ (p : bit (get_or s.canvas.due y 0) k ≡ false). reached.stored.clean y k hk p ∙ h.image y k hy hk p)
      (cases_Bool (bit (get_or s.canvas.due y 0) k))

  -- a screen that is lit was so before, or nothing is left to send now
  lit_since : t.lit ≡ true → (s.lit ≡ true) ⊎ (complete t ≡ true)
  lit_since e = or_cases s.lit (complete t) (sym f.lit ∙ e)

  -- all that a screen keeps
  pub flush_sound : Sound t
  flush_sound = record {
    shut = f.session.slot;
    idle = reached.idle;
    shift = subst (λ (v : Wires). v.shift < 128) (sym f.wiring) h.shift;
    whole = record {
      cells = ap length f.cells ∙ h.whole.cells;
      words = covers_long s.canvas.due f.blocks t.canvas.due f.covers ∙ h.whole.words;
      bytes = λ i l. subst (λ (m : List ℕ). get_or m i 0 < 256) (sym f.cells) (h.whole.bytes i l);
    };
    settings = reached.settings ∙ ap (λ v. lacking v t.remap_owed t.offset_owed) (sym f.wiring);
    image = λ y k hy hk q. kept_now y k hy hk q ∙ ap (λ v. kept (settings_for v) (get_or s.canvas.cells (address y k) 0)) (sym f.wiring)
        ∙ ap (λ m. kept (settings_for t.wiring) (get_or m (address y k) 0)) (sym f.cells);
    awake = reached.awake ∙ sym f.lit;
    remap_sent = λ e. ⊎_elim (λ l. remap_stays (h.remap_sent l)) (λ a. (all_sent t a).remap) (lit_since e);
    offset_sent = λ e. ⊎_elim (λ l. offset_stays (h.offset_sent l)) (λ a. (all_sent t a).offset) (lit_since e);
  }

  -- each dot is as it is drawn, or as it was
  pub shows_or_stays : (x y : ℕ) → x < 128 → y < 128 → (view t x y ≡ gray t.canvas x y) ⊎ (view t x y ≡ view s x y)
  unfolding due
  shows_or_stays x y hx hy = ⊎_elim
      (λ (q : due t.canvas y (x / 2) ≡ true). inr (ap (λ v. half_for v x (byte t.link.chip y (x / 2))) f.wiring ∙ ap (half_for w x) (reached.stored.still y (x / 2) (omega arith) q)))
      (λ (q : due t.canvas y (x / 2) ≡ false). inl (image_shows t x y flush_sound hx hy (flush_sound.image y (x / 2) hy (omega arith) q)))
      (cases_Bool (due t.canvas y (x / 2)))

  -- where nothing is left to send, each dot is as it is drawn
  pub complete_shows : complete t ≡ true → (x y : ℕ) → x < 128 → y < 128 → view t x y ≡ gray t.canvas x y
  unfolding due
  complete_shows e x y hx hy =
      let long = flush_sound.whole.words in
      let q = none_marked t.canvas.due y (x / 2) (all_sent t e).none_due (omega arith) (omega arith) in
      image_shows t x y flush_sound hx hy (flush_sound.image y (x / 2) hy (omega arith) q)

  -- the drawing stays
  pub flush_draws : (x y : ℕ) → gray t.canvas x y ≡ gray s.canvas x y
  unfolding gray
  flush_draws x y = ap (λ m. half (get_or m (y * 64 + x / 2) 0) x) f.cells
