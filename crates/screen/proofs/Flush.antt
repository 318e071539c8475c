-- A whole flush, from what its parts did.
use Rattle.std.proofs.Common.{◌≡◌, ℕ, ◌+◌, ◌-◌, ◌^◌, ◌<◌, ◌≤◌, Bool, true, false, cond, not, ◌&&◌, ◌||◌, ltb, ◌⊎◌, List, [], ◌∷◌, ◌++◌, length, get_or, Ok, Err, Result, sym, ap, ◌∙◌, subst, inl, inr, ⊎_elim, arith, length-append}
use Rattle.std.proofs.lemmas.Bool.{cond-false, eq-eqb, and_from}
use Rattle.refusal.specs.declared.refusals.Refusal.{Refusal}
use Rattle.ssd1329.specs.declared.transfer.Transfer.{Transfer}
use Rattle.ssd1329.specs.declared.transfer.Transfer.TheVariants.{Command}
use Rattle.ssd1329.specs.Wiring.{settings_for}
use Rattle.link.specs.Links.{LinkMeaning, open_answer, open_after, close_answer, CloseAfter}
use Rattle.marks.specs.Blocks.{traffic, bytes_due, worth}
use Rattle.marks.specs.Sending.{sent_all, Sweeping, Swept, InOneBlock}
use Rattle.marks.proofs.Over.{swept_over, swept_moves, swept_most, swept_all, swept_count, swept_blocks, swept_box, swept_box_all}
use Rattle.marks.proofs.Sends.{sent_then}
use Rattle.marks.proofs.Sessions.{session}
use Rattle.screen.specs.declared.answers.FlushFault.{FlushFault}
use Rattle.screen.specs.declared.answers.FlushFault.TheVariants as by
use Rattle.screen.specs.Flushing.{remap_sent, offset_sent, complete, closing, sending, owing, Flushed, Told, FlushStep, InOneWindow, WindowStep}
use Rattle.screen.specs.Screens.{ScreenMeaning}
use Rattle.screen.proofs.Settings.{two, setting_long, sent_now}

module _ (s t : ScreenMeaning) (o p0 p1 p q : LinkMeaning) (n grant free rest left count : ℕ) (cr : Result (Unit {0}) Refusal)
    (busy : (s.lit && complete s) ≡ false)
    (opens : Ok grant ≡ open_answer s.link n) (opened : o ≡ open_after s.link (Ok grant))
    (remapped : p0 ≡ sent_all o (remap_sent s t)) (remap_left : free + length (remap_sent s t) ≡ grant)
    (offsets : p1 ≡ sent_all p0 (offset_sent s t)) (offset_left : rest + length (offset_sent s t) ≡ free)
    (w : Swept p1 s.canvas.cells s.canvas.due rest p t.canvas.due left)
    (fits : (k : ℕ) → k < length t.canvas.due → get_or t.canvas.due k 0 < 2 ^ 64)
    (wide : length s.canvas.cells ≡ 8192)
    (closes : q ≡ sent_all p (Command (closing s.lit (complete t)) ∷ [])) (counts : count ≡ grant - left + 1)
    (shut : cr ≡ close_answer q.slot) (shuts : CloseAfter q cr t.link)
    (cells : t.canvas.cells ≡ s.canvas.cells) (wiring : t.wiring ≡ s.wiring) (lit : t.lit ≡ (s.lit || complete t))
    (remap_owed : t.remap_owed ≡ (s.remap_owed && ltb grant 3)) (offset_owed : t.offset_owed ≡ (s.offset_owed && ltb free 3)) where
  abbrev h : Sweeping p1 s.canvas.cells s.canvas.due rest p t.canvas.due left w.upto
  h = w.sweeping

  abbrev rs : List Transfer
  rs = remap_sent s t

  abbrev os : List Transfer
  os = offset_sent s t

  abbrev ts : List Transfer
  ts = traffic s.canvas.cells h.blocks

  abbrev last : Transfer
  last = Command (closing s.lit (complete t))

  abbrev all_of : List Transfer
  all_of = rs ++ (os ++ (ts ++ last ∷ []))

  -- it was not at rest, so all of it is sent
  is_sent : sending s h.blocks t ≡ all_of
  unfolding sending
  is_sent = cond-false (s.lit && complete s) [] all_of busy

  long : length (sending s h.blocks t) ≡ length rs + (length os + (length ts + 1))
  long =
      ap length is_sent ∙ length-append rs (os ++ (ts ++ last ∷ []))
      ∙ ap (λ x. length rs + x) (length-append os (ts ++ last ∷ []) ∙ ap (λ x. length os + x) (length-append ts (last ∷ [])))

  few_rs : length rs ≤ cond s.remap_owed 2 0
  few_rs = setting_long 0xA0 (settings_for s.wiring).remap s.remap_owed t.remap_owed

  few_os : length os ≤ cond s.offset_owed 2 0
  few_os = setting_long 0xA2 (settings_for s.wiring).offset s.offset_owed t.offset_owed

  all_sent : q ≡ sent_all o all_of
  all_sent = sent_then o p0 q rs _ remapped (sent_then p0 p1 q os _ offsets (sent_then p1 p q ts (last ∷ []) h.sends closes))

  two_owed : (b : Bool) → b ≡ true → 2 ≤ cond b 2 0
  two_owed b e = subst (λ x. 2 ≤ cond x 2 0) (sym e) (omega arith)

  -- nothing is left where the grant has the settings and the closing one, and no byte is due
  whole : owing s + 1 ≤ grant → bytes_due t.canvas.due ≡ 0 → complete t ≡ true
  whole g z =
      let remap : t.remap_owed ≡ false = remap_owed ∙ sent_now s.remap_owed grant (λ e. omega (arith, two_owed s.remap_owed e)) in
      let offset : t.offset_owed ≡ false = offset_owed ∙ sent_now s.offset_owed free (λ e. omega (arith, two_owed s.offset_owed e, few_rs, remap_left)) in
      and_from _ _ (and_from _ _ (ap not remap) (ap not offset)) (eq-eqb (bytes_due t.canvas.due) 0 z)

  all : owing s + worth s.canvas.due + 1 ≤ grant → complete t ≡ true
  all g = whole (omega arith) (swept_all p1 s.canvas.cells s.canvas.due rest p t.canvas.due left w fits (omega (arith, few_rs, few_os, remap_left, offset_left)))

  moves : 12 ≤ grant → (complete t ≡ true) ⊎ (bytes_due t.canvas.due < bytes_due s.canvas.due)
  moves g =
      let most : owing s ≤ 4 = omega (arith, two s.remap_owed, two s.offset_owed) in
      ⊎_elim
      (λ z. inl (whole (omega arith) z))
      (λ less. inr less)
      (swept_moves p1 s.canvas.cells s.canvas.due rest p t.canvas.due left w (omega (arith, few_rs, few_os, remap_left, offset_left)))

  pub counted : count ≡ length (sending s h.blocks t)
  counted = omega (arith, counts, long, remap_left, offset_left, h.spent)

  pub flush_is : Flushed s n t
  flush_is = record {
    grant = grant;
    blocks = h.blocks;
    covers = h.covers;
    session = session s.link o q t.link n grant (sending s h.blocks t) cr opens opened (omega (arith, long, remap_left, offset_left, h.spent, h.reserve)) (all_sent ∙ ap (sent_all o) (sym is_sent)) shut shuts;
    cells = cells;
    wiring = wiring;
    lit = lit;
    remap_owed = remap_owed;
    offset_owed = let e : free ≡ grant - length rs = omega (arith, remap_left) in offset_owed ∙ ap (λ k. s.offset_owed && ltb k 3) e;
    most = omega (arith, long, few_rs, few_os, swept_most p1 s.canvas.cells s.canvas.due rest p t.canvas.due left w);
    all = all;
    by_blocks = omega (arith, long, few_rs, few_os, swept_count p1 s.canvas.cells s.canvas.due rest p t.canvas.due left w wide);
    few_blocks = swept_blocks p1 s.canvas.cells s.canvas.due rest p t.canvas.due left w fits wide;
    full = ⊎_elim (λ z. inl z) (λ (l : left < 8). inr (omega (arith, long, remap_left, offset_left, h.spent))) (swept_over p1 s.canvas.cells s.canvas.due rest p t.canvas.due left w);
    moves = moves;
  }

  -- where the bytes of one block were due, one window was enough
  in_one_window : InOneBlock s.canvas.due rest t.canvas.due left → (told : ℕ) → told ≡ count → InOneWindow s n told t
  in_one_window one told is = record {
    most = λ b box. omega (arith, counted, long, few_rs, few_os, swept_box p1 s.canvas.cells s.canvas.due rest p t.canvas.due left w one b box);
    all = λ b box g granted room.
        let same : ◌≡◌ {A = Result ℕ Refusal} (Ok grant) (Ok g) = opens ∙ granted in
        let e : grant ≡ g = cc in
        whole (omega arith) (swept_box_all p1 s.canvas.cells s.canvas.due rest p t.canvas.due left w one b box (omega (arith, few_rs, few_os, remap_left, offset_left)));
  }

  window_is : InOneBlock s.canvas.due rest t.canvas.due left → (told : Bool) (due : ℕ) (r : Result ℕ FlushFault)
      → Told told count due t.canvas.due r → WindowStep s n r t
  window_is one told due (Ok m) so = in_one_window one m so.1
  window_is one told due (Err (by.Refused e)) so = tt
  window_is one told due (Err (by.LeftOver l)) so = in_one_window one l.count so.1

  pub told_is : (told : Bool) (due : ℕ) (r : Result ℕ FlushFault) → told ≡ complete t → due ≡ bytes_due t.canvas.due
      → Told told count due t.canvas.due r → FlushStep s n r t
  unfolding flush_is
  told_is told due (Ok m) is due_is so = record { flushed = flush_is; all = sym is ∙ so.0; counted = so.1 ∙ counted }
  told_is told due (Err (by.Refused e)) is due_is so = absurd so
  told_is told due (Err (by.LeftOver l)) is due_is so =
      record { flushed = flush_is; not_all = sym is ∙ so.0; counted = so.1 ∙ counted; due = so.2 ∙ due_is; first = so.3 }

  -- both of what a flush says
  pub flush_told : (told : Bool) (due : ℕ) (r : Result ℕ FlushFault) → told ≡ complete t → due ≡ bytes_due t.canvas.due
      → Told told count due t.canvas.due r → InOneBlock s.canvas.due rest t.canvas.due left → FlushStep s n r t × WindowStep s n r t
  flush_told told due r is due_is so one = (told_is told due r is due_is so, window_is one told due r so)
