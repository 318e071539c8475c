-- A flush of a screen that has nothing left to send.
use Rattle.std.proofs.Common.{◌≡◌, ℕ, Bool, true, false, not, ◌&&◌, eqb, ltb, [], length, Ok, Result, sym, refl, ap, ◌∙◌, inl, arith}
use Rattle.std.proofs.lemmas.Bool.{cond-true, and_parts, and_left, eqb-true, or_left, not-true}
use Rattle.refusal.specs.declared.refusals.Refusal.{Refusal}
use Rattle.link.specs.Links.{LinkMeaning, open_answer, open_after, close_answer, CloseAfter}
use Rattle.marks.specs.Blocks.{bytes_due}
use Rattle.marks.specs.Sending.{sent_all}
use Rattle.marks.proofs.Sends.{sent_none}
use Rattle.marks.proofs.Sessions.{session}
use Rattle.screen.specs.Flushing.{complete, sending, Done, InOneWindow}
use Rattle.screen.specs.Screens.{ScreenMeaning}

abbrev with_link : ScreenMeaning → LinkMeaning → ScreenMeaning
with_link s l = record { wiring = s.wiring; canvas = s.canvas; link = l; lit = s.lit; remap_owed = s.remap_owed; offset_owed = s.offset_owed }

-- what is told of the settings and the due bytes is told of the screen
pub complete_is : (s : ScreenMeaning) (due : ℕ) (b : Bool) → b ≡ ((not s.remap_owed && not s.offset_owed) && eqb due 0) → due ≡ bytes_due s.canvas.due → b ≡ complete s
complete_is s due b e d = e ∙ ap (λ k. (not s.remap_owed && not s.offset_owed) && eqb k 0) d

module _ (s : ScreenMeaning) (o l : LinkMeaning) (n grant : ℕ) (cr : Result (Unit {0}) Refusal)
    (rests : (s.lit && complete s) ≡ true)
    (opens : Ok grant ≡ open_answer s.link n) (opened : o ≡ open_after s.link (Ok grant))
    (shut : cr ≡ close_answer o.slot) (shuts : CloseAfter o cr l) where
  abbrev t : ScreenMeaning
  t = with_link s l

  nothing : sending s [] t ≡ []
  unfolding sending
  nothing = cond-true (s.lit && complete s) _ _ rests

  is_lit : s.lit ≡ true
  is_lit = (and_parts s.lit (complete s) rests).0

  whole : complete s ≡ true
  whole = (and_parts s.lit (complete s) rests).1

  settled : (not s.remap_owed && not s.offset_owed) ≡ true
  settled = (and_parts (not s.remap_owed && not s.offset_owed) (eqb (bytes_due s.canvas.due) 0) whole).0

  remap_sent_before : s.remap_owed ≡ false
  remap_sent_before = not-true s.remap_owed (and_parts (not s.remap_owed) (not s.offset_owed) settled).0

  offset_sent_before : s.offset_owed ≡ false
  offset_sent_before = not-true s.offset_owed (and_parts (not s.remap_owed) (not s.offset_owed) settled).1

  none_due : bytes_due s.canvas.due ≡ 0
  none_due = eqb-true (bytes_due s.canvas.due) 0 (and_parts (not s.remap_owed && not s.offset_owed) (eqb (bytes_due s.canvas.due) 0) whole).1

  not_owed : (b c : Bool) → b ≡ false → b ≡ (b && c)
  not_owed b c e = e ∙ sym (and_left b c e)

  short : length (sending s [] t) ≡ 0
  short = ap length nothing

  pub rest_is : Done s n 0 (with_link s l)
  rest_is = record {
    flushed = record {
      grant = grant;
      blocks = [];
      covers = refl;
      session = session s.link o o l n grant (sending s [] t) cr opens opened (omega (arith, short)) (sent_none o ∙ ap (sent_all o) (sym nothing)) shut shuts;
      cells = refl;
      wiring = refl;
      lit = is_lit ∙ sym (or_left s.lit (complete s) is_lit);
      remap_owed = not_owed s.remap_owed (ltb grant 3) remap_sent_before;
      offset_owed = not_owed s.offset_owed _ offset_sent_before;
      most = omega (arith, short);
      all = λ g. whole;
      by_blocks = omega (arith, short);
      few_blocks = omega arith;
      full = inl none_due;
      moves = λ g. inl whole;
    };
    all = whole;
    counted = sym short;
  }

  in_one_window : InOneWindow s n 0 (with_link s l)
  in_one_window = record { most = λ b box. omega arith; all = λ b box g is room. whole }

  -- both of what a flush says
  pub rest_told : Done s n 0 (with_link s l) × InOneWindow s n 0 (with_link s l)
  rest_told = (rest_is, in_one_window)
