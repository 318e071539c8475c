-- A text that was read to its end.
use Rattle.std.proofs.Common.{◌≡◌, ℕ, List, [], ◌∷◌, ◌++◌, length, take, sym, refl, ap, ◌∙◌, arith}
use Rattle.std.proofs.lemmas.List.{take_all}
use Rattle.ssd1329.specs.Chip.{Chip}
use Rattle.listing.specs.declared.record.Record.{Record}
use Rattle.listing.specs.declared.reader.Reader.{Reader}
use Rattle.listing.specs.ReadBack.{listed, lines}
use Rattle.listing.specs.Reading.{Ended}
use Rattle.listing.specs.Replay.{met, replayed, Replayed, Listing}

pub none_replayed : (c : Chip) (s : List ℕ) (at : ℕ) → at ≡ 0 → c ≡ replayed c (listed (take at s))
unfolding replayed listed lines
none_replayed c s at e = sym (ap (λ n. replayed c (listed (take n s))) e)

pub replayed_push : (c : Chip) (rs : List Record) (r : Record) → replayed c (rs ++ r ∷ []) ≡ met (replayed c rs) r
unfolding replayed
replayed_push c [] r = refl
replayed_push c (q ∷ rs) r = replayed_push (met c q) rs r

-- what the reader has read is the whole text
pub whole : (x : Reader) (s : List ℕ) (to : ℕ) → x.text.now ≡ s → Ended x.text.now x.at to → Listing s
whole x s to e d =
    let w = d.whole in
    let k = d.short in
    let all : take x.at x.text.now ≡ s = take_all x.at x.text.now (omega arith) ∙ e in
    record {
      short = (let l = ap length e in omega arith);
      records = listed (take x.at x.text.now);
      lists = record { spelled = sym all ∙ x.spelled; lawful = x.lawful };
    }

pub whole_replayed : (x : Reader) (s : List ℕ) (to : ℕ) (before after : Chip) → x.text.now ≡ s → Ended x.text.now x.at to
    → after ≡ replayed before (listed (take x.at s)) → Replayed s before after
unfolding whole
whole_replayed x s to before after e d m =
    record { listing = whole x s to e d; meets = m ∙ ap (λ b. replayed before (listed (take x.at b))) (sym e) }
