-- The two ways in which a line is bad: it is none, or may not follow.
use Rattle.std.proofs.Common.{◌≡◌, ◌-◌, ◌<◌, true, cond, length, take, drop, Some, None, sym, ap, ◌∙◌}
use Rattle.std.proofs.lemmas.Bool.{cond-true}
use Rattle.std.proofs.lemmas.List.{take_rest}
use Rattle.std.proofs.lemmas.Option.{none-some}
use Rattle.listing.specs.declared.record.Record.{Record}
use Rattle.listing.specs.declared.reader.Reader.{Reader}
use Rattle.listing.specs.Listing.{allowed, slot_then, Begins, BadAt, Writable}
use Rattle.listing.proofs.OneLine.{allowed_writable}
use Rattle.listing.proofs.Back.{bad_here, only_line}
use Rattle.listing.proofs.Written.{kept_lists}
use Rattle.listing.proofs.Advance.{kept}

pub no_line : (x : Reader) → x.at < length x.text.now
    → ((r : Record) → Writable r → Begins (take (length x.text.now - x.at) (drop x.at x.text.now)) r → ⊥) → BadAt x.text.now x.at
no_line x more none = bad_here x.text.now x.at _ more (kept_lists (kept x)) (λ r f b. none r (allowed_writable _ r f) (rw take_rest b))

pub barred_line : (x : Reader) (q : Record) → x.at < length x.text.now → Writable q × Begins (take (length x.text.now - x.at) (drop x.at x.text.now)) q
    → cond (allowed x.slot q) (Some (slot_then x.slot q)) None ≡ None → BadAt x.text.now x.at
barred_line x q more here barred =
    bad_here x.text.now x.at _ more (kept_lists (kept x))
    (λ r f b. let same : r ≡ q = only_line (drop x.at x.text.now) r q (allowed_writable _ r f) here.0 b (rw take_rest at here.1) in
    let may : allowed x.slot q ≡ true = ap (λ o. allowed o q) x.stands ∙ ap (allowed _) (sym same) ∙ f in
    none-some _ (sym barred ∙ cond-true _ _ _ may))
