-- A reader goes one line on.
use Rattle.std.proofs.Common.{◌≡◌, ℕ, ◌+◌, ◌-◌, ◌≤◌, cond, List, [], ◌∷◌, ◌++◌, length, take, drop, Some, None, Option, ap, ◌∙◌, subst, arith, length-drop}
use Rattle.std.proofs.lemmas.List.{take_rest}
use Rattle.std.proofs.lemmas.Option.{cond_some}
use Rattle.listing.specs.declared.record.Record.{Record}
use Rattle.listing.specs.declared.reader.Reader.{Reader}
use Rattle.listing.specs.Listing.{allowed, slot_then, wide, line, Begins}
use Rattle.listing.specs.ReadBack.{listed}
use Rattle.listing.proofs.OneLine.{take_line, line_fits}
use Rattle.listing.proofs.Written.{Kept, grown}

pub kept : (x : Reader) → Kept (take x.at x.text.now) x.slot
kept x = record { spelled = x.spelled; lawful = x.lawful; stands = x.stands }

pub record On (s : List ℕ) (at n : ℕ) (r : Record) (slot : Option ℕ) : Type 0 where
  pub within : n ≤ length s
  pub kept : Kept (take n s) slot
  pub more : listed (take n s) ≡ listed (take at s) ++ r ∷ []

pub line_on : (x : Reader) (w : ℕ) (r : Record) (after : Option ℕ) → Begins (take (length x.text.now - x.at) (drop x.at x.text.now)) r → w ≡ wide r
    → cond (allowed x.slot r) (Some (slot_then x.slot r)) None ≡ Some after → On x.text.now x.at (x.at + w) r after
line_on x w r after b e f =
    let s = x.text.now in
    let at = x.at in
    let inside : at ≤ length s = x.inside in
    let begins : Begins (drop at s) r = rw take_rest at b in
    let goes = cond_some (allowed x.slot r) (slot_then x.slot r) after f in
    let longer : take (at + w) s ≡ take at s ++ line r = ap (λ w. take (at + w) s) e ∙ take_line s at r begins in
    let g = grown (take at s) (take (at + w) s) r x.slot (kept x) longer goes.0 in
    let fits = line_fits (drop at s) r begins in
    let long = length-drop at s in
    record { within = omega arith; kept = subst (λ o. Kept (take (at + w) s) o) goes.1 g.kept; more = g.more }
