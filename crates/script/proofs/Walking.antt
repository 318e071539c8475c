-- The lines of a text, one by one.
use Rattle.std.proofs.Common.{◌≡◌, ℕ, Bool, true, false, cond, ◌&&◌, eqb, List, [], ◌∷◌, length, None, sym, refl, ap, ◌∙◌, arith}
use Rattle.std.proofs.lemmas.Bool.Decides.{nat_tests}
use Rattle.script.specs.Parts.{longer, parts, no_more, unended, a_line, lines_by}
use Rattle.script.specs.Ahead.{next_line, ended}
use Rattle.script.proofs.Cutting.{some_parts}

-- A part before others is a line.
pub line_then : (whole : Bool) (p text : List ℕ) → lines_by whole (p ∷ parts 10 text) ≡ a_line p (lines_by whole (parts 10 text))
unfolding lines_by
line_then whole p text =
    let s = some_parts 10 text in ap (λ ps. lines_by whole (p ∷ ps)) s.2 ∙ ap (λ ps. a_line p (lines_by whole ps)) (sym s.2)

-- After the last newline no line comes, whether the text ends there or not.
none_or_unended : (t : Bool) → next_line (cond t no_more unended) ≡ None
none_or_unended true = refl
none_or_unended false = refl

-- So the last part is no line.
pub last_part : (whole : Bool) (p : List ℕ) → next_line (lines_by whole (p ∷ [])) ≡ None
unfolding lines_by
last_part whole p = none_or_unended (whole && eqb (length p) 0)

-- A part that has a byte is not the end.
goes_on : (whole : Bool) (b : ℕ) (p : List ℕ) (ps : List (List ℕ)) → ended (lines_by whole ((b ∷ p) ∷ ps)) ≡ false
unfolding lines_by
goes_on whole b p [] =
    let more : (whole && eqb (length (b ∷ p)) 0) ≡ false = grind (arith, nat_tests) in ap (λ t. ended (cond t no_more unended)) more
goes_on whole b p (q ∷ qs) = refl

-- By its first byte, a newline or another.
byte_goes_on : (whole t : Bool) (b : ℕ) (bs : List ℕ) → ended (lines_by whole (cond t ([] ∷ parts 10 bs) (longer b (parts 10 bs)))) ≡ false
byte_goes_on whole true b bs = ap ended (line_then whole [] bs)
byte_goes_on whole false b bs =
    let s = some_parts 10 bs in ap (λ ps. ended (lines_by whole (longer b ps))) s.2 ∙ goes_on whole b s.0 s.1

-- Of an empty last part the end depends on what stands past the room.
none_left : (whole : Bool) → ended (cond (whole && eqb 0 0) no_more unended) ≡ (whole && eqb 0 0)
none_left true = refl
none_left false = refl

-- A text has ended where nothing is left of it, and nothing stands past the room.
pub ended_is : (whole : Bool) (text : List ℕ) → ended (lines_by whole (parts 10 text)) ≡ (whole && eqb (length text) 0)
unfolding lines_by parts
ended_is whole [] = none_left whole
ended_is whole (b ∷ bs) =
    let more : (whole && eqb (length (b ∷ bs)) 0) ≡ false = grind (arith, nat_tests) in byte_goes_on whole (eqb b 10) b bs ∙ sym more

-- what a next line needs
pub ruleset next_lines = (line_then, last_part)
