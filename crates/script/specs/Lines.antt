-- What a line of a script says. Assumes nothing.
use Rattle.std.specs.Prelude.{ℕ, List, Some, Ok, Err, Option}
use Rattle.drawing.specs.Book.{inks, dots, bars, places, narrows, ends, flushes}
use Rattle.script.specs.declared.shapes.Corner.{Corner}
use Rattle.script.specs.declared.words.Verb.{Verb}
use Rattle.script.specs.declared.words.Verb.TheVariants.{Ink, Dot, Bar, Place, Narrow, End, Flush}
use Rattle.script.specs.Parts.{fields}
use Rattle.script.specs.Numbers.{unsigned, as_gray}
use Rattle.script.specs.Words.{verb}
use Rattle.script.specs.Readings.{Said, field, then, only, corner, extent}
use Rattle.script.specs.Figures.{Made, figure}
use Rattle.script.specs.Calls.{LineMeaning, calls, refuses}

-- a picture that cannot be made is not placed
abbrev pub placing : Corner → Made → LineMeaning
placing at (Ok p) = calls (places p at.x at.y)
placing at (Err why) = refuses why

-- the fields after a line's first word
abbrev pub line_by : Verb → List (List ℕ) → Said LineMeaning
line_by Ink fs = then (field unsigned fs) (λ g fs. Some (calls (inks (as_gray g)), fs))
line_by Dot fs = then (corner fs) (λ at fs. Some (calls (dots at.x at.y), fs))
line_by Bar fs = then (corner fs) (λ at fs. then (extent fs) (λ s fs. Some (calls (bars at.x at.y s.width s.height), fs)))
line_by Place fs = then (corner fs) (λ at fs. then (figure fs) (λ p fs. Some (placing at p, fs)))
line_by Narrow fs = then (corner fs) (λ at fs. then (extent fs) (λ s fs. Some (calls (narrows at.x at.y s.width s.height), fs)))
line_by End fs = Some (calls ends, fs)
line_by Flush fs = then (field unsigned fs) (λ n fs. Some (calls (flushes n), fs))

-- a line, without its newline
abbrev pub line : List ℕ → Option LineMeaning
line bytes = only (then (field verb (fields bytes)) line_by)
