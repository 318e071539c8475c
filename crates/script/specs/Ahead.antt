-- The lines that are ahead in a text.
use Rattle.std.specs.Prelude.{ℕ, Bool, true, false, List, Some, None, Option}
use Rattle.script.specs.declared.ahead.Ahead.{Ahead}
use Rattle.script.specs.Parts.{parts, Lines, no_more, unended, a_line, lines_by}

unfoldable pub ahead : Ahead → Lines
ahead a = lines_by a.whole (parts 10 a.rest.now)

-- the next line
abbrev pub next_line : Lines → Option (List ℕ)
next_line no_more = None
next_line unended = None
next_line (a_line bytes more) = Some bytes

-- whether there is none, and the text has ended
abbrev pub ended : Lines → Bool
ended no_more = true
ended unended = false
ended (a_line bytes more) = false
