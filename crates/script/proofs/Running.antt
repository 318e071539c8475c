-- A script read line by line.
use Rattle.std.proofs.Common.{◌≡◌, ℕ, ◌+◌, true, false, List, [], ◌∷◌, ◌++◌, map, Some, None, Ok, Err, Result, sym, refl, ap, ◌∙◌, arith}
use Rattle.std.proofs.lemmas.List.{append_assoc, append-nil, map_push}
use Rattle.script.specs.Parts.{Lines, no_more, unended, a_line}
use Rattle.script.specs.Ahead.{next_line, ended}
use Rattle.script.specs.Calls.{Line, LineMeaning, line_means}
use Rattle.script.specs.Lines.{line}
use Rattle.script.specs.Scripts.{numbered, and_then, calls_from}

-- lines that are read, and what follows them
abbrev pub after : List LineMeaning → Result (List LineMeaning) ℕ → Result (List LineMeaning) ℕ
after ms (Ok ns) = Ok (ms ++ ns)
after ms (Err n) = Err n

-- A line that follows is one more that is read.
after_more : (ms : List LineMeaning) (m : LineMeaning) (said : Result (List LineMeaning) ℕ) → after ms (and_then m said) ≡ after (ms ++ m ∷ []) said
after_more ms m (Ok ns) = ap Ok (sym (append_assoc ms (m ∷ []) ns))
after_more ms m (Err n) = refl

-- One line more.
line_on : (ms : List LineMeaning) (n : ℕ) (bytes : List ℕ) (more : Lines) (m : LineMeaning) → line bytes ≡ Some m
    → after ms (calls_from n (a_line bytes more)) ≡ after (ms ++ m ∷ []) (calls_from (n + 1) more)
unfolding calls_from
line_on ms n bytes more m e =
    ap (λ o. after ms (numbered n o (λ k. and_then k (calls_from (n + 1) more)))) e ∙ after_more ms m (calls_from (n + 1) more)

pub line_goes_on : (read : List Line) (here : Line) (n k : ℕ) (bytes : List ℕ) (ls more : Lines)
    → ls ≡ a_line bytes more → line bytes ≡ Some (line_means here)
    → k ≡ n + 1 → after (map line_means read) (calls_from n ls) ≡ after (map line_means (read ++ here ∷ [])) (calls_from k more)
line_goes_on read here n k bytes ls more next says count =
    ap (λ t. after (map line_means read) (calls_from n t)) next ∙ line_on (map line_means read) n bytes more (line_means here) says
    ∙ ap (λ ms. after ms (calls_from (n + 1) more)) (sym (map_push line_means read here))
    ∙ ap (λ j. after (map line_means (read ++ here ∷ [])) (calls_from j more)) (sym count)

-- A line that says nothing: nothing after it mends that.
pub line_stops : (ms : List LineMeaning) (n : ℕ) (bytes : List ℕ) (more : Lines) → line bytes ≡ None → after ms (calls_from n (a_line bytes more)) ≡ Err n
unfolding calls_from
line_stops ms n bytes more e = ap (λ o. after ms (numbered n o (λ k. and_then k (calls_from (n + 1) more)))) e

-- Bytes without a newline are no line.
pub no_line_stops : (ms : List LineMeaning) (n : ℕ) (ls : Lines) → ended ls ≡ false → next_line ls ≡ None → after ms (calls_from n ls) ≡ Err n
unfolding calls_from
no_line_stops ms n no_more e f = let z : ◌≡◌ {A = ℕ} 0 1 = cc in absurd (omega arith)
no_line_stops ms n unended e f = refl
no_line_stops ms n (a_line bytes more) e f = let z : ◌≡◌ {A = ℕ} 0 1 = cc in absurd (omega arith)

-- Where the text ends, the lines are all.
pub lines_end : (ms : List LineMeaning) (n : ℕ) (ls : Lines) → ended ls ≡ true → after ms (calls_from n ls) ≡ Ok ms
unfolding calls_from
lines_end ms n no_more e = ap Ok (append-nil ms)
lines_end ms n unended e = let z : ◌≡◌ {A = ℕ} 0 1 = cc in absurd (omega arith)
lines_end ms n (a_line bytes more) e = let z : ◌≡◌ {A = ℕ} 0 1 = cc in absurd (omega arith)

-- what each turn of reading lines needs
pub ruleset turns = (line_goes_on, line_stops, no_line_stops, lines_end)
