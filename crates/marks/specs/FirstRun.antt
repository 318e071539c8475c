-- The first run of a word, or none. Assumes nothing.
use Rattle.std.specs.Prelude.{◌≡◌, ℕ, Some, None, Option}
use Rattle.marks.specs.declared.run.Run.{Run}
use Rattle.marks.specs.Marks.{First}

-- none is due exactly where there is no mark: a first run has at least one
abbrev pub FirstRun : ℕ → Option Run → Type 0
FirstRun w None = w ≡ 0
FirstRun w (Some r) = First w r.start r.len
