-- What is written of a text: where it is refused, or what a module shows once it is replayed. Assumes nothing.
use Rattle.std.specs.Prelude.{ℕ, zero, suc, List, [], ◌∷◌, ◌++◌, Option, Result, OnOk, decimal}
use Rattle.std.specs.Io.KnownBytes.{Appends}
use Rattle.refusal.specs.Numbers.{bad_listing_number}
use Rattle.ssd1329.specs.declared.shows.Shows.{Shows}
use Rattle.ssd1329.specs.declared.shows.Shows.TheVariants.{Astray, Dark, Lit}
use Rattle.ssd1329.specs.Chip.{Chip}
use Rattle.ssd1329.specs.Glass.{Wires, shown}
use Rattle.ssd1329.specs.RowText.{row_text}
use Rattle.ssd1329.specs.ShowsWords.{shows_word}

-- a call wrote the text, unless it reports an error; nothing is said of a writer whose contents are not known
abbrev pub Writes : {W A E : Type 0} → (W → Option (List ℕ)) → W → W → List ℕ → Result A E → Type 0
Writes contents before after text r = OnOk r (Appends (contents before) (contents after) text)

-- the refusal's number, a tab, the place and a newline
abbrev pub refusal_line : ℕ → List ℕ
refusal_line place = decimal bad_listing_number ++ 9 ∷ decimal place ++ 10 ∷ []

-- the lines of the dots above row y
unfoldable pub rows_above : Wires → Chip → ℕ → List ℕ
rows_above w c zero = []
rows_above w c (suc y) = rows_above w c y ++ row_text w c y

-- the dots are written where there are any
abbrev pub dots_text : Shows → Wires → Chip → List ℕ
dots_text Astray w c = []
dots_text Dark w c = []
dots_text Lit w c = rows_above w c 128

-- what a module shows: a word, a newline and the lines of its dots
abbrev pub view_text : Wires → Chip → List ℕ
view_text w c = (shows_word (shown c) ++ 10 ∷ []) ++ dots_text (shown c) w c
