-- What the first two lines of a script say. Assumes nothing.
use Rattle.std.specs.Prelude.{ℕ, List, Some, codes, Option}
use Rattle.script.specs.declared.script.Card.{Card}
use Rattle.script.specs.Parts.{fields}
use Rattle.script.specs.Numbers.{unsigned}
use Rattle.script.specs.Words.{word, marks}
use Rattle.script.specs.Readings.{Said, field, then, only}

-- the card of the module
abbrev pub card_by : List (List ℕ) → Said Card
card_by fs =
    then (field marks fs) (λ m fs. then (field unsigned fs)
    (λ shift fs. Some (record { mirrored = m.mirrored; flipped = m.flipped; comb = m.comb; shift = shift }, fs)))

abbrev pub card : List ℕ → Option Card
card bytes = only (then (field (word (codes "card")) (fields bytes)) (λ _ fs. card_by fs))

-- the size of the listing's buffer
abbrev pub buffer : List ℕ → Option ℕ
buffer bytes = only (then (field (word (codes "buffer")) (fields bytes)) (λ _ fs. field unsigned fs))
