-- The words of a script. Assumes nothing.
use Rattle.std.specs.Prelude.{ℕ, Bool, true, false, cond, List, [], ◌∷◌, Some, None, codes, Option}
use Rattle.std.specs.Str.{bytes_eq}
use Rattle.script.specs.declared.words.Verb.{Verb}
use Rattle.script.specs.declared.words.Verb.TheVariants.{Ink, Dot, Bar, Place, Narrow, End, Flush}
use Rattle.script.specs.declared.words.Kind.{Kind}
use Rattle.script.specs.declared.words.Kind.TheVariants.{Bits, Grays, Inverse, Crop}
use Rattle.script.specs.declared.words.Marks.{Marks}

-- what a word stands for, by a table
abbrev pub named : {A : Type 0} → List (List ℕ × A) → List ℕ → Option A
named [] word = None
named (row ∷ rows) word = cond (bytes_eq row.0 word) (Some row.1) (named rows word)

-- one word, and no other
abbrev pub word : List ℕ → List ℕ → Option (Unit {0})
word name = named ((name, tt) ∷ [])

-- the calls
abbrev pub verb : List ℕ → Option Verb
verb =
    named ((codes "ink", Ink) ∷ (codes "dot", Dot) ∷ (codes "bar", Bar) ∷ (codes "place", Place) ∷ (codes "narrow", Narrow) ∷ (codes "end", End)
    ∷ (codes "flush", Flush) ∷ [])

-- the kinds of pictures
abbrev pub kind : List ℕ → Option Kind
kind = named ((codes "bits", Bits) ∷ (codes "grays", Grays) ∷ (codes "inverse", Inverse) ∷ (codes "crop", Crop) ∷ [])

-- the marks of a card: mirrored, flipped, comb
abbrev pub marked : Bool → Bool → Bool → Marks
marked m f c = record { mirrored = m; flipped = f; comb = c }

abbrev pub marks : List ℕ → Option Marks
marks =
    named ((codes "-", marked false false false) ∷ (codes "m", marked true false false) ∷ (codes "f", marked false true false)
    ∷ (codes "c", marked false false true) ∷ (codes "mf", marked true true false) ∷ (codes "mc", marked true false true)
    ∷ (codes "fc", marked false true true) ∷ (codes "mfc", marked true true true) ∷ [])
