-- The words that ask for something of a script. Assumes nothing.
use Rattle.std.specs.Prelude.{◌≡◌, ℕ, List, [], ◌∷◌, Some, None, Option, Result, codes, MatchResult}
use Rattle.script.specs.Words.{named}
use Rattle.runner.specs.declared.wanted.Wanted.{Wanted}
use Rattle.runner.specs.declared.wanted.Wanted.TheVariants.{Answers, Listing, Glass, Image}
use Rattle.runner.specs.declared.wanted.NotWanted.{NotWanted}

abbrev pub wanted : List ℕ → Option Wanted
wanted = named ((codes "answers", Answers) ∷ (codes "listing", Listing) ∷ (codes "glass", Glass) ∷ (codes "picture", Image) ∷ [])

-- what a word asks for, or that it asks for nothing
abbrev pub Asks : List ℕ → Result Wanted NotWanted → Type 0
Asks word r = MatchResult r (λ w. wanted word ≡ Some w) (λ _. wanted word ≡ None)
