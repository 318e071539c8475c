-- The words for what a module shows. Assumes nothing.
use Rattle.std.specs.Prelude.{ℕ, List, codes}
use Rattle.ssd1329.specs.declared.shows.Shows.{Shows}
use Rattle.ssd1329.specs.declared.shows.Shows.TheVariants.{Astray, Dark, Lit}

abbrev pub shows_word : Shows → List ℕ
shows_word Astray = codes "astray"
shows_word Dark = codes "dark"
shows_word Lit = codes "lit"
