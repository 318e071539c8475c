-- What a card says of a module's wiring.
use Rattle.std.specs.Prelude.{◌≡◌, MatchResult, is_ok, nat_le, Result}
use Rattle.refusal.specs.declared.refusals.Refusal.{Refusal}
use Rattle.refusal.specs.declared.refusals.Refusal.TheVariants.{Shift}
use Rattle.ssd1329.specs.declared.wiring.Wiring.{Wiring}
use Rattle.ssd1329.specs.Meaning.{wires}
use Rattle.ssd1329.specs.Glass.{card}
use Rattle.script.specs.declared.script.Card.{Card}

-- the wiring with the card's marks and its shift; only a shift above 127 is refused
abbrev pub Wires : Card → Result Wiring Refusal → Type 0
Wires c r = (is_ok r ≡ nat_le c.shift 127) × MatchResult r (λ w. wires w ≡ card c.mirrored c.flipped c.comb c.shift) (λ why. why ≡ Shift)
