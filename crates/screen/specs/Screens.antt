-- What a screen means. Assumes nothing.
use Rattle.std.specs.Prelude.{◌≡◌, ℕ, Bool, true, false, not, ◌&&◌, Some, None, Option, ◌==◌}
use Rattle.ssd1329.specs.Glass.{Wires}
use Rattle.ssd1329.specs.Meaning.{wires}
use Rattle.ssd1329.specs.Wiring.{settings_for}
use Rattle.drawing.specs.declared.canvas.Canvas.{Canvas}
use Rattle.drawing.specs.Book.{Call, ByTheBook}
use Rattle.drawing.specs.Dots.{fresh_canvas}
use Rattle.drawing.specs.Pens.{PenMeaning}
use Rattle.link.specs.declared.links.Link.{Ghosts}
use Rattle.link.specs.Links.{LinkMeaning}
use Rattle.screen.specs.declared.screens.Screen.{Screen}

pub record ScreenMeaning : Type 0 where
  pub wiring : Wires
  -- the grays that are drawn, and which bytes are due
  pub canvas : Canvas
  pub link : LinkMeaning
  -- some flush has left nothing to send
  pub lit : Bool
  -- the settings that the wiring needs and the controller lacks
  pub remap_owed : Bool
  pub offset_owed : Bool

abbrev pub shows : {L : Type 0} → Ghosts L → Screen L → ScreenMeaning
shows k s = record { wiring = wires s.wiring; canvas = s.canvas; link = k.means s.link; lit = s.lit; remap_owed = s.owed.remap; offset_owed = s.owed.offset }

abbrev pub is_shut : Option ℕ → Bool
is_shut None = true
is_shut (Some left) = false

-- a link that is closed and has taken nothing
abbrev pub fresh_link : LinkMeaning → Bool
fresh_link m = is_shut m.slot && m.taken == 0

-- a controller at reset has 0 in both registers, so another value has to be sent
abbrev pub lacks : ℕ → Bool
lacks value = not (value == 0)

abbrev pub fresh_screen : Wires → LinkMeaning → ScreenMeaning
fresh_screen w m = record { wiring = w; canvas = fresh_canvas; link = m; lit = false; remap_owed = lacks (settings_for w).remap; offset_owed = lacks (settings_for w).offset }

-- the canvas went from one drawing to the next as the book has it
abbrev pub DrawnByTheBook : {L : Type 0} → Call → PenMeaning → Screen L → Screen L → Type 0
DrawnByTheBook call pen before after = ByTheBook call pen before.canvas after.canvas

-- all but the canvas is as it was
pub record OnlyCanvas {L : Type 0} (before after : Screen L) : Type 0 where
  pub wiring : after.wiring ≡ before.wiring
  pub link : after.link ≡ before.link
  pub lit : after.lit ≡ before.lit
  pub owed : after.owed ≡ before.owed
