-- How long the first flush of a screen is. Assumes nothing.
use Rattle.std.specs.Prelude.{◌≡◌, ℕ, ◌+◌, ◌≤◌, true, Ok}
use Rattle.ssd1329.specs.Glass.{Wires}
use Rattle.link.specs.Links.{LinkMeaning, open_answer}
use Rattle.screen.specs.Flushing.{complete, InOneWindow}
use Rattle.screen.specs.Screens.{ScreenMeaning, fresh_screen}

-- Whatever the wiring, the link and the grant: at most four transfers of settings, six of a window, a frame of bytes, and the closing one.
-- A grant of as many leaves nothing to send.
abbrev pub FirstFlushIsShort : Type 0
FirstFlushIsShort =
    (w : Wires) (m : LinkMeaning) (n count : ℕ) (t : ScreenMeaning) → InOneWindow (fresh_screen w m) n count t
    → (count ≤ 4 + 6 + 8192 + 1)
    × ((grant : ℕ) → open_answer m n ≡ Ok grant → 4 + 6 + 8192 + 1 ≤ grant → complete t ≡ true)
