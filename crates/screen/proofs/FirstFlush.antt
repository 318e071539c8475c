-- The first flush of a screen: every byte of the canvas is due, so one block takes them all.
use Rattle.std.proofs.Common.{◌≤◌, sym, ◌∙◌, arith}
use Rattle.std.proofs.lemmas.Bool.Decides.{nat_tests}
use Rattle.ssd1329.specs.Glass.{Wires}
use Rattle.drawing.specs.Dots.{due, fresh_canvas}
use Rattle.link.specs.Links.{LinkMeaning}
use Rattle.marks.specs.Blocks.{Block, block, Boxed}
use Rattle.screen.specs.FirstFlush.{FirstFlushIsShort}
use Rattle.screen.specs.Flushing.{owing}
use Rattle.screen.specs.Screens.{fresh_screen}
use Rattle.screen.proofs.Settings.{two}
use Rattle.screen.proofs.Starts.{all_due}

abbrev frame : Block
frame = block 0 0 64 128

-- the bytes of the whole canvas are due, and no others
fresh_boxed : Boxed fresh_canvas.due frame
unfolding due
fresh_boxed = record {
  shaped = record { high = omega arith; wide = omega arith; within = omega arith; below = omega arith };
  marks = λ y k hy hk. all_due y k hy hk ∙ sym (grind (arith, nat_tests));
}

-- two settings at most
fresh_owing : (w : Wires) (m : LinkMeaning) → owing (fresh_screen w m) ≤ 4
fresh_owing w m =
    let s = fresh_screen w m in
    omega (arith, two s.remap_owed, two s.offset_owed)

pub first_flush_is_short : FirstFlushIsShort
first_flush_is_short w m n count t f =
    let few = fresh_owing w m in
    (omega (arith, f.most frame fresh_boxed), λ grant is room. f.all frame fresh_boxed grant is (omega arith))
