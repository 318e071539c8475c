use Rattle.std.proofs.Common.{◌≡◌, ◌+◌, ◌-◌, ◌*◌, length, refl, ◌∙◌, subst, arith, rules}
use Rattle.marks.specs.Blocks.{lines_of, words, Clears}
use Rattle.marks.specs.Sending.{Sweeping, InOneBlock, sent_all}
use Rattle.marks.proofs.Sweep.{sweep_none, box_none, block_more}
use Rattle.screen.proofs.slots.Slot.sweep.Goals as goal

pub loop-y-init : goal.loop-y-init
loop-y-init g c =
    let s = c.args.self.now in
    (refl, sweep_none (g.L.Link.means s.link.now) c.args.canvas.now c.args.due.now s.left c.requires, box_none c.args.due.now s.left)

pub loop-run-preserved : goal.loop-run-preserved
loop-run-preserved g c =
    let k = g.L.Link in
    let s = c.args.self.now in
    let o = k.means s.link.now in
    let canvas = c.args.canvas.now in
    let ws = c.args.due.now in
    let m = k.means c.loop-run.self.link.now in
    let n = k.means c.send_block.new.self.link.now in
    let us = c.send_block.new.due in
    let b = c.choose-block.result in
    let y = c.loop-y.y in
    let wide : length canvas ≡ 8192 = search rules in
    let lines : length ws ≡ 128 = search rules in
    let inv = c.loop-run.invariant in
    let block = c.choose-block.ensures in
    let sent = c.send_block.ensures in
    let clears = subst (λ l. Clears c.loop-run.due (lines_of l b.from b.size b.height) us) block.place sent.clears in
    let sends = subst (λ l. n ≡ sent_all m (words canvas (record { line = l; from = b.from; size = b.size; height = b.height }))) block.place sent.sends.sent in
    let both = block_more o canvas ws s.left m n c.loop-run.due us c.loop-run.self.left y b.from _ b.size b.height inv.1 block.chosen wide lines clears sends inv.2 block.ends in
    let left : c.loop-run.self.left - (6 + b.size * b.height) ≡ c.send_block.new.self.left = omega (arith, sent.sends.spent, sent.long) in (
      sent.sends.same_link ∙ inv.0,
      subst (λ r. Sweeping o canvas ws s.left n us r y) left both.0,
      subst (λ r. InOneBlock ws s.left us r) left both.1,
    )
