use Rattle.std.proofs.Common.{◌≡◌, ◌+◌, ◌-◌, ◌*◌, ◌<◌, ◌≤◌, suc, map, length, take, drop, set, get_or, refl, ap, ◌∙◌, subst, mul-zero, mul-suc, mul-le-mul_left, arith, length-drop, length-take, rules}
use Rattle.ssd1329.specs.declared.transfer.Transfer.TheVariants.{Command, Data}
use Rattle.marks.specs.Marks.{Cleared}
use Rattle.marks.specs.Blocks.{Block, Shaped, Part, window}
use Rattle.std.proofs.lemmas.List.{length-map}
use Rattle.marks.specs.Sending.{Blocking, sent_all}
use Rattle.marks.proofs.Accounts.{words_length}
use Rattle.marks.proofs.Sweep.{blocking_none, block_sent}
use Rattle.screen.proofs.Sending.{line_more}
use Rattle.screen.proofs.slots.Slot.send_block.Goals as goal

pub loop-line-init : goal.loop-line-init
loop-line-init g c =
    let b = c.args.block.now in
    let m = g.L.Link.means c.send_each.new.self.link.now in
    let none : 0 ≡ c.block.inside.line - b.line = omega (arith, ap (λ b. b.line) c.block.view_is) in (
      refl,
      omega (arith, ap (λ i. b.size * i) none, mul-zero b.size),
      subst (λ i. Blocking m c.args.canvas.now c.args.due.now b.line b.from b.size m c.args.due.now i) none (blocking_none m c.args.canvas.now c.args.due.now b.line b.from b.size),
    )

pub send_each-requires-in-loop-line-clause-fits : goal.send_each-requires-in-loop-line-clause-fits
send_each-requires-in-loop-line-clause-fits g c =
    let b = c.args.block.now in
    let is = c.block.view_is in
    let sent = c.loop-line.line - b.line in
    let first = c.send_each.ensures Command (λ b t is. is) in
    let one : b.size * suc sent ≤ b.size * b.height = mul-le-mul_left b.size (omega (arith, ap (λ b. b.line) is, ap (λ b. b.height) is)) in
    simp length-take (omega (arith, first.spent, c.requires.grant, c.loop-line.invariant.1, one, mul-suc b.size sent, ap (λ b. b.size) is))

pub loop-line-preserved : goal.loop-line-preserved
loop-line-preserved g c =
    let k = g.L.Link in
    let b = c.args.block.now in
    let n = c.block.inside in
    let is = c.block.view_is in
    let canvas = c.args.canvas.now in
    let line = c.loop-line.line in
    let sent = line - b.line in
    let top : n.line ≡ b.line = ap (λ (b : Block). b.line) is in
    let tall : n.height ≡ b.height = ap (λ (b : Block). b.height) is in
    let below = c.block.invariant.below in
    let on : b.line + sent ≡ line = omega arith in
    let next : sent + 1 ≡ line + 1 - b.line = omega arith in
    let from = line * 64 + n.from in
    let size : from + n.size - from ≡ b.size = omega (arith, ap (λ (b : Block). b.size) is) in
    let more = c.send_each-in-loop-line.ensures Data (λ b t is. is) in
    let m = k.means c.loop-line.self.link.now in
    let wide : length canvas ≡ 8192 = search rules in
    let inside : line < length c.loop-line.due = search rules in
    let row : k.means c.send_each-in-loop-line.new.self.link.now ≡ sent_all m (map Data (take b.size (drop (line * 64 + b.from) canvas))) =
    more.sent ∙ ap (λ z. sent_all m (map Data (take z (drop from canvas)))) size ∙ ap (λ (d : Block). sent_all m (map Data (take b.size (drop (line * 64 + d.from) canvas)))) is in
    let long : length (map Data (take (from + n.size - from) (drop from canvas))) ≡ b.size = simp (length-map, length-take, length-drop) (omega (arith, c.block.invariant.within)) in
    let blocking = line_more (k.means c.send_each.new.self.link.now) m (k.means c.send_each-in-loop-line.new.self.link.now) canvas c.args.due.now c.loop-line.due b sent line c.cleared.result on
    c.loop-line.invariant.2 row (subst Shaped is c.block.invariant) wide (omega arith) inside
    (subst (λ j. Part (get_or c.args.due.now j 0) b.from b.size) on (c.requires.marked sent (omega arith)))
    (subst (λ (b : Block). Cleared (get_or c.loop-line.due line 0) b.from b.size c.cleared.result) is (c.cleared.ensures.within c.block.invariant.within)) in (
      more.same_link ∙ c.loop-line.invariant.0,
      omega (arith, more.spent, long, c.loop-line.invariant.1, mul-suc b.size sent, ap (λ i. b.size * i) next),
      subst (λ i. Blocking (k.means c.send_each.new.self.link.now) canvas c.args.due.now b.line b.from b.size (k.means c.send_each-in-loop-line.new.self.link.now) (set c.loop-line.due line c.cleared.result) i) next blocking,
    )

pub returns-clause-sends : goal.returns-clause-sends
returns-clause-sends g c =
    let k = g.L.Link in
    let b = c.args.block.now in
    let is = c.block.view_is in
    let canvas = c.args.canvas.now in
    let sent = c.loop-line.line - b.line in
    let first = c.send_each.ensures Command (λ b t is. is) in
    let m = k.means c.args.self.now.link.now in
    let o = k.means c.send_each.new.self.link.now in
    let wide : length canvas ≡ 8192 = search rules in
    let all : sent ≡ b.height = omega (arith, ap (λ (b : Block). b.line) is, ap (λ (b : Block). b.height) is) in
    let aimed : o ≡ sent_all m (window b) = subst (λ (b : Block). o ≡ sent_all m (window b)) is first.sent in
    record {
      same_link = c.loop-line.invariant.0 ∙ first.same_link;
      sent = (block_sent m o (k.means c.loop-line.self.link.now) canvas c.args.due.now c.loop-line.due b sent aimed c.loop-line.invariant.2 all).0;
      spent = omega (arith, words_length canvas b wide (subst Shaped is c.block.invariant), first.spent, c.loop-line.invariant.1, ap (λ i. b.size * i) all);
    }
