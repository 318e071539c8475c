use Rattle.std.proofs.Common.{◌≡◌, take, sym, ap, ◌∙◌, rules}
use Rattle.ssd1329.specs.Meaning.{chip}
use Rattle.listing.specs.ReadBack.{listed}
use Rattle.listing.specs.Reading.{Ended, Advanced}
use Rattle.listing.specs.Replay.{met, replayed}
use Rattle.listing.proofs.Whole.{none_replayed, replayed_push, whole_replayed}
use Rattle.listing.proofs.reads.replay.Goals as goal

pub loop-r-init : goal.loop-r-init
loop-r-init c = (c.new-reader.ensures.0, none_replayed (chip c.args.controller.now) c.args.text.now c.new-reader.result.at c.new-reader.ensures.1)

pub loop-r-preserved : goal.loop-r-preserved
loop-r-preserved c =
    let i = c.loop-r.invariant in
    let r = c.in-Some.r in
    let start = chip c.args.controller.now in
    let text = c.loop-r.reader.text.now in
    let at = c.loop-r.reader.at in
    let same : c.next.new.self.text.now ≡ text = search rules in
    let on : Advanced text at c.next.new.self.at r = search rules in (
      same ∙ i.0,
      c.meet.ensures ∙ ap (λ m. met m r) (i.1 ∙ ap (λ b. replayed start (listed (take at b))) (sym i.0))
          ∙ sym (replayed_push start (listed (take at text)) r)
          ∙ ap (replayed start) (sym on.more)
          ∙ ap (λ b. replayed start (listed (take c.next.new.self.at b))) i.0,
    )

pub returns : goal.returns
returns c =
    let reader = c.loop-r.reader in
    let end : Ended reader.text.now reader.at c.next.new.self.at = search rules in
    whole_replayed reader c.args.text.now c.next.new.self.at (chip c.args.controller.now) (chip c.loop-r.controller) c.loop-r.invariant.0 end c.loop-r.invariant.1
