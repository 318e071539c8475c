use Rattle.std.proofs.Common.{◌+◌, sym, ◌∙◌}
use Rattle.listing.specs.declared.record.Record.TheVariants.{Sent}
use Rattle.link.specs.Listed.{records_of, free_of}
use Rattle.link.proofs.Recorded.{listed_then, sent_recorded}
use Rattle.link.proofs.recorder.calls.ListingLinkLink.send.Goals as goal

pub returns-clause-after : goal.returns-clause-after
returns-clause-after c =
    let me = c.args.self.now in
    let l = c.list.ensures in
    listed_then me c.list.new.self (Sent c.args.t) l.listed l.longer l.size
    ∙ sent_recorded (records_of me) (free_of me) (c.in_ok-left.left + 1) c.args.t (sym me.stands ∙ c.in_ok-left.ensures)
