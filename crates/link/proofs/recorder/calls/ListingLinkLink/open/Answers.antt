use Rattle.std.proofs.Common.{sym, ◌∙◌}
use Rattle.listing.specs.declared.record.Record.TheVariants.{Open}
use Rattle.link.specs.Listed.{records_of, free_of}
use Rattle.link.proofs.Recorded.{listed_then, opened_recorded}
use Rattle.link.proofs.recorder.calls.ListingLinkLink.open.Goals as goal

pub returns-clause-after : goal.returns-clause-after
returns-clause-after c =
    let me = c.args.self.now in
    let grant = c.in_ok-grant.grant in
    let l = c.list.ensures in
    listed_then me c.list.new.self (Open grant) l.listed l.longer l.size ∙ opened_recorded (records_of me) (free_of me) grant (sym me.stands ∙ c.in_ok-grant.ensures.shut)
