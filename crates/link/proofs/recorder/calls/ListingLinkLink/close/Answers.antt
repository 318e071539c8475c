use Rattle.std.proofs.Common.{sym, ◌∙◌, subst}
use Rattle.listing.specs.declared.record.Record.TheVariants.{Close}
use Rattle.link.specs.Links.{Closed}
use Rattle.link.specs.Listed.{records_of, free_of, listing_meaning}
use Rattle.link.proofs.Recorded.{listed_then, closed_recorded}
use Rattle.link.proofs.recorder.calls.ListingLinkLink.close.Goals as goal

pub returns-clause-after : goal.returns-clause-after
returns-clause-after c =
    let me = c.args.self.now in
    let l = c.list.ensures in
    subst (Closed (listing_meaning me)) (sym (listed_then me c.list.new.self Close l.listed l.longer l.size))
    (closed_recorded (records_of me) (free_of me) c.in_ok-ok_or.field-0 (sym me.stands ∙ c.in_ok-ok_or.ensures.ok_part))
