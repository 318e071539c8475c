use Rattle.std.proofs.Common.{refl, arith}
use Rattle.marks.proofs.Sends.{one_sent}
use Rattle.screen.proofs.slots.Slot.send.Goals as goal

pub returns : goal.returns
returns g c =
    let s = c.args.self.now in
    let m = g.L.Link.means s.link.now in
    record {
      same_link = refl;
      sent = one_sent m (g.L.Link.means c.send.new.self) c.args.transfer c.send.result (omega (arith, s.enough, c.requires)) c.send.ensures.answer c.send.ensures.after;
      spent = omega (arith, c.requires);
    }
