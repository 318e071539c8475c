use Rattle.std.proofs.Common.{◌≡◌, true, [], sym, refl, ap, arith}
use Rattle.ssd1329.specs.Meaning.{wires}
use Rattle.drawing.specs.Pens.{fresh_pen}
use Rattle.screen.specs.Lives.{Life}
use Rattle.screen.specs.Screens.{fresh_link}
use Rattle.screen.proofs.Fresh.{seen_fresh, fresh_parts}
use Rattle.screen.proofs.screens.Screen.new.Goals as goal

pub returns : goal.returns
unfolding Life
returns g c =
    let m = g.L.Link.means c.args.link in
    let fresh : true ≡ fresh_link m = seen_fresh m c.left.result c.taken.result c.left.ensures c.taken.ensures c.if-is_some.ensures c.if-taken-gt0.false in
    let parts = fresh_parts (wires c.args.wiring) m c.new.result c.remap.result c.offset.result c.new.ensures c.remap.ensures c.offset.ensures in
    record {
      judged = fresh;
      made = parts;
      begins = (wires c.args.wiring, m, omega (arith, c.args.wiring.within), g.L.Link.lawful c.args.link, sym fresh, ap (λ s. record { screen = s; pen = fresh_pen; stack = [] }) parts);
      kept = refl;
    }
