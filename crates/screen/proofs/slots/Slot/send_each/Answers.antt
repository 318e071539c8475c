use Rattle.std.proofs.Common.{◌<◌, [], ◌∷◌, map, length, get_or, take, subst, arith}
use Rattle.std.proofs.lemmas.List.{map_more, take_all}
use Rattle.screen.specs.Slots.{Sends}
use Rattle.screen.proofs.Sending.{sends_none, sends_then}
use Rattle.screen.proofs.slots.Slot.send_each.Goals as goal

pub loop-byte-init : goal.loop-byte-init
loop-byte-init g c = (omega arith, λ transfer is. sends_none g.L.Link c.args.self.now)

pub loop-byte-preserved : goal.loop-byte-preserved
loop-byte-preserved g c =
    let i = c.loop-byte.byte-index in
    let bytes = c.args.bytes.now in
    let k = g.L.Link in
    let h : i < length bytes = c.loop-byte-test.true in (
      omega (arith, c.send.ensures.spent),
      λ transfer is.
          let one = subst (λ t. Sends k c.loop-byte.self (t ∷ []) c.send.new.self) (is (get_or bytes i 0) c.of.result c.of.ensures) c.send.ensures in
          rw (map_more transfer bytes i 0 h) (sends_then k _ _ _ (map transfer (take i bytes)) _ (c.loop-byte.invariant.1 transfer is) one),
    )

pub returns : goal.returns
returns g c transfer is =
    subst (λ bs. Sends g.L.Link c.args.self.now (map transfer bs) c.loop-byte.self) (take_all _ _ c.loop-byte-test.false) (c.loop-byte.invariant.1 transfer is)
