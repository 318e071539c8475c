use Rattle.std.proofs.Common.{arith}
use Rattle.ssd1329.specs.declared.transfer.Transfer.TheVariants.{Command}
use Rattle.screen.proofs.Sending.{sends_none}
use Rattle.screen.proofs.Settings.{no_setting}
use Rattle.screen.proofs.slots.Slot.send_setting.Goals as goal

pub returns-then-self-ge3-clause-sends : goal.returns-then-self-ge3-clause-sends
returns-then-self-ge3-clause-sends g c =
    rw c.if-owed.true (c.send_each.ensures Command (λ b t is. is))

pub returns-then-self-ge3-clause-left : goal.returns-then-self-ge3-clause-left
returns-then-self-ge3-clause-left g c = omega (arith, (c.send_each.ensures Command (λ b t is. is)).spent)

pub returns-else-owed-clause-sends : goal.returns-else-owed-clause-sends
returns-else-owed-clause-sends g c = rw (no_setting c.args.opcode c.args.value c.args.owed) (sends_none g.L.Link c.args.self.now)
