use Rattle.std.proofs.Common.{◌≡◌, true, ◌||◌, [], ◌∷◌, sym, refl, ap, ◌∙◌, arith}
use Rattle.std.proofs.lemmas.Bool.{and_from, and_left, and_right}
use Rattle.ssd1329.specs.declared.transfer.Transfer.TheVariants.{Command}
use Rattle.marks.specs.Sending.{sent_all}
use Rattle.screen.specs.Flushing.{closing, complete}
use Rattle.screen.specs.Screens.{shows}
use Rattle.screen.proofs.Flush.{flush_told}
use Rattle.screen.proofs.Rest.{complete_is, rest_told}
use Rattle.screen.proofs.Settings.{setting_of}
use Rattle.screen.proofs.screens.Screen.flush.Goals.{else-self-via-then-self+else-complete, else-self-via-else-self}
use Rattle.screen.proofs.screens.Screen.flush.Goals as goal

pub returns-then-complete : goal.returns-then-complete
returns-then-complete g c =
    let k = g.L.Link in
    let s = shows k c.args.self.now in
    let whole : complete s ≡ true = sym (complete_is s c.all_due.result c.complete.result c.complete.ensures c.all_due.ensures.sum) ∙ c.if-complete.true in
    let told = rest_told s (k.means c.open.new.self) (k.means c.close.new.self) c.args.n c.in_ok-grant.grant c.close.result
    (and_from s.lit (complete s) c.if-self.true whole)
    c.in_ok-grant.ensures.answer c.in_ok-grant.ensures.after c.close.ensures.answer c.close.ensures.after in
    record { step = told.0; window = told.1 }

pub returns : goal.returns
returns g c =
    let k = g.L.Link in
    let before = c.args.self.now in
    let s = shows k before in
    let remap = c.send_setting-remap.result in
    let offset = c.send_setting-offset.result in
    let t = shows k (record { wiring = before.wiring; link = c.close-2.new.self; canvas = record { cells = before.canvas.cells; due = c.sweep.new.due }; lit = c.lit_after-self.result; owed = record { remap = remap; offset = offset } }) in
    let rest = c.all_due-rest.ensures.sum in
    let all : c.complete-all.result ≡ complete t = complete_is t c.all_due-rest.result c.complete-all.result c.complete-all.ensures rest in
    let o = k.means c.open.new.self in
    let first = c.send_setting-remap.new.self in
    let second = c.send_setting-offset.new.self in
    let swept = c.sweep.new.self in
    let last = c.send.new.self in
    let p0 = k.means first.link.now in
    let p1 = k.means second.link.now in
    let p = k.means swept.link.now in
    let q = k.means last.link.now in
    let r0 = c.send_setting-remap.ensures in
    let r1 = c.send_setting-offset.ensures in
    let remapped = setting_of o p0 0xA0 c.remap.result _ before.owed.remap remap _ _ c.remap.ensures (r0.sends.sent, r0.sends.spent) in
    let offsets = setting_of p0 p1 0xA2 c.offset.result _ before.owed.offset offset _ _ c.offset.ensures (r1.sends.sent, r1.sends.spent) in
    let sent = c.send.ensures in
    let told = flush_told s t o p0 p1 p q
    c.args.n c.in_ok-grant.grant first.left second.left swept.left _ c.close-2.result
    (elim c.else-self.branch [
      | else-self-via-then-self+else-complete w ↦ and_right s.lit (complete s) (sym (complete_is s w.all_due.result w.complete.result w.complete.ensures w.all_due.ensures.sum) ∙ w.if-complete.false)
      | else-self-via-else-self w ↦ and_left s.lit (complete s) w.if-self.false
    ])
    c.in_ok-grant.ensures.answer c.in_ok-grant.ensures.after
    remapped.0 remapped.1 offsets.0 offsets.1
    c.sweep.ensures.swept
    c.all_due-rest.ensures.fit c.sweep.ensures.wide
    (sent.sent ∙ ap (λ b. sent_all p (Command b ∷ [])) (c.closing_byte-last.ensures ∙ ap (closing s.lit) all))
    (omega (arith, sent.spent, r0.sends.spent, r1.sends.spent, c.sweep.ensures.swept.sweeping.spent))
    c.close-2.ensures.answer c.close-2.ensures.after
    refl refl (c.lit_after-self.ensures ∙ ap (λ b. s.lit || b) all)
    r0.owed r1.owed
    c.complete-all.result c.all_due-rest.result c.told.result all rest c.told.ensures c.sweep.ensures.boxed in
    record { step = told.0; window = told.1 }
