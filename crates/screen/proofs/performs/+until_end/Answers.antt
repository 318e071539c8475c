use Rattle.std.proofs.Common.{length, Err, vec_items, ◌∷◌, suc, sym, refl, ap, arith, w32, SFits, rules}
use Rattle.std.proofs.lemmas.Int.{to_z-of_z}
use Rattle.drawing.specs.Pens.{pen_means}
use Rattle.screen.specs.Lives.{inked, dotted, barred, placed, narrowed_to, flushed}
use Rattle.screen.specs.Scripts.{meant, made}
use Rattle.screen.proofs.Lines.{drew, so_far_none, so_far_more, so_far_end}
use Rattle.screen.proofs.Narrowings.{left_open, ended_here}
use Rattle.screen.proofs.performs.+until_end.Goals as goal

pub loop-call-init : goal.loop-call-init
loop-call-init g t c = (tt, tt, omega arith, c.requires, λ stack. so_far_none g.P.Picture _ c.args.calls.now.rest.now _ _ refl)

pub loop-call-preserved-in-Ink : goal.loop-call-preserved-in-Ink
loop-call-preserved-in-Ink g t c =
    let k = g.P.Picture in
    let n = c.in-Ink in
    let inv = c.loop-call.invariant in
    let steps = c.in-Some.ensures.steps in
    let note = c.judge in
    let one = ap length steps in (
      tt,
      tt,
      omega (arith, inv.2),
      omega (arith, inv.3, note.ensures.len, note.ensures.capacity),
      λ stack. so_far_more k _ _ _ _ _ _ (inv.4 stack) _ (vec_items note.new.answers) c.in-Some.call.now _ (made (inked n.gray c.ink.result)) steps (sym (ap (meant k) n.is)) note.ensures.items (c.ink.ensures.inked, refl, refl),
    )

pub loop-call-preserved-in-Dot : goal.loop-call-preserved-in-Dot
loop-call-preserved-in-Dot g t c =
    let k = g.P.Picture in
    let n = c.in-Dot in
    let inv = c.loop-call.invariant in
    let steps = c.in-Some.ensures.steps in
    let note = c.judge-in-Dot in
    let fx : SFits w32 n.x = search rules in
    let fy : SFits w32 n.y = search rules in
    let one = ap length steps in (
      tt,
      tt,
      omega (arith, inv.2),
      omega (arith, inv.3, note.ensures.len, note.ensures.capacity),
      λ stack. so_far_more k _ _ _ _ _ _ (inv.4 stack) _ (vec_items note.new.answers) c.in-Some.call.now _ (made (dotted n.x n.y c.dot.result)) steps (sym (ap (meant k) n.is)) note.ensures.items (drew g.L.Link c.loop-call.screen c.dot.new.self c.loop-call.pen stack _ (simp to_z-of_z at c.dot.ensures.painted) c.dot.ensures.else_same),
    )

pub loop-call-preserved-in-Bar : goal.loop-call-preserved-in-Bar
loop-call-preserved-in-Bar g t c =
    let k = g.P.Picture in
    let n = c.in-Bar in
    let inv = c.loop-call.invariant in
    let steps = c.in-Some.ensures.steps in
    let note = c.judge-in-Bar in
    let fx : SFits w32 n.x = search rules in
    let fy : SFits w32 n.y = search rules in
    let one = ap length steps in (
      tt,
      tt,
      omega (arith, inv.2),
      omega (arith, inv.3, note.ensures.len, note.ensures.capacity),
      λ stack. so_far_more k _ _ _ _ _ _ (inv.4 stack) _ (vec_items note.new.answers) c.in-Some.call.now _ (made (barred n.x n.y n.w n.h c.bar.result)) steps (sym (ap (meant k) n.is)) note.ensures.items (drew g.L.Link c.loop-call.screen c.bar.new.self c.loop-call.pen stack _ (simp to_z-of_z at c.bar.ensures.painted) c.bar.ensures.else_same),
    )

pub loop-call-preserved-in-Place : goal.loop-call-preserved-in-Place
loop-call-preserved-in-Place g t c =
    let k = g.P.Picture in
    let n = c.in-Place in
    let inv = c.loop-call.invariant in
    let steps = c.in-Some.ensures.steps in
    let note = c.judge-in-Place in
    let fx : SFits w32 n.x = search rules in
    let fy : SFits w32 n.y = search rules in
    let one = ap length steps in (
      tt,
      tt,
      omega (arith, inv.2),
      omega (arith, inv.3, note.ensures.len, note.ensures.capacity),
      λ stack. so_far_more k _ _ _ _ _ _ (inv.4 stack) _ (vec_items note.new.answers) c.in-Some.call.now _ (made (placed (k.means n.picture) n.x n.y c.place.result)) steps (sym (ap (meant k) n.is)) note.ensures.items (drew g.L.Link c.loop-call.screen c.place.new.self c.loop-call.pen stack _ (simp to_z-of_z at c.place.ensures.painted) c.place.ensures.else_same),
    )

pub loop-call-preserved-in-Flush : goal.loop-call-preserved-in-Flush
loop-call-preserved-in-Flush g t c =
    let k = g.P.Picture in
    let n = c.in-Flush in
    let inv = c.loop-call.invariant in
    let steps = c.in-Some.ensures.steps in
    let note = c.note in
    let one = ap length steps in (
      tt,
      tt,
      omega (arith, inv.2),
      omega (arith, inv.3, note.ensures.len, note.ensures.capacity),
      λ stack. so_far_more k _ _ _ _ _ _ (inv.4 stack) _ (vec_items note.new.answers) c.in-Some.call.now _ (made (flushed n.n c.flush.result)) steps (sym (ap (meant k) n.is)) note.ensures.items (c.flush.ensures.step, refl, refl),
    )

pub loop-call-preserved-in-Err : goal.loop-call-preserved-in-Err
loop-call-preserved-in-Err g t c =
    let k = g.P.Picture in
    let n = c.in-Narrow in
    let inv = c.loop-call.invariant in
    let steps = c.in-Some.ensures.steps in
    let note = c.judge-in-Err in
    let fx : SFits w32 n.x = search rules in
    let fy : SFits w32 n.y = search rules in
    let one = ap length steps in (
      tt,
      tt,
      omega (arith, inv.2),
      omega (arith, inv.3, note.ensures.len, note.ensures.capacity),
      λ stack. so_far_more k _ _ _ _ _ _ (inv.4 stack) _ (vec_items note.new.answers) c.in-Some.call.now _ (made (narrowed_to n.x n.y n.w n.h (Err c.in-Err.refusal))) steps (sym (ap (meant k) n.is)) note.ensures.items (simp to_z-of_z at c.in-Err.ensures, refl),
    )

-- a narrowed drawing that the script leaves open
pub returns-then-not-ended-clause-ran : goal.returns-then-not-ended-clause-ran
returns-then-not-ended-clause-ran g t c stack =
    let k = g.P.Picture in
    let n = c.in-Narrow in
    let inv = c.loop-call.invariant in
    let fx : SFits w32 n.x = search rules in
    let fy : SFits w32 n.y = search rules in
    let boxed = simp to_z-of_z at c.in-Ok.ensures in
    let inside = c.if-not-ended.ensures.ran (pen_means c.loop-call.pen ∷ stack) in (
      suc inside.0,
      left_open g.L.Link k c.args.calls.now.rest.now c.loop-call.calls.rest.now stack _ c.loop-call.screen c.until_end-ended.new.screen c.loop-call.pen c.narrow-narrowed.result.pen.now c.until_end-ended.new.pen
          _ _ (vec_items c.judge-in-Ok.new.answers) (vec_items c.until_end-ended.new.answers) c.in-Some.call.now c.next.new.self.rest.now n.x n.y n.w n.h _
          (inv.4 stack) c.in-Some.ensures.steps n.is c.judge-in-Ok.ensures.items boxed.0 boxed.1 c.narrow-narrowed.ensures.narrows
          _ (let f = c.end.ensures.former in let o = c.narrow-narrowed.ensures.was in let q = c.narrow-narrowed.ensures.same in search rules)
          inside.0 inside.1,
    )

-- a narrowed drawing that the script ends
pub loop-call-preserved : goal.loop-call-preserved
loop-call-preserved g t c =
    let k = g.P.Picture in
    let n = c.in-Narrow in
    let inv = c.loop-call.invariant in
    let fx : SFits w32 n.x = search rules in
    let fy : SFits w32 n.y = search rules in
    let boxed = simp to_z-of_z at c.in-Ok.ensures in
    let one = ap length c.in-Some.ensures.steps in
    let fewer = c.if-not-ended.ensures.fewer in
    let room = c.if-not-ended.ensures.room in (
      tt,
      tt,
      omega (arith, inv.2, fewer),
      omega (arith, room, c.note-in-Ok.ensures.len, c.note-in-Ok.ensures.capacity),
      λ stack. ended_here g.L.Link k c.args.calls.now.rest.now c.loop-call.calls.rest.now stack _ c.loop-call.screen c.until_end-ended.new.screen c.loop-call.pen c.narrow-narrowed.result.pen.now c.until_end-ended.new.pen
          _ _ (vec_items c.judge-in-Ok.new.answers) (vec_items c.until_end-ended.new.answers) c.in-Some.call.now c.next.new.self.rest.now n.x n.y n.w n.h _
          (inv.4 stack) c.in-Some.ensures.steps n.is c.judge-in-Ok.ensures.items boxed.0 boxed.1 c.narrow-narrowed.ensures.narrows
          _ (let f = c.end.ensures.former in let o = c.narrow-narrowed.ensures.was in let q = c.narrow-narrowed.ensures.same in search rules)
          (vec_items c.note-in-Ok.new.answers) c.until_end-ended.new.calls.rest.now (c.if-not-ended.ensures.ran (pen_means c.loop-call.pen ∷ stack)) c.note-in-Ok.ensures.items,
    )

pub returns-clause-ran : goal.returns-clause-ran
returns-clause-ran g t c stack =
    (0, so_far_end g.P.Picture _ _ c.args.calls.now.rest.now c.loop-call.calls.rest.now _ _ (c.loop-call.invariant.4 stack) c.in_default.ensures.steps.0)
