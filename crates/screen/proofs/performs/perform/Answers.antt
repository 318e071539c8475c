use Rattle.std.proofs.Common.{[], length, vec_items, sym, refl, ap, subst, arith}
use Rattle.screen.specs.declared.scripts.Call.TheVariants.{End}
use Rattle.screen.specs.Scripts.{idle, world, SoFar}
use Rattle.screen.proofs.Lines.{so_far_none, so_far_then, so_far_more, so_far_all}
use Rattle.screen.proofs.Performing.{performed}
use Rattle.screen.proofs.performs.perform.Goals as goal

pub loop-calls-init : goal.loop-calls-init
loop-calls-init g c =
    let k = g.P.Picture in
    let start = world g.L.Link c.args.screen.now c.args.pen.now [] in
    let fresh = c.in_ok-answers.ensures in
    let script = c.iter-calls.ensures.rest in (
      omega (arith, ap length script, fresh.len, fresh.capacity),
      subst (λ left. SoFar k start c.args.script.now [] (vec_items c.in_ok-answers.answers) start left) (sym script) (so_far_none k start c.args.script.now [] (vec_items c.in_ok-answers.answers) fresh.items),
    )

pub loop-calls-preserved : goal.loop-calls-preserved
loop-calls-preserved g c =
    let k = g.P.Picture in
    let room = c.loop-calls-test.ensures.room in (
      omega (arith, room, c.note.ensures.len, c.note.ensures.capacity),
      so_far_more k _ _ c.args.script.now _ [] _ (so_far_then k _ _ c.args.script.now c.loop-calls.calls.rest.now [] _ c.loop-calls.invariant.1 _ _ _ (c.loop-calls-test.ensures.ran []))
          _ (vec_items c.note.new.answers) End c.until_end.new.calls.rest.now idle refl refl c.note.ensures.items (refl, refl),
    )

pub returns-clause-performed : goal.returns-clause-performed
returns-clause-performed g c =
    let k = g.P.Picture in
    let rest = c.loop-calls-test.ensures.ran [] in
    performed k _ _ c.args.script.now (vec_items c.until_end.new.answers) rest.0 (so_far_all k _ _ c.args.script.now c.loop-calls.calls.rest.now [] _ c.loop-calls.invariant.1 _ _ rest.0 rest.1)
