use Rattle.std.proofs.Common.{rules, map, vec_items, vec_len, ap, sym, ◌∙◌, ◌+◌}
use Rattle.script.specs.Ahead.{ahead}
use Rattle.script.specs.Calls.{line_means}
use Rattle.script.specs.Scripts.{calls_from}
use Rattle.script.proofs.Running.{after, line_goes_on}
use Rattle.script.proofs.reads.read_lines.Goals as goal

-- a line is a Result itself, so that it is read has to be said
pub loop-text-preserved : goal.loop-text-preserved
loop-text-preserved c =
    let k = 3 + vec_len c.push.new.self in
    let more = ahead c.next.new.self in (
      c.loop-text.invariant.0 ∙ line_goes_on (vec_items c.loop-text.lines) c.in_ok-line-2.line _ k c.in_ok-line.line.now _ more (search rules) (search rules) (search rules)
          ∙ ap (λ xs. after (map line_means xs) (calls_from k more)) (sym c.in_ok-push.ensures.items),
      search rules,
    )
