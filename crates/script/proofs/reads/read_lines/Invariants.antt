use Rattle.std.proofs.Common.{◌≡◌, ◌+◌, ◌≤◌, length, vec_len}
use Rattle.script.specs.Ahead.{ahead}
use Rattle.script.specs.Scripts.{calls_from}
use Rattle.script.specs.Whole.{lines_mean}
use Rattle.script.proofs.Running.{after}
use Rattle.script.proofs.reads.read_lines.Given as goal

abbrev pub invariant-loop-text : goal.invariant-loop-text
invariant-loop-text l =
    (calls_from 3 (ahead l.fn.text) ≡ after (lines_mean l.lines) (calls_from (3 + vec_len l.lines) (ahead l.text)))
    × (vec_len l.lines + length l.text.rest.now ≤ 65535)

abbrev pub decreases-loop-text : goal.decreases-loop-text
decreases-loop-text l = length l.text.rest.now
