use Rattle.std.proofs.Common.{◌≡◌, ◌^◌, length, get_or, arith, rules, tests}
use Rattle.std.proofs.lemmas.Iterator.{YieldsList-from_slice, YieldsList-from_map}
use Rattle.std.proofs.lemmas.Iterator.Consumers.{sum_by_from_yields_List, fits_by_from_yields_list}
use Rattle.std.proofs.lemmas.List.Sums.{sum_by-le}
use Rattle.marks.specs.Marks.{due, bit}
use Rattle.marks.specs.Blocks.{bytes_due}
use Rattle.marks.proofs.Zero.{count_most}
use Rattle.screen.proofs.sweeps.all_due.Goals as goal

pub sum-requires-clause-fits : goal.sum-requires-clause-fits
sum-requires-clause-fits c =
    let ws = c.args.due.now in
    let lines : length ws ≡ 128 = search rules in
    fits_by_from_yields_list due ws c.map.result (2 ^ 32)
    (YieldsList-from_map _ due (YieldsList-from_slice ws cc) c.map.ensures.closure (λ x r q k. search (rules, tests)))
    (omega (arith, sum_by-le due 64 ws (λ k d l. count_most (bit (get_or ws k d)) 64)))

pub returns-clause-sum : goal.returns-clause-sum
unfolding bytes_due
returns-clause-sum c =
    let ws = c.args.due.now in
    sum_by_from_yields_List due ws c.map.result _ c.sum.ensures.ran
    (YieldsList-from_map _ due (YieldsList-from_slice ws cc) c.map.ensures.closure (λ x r q k. search (rules, tests)))
