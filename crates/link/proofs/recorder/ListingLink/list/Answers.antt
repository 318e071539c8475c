use Rattle.std.proofs.Common.{◌∙◌, arith}
use Rattle.listing.specs.Writing.{Written}
use Rattle.listing.proofs.OneLine.{line_long}
use Rattle.link.proofs.Recorded.{line_more, counts_more, weight_small}
use Rattle.link.proofs.recorder.ListingLink.list.Goals as goal

pub invariant_of-self : goal.invariant_of-self
invariant_of-self c =
    let me = c.args.self.now in
    let r = c.args.r in
    let w : Written c.as_mut_slice.result.now me.used r c.write_record.new.out c.unwrap-self.result = rw c.unwrap-self.ensures at c.write_record.ensures in
    let k = line_more me c.as_mut_slice.result.now c.write_record.new.out c.unwrap-self.result r c.as_mut_slice.ensures.value (omega arith) w c.requires.lawful in
    let end = w.put.ends in
    let long = line_long r in
    record {
      inside = omega arith;
      spelled = k.kept.spelled;
      lawful = k.kept.lawful;
      stands = c.requires.stands ∙ k.kept.stands;
      counted = counts_more _ _ r k.more c.requires.counted me.counted;
      few = omega (arith, weight_small r);
    }

pub returns-clause-listed : goal.returns-clause-listed
returns-clause-listed c =
    let me = c.args.self.now in
    let w : Written c.as_mut_slice.result.now me.used c.args.r c.write_record.new.out c.unwrap-self.result = rw c.unwrap-self.ensures at c.write_record.ensures in
    let k = line_more me c.as_mut_slice.result.now c.write_record.new.out c.unwrap-self.result c.args.r c.as_mut_slice.ensures.value (omega arith) w c.requires.lawful in
    k.more
