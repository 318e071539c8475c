use Rattle.std.proofs.Common.{◌≡◌, Err, sym, refl, ◌∙◌, inr, arith, rules}
use Rattle.listing.proofs.OneLine.{wide_pos}
use Rattle.listing.proofs.Stuck.{no_line, barred_line}
use Rattle.listing.proofs.Advance.{line_on}
use Rattle.listing.proofs.reader.Reader.next.Goals as goal

pub returns-in_err-record-clause-read : goal.returns-in_err-record-clause-read
returns-in_err-record-clause-read c =
    let me = c.args.self.now in
    let none = rw c.in_err-record.ensures.ok_part at c.first_record.ensures in
    let here : c.from_residual.result ≡ Err (record { place = me.at }) = search rules in
    rw here (inr (omega arith, no_line me (omega arith) none), refl)

pub returns-in_err-slot-clause-read : goal.returns-in_err-slot-clause-read
returns-in_err-slot-clause-read c =
    let me = c.args.self.now in
    let line = rw c.in_ok-record.ensures.ok_part at c.first_record.ensures in
    let here : c.from_residual-in_err-slot.result ≡ Err (record { place = me.at }) = search rules in
    let barred = sym c.follow.ensures ∙ c.in_err-slot.ensures.ok_part in
    rw here (inr (omega arith, barred_line me c.in_ok-record.record (omega arith) line barred), refl)

pub invariant_of-self : goal.invariant_of-self
invariant_of-self c =
    let line = rw c.in_ok-record.ensures.ok_part at c.first_record.ensures in
    let goes = sym c.follow.ensures ∙ c.in_ok-slot.ensures.ok_part in
    let a = line_on c.args.self.now c.width.result c.in_ok-record.record c.in_ok-slot.slot line.1 c.width.ensures goes in
    record { inside = a.within; spelled = a.kept.spelled; lawful = a.kept.lawful; stands = a.kept.stands }

pub returns-clause-read : goal.returns-clause-read
returns-clause-read c =
    let line = rw c.in_ok-record.ensures.ok_part at c.first_record.ensures in
    let goes = sym c.follow.ensures ∙ c.in_ok-slot.ensures.ok_part in
    let a = line_on c.args.self.now c.width.result c.in_ok-record.record c.in_ok-slot.slot line.1 c.width.ensures goes in
    let wide = wide_pos c.in_ok-record.record in
    record { short = omega arith; further = omega arith; more = a.more }
