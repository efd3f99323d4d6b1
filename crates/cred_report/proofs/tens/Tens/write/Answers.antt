use Rattle.std.proofs.Common.{◌≡◌, ◌/◌, arith, sym, ◌∙◌}
use Rattle.cred_report.proofs.Decimal.{one_digit, more_digits}
use Rattle.cred_report.proofs.tens.Tens.write.Goals as goal
use Rattle.cred_report.proofs.tens.Tens.write.Goals.{then-self-tens, else-self-tens}

pub returns-then-tens-eq0-clause-written : goal.returns-then-tens-eq0-clause-written
returns-then-tens-eq0-clause-written c = one_digit c.args.number c.args.end c.args.buf.now (omega arith) (omega arith) (omega arith)

pub returns-clause-written : goal.returns-clause-written
returns-clause-written c =
    let is : c.if-self-tens.self ≡ c.args.number / 10 =
    elim c.if-self-tens.branch [
      | then-self-tens w ↦ w.self-is ∙ w.keep.ensures
      | else-self-tens w ↦ w.self-is ∙ sym c.self.view_is ∙ w.if-self-tens.false
    ] in
    more_digits c.args.number c.if-self-tens.self c.args.end c.put.result c.args.buf.now c.put.new.buf (omega arith) (omega arith) is (omega arith)
    (omega arith) c.put.ensures.written
