use Rattle.std.proofs.Common.{arith}
use Rattle.cred_buffer.proofs.Decimal.{one_digit, last_after}
use Rattle.cred_buffer.proofs.digits.Digits.write_by_tens.Goals as goal

pub returns-then-number-lt10-clause-written : goal.returns-then-number-lt10-clause-written
returns-then-number-lt10-clause-written c = one_digit c.args.number c.args.at c.args.buf.now (omega arith) (omega arith)

pub returns-clause-written : goal.returns-clause-written
returns-clause-written c =
    last_after c.args.number c.keep.new.self c.args.at c.put-end.result c.args.buf.now c.put-end.new.buf (omega arith) (omega arith) c.keep.ensures
    (omega arith) c.put-end.ensures.written
