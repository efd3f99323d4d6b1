use Rattle.std.proofs.Common.{◌≡◌, ◌-◌, ◌+◌, length, arith, refl}
use Rattle.cred_report.proofs.Decimal.{past_put}
use Rattle.cred_report.proofs.tens.Tens.put.Goals as goal

pub returns-clause-written : goal.returns-clause-written
returns-clause-written c =
    let kept = c.self.inside.digits in
    let e : c.args.end - 16 + (c.args.end - (c.args.end - 16)) ≡ c.args.end = omega arith in
    let long : length kept ≡ c.args.end - (c.args.end - 16) = omega (arith, c.self.told) in
    rw (
      c.copy_from_slice.ensures.after,
      past_put (c.args.end - 16) (c.args.end - (c.args.end - 16)) c.self.inside.first c.args.buf.now kept (omega arith) long
          (omega arith),
      e,
      c.self.invariant.1,
      c.self.view_is,
    )
    refl
