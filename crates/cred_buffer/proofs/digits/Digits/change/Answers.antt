use Rattle.std.proofs.Common.{◌≡◌, ◌-◌, decimal, arith, ap, ◌∙◌}
use Rattle.cred_buffer.proofs.Decimal.{one_more}
use Rattle.cred_buffer.proofs.digits.Digits.change.Goals as goal

pub invariant_of-self : goal.invariant_of-self
invariant_of-self c =
    let d = c.self.inside in
    let is : d.number ≡ c.args.number - 1 = omega arith in (
      omega arith,
      omega arith,
      one_more d.digits d.len c.args.number (omega arith) (omega arith) (omega arith) (omega (arith, c.self.told))
          (c.self.invariant.2 ∙ ap decimal is),
    )
