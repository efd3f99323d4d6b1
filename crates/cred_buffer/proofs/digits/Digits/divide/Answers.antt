use Rattle.std.proofs.Common.{rules, arith, ◌≡◌, ◌-◌, ◌+◌, ◌∙◌, ap, decimal, length, append-nil, take, take_all, drop}
use Rattle.std.proofs.lemmas.Fmt.{length-decimal-le, decimal_nonempty}
use Rattle.cred_buffer.proofs.digits.Digits.divide.Goals as goal

pub write_digits-first-requires : goal.write_digits-first-requires
write_digits-first-requires c = search (rules, length-decimal-le 16)

pub invariant_of-self : goal.invariant_of-self
invariant_of-self c =
    let some = decimal_nonempty c.args.number (omega (arith, c.ranges.number.fits)) in
    let from : c.from.result ≡ c.args.number = search rules in
    let start : c.write_digits-first.result + length (decimal c.args.number) ≡ 16 = rw (← from) c.write_digits-first.ensures.start in
    let size : 16 - c.write_digits-first.result ≡ length (decimal c.args.number) = omega arith in
    let whole : take (16 - c.write_digits-first.result) (drop c.write_digits-first.result c.write_digits-first.new.buf) ≡ decimal c.args.number =
    ap (take (16 - c.write_digits-first.result)) (c.write_digits-first.ensures.written ∙ append-nil _ ∙ ap decimal from)
    ∙ take_all _ (decimal c.args.number) (omega arith) in
    let copied = rw whole at c.copy_to_start.ensures.written in
    (omega arith, omega arith, rw size copied)
