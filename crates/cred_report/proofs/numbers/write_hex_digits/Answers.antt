use Rattle.std.proofs.Common.{ap, ◌∙◌, false, arith, drop_of_length-le, length-set}
use Rattle.std.specs.Fmt.{digits_onto}
use Rattle.std.proofs.DigitsParse.{digits_onto-nil}
use Rattle.cred_report.proofs.Digits.{fewer, last_of_more, first_digit}
use Rattle.cred_report.proofs.numbers.write_hex_digits.Goals as goal

pub loop-rest-init : goal.loop-rest-init
loop-rest-init c = record {
  size = c.told-digits;
  within = omega arith;
  fits = omega (arith, c.ranges.number.fits);
  written = ap (digits_onto 64 16 false c.args.number) (drop_of_length-le c.args.digits.now {i = 16} (omega (arith, c.told-digits))) ∙ digits_onto-nil _ _ _;
}

pub loop-rest-preserved : goal.loop-rest-preserved
loop-rest-preserved c =
    let l = c.loop-rest in
    let one_less = fewer l.rest l.first l.invariant.fits c.loop-rest-test.true in
    record {
      size = length-set l.digits l.first c.digit_of.result ∙ l.invariant.size;
      within = omega arith;
      fits = one_less.1;
      written =
          last_of_more l.rest l.first c.digit_of.result l.digits l.invariant.size l.invariant.within l.invariant.fits c.loop-rest-test.true c.digit_of.ensures
          ∙ l.invariant.written;
    }

pub returns-clause-digits : goal.returns-clause-digits
returns-clause-digits c =
    let l = c.loop-rest in
    first_digit l.rest l.first c.digit_of-2.result l.digits l.invariant.size l.invariant.within c.loop-rest-test.false c.digit_of-2.ensures
    ∙ l.invariant.written
