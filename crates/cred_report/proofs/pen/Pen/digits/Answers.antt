use Rattle.std.proofs.Common.{rules, arith, ap}
use Rattle.std.proofs.lemmas.Fmt.{length-decimal-le}
use Rattle.cred_report.specs.Page.{Page}
use Rattle.cred_report.proofs.pen.Pen.digits.Goals as goal

pub write_digits-self-inside-requires : goal.write_digits-self-inside-requires
write_digits-self-inside-requires c = search (rules, length-decimal-le 20)

pub returns-clause-room : goal.returns-clause-room
returns-clause-room c =
    let few = length-decimal-le 20 c.args.number (omega arith) (omega (arith, c.ranges.number.fits)) c.ranges.number.fits in
    let room = ap (λ (p : Page). p.room) c.self.view_is in
    omega (arith, few, room, c.write_digits-self-inside.ensures.start)
