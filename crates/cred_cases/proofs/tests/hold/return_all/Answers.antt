use Rattle.std.proofs.Common.{◌∙◌, arith}
use Rattle.cred_hold.proofs.Slots.{taken-length, none-left}
use Rattle.cred_cases.proofs.tests.hold.return_all.Goals as goal

pub returns-clause-master : goal.returns-clause-master
returns-clause-master c =
    let one = taken-length c.args.master.now.loans _ c.give_back.new.self.loans c.give_back.ensures.taken in
    let two = taken-length c.give_back.new.self.loans _ c.give_back-2.new.self.loans c.give_back-2.ensures.taken in
    let three = taken-length c.give_back-2.new.self.loans _ c.give_back-3.new.self.loans c.give_back-3.ensures.taken in
    let four = taken-length c.give_back-3.new.self.loans _ c.take_back.new.self.loans c.take_back.ensures.taken in
    let all = c.requires.all in (
      c.take_back.ensures.same ∙ c.give_back-3.ensures.rest.0 ∙ c.give_back-2.ensures.rest.0 ∙ c.give_back.ensures.rest.0 ∙ c.requires.own,
      none-left _ (omega arith),
    )
