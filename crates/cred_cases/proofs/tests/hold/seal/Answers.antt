use Rattle.std.proofs.Common.{length, ap, ◌∙◌, arith}
use Rattle.std.specs.Prelude.{slice_get}
use Rattle.cred_words.proofs.Lists.{get_set_else}
use Rattle.cred_hold.proofs.Slots.{taken-length, none-left}
use Rattle.cred_cases.proofs.tests.hold.seal.Goals as goal

pub returns-clause-master : goal.returns-clause-master
returns-clause-master c =
    let lent = ap length c.lend_writer-writer.ensures.loans in
    let none = ap length c.requires.none in
    let back = taken-length c.lend_writer-writer.new.self.loans _ c.take_back.new.self.loans c.take_back.ensures.taken in
    (c.take_back.ensures.same ∙ c.lend_writer-writer.ensures.same, none-left _ (omega arith))

pub returns-clause-others : goal.returns-clause-others
returns-clause-others c s other =
    let slot = ap (λ w. w.slot) c.put.ensures ∙ c.lend_writer-writer.ensures.writer.2 in
    ap (λ ss. slice_get ss s) c.take_back.ensures.slots ∙
    get_set_else c.lend_writer-writer.new.self.slots s c.put.new.writer.slot _ (λ e. other (e ∙ slot)) ∙
    ap (λ ss. slice_get ss s) c.lend_writer-writer.ensures.slots ∙
    get_set_else c.args.master.now.slots s c.args.slot _ other
