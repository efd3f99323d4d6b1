use Rattle.std.proofs.Common.{List, None, set, ap, ◌∙◌, subst}
use Rattle.std.proofs.lemmas.List.{set-set}
use Rattle.cred_words.specs.Lists.{IsTaken}
use Rattle.cred_hold.specs.Tokens.{Loan, Written, loan}
use Rattle.cred_hold.proofs.Within.{taken_alone}
use Rattle.cred_hold.proofs.master.Master.set_head.Goals as goal

pub returns-clause-made : goal.returns-clause-made
returns-clause-made c =
    let lent = c.lend_writer-writer.ensures in
    let label = ap (λ (w : Written). w.label) c.put_head.ensures ∙ lent.writer.1 in
    let slot = ap (λ (w : Written). w.slot) c.put_head.ensures ∙ lent.writer.2 in
    let put = ap (λ (w : Written). w.put) c.put_head.ensures in
    let back = c.take_back.ensures in
    let P : List Loan × Loan → Type 0 = λ x. IsTaken x.0 x.1 c.take_back.new.self.loans in
    let taken = subst P (λ k. (lent.loans k, loan (label k) (slot k) None)) back.taken in
    let loans = taken_alone (loan 0 c.args.slot None) c.args.self.now.loans _ c.requires.alone taken in
    let slots = back.slots ∙ (λ k. set (lent.slots k) (slot k) (put k)) ∙ set-set _ _ _ _ in
    λ k. record { id = (back.same ∙ lent.same) k; loans = loans k; slots = slots k }
