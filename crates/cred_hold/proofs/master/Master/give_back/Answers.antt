use Rattle.std.proofs.Common.{◌≡◌, false, List, Some, map, sym, ap, ◌∙◌, subst}
use Rattle.std.specs.Prelude.{slice_get, option_map, IfSome}
use Rattle.std.proofs.lemmas.Option.{slice_get-map}
use Rattle.cred_words.specs.declared.view.Ledger.{Ledger}
use Rattle.cred_words.specs.Lists.{IsTaken}
use Rattle.cred_words.specs.Words.{as_loan, without_ticket, after_back, LoanFits}
use Rattle.cred_hold.specs.Tokens.{Loan, loan, loan_seen, slot_seen}
use Rattle.cred_hold.proofs.Slots.{map-taken, hold-seen, hold-slot}
use Rattle.cred_hold.proofs.master.Master.give_back.Goals as goal

pub returns-clause-taken : goal.returns-clause-taken
returns-clause-taken c =
    let back = c.return_hold.ensures.1 in
    let t = c.hold.inside.inner.token in
    let told =
    subst (λ (d : Ledger). IfSome d.kept (λ t. IsTaken d.loans (as_loan t) (without_ticket t.ticket d.loans) × LoanFits d.slots (as_loan t))) back
    c.load_after_return.ensures.taken in
    let now =
    subst (λ (d : Ledger). IfSome d.kept (λ t. c.load_after_return.new.self.ledger ≡ after_back d t false)) back c.load_after_return.ensures.master.1 in
    let P : List Loan × Loan × List Loan → Type 0 = λ x. IsTaken x.0 x.1 x.2 in
    let one = hold-seen t c.hold.invariant.1 ∙ ap (λ h. loan h.label h.slot (Some h.cred)) c.hold.view_is in
    let old = ap (λ m. m.loans) c.self.view_is in
    let new = sym (ap (λ (d : Ledger). map loan_seen d.loans) now) in
    subst P (λ k. (old k, one k, new k)) (map-taken loan_seen _ _ _ told.0)

pub returns-clause-cred : goal.returns-clause-cred
returns-clause-cred c =
    let back = c.return_hold.ensures.1 in
    let t = c.hold.inside.inner.token in
    let told =
    subst (λ (d : Ledger). IfSome d.kept (λ t. IsTaken d.loans (as_loan t) (without_ticket t.ticket d.loans) × LoanFits d.slots (as_loan t))) back
    c.load_after_return.ensures.taken in
    let slots = c.self.inside.inner.ledger.slots in
    let at = hold-slot slots t c.hold.invariant.1 told.1 in
    (λ k. slice_get (sym c.self.view_is k).slots (sym c.hold.view_is k).slot) ∙
    slice_get-map slot_seen slots t.slot ∙
    ap (option_map slot_seen) at ∙
    ap (λ h. Some (Some h.cred)) c.hold.view_is
