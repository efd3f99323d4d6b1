use Rattle.std.proofs.Common.{◌≡◌, List, Some, None, map, set, length, length-set, Bool, sym, ap, ◌∙◌, subst}
use Rattle.std.specs.Prelude.{slice_get, option_map, IfSome}
use Rattle.std.proofs.lemmas.Option.{slice_get-map}
use Rattle.cred_words.specs.declared.view.Ledger.{Ledger}
use Rattle.cred_words.specs.Lists.{IsTaken}
use Rattle.cred_words.specs.Words.{as_loan, without_ticket, slots_back, after_back, LoanFits}
use Rattle.cred_words.proofs.Lists.{get_set_here}
use Rattle.cred_hold.specs.Tokens.{AreSlots, Loan, loan, loan_seen, slot_seen}
use Rattle.cred_hold.proofs.Slots.{map-taken, map-set, writer-seen, put-seen, slot-there, slots_after_back}
use Rattle.cred_hold.proofs.master.Master.take_back.Goals as goal

pub invariant_of-self : goal.invariant_of-self
invariant_of-self c =
    let back = c.return_writer.ensures.1 in
    let i = c.self.invariant in
    let t = c.writer.inside.inner.token in
    let put = c.writer.inside.put in
    let slots = c.self.inside.inner.ledger.slots in
    let now = subst (λ (d : Ledger). IfSome d.kept (λ t. c.load_after_return.new.self.ledger ≡ after_back d t put)) back c.load_after_return.ensures.master.1 in
    let are = slots_after_back slots t put i.1 c.writer.invariant.2 in (
      ap (λ (d : Ledger). d.kept) now,
      subst AreSlots (sym (ap (λ (d : Ledger). d.slots) now)) are,
      ap (λ (d : Ledger). length d.slots) now ∙ ap (λ (b : Bool). length (slots_back slots t put b)) c.writer.invariant.1 ∙ length-set slots t.slot _ ∙ i.2,
    )

pub returns-clause-slot : goal.returns-clause-slot
returns-clause-slot c =
    let back = c.return_writer.ensures.1 in
    let i = c.writer.invariant in
    let t = c.writer.inside.inner.token in
    let put = c.writer.inside.put in
    let slots = c.self.inside.inner.ledger.slots in
    let told =
    subst (λ (d : Ledger). IfSome d.kept (λ t. IsTaken d.loans (as_loan t) (without_ticket t.ticket d.loans) × LoanFits d.slots (as_loan t))) back
    c.load_after_return.ensures.taken in
    let now = subst (λ (d : Ledger). IfSome d.kept (λ t. c.load_after_return.new.self.ledger ≡ after_back d t put)) back c.load_after_return.ensures.master.1 in
    let there = slot-there slots t i.1 told.1 in
    (λ k. slice_get (map slot_seen (now k).slots) (sym c.writer.view_is k).slot) ∙
    ap (λ (b : Bool). slice_get (map slot_seen (slots_back slots t put b)) t.slot) i.1 ∙
    slice_get-map slot_seen _ t.slot ∙
    ap (option_map slot_seen) (get_set_here slots t.slot there.0 _ there.1) ∙
    ap Some (put-seen put t.words i.2) ∙
    ap (λ w. Some w.put) c.writer.view_is

pub returns-clause-taken : goal.returns-clause-taken
returns-clause-taken c =
    let back = c.return_writer.ensures.1 in
    let t = c.writer.inside.inner.token in
    let told =
    subst (λ (d : Ledger). IfSome d.kept (λ t. IsTaken d.loans (as_loan t) (without_ticket t.ticket d.loans) × LoanFits d.slots (as_loan t))) back
    c.load_after_return.ensures.taken in
    let now =
    subst (λ (d : Ledger). IfSome d.kept (λ t. c.load_after_return.new.self.ledger ≡ after_back d t c.writer.inside.put)) back
    c.load_after_return.ensures.master.1 in
    let P : List Loan × Loan × List Loan → Type 0 = λ x. IsTaken x.0 x.1 x.2 in
    let one = writer-seen t c.writer.invariant.1 ∙ ap (λ w. loan w.label w.slot None) c.writer.view_is in
    let old = ap (λ m. m.loans) c.self.view_is in
    let new = sym (ap (λ (d : Ledger). map loan_seen d.loans) now) in
    subst P (λ k. (old k, one k, new k)) (map-taken loan_seen _ _ _ told.0)

pub returns-clause-slots : goal.returns-clause-slots
returns-clause-slots c =
    let back = c.return_writer.ensures.1 in
    let i = c.writer.invariant in
    let t = c.writer.inside.inner.token in
    let put = c.writer.inside.put in
    let slots = c.self.inside.inner.ledger.slots in
    let now = subst (λ (d : Ledger). IfSome d.kept (λ t. c.load_after_return.new.self.ledger ≡ after_back d t put)) back c.load_after_return.ensures.master.1 in
    ap (λ (d : Ledger). map slot_seen d.slots) now ∙
    ap (λ (b : Bool). map slot_seen (slots_back slots t put b)) i.1 ∙
    map-set slot_seen slots t.slot _ ∙
    ap (set (map slot_seen slots) t.slot) (put-seen put t.words i.2) ∙
    (λ k. set (c.self.view_is k).slots (c.writer.view_is k).slot (c.writer.view_is k).put)
