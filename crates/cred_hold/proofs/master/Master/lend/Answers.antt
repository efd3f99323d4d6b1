use Rattle.std.proofs.Common.{Some, length, sym, ap, ◌∙◌, subst}
use Rattle.std.specs.Prelude.{slice_get}
use Rattle.cred_record.specs.Words.{are_words, credential_in}
use Rattle.cred_words.specs.declared.view.Ledger.{Ledger}
use Rattle.cred_words.proofs.Lists.{words_at-get}
use Rattle.cred_hold.specs.Tokens.{AreSlots}
use Rattle.cred_hold.proofs.Slots.{sealed-seen, sealed_words}
use Rattle.cred_hold.proofs.master.Master.lend.Goals as goal

pub lend_hold-requires-clause-sealed : goal.lend_hold-requires-clause-sealed
lend_hold-requires-clause-sealed c =
    let s = c.requires.sealed in
    let x = sealed-seen c.self.inside.inner.ledger.slots c.args.slot s.0 (ap (λ m. slice_get m.slots c.args.slot) c.self.view_is ∙ s.1) in
    (x.0, x.1, x.2)

pub invariant_of-self : goal.invariant_of-self
invariant_of-self c =
    let i = c.self.invariant in
    let e = c.lend_hold.ensures.master in
    (ap (λ (d : Ledger). d.kept) e.1 ∙ i.0, subst AreSlots (sym (ap (λ (d : Ledger). d.slots) e.1)) i.1, ap (λ (d : Ledger). length d.slots) e.1 ∙ i.2)

pub invariant_of-result : goal.invariant_of-result
invariant_of-result c =
    let e = c.lend_hold.ensures.hold in
    let s = c.requires.sealed in
    let x = sealed-seen c.self.inside.inner.ledger.slots c.args.slot s.0 (ap (λ m. slice_get m.slots c.args.slot) c.self.view_is ∙ s.1) in
    let w = sealed_words c.self.inside.inner.ledger c.args.slot c.self.invariant.1 (x.0, x.1, x.2) in
    let words = ap (λ t. t.words) e.1 in
    (sym (ap (λ t. t.slot) e.1), ap (λ t. t.writes) e.1, ap length words ∙ w.0, ap are_words words ∙ w.1, sym (ap (λ t. t.label) e.1))

pub returns-clause-cred : goal.returns-clause-cred
returns-clause-cred c =
    let e = c.lend_hold.ensures.hold in
    let s = c.requires.sealed in
    let x = sealed-seen c.self.inside.inner.ledger.slots c.args.slot s.0 (ap (λ m. slice_get m.slots c.args.slot) c.self.view_is ∙ s.1) in
    let words = ap (λ t. t.words) e.1 ∙ words_at-get c.self.inside.inner.ledger.slots c.args.slot x.0 x.1 in
    s.1 ∙ ap (λ d. Some (Some d)) (sym x.3 ∙ ap credential_in (sym words))
