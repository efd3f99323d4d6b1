use Rattle.std.proofs.Common.{None, map, set, sym, ap, ◌∙◌, subst, arith, length, length-set}
use Rattle.std.proofs.lemmas.List.{length-map}
use Rattle.cred_record.specs.Words.{are_words}
use Rattle.cred_words.specs.declared.view.Ledger.{Ledger}
use Rattle.cred_words.proofs.Opens.{count_is}
use Rattle.cred_hold.specs.Tokens.{AreSlots, IsAlone, slot_seen}
use Rattle.cred_hold.proofs.Slots.{after_writer, alone-seen, map-set}
use Rattle.cred_hold.proofs.master.Master.lend_writer.Goals as goal

pub lend_writer-requires-clause-within : goal.lend_writer-requires-clause-within
lend_writer-requires-clause-within c = let n = count_is in let small = c.requires.within in omega arith

pub lend_writer-requires-clause-alone : goal.lend_writer-requires-clause-alone
lend_writer-requires-clause-alone c =
    alone-seen c.self.inside.inner.ledger.loans c.args.slot (subst (λ es. IsAlone es c.args.slot) (sym (ap (λ m. m.loans) c.self.view_is)) c.requires.alone)

pub invariant_of-self : goal.invariant_of-self
invariant_of-self c =
    let i = c.self.invariant in
    let e = c.lend_writer.ensures.master in
    let n = count_is in
    let small = c.requires.within in
    let many = i.2 in (
      ap (λ (d : Ledger). d.kept) e.1
          ∙ i.0,
      subst AreSlots (sym (ap (λ (d : Ledger). d.slots) e.1)) (after_writer c.self.inside.inner.ledger.slots c.args.slot (omega arith) i.1).0,
      ap (λ (d : Ledger). length d.slots) e.1
          ∙ length-set _ _ _ ∙ i.2,
    )

pub invariant_of-result : goal.invariant_of-result
invariant_of-result c =
    let i = c.self.invariant in
    let e = c.lend_writer.ensures.writer in
    let n = count_is in
    let small = c.requires.within in
    let many = i.2 in
    let words = ap (λ t. t.words) e.1 in
    (sym (ap (λ t. t.slot) e.1), ap (λ t. t.writes) e.1, ap are_words words ∙ (after_writer c.self.inside.inner.ledger.slots c.args.slot (omega arith) i.1).1)

pub returns-clause-slots : goal.returns-clause-slots
returns-clause-slots c =
    let e = c.lend_writer.ensures.master in
    ap (λ (d : Ledger). map slot_seen d.slots) e.1 ∙
    map-set slot_seen c.self.inside.inner.ledger.slots c.args.slot _ ∙
    ap (λ m. set m.slots c.args.slot None) c.self.view_is

pub returns-clause-long : goal.returns-clause-long
returns-clause-long c =
    ap (λ m. length m.slots) (sym c.self.view_is) ∙ length-map c.self.inside.inner.ledger.slots slot_seen ∙ c.self.invariant.2 ∙ count_is
