use Rattle.std.proofs.Common.{None, map, length, replicate, sym, ap, ◌∙◌, subst}
use Rattle.std.proofs.lemmas.List.{length-replicate}
use Rattle.cred_words.specs.Size.{count}
use Rattle.cred_words.specs.declared.view.Ledger.{Ledger}
use Rattle.cred_words.proofs.Opens.{count_is}
use Rattle.cred_hold.specs.Tokens.{AreSlots, none_sealed, loan_seen, slot_seen}
use Rattle.cred_hold.proofs.Slots.{map-replicate}
use Rattle.cred_hold.proofs.Whole.{slots_none}
use Rattle.cred_hold.proofs.master.make.Goals as goal

pub invariant_of-result : goal.invariant_of-result
invariant_of-result c =
    let e = c.in_ok-cells.ensures in (
      ap (λ (d : Ledger). d.kept) e.1,
      subst AreSlots (sym (ap (λ (d : Ledger). d.slots) e.1)) (slots_none count),
      ap (λ (d : Ledger). length d.slots) e.1 ∙ length-replicate count _,
    )

pub returns : goal.returns
unfolding none_sealed
returns c =
    let e = c.in_ok-cells.ensures in (
      e.0,
      ap (λ (d : Ledger). map loan_seen d.loans) e.1,
      ap (λ (d : Ledger). map slot_seen d.slots) e.1 ∙ map-replicate slot_seen count _ ∙ ap (λ n. replicate n None) count_is,
    )
