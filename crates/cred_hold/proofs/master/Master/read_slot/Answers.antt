use Rattle.std.proofs.Common.{◌≡◌, Some, sym, ap, ◌∙◌}
use Rattle.std.specs.Prelude.{slice_get}
use Rattle.std.proofs.lemmas.Result.{IfOk-weaker}
use Rattle.cred_record.specs.Words.{credential_in}
use Rattle.cred_words.specs.Words.{words_at}
use Rattle.cred_hold.proofs.Within.{knows, master_again}
use Rattle.cred_hold.proofs.master.Master.read_slot.Goals as goal

pub read_sealed-requires-clause-sealed : goal.read_sealed-requires-clause-sealed
read_sealed-requires-clause-sealed c =
    let s = c.requires.sealed in
    (knows c.self.inside.inner.ledger c.args.slot s.0 c.self.invariant.1 (ap (λ m. slice_get m.slots c.args.slot) c.self.view_is ∙ s.1)).sealed

pub read_sealed-requires-clause-known : goal.read_sealed-requires-clause-known
read_sealed-requires-clause-known c =
    let s = c.requires.sealed in
    (knows c.self.inside.inner.ledger c.args.slot s.0 c.self.invariant.1 (ap (λ m. slice_get m.slots c.args.slot) c.self.view_is ∙ s.1)).are

pub invariant_of-self : goal.invariant_of-self
invariant_of-self c = master_again _ _ c.read_sealed.ensures.same.1 c.self.invariant

pub returns-clause-cred : goal.returns-clause-cred
returns-clause-cred c =
    let s = c.requires.sealed in
    let x = knows c.self.inside.inner.ledger c.args.slot s.0 c.self.invariant.1 (ap (λ m. slice_get m.slots c.args.slot) c.self.view_is ∙ s.1) in
    IfOk-weaker c.read_sealed.result (λ cred. cred ≡ credential_in (words_at c.self.inside.inner.ledger.slots c.args.slot)) _
    (λ cred is. s.1 ∙ ap (λ d. Some (Some d)) (sym (is ∙ x.cred))) c.read_sealed.ensures.cred
