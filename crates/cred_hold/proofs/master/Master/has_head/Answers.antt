use Rattle.std.proofs.Common.{◌≡◌, Some, sym, ap, ◌∙◌}
use Rattle.std.specs.Prelude.{slice_get}
use Rattle.cred_record.specs.Credential.{Credential}
use Rattle.cred_hold.proofs.Within.{knows, master_again}
use Rattle.cred_hold.proofs.master.Master.has_head.Goals as goal

pub is_sealed_head-requires-clause-sealed : goal.is_sealed_head-requires-clause-sealed
is_sealed_head-requires-clause-sealed c =
    let s = c.requires.sealed in
    (knows c.self.inside.inner.ledger c.args.slot s.0 c.self.invariant.1 (ap (λ m. slice_get m.slots c.args.slot) c.self.view_is ∙ s.1)).sealed

pub is_sealed_head-requires-clause-known : goal.is_sealed_head-requires-clause-known
is_sealed_head-requires-clause-known c =
    let s = c.requires.sealed in
    (knows c.self.inside.inner.ledger c.args.slot s.0 c.self.invariant.1 (ap (λ m. slice_get m.slots c.args.slot) c.self.view_is ∙ s.1)).are

pub invariant_of-self : goal.invariant_of-self
invariant_of-self c = master_again _ _ c.is_sealed_head.ensures.same.1 c.self.invariant

pub returns-clause-value : goal.returns-clause-value
returns-clause-value c =
    let s = c.requires.sealed in
    let x = knows c.self.inside.inner.ledger c.args.slot s.0 c.self.invariant.1 (ap (λ m. slice_get m.slots c.args.slot) c.self.view_is ∙ s.1) in
    let e = c.is_sealed_head.ensures.value in (
      λ yes. s.1 ∙ ap (λ (d : Credential). Some (Some d)) (sym x.cred ∙ e.0 yes),
      λ at. e.1 (let both : Some (Some s.0) ≡ Some (Some c.args.head.now) = sym s.1 ∙ at in let same : s.0 ≡ c.args.head.now = cc in x.cred ∙ same),
    )
