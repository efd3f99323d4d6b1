use Rattle.std.proofs.Common.{ap, ◌∙◌, subst}
use Rattle.std.specs.Prelude.{slice_get}
use Rattle.cred_record.specs.Credential.{Credential, AreValidSets}
use Rattle.cred_words.specs.Words.{words_at}
use Rattle.cred_setid.specs.Parts.{parts_of}
use Rattle.cred_hold.proofs.Changed.{valid-known}
use Rattle.cred_hold.proofs.Within.{knows, master_again}
use Rattle.cred_hold.proofs.master.Master.read_parts.Goals as goal

pub read_sealed_parts-requires-clause-sealed : goal.read_sealed_parts-requires-clause-sealed
read_sealed_parts-requires-clause-sealed c =
    let s = c.requires.sealed in
    (knows c.self.inside.inner.ledger c.args.slot s.0 c.self.invariant.1 (ap (λ m. slice_get m.slots c.args.slot) c.self.view_is ∙ s.1)).sealed

pub read_sealed_parts-requires-clause-known : goal.read_sealed_parts-requires-clause-known
read_sealed_parts-requires-clause-known c =
    let s = c.requires.sealed in
    (knows c.self.inside.inner.ledger c.args.slot s.0 c.self.invariant.1 (ap (λ m. slice_get m.slots c.args.slot) c.self.view_is ∙ s.1)).are

pub invariant_of-self : goal.invariant_of-self
invariant_of-self c = master_again _ _ c.read_sealed_parts.ensures.same.1 c.self.invariant

pub returns-clause-parts : goal.returns-clause-parts
returns-clause-parts c d at =
    let x = knows c.self.inside.inner.ledger c.args.slot d c.self.invariant.1 (ap (λ m. slice_get m.slots c.args.slot) c.self.view_is ∙ at) in (
      c.read_sealed_parts.ensures.parts ∙ ap parts_of x.cred,
      subst (λ (e : Credential). AreValidSets e.perm e.inh e.eff e.amb) x.cred (valid-known (words_at c.self.inside.inner.ledger.slots c.args.slot) x.are),
    )
