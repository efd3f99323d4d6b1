use Rattle.std.proofs.Common.{Some, sym, ap, ◌∙◌, subst}
use Rattle.std.specs.Prelude.{slice_get}
use Rattle.cred_record.specs.Credential.{Credential, AreValidSets}
use Rattle.cred_setid.specs.Parts.{changed}
use Rattle.cred_hold.specs.Tokens.{Written}
use Rattle.cred_hold.proofs.Within.{knows, master_again}
use Rattle.cred_hold.proofs.master.Master.put_like.Goals as goal

pub put_like-requires-clause-sealed : goal.put_like-requires-clause-sealed
put_like-requires-clause-sealed c =
    let s = c.requires.sealed in
    (knows c.self.inside.inner.ledger c.args.from s.0 c.self.invariant.1 (ap (λ m. slice_get m.slots c.args.from) c.self.view_is ∙ s.1)).sealed

pub put_like-requires-clause-held : goal.put_like-requires-clause-held
put_like-requires-clause-held c =
    let s = c.requires.sealed in
    (knows c.self.inside.inner.ledger c.args.from s.0 c.self.invariant.1 (ap (λ m. slice_get m.slots c.args.from) c.self.view_is ∙ s.1)).are

pub put_like-requires-clause-valid : goal.put_like-requires-clause-valid
put_like-requires-clause-valid c =
    let s = c.requires.sealed in
    let x = knows c.self.inside.inner.ledger c.args.from s.0 c.self.invariant.1 (ap (λ m. slice_get m.slots c.args.from) c.self.view_is ∙ s.1) in
    let own = c.args.parts.now in
    subst (λ (d : Credential). AreValidSets own.perm d.inh own.eff own.amb) (sym x.cred) (c.requires.valid s.0 s.1)

pub invariant_of-self : goal.invariant_of-self
invariant_of-self c = master_again _ _ c.put_like.ensures.same.1 c.self.invariant

pub returns-clause-put : goal.returns-clause-put
returns-clause-put c d at =
    let x = knows c.self.inside.inner.ledger c.args.from d c.self.invariant.1 (ap (λ m. slice_get m.slots c.args.from) c.self.view_is ∙ at) in
    let old : Written = c.args.writer.now in
    c.put_like.ensures.put ∙ (λ k. record old { put = Some (changed (x.cred k) c.args.parts.now c.args.groups.now) })
