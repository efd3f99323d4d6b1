use Rattle.std.proofs.Common.{◌≡◌, ◌∙◌, ap, subst}
use Rattle.cred_record.specs.Credential.{AreValidSets}
use Rattle.cred_exec.proofs.Valid.{valid_after}
use Rattle.cred_exec.proofs.after.after_exec.Goals as goal

pub invariant_of-new : goal.invariant_of-new
invariant_of-new c =
    let cred = c.args.cred.now in
    let valid =
    subst (λ d. AreValidSets d.perm d.inh d.eff d.amb) c.cred.view_is c.cred.invariant in
    let inh : c.new.inside.inh ≡ cred.inh = ap (λ d. d.inh) (c.new.view_is ∙ c.in_ok-new.ensures) in
    let perm = c.permitted_after-new-inside.ensures in
    let eff = c.effective_after-new-inside.ensures in
    let amb = c.ambient_after-new-inside.ensures in
    rw (perm, eff, amb, inh)
    (valid_after cred c.args.file.now c.args.caps.now valid)
