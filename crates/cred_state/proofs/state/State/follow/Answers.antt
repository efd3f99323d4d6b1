use Rattle.std.proofs.Common.{◌≡◌}
use Rattle.cred_record.specs.Credential.{Credential}
use Rattle.cred_record.specs.declared.id_call.IdCall.{IdCall}
use Rattle.cred_rules.specs.SetId.{set_id}
use Rattle.cred_setid.specs.Parts.{PartsBecome, parts_of}
use Rattle.cred_state.proofs.Acts.{called_so}
use Rattle.cred_state.proofs.state.State.follow.Goals as goal

pub returns-clause-made : goal.returns-clause-made
returns-clause-made c =
    let old = c.args.parts.now in
    rw (← c.self.view_is)
    (called_so (λ (call : IdCall). (x : Credential) → parts_of x ≡ old → PartsBecome x old c.apply_parts.new.own c.apply_parts.result (set_id x call)) _ _
    c.call_at.ensures
    c.apply_parts.ensures.made)
