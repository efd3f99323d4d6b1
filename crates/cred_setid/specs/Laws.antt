-- What a task can reach by the calls that set ids (credentials(7), capabilities(7)).
use Rattle.std.specs.Prelude.{◌≡◌, false, Contains, Ok}
use Rattle.cred_ids.specs.declared.id.Ids4.{Ids4}
use Rattle.cred_caps.specs.Caps.{IsWithin}
use Rattle.cred_caps.specs.Numbers.{SETGID, SETUID}
use Rattle.cred_record.specs.declared.id_call.IdCall.{IdCall}
use Rattle.cred_record.specs.Credential.{Credential, capable}
use Rattle.cred_rules.specs.SetId.{three, set_id}

-- each of the new real, effective and saved ids is one of the old three
pub record AreOwn (old new : Ids4) : Type 0 where
  pub real : Contains (three old) new.real
  pub effective : Contains (three old) new.effective
  pub saved : Contains (three old) new.saved

-- without CAP_SETUID no call gives a user id that the caller did not have
abbrev pub UserIdsStayOwn : Type 0
UserIdsStayOwn =
    (c d : Credential) (call : IdCall) → capable c SETUID ≡ false → set_id c call ≡ Ok d
    → AreOwn c.uid d.uid

-- without CAP_SETGID no call gives a group id that the caller did not have
abbrev pub GroupIdsStayOwn : Type 0
GroupIdsStayOwn =
    (c d : Credential) (call : IdCall) → capable c SETGID ≡ false → set_id c call ≡ Ok d
    → AreOwn c.gid d.gid

-- no call that sets ids adds to the permitted set, also not for root
abbrev pub PermittedNeverGrows : Type 0
PermittedNeverGrows =
    (c d : Credential) (call : IdCall) → set_id c call ≡ Ok d → IsWithin d.perm c.perm
