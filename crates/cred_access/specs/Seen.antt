-- What the check of one task's access to another looks at of a credential.
use Rattle.std.specs.Prelude.{◌≡◌}
use Rattle.cred_record.specs.Credential.{Credential}
use Rattle.cred_access.specs.declared.trace.Seen.{Seen}

-- the ids, the permitted and the effective set, and the user namespace
abbrev pub seen_of : Credential → Seen
seen_of c = record { uid = c.uid; gid = c.gid; perm = c.perm; eff = c.eff; ns = c.ns }

-- this is looked at of the credential
abbrev pub IsSeen : Seen → Credential → Type 0
IsSeen seen c = seen ≡ seen_of c
