-- What a call that sets ids looks at of a credential, and what it makes of that.
use Rattle.std.specs.Prelude.{◌≡◌, ℕ, List, Option, Some, None, Result, Ok, Err}
use Rattle.cred_record.specs.Credential.{Credential}
use Rattle.cred_record.specs.declared.refusal.Denial.{Denial}
use Rattle.cred_record.specs.declared.refusal.Denial.TheVariants as denial
use Rattle.cred_record.specs.declared.refusal.Refusal.{Refusal}
use Rattle.cred_record.specs.declared.refusal.Refusal.TheVariants as refusal
use Rattle.cred_setid.specs.declared.parts.IdParts.{IdParts}
use Rattle.cred_setid.specs.Becomes.{Permits}

-- the ids, the sets that a call may change, the securebits and root's id
abbrev pub parts_of : Credential → IdParts
parts_of c = record {
  uid = c.uid;
  gid = c.gid;
  perm = c.perm;
  eff = c.eff;
  amb = c.amb;
  bits = c.bits;
  root = c.root;
}

-- the credential with these ids and sets: no such call changes the securebits or root's id
abbrev pub with_parts : Credential → IdParts → Credential
with_parts c own = record c {
  uid = own.uid;
  gid = own.gid;
  perm = own.perm;
  eff = own.eff;
  amb = own.amb;
}

-- and with these groups, where some are given
abbrev pub changed : Credential → IdParts → Option (List ℕ) → Credential
changed c own None = with_parts c own
changed c own (Some groups) = record (with_parts c own) { groups = groups }

-- the credential that has all these parts, and is as it was elsewhere
abbrev pub alike : Credential → IdParts → Credential
alike c own = record (with_parts c own) { bits = own.bits; root = own.root }

-- the parts become those of what the rule gives, and the result has its groups where the call sets
-- them. The call refuses just where the rule denies, and for that reason, whether or not memory is
-- left; only where the rule permits the call it may also refuse because memory has run out. Where
-- it refuses, the parts stay
abbrev pub PartsBecome : Credential → IdParts → IdParts → Result (Option (List ℕ)) Refusal
    → Result Credential Denial → Type 0
PartsBecome c old new (Ok groups) given = given ≡ Ok (changed c new groups)
PartsBecome c old new (Err refusal.Perm) given = (given ≡ Err denial.Perm) × (new ≡ old)
PartsBecome c old new (Err refusal.Invalid) given = (given ≡ Err denial.Invalid) × (new ≡ old)
PartsBecome c old new (Err refusal.Memory) given = Permits given × (new ≡ old)
