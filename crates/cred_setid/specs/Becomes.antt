-- What an id call makes of a credential, where a rule decides and memory may run out.
use Rattle.std.specs.Prelude.{◌≡◌, ⊤, Result, Ok, Err}
use Rattle.cred_record.specs.Credential.{Credential}
use Rattle.cred_record.specs.declared.refusal.Denial.{Denial}
use Rattle.cred_record.specs.declared.refusal.Denial.TheVariants as denial
use Rattle.cred_record.specs.declared.refusal.Refusal.{Refusal}
use Rattle.cred_record.specs.declared.refusal.Refusal.TheVariants as refusal

-- the rule permits the call
abbrev pub Permits : Result Credential Denial → Type 0
Permits given = (c : Credential) × (given ≡ Ok c)

-- in place: the credential becomes what the rule gives. The call refuses just where the rule
-- denies, and for that reason, whether or not memory is left; only where the rule permits the call
-- it may also refuse because memory has run out. Where it refuses, the credential stays
abbrev pub BecomesBy : Credential → Credential → Result ⊤ Refusal → Result Credential Denial
    → Type 0
BecomesBy old new (Ok done) given = given ≡ Ok new
BecomesBy old new (Err refusal.Perm) given = (given ≡ Err denial.Perm) × (new ≡ old)
BecomesBy old new (Err refusal.Invalid) given = (given ≡ Err denial.Invalid) × (new ≡ old)
BecomesBy old new (Err refusal.Memory) given = Permits given × (new ≡ old)

-- made anew: what was made is what the rule gives, or the reason for which it denies
abbrev pub IsAnew : Result Credential Denial → Result Credential Refusal → Type 0
IsAnew given (Ok cred) = given ≡ Ok cred
IsAnew given (Err refusal.Perm) = given ≡ Err denial.Perm
IsAnew given (Err refusal.Invalid) = given ≡ Err denial.Invalid
IsAnew given (Err refusal.Memory) = ⊤
