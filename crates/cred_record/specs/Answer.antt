-- What a call may answer where a rule decides and memory may run out.
use Rattle.std.specs.Prelude.{◌≡◌, ◌⊎◌, Result, Ok, Err}
use Rattle.cred_record.specs.declared.refusal.Denial.{Denial}
use Rattle.cred_record.specs.declared.refusal.Denial.TheVariants as denial
use Rattle.cred_record.specs.declared.refusal.Refusal.{Refusal}
use Rattle.cred_record.specs.declared.refusal.Refusal.TheVariants as refusal

-- the refusal that reports a denial
abbrev pub refusal_of : Denial → Refusal
refusal_of denial.Perm = refusal.Perm
refusal_of denial.Invalid = refusal.Invalid

-- the call refuses just where the rule denies, and for that reason, whether or not memory is left;
-- elsewhere it gives the rule's value, or memory has run out
abbrev pub AnswersBy : {X : Type 0} → Result X Refusal → Result X Denial → Type 0
AnswersBy result (Ok x) = (result ≡ Ok x) ⊎ (result ≡ Err refusal.Memory)
AnswersBy result (Err d) = result ≡ Err (refusal_of d)
