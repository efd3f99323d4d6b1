-- What a refused call answers, and that its rule denies it then.
use Rattle.std.proofs.Common.{◌≡◌, Result, Err, subst}
use Rattle.cred_record.specs.Answer.{refusal_of}
use Rattle.cred_record.specs.Credential.{Credential}
use Rattle.cred_record.specs.declared.refusal.Denial.{Denial}
use Rattle.cred_record.specs.declared.refusal.Denial.TheVariants.{Perm, Invalid}
use Rattle.cred_record.specs.declared.refusal.Refusal.{Refusal}
use Rattle.cred_setid.specs.declared.parts.IdParts.{IdParts}
use Rattle.cred_setid.specs.Parts.{PartsBecome}
use Rattle.cred_event.specs.declared.answer.Answer.{Answer}
use Rattle.cred_decide.specs.Refusals.{IsDenied}

-- an id call that refuses as it reports this denial
by_denial : (given : Result Credential Denial) (c : Credential) (old new : IdParts) (denial : Denial)
    → PartsBecome c old new (Err (refusal_of denial)) given → given ≡ Err denial
by_denial given c old new Perm becomes = becomes.0
by_denial given c old new Invalid becomes = becomes.0

pub parts_denied : (given : Result Credential Denial) (c : Credential) (old new : IdParts) (why : Refusal) (answer : Answer) (is : IsDenied why answer)
    → PartsBecome c old new (Err why) given → given ≡ Err is.denial
parts_denied given c old new why answer is becomes =
    by_denial given c old new is.denial (subst (λ (w : Refusal). PartsBecome c old new (Err w) given) is.reports becomes)
