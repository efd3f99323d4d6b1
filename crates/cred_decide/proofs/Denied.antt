-- What a rule denies, by the refusal that reports it, and what is answered then.
use Rattle.std.proofs.Common.{◌≡◌, Result, Ok, Err, inl, inr, refl, sym, ap, ◌∙◌, subst}
use Rattle.cred_record.specs.Answer.{AnswersBy, refusal_of}
use Rattle.cred_record.specs.Credential.{Credential}
use Rattle.cred_record.specs.declared.refusal.Denial.{Denial}
use Rattle.cred_record.specs.declared.refusal.Denial.TheVariants.{Perm, Invalid}
use Rattle.cred_record.specs.declared.refusal.Refusal.{Refusal}
use Rattle.cred_setid.specs.Becomes.{IsAnew}
use Rattle.cred_event.specs.declared.answer.Answer.{Answer}
use Rattle.cred_model.specs.Answers.{refusal}
use Rattle.cred_model.specs.Change.{by_rule}
use Rattle.cred_decide.specs.Refusals.{IsDenied}

-- the rule denies, where a call that answers as it does refuses so
by_answer : {X : Type 0} (given : Result X Denial) (denial : Denial) → AnswersBy (Err (refusal_of denial)) given → given ≡ Err denial
by_answer (Ok x) Perm (inl never) = cc
by_answer (Ok x) Perm (inr never) = cc
by_answer (Ok x) Invalid (inl never) = cc
by_answer (Ok x) Invalid (inr never) = cc
by_answer (Err Perm) Perm same = refl
by_answer (Err Perm) Invalid same = cc
by_answer (Err Invalid) Perm same = cc
by_answer (Err Invalid) Invalid same = refl

-- or where an id call that makes a credential anew does
by_anew : (given : Result Credential Denial) (denial : Denial) → IsAnew given (Err (refusal_of denial)) → given ≡ Err denial
by_anew given Perm is = is
by_anew given Invalid is = is

-- what is answered where the rule denies
pub answered : {X : Type 0} (given : Result X Denial) (why : Refusal) (answer : Answer) (is : IsDenied why answer) → given ≡ Err is.denial
    → by_rule given ≡ Err answer
answered given why answer is denied = ap by_rule denied ∙ ap Err (sym is.answers)

pub denied : {X : Type 0} (given : Result X Denial) (why : Refusal) (answer : Answer) → IsDenied why answer → AnswersBy (Err why) given
    → by_rule given ≡ Err answer
denied given why answer is answers =
    answered given why answer is (by_answer given is.denial (subst (λ (w : Refusal). AnswersBy (Err w) given) is.reports answers))

pub denied_anew : (given : Result Credential Denial) (why : Refusal) (answer : Answer) → IsDenied why answer → IsAnew given (Err why)
    → by_rule given ≡ Err answer
denied_anew given why answer is anew =
    answered given why answer is (by_anew given is.denial (subst (λ (w : Refusal). IsAnew given (Err w)) is.reports anew))
