-- What a refused call answers, where a rule decides and memory may run out.
use Rattle.std.specs.Prelude.{◌≡◌}
use Rattle.cred_record.specs.Answer.{refusal_of}
use Rattle.cred_record.specs.declared.refusal.Denial.{Denial}
use Rattle.cred_record.specs.declared.refusal.Refusal.{Refusal}
use Rattle.cred_event.specs.declared.answer.Answer.{Answer}
use Rattle.cred_model.specs.Answers.{refusal}

-- The refusal reports a denial by the rule, and this is the manual's error for that.
pub record IsDenied (why : Refusal) (answer : Answer) : Type 0 where
  pub denial : Denial
  pub reports : why ≡ refusal_of denial
  pub answers : answer ≡ refusal denial
