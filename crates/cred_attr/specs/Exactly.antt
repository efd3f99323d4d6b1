-- What a call answers that takes no memory.
use Rattle.std.specs.Prelude.{◌≡◌, Result, Ok, Err}
use Rattle.cred_record.specs.declared.refusal.Denial.{Denial}
use Rattle.cred_record.specs.declared.refusal.Refusal.{Refusal}
use Rattle.cred_record.specs.Answer.{refusal_of}

-- the call gives the rule's value, and refuses just where the rule denies, and for that reason
abbrev pub AnswersExactly : {X : Type 0} → Result X Refusal → Result X Denial → Type 0
AnswersExactly result (Ok x) = result ≡ Ok x
AnswersExactly result (Err d) = result ≡ Err (refusal_of d)
