-- Which answers are refusals.
use Rattle.std.specs.Prelude.{Bool, true, false}
use Rattle.cred_event.specs.declared.answer.Answer.{Answer}
use Rattle.cred_event.specs.declared.answer.Answer.TheVariants as answer

-- the answer is no refusal
abbrev pub is_ok : Answer → Bool
is_ok answer.Done = true
is_ok (answer.Sealed cred slot) = true
is_ok (answer.Kept slot) = true
is_ok (answer.Was previous) = true
is_ok (answer.Executed cred slot ended gains) = true
is_ok (answer.Began cred slot left) = true
is_ok (answer.Acted task cred slot left) = true
is_ok (answer.Told told) = true
is_ok answer = false
