-- How an event's tests lead to what is to be shown of what it answers, refused or not.
use Rattle.std.proofs.Common.{◌≡◌, ◌==◌, ℕ, length, Option, Some, None, Result, Ok, Err, ok_or, Bool, true, false, cond, refl}
use Rattle.cred_record.specs.Credential.{Credential}
use Rattle.cred_record.specs.declared.refusal.Denial.{Denial}
use Rattle.cred_event.specs.declared.answer.Answer.{Answer}
use Rattle.cred_event.specs.declared.answer.Answer.TheVariants.{Busy, Overridden}
use Rattle.cred_model.specs.State.{State, Task, Broadcast}
use Rattle.cred_model.specs.Answers.{refusal}
use Rattle.cred_model.specs.Broadcasts.{not_busy}
use Rattle.cred_model.specs.Change.{by_rule}
use Rattle.cred_model.specs.Moves.{none_or, not_overridden}
use Rattle.cred_ids.specs.Tests.{◌>>=◌}

module _ (Q : Result (Answer × State) Answer → Type 0) where
  pub some_case : {A : Type 0} (found : Option A) (refused : Answer) (f : A → Result (Answer × State) Answer) → Q (Err refused)
      → ((x : A) → found ≡ Some x → Q (f x)) → Q (ok_or found refused >>= f)
  some_case None refused f none each = none
  some_case (Some x) refused f none each = each x refl

  pub none_case : {A : Type 0} (found : Option A) (refused : Answer) (f : Unit {0} → Result (Answer × State) Answer) → Q (Err refused)
      → (found ≡ None → Q (f tt)) → Q (none_or found refused >>= f)
  none_case None refused f none each = each refl
  none_case (Some x) refused f none each = none

  pub test_case : (test : Bool) (refused : Answer) (f : Unit {0} → Result (Answer × State) Answer) → Q (Err refused) → Q (f tt)
      → Q (cond test (Ok tt) (Err refused) >>= f)
  test_case true refused f none each = each
  test_case false refused f none each = none

  pub own_case : (t : Task) (f : Unit {0} → Result (Answer × State) Answer) → ((depth : ℕ) → Q (Err (Overridden depth))) → Q (f tt)
      → Q (not_overridden t >>= f)
  own_case t f none each = test_case (length t.overrides == 0) _ f (none _) each

  pub idle_case : (found : Option Broadcast) (f : Unit {0} → Result (Answer × State) Answer) → ((number : ℕ) → Q (Err (Busy number)))
      → (found ≡ None → Q (f tt)) → Q (not_busy found >>= f)
  idle_case None f none each = each refl
  idle_case (Some broadcast) f none each = none broadcast.number

  pub rule_case : (r : Result Credential Denial) (f : Credential → Result (Answer × State) Answer)
      → ((denial : Denial) → Q (Err (refusal denial))) → ((c : Credential) → r ≡ Ok c → Q (f c)) → Q (by_rule r >>= f)
  rule_case (Ok c) f none each = each c refl
  rule_case (Err denial) f none each = none denial
