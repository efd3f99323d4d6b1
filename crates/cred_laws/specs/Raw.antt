-- An id call of one thread alone (nptl(7), "NPTL and process credential changes").
use Rattle.std.specs.Prelude.{◌≡◌, ◌≢◌, ℕ, Some, Ok}
use Rattle.std.specs.Option.{option_map}
use Rattle.cred_record.specs.declared.id_call.IdCall.{IdCall}
use Rattle.cred_rules.specs.SetId.{set_id}
use Rattle.cred_event.specs.declared.answer.Answer.TheVariants.{Sealed}
use Rattle.cred_event.specs.declared.event.Event.TheVariants.{Raw}
use Rattle.cred_model.specs.Script.{Script}
use Rattle.cred_model.specs.State.{State, Numbered, task_of, current_of}
use Rattle.cred_model.specs.Step.{step}

-- Such a call leaves every other task the current credential that it had.
abbrev pub RawsLeaveOthers : Type 0
RawsLeaveOthers =
    (script : Script) (s : State) (line task : ℕ) (call : IdCall) (other : ℕ) → other ≢ task
    → option_map (λ t. t.current) (task_of (step script s line (Raw task call)).1 other)
    ≡ option_map (λ t. t.current) (task_of s other)

-- The task has what the rule makes of the credential that it had, under this number and in this
-- slot.
pub record IsRaw (before : State) (task : ℕ) (call : IdCall) (number slot : ℕ) (after : State)
    : Type 0 where
  pub old : Numbered
  pub new : Numbered
  pub had : current_of before task ≡ Some old
  pub has : current_of after task ≡ Some new
  pub rule : set_id old.cred call ≡ Ok new.cred
  pub sealed : (new.number ≡ number) × (new.slot ≡ slot)

-- Where such a call isn't refused, it is so.
abbrev pub RawsAreByTheRule : Type 0
RawsAreByTheRule =
    (script : Script) (s : State) (line task : ℕ) (call : IdCall) (number slot : ℕ)
    → (step script s line (Raw task call)).0 ≡ Sealed number slot
    → IsRaw s task call number slot (step script s line (Raw task call)).1
