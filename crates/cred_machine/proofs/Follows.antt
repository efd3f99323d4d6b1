-- A thread makes its step in a broadcast, or its process ends.
use Rattle.std.proofs.Common.{◌≡◌, ℕ, ◌+◌, not, Bool, true, false, List, length, is_some, slice_get, Some, None, Result, Ok, Err, refl, sym, ap, ◌∙◌}
use Rattle.std.specs.Result.{IfOk, OnOk}
use Rattle.cred_record.specs.Credential.{Credential}
use Rattle.cred_rules.specs.SetId.{set_id}
use Rattle.cred_event.specs.declared.answer.AbortCause.{AbortCause}
use Rattle.cred_event.specs.declared.answer.Answer.{Answer}
use Rattle.cred_event.specs.declared.answer.Answer.TheVariants.{Aborted, Acted, NoBroadcast}
use Rattle.cred_model.specs.State.{State, Task, Broadcast, ProcessFlag, Numbered, broadcast_of, task_of, numbered}
use Rattle.cred_model.specs.Broadcasts.{waits_no_more}
use Rattle.cred_model.specs.Dumpable.{differs, renewed}
use Rattle.cred_model.specs.Moves.{replaced, at_abort}
use Rattle.cred_model.specs.Slots.{free, least_free}
use Rattle.cred_model.specs.CallEvents.{aborted, by_act}
use Rattle.cred_model.specs.Step.{outcome}
use Rattle.cred_machine.specs.Room.{swept_if}
use Rattle.cred_machine.proofs.Acts.{IsNext, acts}

pub aborts : {E : Type 0} (s after : State) (number task : ℕ) (cause : AbortCause) (broadcast : Broadcast) (ended : Result Answer E)
    → outcome s (by_act s number) ≡ (Aborted task cause, aborted broadcast (at_abort cause s))
    → IfOk ended (λ answer. answer ≡ Aborted task cause)
    → OnOk ended ((b : Broadcast) → b.process ≡ broadcast.process → after ≡ aborted b (at_abort cause s))
    → IfOk ended (λ answer. outcome s (by_act s number) ≡ (answer, after))
aborts s after number task cause broadcast (Ok answer) gives is leads =
    gives ∙ ap (λ (r : State). (Aborted task cause, r)) (sym (leads broadcast refl)) ∙ ap (λ (a : Answer). (a, after)) (sym is)
aborts s after number task cause broadcast (Err e) gives is leads = tt

-- there is none that makes a step: no broadcast, nobody who waits in it, no task, or no credential
module _ (s : State) (number : ℕ) where
  pub act_none : broadcast_of s number ≡ None → outcome s (by_act s number) ≡ (NoBroadcast number, s)
  act_none none = rw none refl

  module _ (broadcast : Broadcast) (found : broadcast_of s number ≡ Some broadcast) where
    pub act_unawaited : slice_get broadcast.waiting 0 ≡ None
        → outcome s (by_act s number) ≡ (NoBroadcast number, s)
    act_unawaited none = rw (found, none) refl

    module _ (task : ℕ) (least : slice_get broadcast.waiting 0 ≡ Some task) where
      pub act_ended : task_of s task ≡ None → outcome s (by_act s number) ≡ (NoBroadcast number, s)
      act_ended none = rw (found, least, none) refl

      pub act_unsealed : (owner : Task) → task_of s task ≡ Some owner
          → numbered s.creds owner.current ≡ None
          → outcome s (by_act s number) ≡ (NoBroadcast number, s)
      act_unsealed owner lives none = rw (found, least, lives, none) refl

module _ (s : State) (number task broadcast_at : ℕ) (broadcast : Broadcast) (owner : Task) (old : Numbered)
    (next : IsNext s number task broadcast_at broadcast owner old) (made : Credential)
    (rule : set_id old.cred broadcast.call ≡ Ok made) where
  pub steps : (after : State) (broadcasts : List Broadcast) (flags : List ProcessFlag)
      (other sweep : Bool) (slot left given : ℕ) → free s ≡ Some slot
      → sweep ≡ not (is_some (least_free s)) → left + 1 ≡ length broadcast.waiting → given ≡ length s.creds
      → after ≡ replaced (swept_if sweep s) task old.number made slot → broadcasts ≡ waits_no_more task after.broadcasts
      → other ≡ differs old.cred made → flags ≡ renewed after.dumpable owner.process other
      → outcome s (by_act s number)
      ≡ (Acted task given slot left, record after { broadcasts = broadcasts; dumpable = flags })
  steps after broadcasts flags other sweep slot left given is for many counted leads cs ids fs =
      acts s number task broadcast_at broadcast owner old next made rule sweep slot left is for many
      ∙ rw (fs, ids, cs, leads, counted) (same sweep)
    where
      same : (b : Bool)
          → ◌≡◌ {A = Answer × State} (
            Acted task (length s.creds) slot left,
            record (replaced (swept_if b s) task old.number made slot) {
              broadcasts = waits_no_more task s.broadcasts;
              dumpable = renewed s.dumpable owner.process
                  (differs old.cred made);
            },
          ) (
            Acted task (length s.creds) slot left,
            record (replaced (swept_if b s) task old.number made slot) {
              broadcasts = waits_no_more task (replaced (swept_if b s) task old.number made slot).broadcasts;
              dumpable = renewed (replaced (swept_if b s) task old.number made slot).dumpable owner.process (differs old.cred made);
            },
          )
      same true = refl
      same false = refl
