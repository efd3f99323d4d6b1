-- An id call that one thread makes for itself alone, and what refuses it.
use Rattle.std.proofs.Common.{◌≡◌, ℕ, ◌==◌, not, Bool, true, false, List, find, is_some, length, Some, Result, Ok, Err, refl, sym, ap, ◌∙◌}
use Rattle.std.specs.Result.{IfOk}
use Rattle.std.proofs.lemmas.Result.{IfOk-weaker}
use Rattle.cred_record.specs.Credential.{Credential}
use Rattle.cred_record.specs.declared.id_call.IdCall.{IdCall}
use Rattle.cred_record.specs.declared.refusal.Refusal.{Refusal}
use Rattle.cred_setid.specs.Becomes.{IsAnew}
use Rattle.cred_rules.specs.SetId.{set_id}
use Rattle.cred_event.specs.declared.answer.Answer.{Answer}
use Rattle.cred_event.specs.declared.answer.Answer.TheVariants.{Sealed}
use Rattle.cred_model.specs.State.{State, Task, Broadcast, ProcessFlag, Numbered, numbered, task_of, broadcast_in}
use Rattle.cred_model.specs.Dumpable.{differs, renewed}
use Rattle.cred_model.specs.Broadcasts.{not_busy}
use Rattle.cred_model.specs.Moves.{in_slot, not_overridden, replaced, table_full}
use Rattle.cred_model.specs.Slots.{free, least_free}
use Rattle.cred_model.specs.CallEvents.{by_raw}
use Rattle.cred_model.specs.Change.{by_rule}
use Rattle.cred_decide.specs.Refusals.{IsDenied}
use Rattle.cred_decide.proofs.Denied.{denied_anew}
use Rattle.cred_model.specs.Step.{outcome}
use Rattle.cred_machine.specs.Room.{called_alone, swept_if}
use Rattle.cred_machine.proofs.Leads.{idle_in}
use Rattle.cred_machine.proofs.Rooms.{in_free}

pub raw_busy : (s : State) (task : ℕ) (call : IdCall) (owner : Task) (old : Numbered) → task_of s task ≡ Some owner
    → numbered s.creds owner.current ≡ Some old → (answer : Answer) → not_busy (broadcast_in s owner.process) ≡ Err answer
    → outcome s (by_raw s task call) ≡ (answer, s)
raw_busy s task call owner old lives has answer busy = rw (lives, has, busy) refl

-- the tests of the call
pub record CanCall (s : State) (task : ℕ) (owner : Task) (old : Numbered) : Type 0 where
  pub lives : task_of s task ≡ Some owner
  pub has : numbered s.creds owner.current ≡ Some old
  pub idle : not_busy (broadcast_in s owner.process) ≡ Ok tt
  pub own : not_overridden owner ≡ Ok tt

-- by what was read
pub can_call : (s : State) (task : ℕ) (owner whose : Task) (old : Numbered) (looked : List Broadcast)
    → Some whose ≡ task_of s task → owner ≡ whose → Some old ≡ numbered s.creds owner.current
    → looked ≡ s.broadcasts → not_busy (find (λ b. b.process == owner.process) looked) ≡ Ok tt
    → not_overridden whose ≡ Ok tt → CanCall s task owner old
can_call s task owner whose old looked lives own has same idle unlent = record {
  lives = sym lives ∙ ap Some (sym own);
  has = sym has;
  idle = idle_in s looked owner.process (Ok tt) same idle;
  own = ap not_overridden own ∙ unlent;
}

module _ (s : State) (task : ℕ) (call : IdCall) (owner : Task) (old : Numbered) (can : CanCall s task owner old) where
  raw_denied : (answer : Answer) → by_rule (set_id old.cred call) ≡ Err answer → outcome s (by_raw s task call) ≡ (answer, s)
  raw_denied answer rule = rw (can.lives, can.has, can.idle, can.own, rule) refl

  pub raw_refused : {E : Type 0} (answered : Result Answer E) (why : Refusal) → IsAnew (set_id old.cred call) (Err why) → IfOk answered (IsDenied why)
      → IfOk answered (λ answer. outcome s (by_raw s task call) ≡ (answer, s))
  raw_refused answered why anew denied =
      IfOk-weaker answered (IsDenied why) (λ answer. outcome s (by_raw s task call) ≡ (answer, s))
      (λ answer is. raw_denied answer (denied_anew (set_id old.cred call) why answer is anew)) denied

  raw_tests : (made : Credential) → set_id old.cred call ≡ Ok made
      → outcome s (by_raw s task call)
      ≡ in_slot s table_full (λ r slot. called_alone r task owner.process old.number made (differs old.cred made) slot)
  raw_tests made rule = rw (can.lives, can.has, can.idle, can.own, rule) refl

  -- the call is made
  pub calls : (made : Credential) (other : Bool) → set_id old.cred call ≡ Ok made → other ≡ differs old.cred made
      → outcome s (by_raw s task call)
      ≡ in_slot s table_full (λ r slot. called_alone r task owner.process old.number made other slot)
  calls made other rule is =
      raw_tests made rule
      ∙ ap (λ (b : Bool). in_slot s table_full (λ r slot. called_alone r task owner.process old.number made b slot)) (sym is)

-- The task's credential is replaced, in a slot that is free.
pub seals_alone : (s : State) (task process old : ℕ) (made : Credential) (other : Bool) (slot : ℕ) (sweep : Bool) (number : ℕ)
    (after : State) (flags : List ProcessFlag)
    → free s ≡ Some slot → sweep ≡ not (is_some (least_free s)) → number ≡ length s.creds
    → after ≡ replaced (swept_if sweep s) task old made slot → flags ≡ renewed after.dumpable process other
    → in_slot s table_full (λ r at. called_alone r task process old made other at) ≡ (Sealed number slot, record after { dumpable = flags })
seals_alone s task process old made other slot sweep number after flags found is numbers leads fs =
    in_free s table_full (λ r at. called_alone r task process old made other at) sweep slot found is
    ∙ rw (fs, leads, numbers) (same sweep)
  where
    same : (b : Bool)
        → ◌≡◌ {A = Answer × State} (called_alone (swept_if b s) task process old made other slot) (
          Sealed (length s.creds) slot,
          record (replaced (swept_if b s) task old made slot) {
            dumpable = renewed (replaced (swept_if b s) task old made slot).dumpable process other;
          },
        )
    same true = refl
    same false = refl
