-- An id call that a task makes, and what refuses it.
use Rattle.std.proofs.Common.{◌≡◌, ◌⊎◌, ℕ, ◌==◌, not, Bool, true, false, List, find, is_some, length, Option, Some, Result, Ok, Err, refl, sym, ap, ◌∙◌, inl}
use Rattle.std.proofs.Common.{inr}
use Rattle.std.specs.Option.{option_map}
use Rattle.std.specs.Result.{IfOk}
use Rattle.std.proofs.lemmas.Result.{IfOk-weaker}
use Rattle.cred_setid.specs.Becomes.{IsAnew}
use Rattle.cred_record.specs.Credential.{Credential}
use Rattle.cred_record.specs.declared.id_call.IdCall.{IdCall}
use Rattle.cred_record.specs.declared.refusal.Denial.{Denial}
use Rattle.cred_record.specs.declared.refusal.Denial.TheVariants as denial
use Rattle.cred_record.specs.declared.refusal.Refusal.{Refusal}
use Rattle.cred_record.specs.declared.refusal.Refusal.TheVariants as refusal
use Rattle.cred_rules.specs.SetId.{set_id}
use Rattle.cred_event.specs.declared.answer.Answer.{Answer}
use Rattle.cred_event.specs.declared.answer.Answer.TheVariants.{Began}
use Rattle.cred_model.specs.State.{State, Task, Broadcast, ProcessFlag, Numbered, numbered, task_of, broadcast_in}
use Rattle.cred_model.specs.Dumpable.{differs, renewed}
use Rattle.cred_model.specs.Broadcasts.{not_busy, others_of, with_broadcast}
use Rattle.cred_model.specs.Moves.{in_slot, not_overridden, replaced, table_full}
use Rattle.cred_model.specs.Slots.{free, least_free}
use Rattle.cred_model.specs.CallEvents.{by_begin}
use Rattle.cred_model.specs.Change.{by_rule}
use Rattle.cred_decide.specs.Refusals.{IsDenied}
use Rattle.cred_decide.proofs.Denied.{denied_anew}
use Rattle.cred_model.specs.Step.{outcome}
use Rattle.cred_model.proofs.Numbers.{owner_number}
use Rattle.cred_model.proofs.Places.{none_by_test}
use Rattle.cred_machine.specs.Room.{begun, swept_if}
use Rattle.cred_plain.specs.Tasks.{others_in}
use Rattle.cred_plain.proofs.Places.{none_is}
use Rattle.cred_machine.proofs.Events.{CanBegin, begin_tests}
use Rattle.cred_machine.proofs.Leads.{idle_in}
use Rattle.cred_machine.proofs.Rooms.{in_free}

-- ---- what the rule says, by the call's answer

-- a call that is refused, whatever its refusal
pub rule_denied : (given : Result Credential Denial) (why : Refusal) → IsAnew given (Err why) → (why ≡ refusal.Perm) ⊎ (why ≡ refusal.Invalid)
    → (d : Denial) × (given ≡ Err d)
rule_denied given refusal.Perm is either = (denial.Perm, is)
rule_denied given refusal.Invalid is either = (denial.Invalid, is)
rule_denied given refusal.Memory is (inl either) = cc
rule_denied given refusal.Memory is (inr either) = cc

-- ---- what refuses the call

pub begin_busy : (s : State) (line task : ℕ) (call : IdCall) (owner : Task) (old : Numbered) → task_of s task ≡ Some owner
    → numbered s.creds owner.current ≡ Some old
    → (answer : Answer) → not_busy (broadcast_in s owner.process) ≡ Err answer → outcome s (by_begin s line task call) ≡ (answer, s)
begin_busy s line task call owner old lives has answer busy = rw (lives, has, busy) refl

-- by what was read
pub can_begin : {X : Type 0} (f : X → Broadcast) (s : State) (line task : ℕ) (owner whose : Task) (old : Numbered) (looked again : List Broadcast)
    (other : Option X) (exists : Bool)
    → Some whose ≡ task_of s task → owner ≡ whose → Some old ≡ numbered s.creds owner.current
    → looked ≡ s.broadcasts → not_busy (find (λ b. b.process == owner.process) looked) ≡ Ok tt
    → again ≡ s.broadcasts → option_map f other ≡ find (λ b. b.number == line) again → exists ≡ is_some other → exists ≡ false
    → not_overridden whose ≡ Ok tt → CanBegin s line task owner old
can_begin f s line task owner whose old looked again other exists lives own has same idle still found is new unlent = record {
  lives = sym lives ∙ ap Some (sym own);
  has = sym has;
  idle = idle_in s looked owner.process (Ok tt) same idle;
  new = ap (find (λ (b : Broadcast). b.number == line)) (sym still) ∙ none_is f other _ found (none_by_test other exists is new);
  own = ap not_overridden own ∙ unlent;
}

module _ (s : State) (line task : ℕ) (call : IdCall) (owner : Task) (old : Numbered) (can : CanBegin s line task owner old) where
  begin_denied : (answer : Answer) → by_rule (set_id old.cred call) ≡ Err answer → outcome s (by_begin s line task call) ≡ (answer, s)
  begin_denied answer rule = rw (can.lives, can.has, can.idle, can.new, can.own, rule) refl

  pub begin_refused : {E : Type 0} (answered : Result Answer E) (why : Refusal) → IsAnew (set_id old.cred call) (Err why) → IfOk answered (IsDenied why)
      → IfOk answered (λ answer. outcome s (by_begin s line task call) ≡ (answer, s))
  begin_refused answered why anew denied =
      IfOk-weaker answered (IsDenied why) (λ answer. outcome s (by_begin s line task call) ≡ (answer, s))
      (λ answer is. begin_denied answer (denied_anew (set_id old.cred call) why answer is anew)) denied

  -- the call is made, by the broadcast that it begins
  others_are : (waiting : List ℕ) → waiting ≡ others_in owner.process task s.tasks → waiting ≡ others_of owner s.tasks
  others_are waiting is = is ∙ ap (λ (n : ℕ). others_in owner.process n s.tasks) (sym (owner_number s task owner can.lives))

  pub begins : (made : Credential) (copied : IdCall) (waiting : List ℕ) (other : Bool) → set_id old.cred call ≡ Ok made → copied ≡ call
      → waiting ≡ others_in owner.process task s.tasks → other ≡ differs old.cred made
      → outcome s (by_begin s line task call)
      ≡ in_slot s table_full (λ r slot. begun r
      (record { number = line; process = owner.process; caller = task; call = copied; waiting = waiting }) old.number made other slot)
  begins made copied waiting other rule same these is =
      let broadcast : IdCall → List ℕ → Broadcast
      = λ k ns. record { number = line; process = owner.process; caller = task; call = k; waiting = ns } in
      begin_tests s line task call owner old made (broadcast copied waiting) can rule
      (ap (λ (k : IdCall). broadcast k waiting) same ∙ ap (λ (ns : List ℕ). broadcast call ns) (others_are waiting these))
      ∙ ap (λ (b : Bool). in_slot s table_full (λ r slot. begun r (broadcast copied waiting) old.number made b slot)) (sym is)

-- what is answered, by what answers the same
pub same_answer : {E : Type 0} (given made : Answer × State) (answered : Result Answer E) (after : State) → given ≡ made
    → IfOk answered (λ answer. made ≡ (answer, after)) → IfOk answered (λ answer. given ≡ (answer, after))
same_answer given made (Ok answer) after is gives = is ∙ gives
same_answer given made (Err e) after is gives = tt

-- The broadcast is open, and then its caller's credential is replaced.
pub opens : (s : State) (broadcast : Broadcast) (old : ℕ) (made : Credential) (other : Bool) (slot : ℕ) (sweep : Bool) (number left : ℕ)
    (broadcasts : List Broadcast)
    (after : State) (flags : List ProcessFlag)
    → free s ≡ Some slot → sweep ≡ not (is_some (least_free s)) → number ≡ length s.creds → left ≡ length broadcast.waiting
    → broadcasts ≡ with_broadcast s.broadcasts broadcast
    → after ≡ replaced (swept_if sweep (record s { broadcasts = broadcasts })) broadcast.caller old made slot
    → flags ≡ renewed after.dumpable broadcast.process other
    → in_slot s table_full (λ r at. begun r broadcast old made other at) ≡ (Began number slot left, record after { dumpable = flags })
opens s broadcast old made other slot sweep number left broadcasts after flags found is numbers many cs leads fs =
    in_free s table_full (λ r at. begun r broadcast old made other at) sweep slot found is
    ∙ rw (fs, leads, cs, many, numbers) (same sweep)
  where
    same : (b : Bool)
        → ◌≡◌ {A = Answer × State} (begun (swept_if b s) broadcast old made other slot) (
          Began (length s.creds) slot (length broadcast.waiting),
          record (replaced (swept_if b (record s { broadcasts = with_broadcast s.broadcasts broadcast })) broadcast.caller old made slot) {
            dumpable =
                renewed (replaced (swept_if b (record s { broadcasts = with_broadcast s.broadcasts broadcast })) broadcast.caller old made slot).dumpable
                broadcast.process other;
          },
        )
    same true = refl
    same false = refl
