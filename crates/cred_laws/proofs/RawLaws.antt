-- An id call of one thread alone.
use Rattle.std.proofs.Common.{◌≡◌, ◌≢◌, ◌==◌, ℕ, List, [], ◌∷◌, ◌++◌, length, Option, Some, None, Result, Ok, Err, Bool, true, false, cond, refl, sym, ap, ◌∙◌}
use Rattle.std.proofs.Common.{arith}
use Rattle.std.specs.List.{find}
use Rattle.std.specs.Option.{IfSome, option_map, option_and_then}
use Rattle.std.proofs.lemmas.Bool.{eqb-true}
use Rattle.std.proofs.lemmas.Bool.Decides.{nat_tests}
use Rattle.cred_record.specs.declared.id_call.IdCall.{IdCall}
use Rattle.cred_record.specs.declared.refusal.Denial.{Denial}
use Rattle.cred_record.specs.declared.refusal.Denial.TheVariants.{Perm, Invalid}
use Rattle.cred_rules.specs.SetId.{set_id}
use Rattle.cred_event.specs.declared.answer.Answer.{Answer}
use Rattle.cred_event.specs.declared.answer.Answer.TheVariants.{Sealed}
use Rattle.cred_event.specs.declared.event.Event.TheVariants.{Raw}
use Rattle.cred_model.specs.Script.{Script}
use Rattle.cred_model.specs.State.{State, SealedCred, Task, Numbered, numbered, task_of, broadcast_in, current_of}
use Rattle.cred_model.specs.Answers.{refusal}
use Rattle.cred_model.specs.Dumpable.{differs, renewed}
use Rattle.cred_model.specs.Moves.{table_full, replaced, updated, with_current}
use Rattle.cred_model.specs.Step.{done, outcome, step}
use Rattle.cred_model.proofs.Numbers.{found_number, numbered_last, owner_number, updated_task}
use Rattle.cred_sound.proofs.Tests.{in_slots}
use Rattle.cred_sound.proofs.Parts.{sealed_cred}
use Rattle.cred_sound.proofs.Calls.{own_is}
use Rattle.cred_laws.specs.Raw.{RawsLeaveOthers, IsRaw, RawsAreByTheRule}
use Rattle.cred_laws.proofs.Cases.{some_case, own_case, idle_case, rule_case}
use Rattle.cred_laws.proofs.Unexecuted.{answer_of, answers_settled}

-- ---- what a task's new current credential leaves the others

abbrev current_in : List Task → ℕ → Option ℕ
current_in tasks task = option_map (λ (t : Task). t.current) (find (λ t. t.number == task) tasks)

found_same : (task n other : ℕ) (o : Option Task) → ((t : Task) → o ≡ Some t → t.number ≡ other) → other ≢ task
    → option_map (λ (t : Task). t.current) (option_map (updated task n) o) ≡ option_map (λ t. t.current) o
found_same task n other None of apart = refl
found_same task n other (Some t) of apart =
    elim (t.number == task) as (λ b. (t.number == task) ≡ b → Some (cond b (record t { current = n }) t).current ≡ Some t.current) [
      | true ↦ λ test. absurd (apart (sym (of t refl) ∙ eqb-true t.number task test))
      | false ↦ λ test. refl
    ] refl

leaves_others : (tasks : List Task) (task n other : ℕ) → other ≢ task → current_in (with_current tasks task n) other ≡ current_in tasks other
leaves_others tasks task n other apart =
    ap (option_map (λ (t : Task). t.current)) (updated_task tasks task n other)
    ∙ found_same task n other (find (λ t. t.number == other) tasks) (λ t is. found_number tasks other t is) apart

-- the answers that a raw call's row has
refusal_seals : (denial : Denial) (number slot : ℕ) → refusal denial ≡ Sealed number slot → ⊥
refusal_seals Perm number slot is = cc
refusal_seals Invalid number slot is = cc

raw_leaves : (script : Script) (s : State) (line task : ℕ) (call : IdCall) (other : ℕ) → other ≢ task
    → current_in (outcome s (done script s line (Raw task call))).1.tasks other ≡ current_in s.tasks other
raw_leaves script s line task call other apart =
    let Q : Result (Answer × State) Answer → Type 0 = λ r. current_in (outcome s r).1.tasks other ≡ current_in s.tasks other in
    some_case Q (task_of s task) _ _ refl
    (λ owner lives. some_case Q (numbered s.creds owner.current) _ _ refl
    (λ old now. idle_case Q (broadcast_in s owner.process) _ (λ number. refl)
    (λ idle. own_case Q owner _ (λ depth. refl)
    (rule_case Q (set_id old.cred call) _ (λ denial. refl)
    (λ new ruled.
    in_slots (λ made. Q (Ok made)) s table_full
    (λ s slot. (
      Sealed (length s.creds) slot,
      record (replaced s task old.number new slot) { dumpable = renewed s.dumpable owner.process (differs old.cred new) },
    ))
    (λ gone fewer. refl)
    (λ gone slot fewer free. leaves_others s.tasks task (length s.creds) other apart))))))

pub raws_leave_others : RawsLeaveOthers
raws_leave_others script s line task call other apart = raw_leaves script s line task call other apart

-- ---- what the task has

-- the task has the credential that was sealed last
has_last : (s : State) (task : ℕ) (owner : Task) (x : SealedCred) → task_of s task ≡ Some owner
    → option_and_then (λ (t : Task). numbered (s.creds ++ x ∷ []) t.current) (find (λ t. t.number == task) (with_current s.tasks task (length s.creds)))
    ≡ numbered (s.creds ++ x ∷ []) (length s.creds)
has_last s task owner x lives =
    let n = length s.creds in
    let own : owner.number ≡ task = owner_number s task owner lives in
    let test : (owner.number == task) ≡ true = ap (λ m. m == task) own ∙ same task in
    ap (option_and_then (λ (t : Task). numbered (s.creds ++ x ∷ []) t.current)) (updated_task s.tasks task n task ∙ ap (option_map (updated task n)) lives)
    ∙ ap (λ b. numbered (s.creds ++ x ∷ []) (cond b (record owner { current = n }) owner).current) test
  where
    same : (n : ℕ) → (n == n) ≡ true
    same n = grind (arith, nat_tests)

raw_case : (script : Script) (s : State) (line task : ℕ) (call : IdCall) (number slot : ℕ)
    → answer_of (done script s line (Raw task call)) ≡ Sealed number slot
    → IsRaw s task call number slot (outcome s (done script s line (Raw task call))).1
raw_case script s line task call number slot =
    let Q : Result (Answer × State) Answer → Type 0
    = λ r. answer_of r ≡ Sealed number slot → IsRaw s task call number slot (outcome s r).1 in
    some_case Q (task_of s task) _ _ (λ answered. cc)
    (λ owner lives. some_case Q (numbered s.creds owner.current) _ _ (λ answered. cc)
    (λ old now. idle_case Q (broadcast_in s owner.process) _ (λ number answered. cc)
    (λ idle. own_case Q owner _ (λ depth answered. cc)
    (rule_case Q (set_id old.cred call) _ (λ denial answered. absurd (refusal_seals denial number slot answered))
    (λ new ruled.
    in_slots (λ made. Q (Ok made)) s table_full
    (λ s slot. (
      Sealed (length s.creds) slot,
      record (replaced s task old.number new slot) { dumpable = renewed s.dumpable owner.process (differs old.cred new) },
    ))
    (λ gone fewer answered. cc)
    (λ gone at fewer free answered.
    let here : length s.creds ≡ number = cc in
    let there : at ≡ slot = cc in
    record {
      old = old;
      new = record { number = length s.creds; cred = new; slot = at };
      had = own_is s task owner old lives now;
      has = has_last s task owner (sealed_cred new at) lives ∙ numbered_last s.creds (sealed_cred new at);
      rule = ruled;
      sealed = (here, there);
    }))))))

pub raws_are_by_the_rule : RawsAreByTheRule
raws_are_by_the_rule script s line task call number slot answered =
    raw_case script s line task call number slot (sym (answers_settled s (done script s line (Raw task call))) ∙ answered)
