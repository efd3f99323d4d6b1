-- What the events that create and end tasks lead to, by the parts of the state after them.
use Rattle.std.proofs.Common.{◌≡◌, ℕ, ◌==◌, ◌||◌, nat_lt, not, is_some, Result, Bool, true, false, List, [], ◌∷◌, ◌++◌, length, find, Some, None, Ok}
use Rattle.std.proofs.Common.{if◌then◌else◌, refl, sym, ap, ◌∙◌, subst}
use Rattle.cred_ids.specs.Limits.{PREPARED, TASKS}
use Rattle.cred_event.specs.declared.answer.AbortCause.{AbortCause}
use Rattle.cred_event.specs.declared.answer.Answer.{Answer}
use Rattle.cred_event.specs.declared.answer.Answer.TheVariants.{Done, Kept, Sealed, TableFull}
use Rattle.cred_record.specs.Credential.{Credential, first_credential}
use Rattle.cred_model.specs.State.{State, Broadcast, Hold, Prepared, SealedCred, Task, Numbered, ProcessFlag, begun_by, broadcast_in, hold_of, numbered}
use Rattle.cred_model.specs.State.{prepared_of}
use Rattle.cred_model.specs.State.{task_of}
use Rattle.cred_model.specs.Slots.{free, least_free, swept}
use Rattle.cred_model.specs.Broadcasts.{dropped, joined, not_busy, waits_no_more}
use Rattle.cred_model.specs.Dumpable.{flags_begun, is_dumpable, with_process_flag, without_flag}
use Rattle.cred_model.specs.Ends.{is_task, is_thread_of, left_by, survivors}
use Rattle.cred_model.specs.Moves.{created, preparing, first_task, not_overridden, table_full, at_abort}
use Rattle.cred_model.specs.TaskEvents.{by_exit, by_fork, by_init, by_spawn}
use Rattle.cred_model.specs.LabelEvents.{by_prepare}
use Rattle.cred_model.specs.CallEvents.{aborted}
use Rattle.cred_model.specs.Step.{outcome}
use Rattle.cred_model.proofs.Numbers.{owner_number}
use Rattle.cred_model.proofs.Places.{none_by_test}
use Rattle.cred_plain.specs.Tasks.{is_other_thread}
use Rattle.cred_machine.specs.Room.{swept_if}
use Rattle.cred_machine.proofs.Events.{CanCreate, CanPrepare, exited, forked, init_tests, prepare_tests, spawned}
use Rattle.cred_machine.proofs.Refusals.{neither, some_of}
use Rattle.cred_machine.proofs.Rooms.{in_free, in_none, preparing_if}
use Rattle.cred_machine.proofs.Seen.{found_in}

-- the state with these tasks, broadcasts, flags, and numbers that were given up
with_parts : State → List Task → List Broadcast → List ℕ → List ProcessFlag → State
with_parts s tasks broadcasts late flags = record s { tasks = tasks; broadcasts = broadcasts; deferred = late; dumpable = flags }

same_parts : (s : State) {ts us : List Task} {cs ds : List Broadcast} {ms ns : List ℕ} {fs gs : List ProcessFlag}
    → ts ≡ us → cs ≡ ds → ms ≡ ns → fs ≡ gs → with_parts s ts cs ms fs ≡ with_parts s us ds ns gs
same_parts s tasks broadcasts late flags = rw (tasks, broadcasts, late, flags) refl

-- the flags after the end of a thread of this process, where it has another thread or hasn't
flags_unless : State → ℕ → Bool → List ProcessFlag
flags_unless s process other = if other then s.dumpable else without_flag s.dumpable process

pub exit_leads : (s : State) (task : ℕ) (owner : Task) (tasks : List Task) (broadcasts : List Broadcast) (late numbers : List ℕ) (flags : List ProcessFlag)
    (other : Bool)
    → task_of s task ≡ Some owner → not_busy (begun_by s task) ≡ Ok tt → not_overridden owner ≡ Ok tt
    → tasks ≡ survivors (is_task task) s.tasks → broadcasts ≡ waits_no_more task s.broadcasts → late ≡ s.deferred ++ numbers
    → numbers ≡ left_by (is_task task) s.tasks
    → flags ≡ (if other then s.dumpable else without_flag s.dumpable owner.process) → other ≡ is_some (find (is_other_thread owner.process task) s.tasks)
    → outcome s (by_exit s task) ≡ (Done, record s { tasks = tasks; broadcasts = broadcasts; deferred = late; dumpable = flags })
unfolding with_parts flags_unless
exit_leads s task owner tasks broadcasts late numbers flags other lives idle own ts cs ns left fs is =
    exited s task owner lives idle own
    ∙ ap (λ (r : State). (Done, r))
    (sym (same_parts s ts cs (ns ∙ ap (λ ms. s.deferred ++ ms) left)
    (fs ∙ ap (flags_unless s owner.process)
    (is ∙ ap (λ (n : ℕ). is_some (find (is_other_thread owner.process n) s.tasks)) (sym (owner_number s task owner lives))))))

pub process_ended : (s : State) (process : ℕ) (tasks : List Task) (broadcasts : List Broadcast) (late numbers : List ℕ) (flags : List ProcessFlag)
    (sweep : Bool)
    → tasks ≡ survivors (is_thread_of process) s.tasks → broadcasts ≡ dropped process s.broadcasts → flags ≡ without_flag s.dumpable process
    → late ≡ (if sweep then [] else s.deferred) ++ numbers → numbers ≡ left_by (is_thread_of process) s.tasks
    → (cause : AbortCause) → at_abort cause s ≡ (if sweep then record s { deferred = [] } else s)
    → (broadcast : Broadcast) → broadcast.process ≡ process
    → record s { tasks = tasks; broadcasts = broadcasts; deferred = late; dumpable = flags } ≡ aborted broadcast (at_abort cause s)
unfolding with_parts
process_ended s process tasks broadcasts late numbers flags sweep ts cs fs ns left cause is broadcast same =
    same_parts s ts cs (ns ∙ ap (λ ms. (if sweep then [] else s.deferred) ++ ms) left) fs
    ∙ at sweep
    ∙ ap (λ (p : ℕ). aborted (record broadcast { process = p }) (if sweep then record s { deferred = [] } else s)) (sym same)
    ∙ ap (aborted broadcast) (sym is)
  where
    at : (b : Bool)
        → with_parts s (survivors (is_thread_of process) s.tasks) (dropped process s.broadcasts)
        ((if b then [] else s.deferred) ++ left_by (is_thread_of process) s.tasks) (without_flag s.dumpable process)
        ≡ aborted (record broadcast { process = process }) (if b then record s { deferred = [] } else s)
    at true = refl
    at false = refl

pub spawn_leads : (s : State) (task child : ℕ) (owner : Task) (parent : Numbered) (tasks : List Task) (broadcasts : List Broadcast)
    → CanCreate s task child owner parent
    → tasks ≡ s.tasks ++ first_task child owner.process parent.number ∷ [] → broadcasts ≡ joined task child s.broadcasts
    → outcome s (by_spawn s task child) ≡ (Sealed parent.number parent.slot, record s { tasks = tasks; broadcasts = broadcasts })
unfolding with_parts
spawn_leads s task child owner parent tasks broadcasts can ts cs =
    spawned s task child owner parent can ∙ ap (λ (r : State). (Sealed parent.number parent.slot, r)) (sym (same_parts s ts cs refl refl))

pub fork_leads : (s : State) (task child process : ℕ) (owner : Task) (parent : Numbered) (tasks : List Task) (flags : List ProcessFlag) (dumpable : Bool)
    → CanCreate s task child owner parent → find (is_thread_of process) s.tasks ≡ None
    → tasks ≡ s.tasks ++ first_task child process parent.number ∷ []
    → flags ≡ with_process_flag s.dumpable process dumpable → dumpable ≡ is_dumpable s.dumpable owner.process
    → outcome s (by_fork s task child process) ≡ (Sealed parent.number parent.slot, record s { tasks = tasks; dumpable = flags })
unfolding with_parts
fork_leads s task child process owner parent tasks flags dumpable can unused ts fs is =
    forked s task child process owner parent can unused
    ∙ ap (λ (r : State). (Sealed parent.number parent.slot, r)) (sym (same_parts s ts refl refl (fs ∙ ap (with_process_flag s.dumpable process) is)))

-- there is room for a task more
pub not_full : (few full : Bool) → full ≡ not few → full ≡ false → few ≡ true
not_full true full is no_more = refl
not_full false full is no_more = cc

-- what is found among the broadcasts of the state
pub busy_at : (s : State) (broadcasts : List Broadcast) (task : ℕ) (r : Result (Unit {0}) Answer) → broadcasts ≡ s.broadcasts
    → not_busy (find (λ b. b.caller == task) broadcasts) ≡ r → not_busy (begun_by s task) ≡ r
busy_at s broadcasts task r same busy = subst (λ (cs : List Broadcast). not_busy (find (λ b. b.caller == task) cs) ≡ r) same busy

pub idle_in : (s : State) (broadcasts : List Broadcast) (process : ℕ) (r : Result (Unit {0}) Answer) → broadcasts ≡ s.broadcasts
    → not_busy (find (λ b. b.process == process) broadcasts) ≡ r → not_busy (broadcast_in s process) ≡ r
idle_in s broadcasts process r same busy = subst (λ (cs : List Broadcast). not_busy (find (λ b. b.process == process) cs) ≡ r) same busy

-- a task that may create another, by what was read
pub can_create : (s : State) (task child : ℕ) (owner whose : Task) (parent : Numbered) (looked : List Broadcast) (alive full : Bool)
    → Some whose ≡ task_of s task → owner ≡ whose → Some parent ≡ numbered s.creds owner.current
    → looked ≡ s.broadcasts → not_busy (find (λ b. b.caller == task) looked) ≡ Ok tt → alive ≡ is_some (task_of s child) → alive ≡ false
    → not_overridden whose ≡ Ok tt → full ≡ not (nat_lt (length s.tasks) TASKS) → full ≡ false → CanCreate s task child owner parent
can_create s task child owner whose parent looked alive full lives own has same idle is new unlent many room = record {
  lives = sym lives ∙ ap Some (sym own);
  has = sym has;
  idle = busy_at s looked task (Ok tt) same idle;
  new = none_by_test (task_of s child) alive is new;
  own = ap not_overridden own ∙ unlent;
  few = not_full (nat_lt (length s.tasks) TASKS) full many room;
}

-- a label that may prepare
pub can_prepare : (s : State) (label task hold : ℕ) (held whose : Hold) (looked : List Broadcast) (among : List Hold) (alive used : Bool)
    → alive ≡ is_some (task_of s task) → alive ≡ true → looked ≡ s.broadcasts → not_busy (find (λ b. b.caller == task) looked) ≡ Ok tt
    → among ≡ s.holds → Some whose ≡ find (λ h. h.label == hold) among → held ≡ whose
    → used ≡ (is_some (hold_of s label) || is_some (prepared_of s label)) → used ≡ false → nat_lt (length s.prepared) PREPARED ≡ true
    → CanPrepare s label task hold held
can_prepare s label task hold held whose looked among alive used is lives same idle these found read either unused few =
    let owner = some_of (task_of s task) (sym is ∙ lives) in
    let none = neither (hold_of s label) (prepared_of s label) used either unused in
    record {
      owner = owner.0;
      lives = owner.1;
      idle = busy_at s looked task (Ok tt) same idle;
      has = found_in (λ (h : Hold). h.label == hold) s.holds among held whose these found read;
      new = none.0;
      unprepared = none.1;
      few = few;
    }

pub init_leads : (s : State) (task process user group ns root number slot : ℕ) (sweep : Bool) (c : Credential) (tasks : List Task) (late : List ℕ)
    (flags : List ProcessFlag) (old creds : List SealedCred)
    → not_busy (broadcast_in s process) ≡ Ok tt → task_of s task ≡ None → nat_lt (length s.tasks) TASKS ≡ true
    → free s ≡ Some slot → sweep ≡ not (is_some (least_free s)) → number ≡ length old → old ≡ s.creds → c ≡ first_credential user group ns root
    → tasks ≡ s.tasks ++ first_task task process number ∷ [] → creds ≡ old ++ record { cred = c; slot = slot } ∷ []
    → late ≡ (if sweep then [] else s.deferred) → flags ≡ flags_begun s process
    → outcome s (by_init s task process user group ns root) ≡ (Sealed number slot, record s { tasks = tasks; creds = creds; deferred = late; dumpable = flags })
init_leads s task process user group ns root number slot sweep c tasks late flags old creds idle new few found is many same first ts cs ls fs =
    init_tests s task process user group ns root idle new few
    ∙ in_free s table_full
    (λ r at. (
      Sealed (length r.creds) at,
      record (created r (first_task task process (length r.creds)) (first_credential user group ns root) at) { dumpable = flags_begun r process },
    ))
    sweep slot found is
    ∙ done sweep
    ∙ rw (ts, cs, ls, fs, many, same, first) refl
  where
    done : (b : Bool)
        → ◌≡◌ {A = Answer × State} (
          Sealed (length (swept_if b s).creds) slot,
          record (created (swept_if b s) (first_task task process (length (swept_if b s).creds)) (first_credential user group ns root) slot) {
            dumpable = flags_begun (swept_if b s) process;
          },
        ) (
          Sealed (length s.creds) slot,
          record s {
            tasks = s.tasks ++ first_task task process (length s.creds) ∷ [];
            creds = s.creds ++ record { cred = first_credential user group ns root; slot = slot } ∷ [];
            deferred = if b then [] else s.deferred;
            dumpable = flags_begun s process;
          },
        )
    done true = refl
    done false = refl

module _ (s : State) (label task hold : ℕ) (held : Hold) (can : CanPrepare s label task hold held) where
  pub prepare_full : free s ≡ None → outcome s (by_prepare s label task hold) ≡ (TableFull, swept s)
  prepare_full none = prepare_tests s label task hold held can ∙ in_none s table_full
      (λ r at. (Kept at, preparing r (record { label = label; task = task; base = held.number; slot = at; changed = None }))) none

  pub prepare_leads : (sweep : Bool) (slot : ℕ) (prepared : List Prepared) (late : List ℕ) → free s ≡ Some slot → sweep ≡ not (is_some (least_free s))
      → prepared ≡ s.prepared ++ record { label = label; task = task; base = held.number; slot = slot; changed = None } ∷ []
      → late ≡ (if sweep then [] else s.deferred)
      → outcome s (by_prepare s label task hold) ≡ (Kept slot, record s { prepared = prepared; deferred = late })
  prepare_leads sweep slot prepared late found is ps ls =
      let p : Prepared = record { label = label; task = task; base = held.number; slot = slot; changed = None } in
      prepare_tests s label task hold held can
      ∙ in_free s table_full
      (λ r at. (Kept at, preparing r (record { label = label; task = task; base = held.number; slot = at; changed = None }))) sweep slot found is
      ∙ ap (λ (r : State). (Kept slot, r)) (preparing_if sweep s p ∙ rw (ps, ls) refl)
