-- What the events do where none of their tests refuses.
use Rattle.std.proofs.Common.{◌≡◌, ℕ, ◌==◌, nat_lt, [], ◌∷◌, ◌++◌, find, length, position, slice_get, true, Some, None, Ok, refl}
use Rattle.cred_record.specs.Credential.{Credential, first_credential}
use Rattle.cred_record.specs.declared.id_call.IdCall.{IdCall}
use Rattle.cred_rules.specs.SetId.{set_id}
use Rattle.cred_event.specs.declared.answer.Answer.TheVariants.{Done, Kept, Sealed}
use Rattle.cred_model.specs.State.{State, Broadcast, Changed, Hold, Prepared, Task, Numbered, begun_by, broadcast_in, broadcast_of, hold_of, numbered}
use Rattle.cred_model.specs.State.{prepared_of}
use Rattle.cred_model.specs.State.{task_of}
use Rattle.cred_model.specs.Broadcasts.{joined, not_busy, waits_no_more, others_of}
use Rattle.cred_model.specs.Dumpable.{differs, flags_begun, flags_left, is_dumpable, with_process_flag}
use Rattle.cred_model.specs.Ends.{is_task, is_thread_of, left_by, survivors}
use Rattle.cred_model.specs.Moves.{created, first_task, in_slot, not_overridden, preparing, table_full}
use Rattle.cred_model.specs.TaskEvents.{by_exit, by_fork, by_init, by_spawn}
use Rattle.cred_model.specs.LabelEvents.{by_commit, by_prepare, try_commit, for_task}
use Rattle.cred_model.specs.CallEvents.{by_begin}
use Rattle.cred_model.specs.Step.{outcome}
use Rattle.std.specs.Option.{option_and_then}
use Rattle.cred_ids.specs.Limits.{PREPARED, TASKS}
use Rattle.cred_machine.specs.Room.{begun}

pub exited : (s : State) (task : ℕ) (owner : Task) → task_of s task ≡ Some owner → not_busy (begun_by s task) ≡ Ok tt → not_overridden owner ≡ Ok tt
    → outcome s (by_exit s task)
    ≡ (
      Done,
      record s {
        tasks = survivors (is_task task) s.tasks;
        broadcasts = waits_no_more task s.broadcasts;
        deferred = s.deferred ++ left_by (is_task task) s.tasks;
        dumpable = flags_left s owner;
      },
    )
exited s task owner lives idle own = rw (lives, idle, own) refl

-- a task that may create another
pub record CanCreate (s : State) (task child : ℕ) (owner : Task) (parent : Numbered) : Type 0 where
  pub lives : task_of s task ≡ Some owner
  pub has : numbered s.creds owner.current ≡ Some parent
  pub idle : not_busy (begun_by s task) ≡ Ok tt
  pub new : task_of s child ≡ None
  pub own : not_overridden owner ≡ Ok tt
  pub few : nat_lt (length s.tasks) TASKS ≡ true

pub spawned : (s : State) (task child : ℕ) (owner : Task) (parent : Numbered) → CanCreate s task child owner parent
    → outcome s (by_spawn s task child)
    ≡ (
      Sealed parent.number parent.slot,
      record s { tasks = s.tasks ++ first_task child owner.process parent.number ∷ []; broadcasts = joined task child s.broadcasts },
    )
spawned s task child owner parent can = rw (can.lives, can.has, can.idle, can.new, can.own, can.few) refl

pub forked : (s : State) (task child process : ℕ) (owner : Task) (parent : Numbered) → CanCreate s task child owner parent
    → find (is_thread_of process) s.tasks ≡ None
    → outcome s (by_fork s task child process)
    ≡ (
      Sealed parent.number parent.slot,
      record s {
        tasks = s.tasks ++ first_task child process parent.number ∷ [];
        dumpable = with_process_flag s.dumpable process (is_dumpable s.dumpable owner.process);
      },
    )
forked s task child process owner parent can unused = rw (can.lives, can.has, can.idle, can.new, unused, can.own, can.few) refl

pub init_tests : (s : State) (task process user group ns root : ℕ) → not_busy (broadcast_in s process) ≡ Ok tt → task_of s task ≡ None
    → nat_lt (length s.tasks) TASKS ≡ true
    → outcome s (by_init s task process user group ns root)
    ≡ in_slot s table_full (λ r slot. (
      Sealed (length r.creds) slot,
      record (created r (first_task task process (length r.creds)) (first_credential user group ns root) slot) { dumpable = flags_begun r process },
    ))
init_tests s task process user group ns root idle new few = rw (idle, new, few) refl

pub commit_tests : (s : State) (label place : ℕ) (p : Prepared) (owner : Task) (last : Changed) → position (λ p. p.label == label) s.prepared ≡ Some place
    → slice_get s.prepared place ≡ Some p → option_and_then for_task p.changed ≡ Some last → task_of s p.task ≡ Some owner
    → not_busy (begun_by s p.task) ≡ Ok tt → not_overridden owner ≡ Ok tt
    → outcome s (by_commit s label) ≡ try_commit s place p owner last
commit_tests s label place p owner last at there changed lives idle own = rw (at, there, changed, lives, idle, own) refl

-- the tests of the label that is prepared, and of its task and its base
pub record CanPrepare (s : State) (label task hold : ℕ) (held : Hold) : Type 0 where
  pub owner : Task
  pub lives : task_of s task ≡ Some owner
  pub idle : not_busy (begun_by s task) ≡ Ok tt
  pub has : hold_of s hold ≡ Some held
  pub new : hold_of s label ≡ None
  pub unprepared : prepared_of s label ≡ None
  pub few : nat_lt (length s.prepared) PREPARED ≡ true

pub prepare_tests : (s : State) (label task hold : ℕ) (held : Hold) → CanPrepare s label task hold held
    → outcome s (by_prepare s label task hold)
    ≡ in_slot s table_full (λ r slot. (Kept slot, preparing r (record { label = label; task = task; base = held.number; slot = slot; changed = None })))
prepare_tests s label task hold held can = rw (can.lives, can.idle, can.has, can.new, can.unprepared, can.few) refl

-- the tests of an id call
pub record CanBegin (s : State) (line task : ℕ) (owner : Task) (old : Numbered) : Type 0 where
  pub lives : task_of s task ≡ Some owner
  pub has : numbered s.creds owner.current ≡ Some old
  pub idle : not_busy (broadcast_in s owner.process) ≡ Ok tt
  pub new : broadcast_of s line ≡ None
  pub own : not_overridden owner ≡ Ok tt

pub begin_tests : (s : State) (line task : ℕ) (call : IdCall) (owner : Task) (old : Numbered) (made : Credential) (broadcast : Broadcast)
    → CanBegin s line task owner old → set_id old.cred call ≡ Ok made
    → broadcast ≡ record { number = line; process = owner.process; caller = task; call = call; waiting = others_of owner s.tasks }
    → outcome s (by_begin s line task call) ≡ in_slot s table_full (λ r slot. begun r broadcast old.number made (differs old.cred made) slot)
begin_tests s line task call owner old made broadcast can rule is =
    rw (can.lives, can.has, can.idle, can.new, can.own, rule, is) refl
