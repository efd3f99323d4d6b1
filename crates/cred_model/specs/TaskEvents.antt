-- What the events of tasks answer, and the state after them: a task is created and ends, signals or
-- looks into another, makes its process dumpable.
use Rattle.std.specs.Prelude.{ℕ, ◌==◌, [], ◌∷◌, ◌++◌, length, find, Result, Ok, Err, ok_or}
use Rattle.std.specs.Prelude.{if◌then◌else◌}
use Rattle.cred_ids.specs.Limits.{TASKS}
use Rattle.cred_ids.specs.Tests.{◌>>=◌}
use Rattle.cred_record.specs.Credential.{first_credential}
use Rattle.cred_rules.specs.Access.{may_signal}
use Rattle.cred_record.specs.declared.mode.PtraceMode.{PtraceMode}
use Rattle.cred_event.specs.declared.answer.Answer.{Answer}
use Rattle.cred_event.specs.declared.answer.Answer.TheVariants.{Done, Sealed, Told, Eperm, Einval}
use Rattle.cred_event.specs.declared.answer.Answer.TheVariants.{NoTask, NoHold, Exists, TooMany}
use Rattle.cred_event.specs.declared.answer.Named.TheVariants as named
use Rattle.cred_event.specs.declared.answer.Counted.TheVariants as counted
use Rattle.cred_event.specs.declared.answer.Told.TheVariants as told
use Rattle.cred_model.specs.Script.{Script, reaches}
use Rattle.cred_model.specs.State.{State, task_of, broadcast_in, begun_by, numbered, held_by}
use Rattle.cred_model.specs.Ends.{is_task, is_thread_of, ended}
use Rattle.cred_model.specs.Broadcasts.{not_busy, waits_no_more, joined}
use Rattle.cred_rules.specs.Ptrace.{may_trace}
use Rattle.cred_model.specs.Dumpable.{is_dumpable, with_process_flag, set_flag, flags_begun}
use Rattle.cred_model.specs.Dumpable.{flags_left, flag_of_value}
use Rattle.cred_model.specs.Moves.{none_or, fewer_or, not_overridden, in_slot, table_full}
use Rattle.cred_model.specs.Moves.{first_task, created}

-- init: a first task is created, in a namespace where root has this user id
abbrev pub by_init : State → (task process user group ns root : ℕ) → Result (Answer × State) Answer
by_init s task process user group ns root = do
  idle ← not_busy (broadcast_in s process)
  new ← none_or (task_of s task) (Exists named.Task task)
  few ← fewer_or (length s.tasks) TASKS (TooMany counted.Tasks)
  Ok (in_slot s table_full (λ s slot.
      let number = length s.creds in
      let first = first_task task process number in
      let now = created s first (first_credential user group ns root) slot in
      (Sealed number slot, record now { dumpable = flags_begun s process })))

-- spawn: a new thread of the process, which shares the credential of the task that creates it, and
-- waits where that one waits
abbrev pub by_spawn : State → ℕ → ℕ → Result (Answer × State) Answer
by_spawn s task child = do
  owner ← ok_or (task_of s task) (NoTask task)
  parent ← ok_or (numbered s.creds owner.current) (NoTask task)
  idle ← not_busy (begun_by s task)
  new ← none_or (task_of s child) (Exists named.Task child)
  own ← not_overridden owner
  few ← fewer_or (length s.tasks) TASKS (TooMany counted.Tasks)
  Ok (
    Sealed parent.number parent.slot,
    record s {
      tasks = s.tasks ++ first_task child owner.process parent.number ∷ [];
      broadcasts = joined task child s.broadcasts;
    },
  )

-- fork: a new process, whose only thread shares the credential of the task that makes it, and waits
-- nowhere. It is dumpable where the task's process is.
abbrev pub by_fork : State → (task child process : ℕ) → Result (Answer × State) Answer
by_fork s task child process = do
  owner ← ok_or (task_of s task) (NoTask task)
  parent ← ok_or (numbered s.creds owner.current) (NoTask task)
  idle ← not_busy (begun_by s task)
  new ← none_or (task_of s child) (Exists named.Task child)
  unused ← none_or (find (is_thread_of process) s.tasks) (Exists named.Process process)
  own ← not_overridden owner
  few ← fewer_or (length s.tasks) TASKS (TooMany counted.Tasks)
  Ok (
    Sealed parent.number parent.slot,
    record s {
      tasks = s.tasks ++ first_task child process parent.number ∷ [];
      dumpable = with_process_flag s.dumpable process (is_dumpable s.dumpable owner.process);
    },
  )

-- exit: the task ends, and waits no longer
abbrev pub by_exit : State → ℕ → Result (Answer × State) Answer
by_exit s task = do
  owner ← ok_or (task_of s task) (NoTask task)
  idle ← not_busy (begun_by s task)
  own ← not_overridden owner
  Ok (
    Done,
    record (ended (is_task task) s) {
      broadcasts = waits_no_more task s.broadcasts;
      dumpable = flags_left s owner;
    },
  )

-- A task makes its process dumpable, or not, by 1 or 0 (prctl(2), PR_SET_DUMPABLE).
abbrev pub by_dumpable : State → ℕ → ℕ → Result (Answer × State) Answer
by_dumpable s task value = do
  owner ← ok_or (task_of s task) (NoTask task)
  flag ← ok_or (flag_of_value value) Einval
  Ok (Done, record s { dumpable = set_flag s.dumpable owner.process flag })

-- whether a task's process is dumpable (PR_GET_DUMPABLE)
abbrev pub by_dumped : State → ℕ → Result (Answer × State) Answer
by_dumped s task = do
  owner ← ok_or (task_of s task) (NoTask task)
  Ok (Told (told.Flag (is_dumpable s.dumpable owner.process)), s)

-- A task signals another: the sender's credential and the target's decide, and whether both are of
-- one process (kill(2)).
abbrev pub by_signal : State → (from hold to target : ℕ) → Result (Answer × State) Answer
by_signal s from hold to target = do
  sender ← ok_or (task_of s from) (NoTask from)
  receiver ← ok_or (task_of s to) (NoTask to)
  own ← ok_or (held_by s hold) (NoHold hold)
  other ← ok_or (held_by s target) (NoHold target)
  let same = sender.process == receiver.process in
      if may_signal own.cred other.cred same then Ok (Done, s) else Err Eperm

-- A task asks to look into another: its credential and the target's decide, whether both are of one
-- process, and whether the target's process is dumpable (ptrace(2), "Ptrace access mode checking").
abbrev pub by_ptrace :
    Script → State → (from hold to target : ℕ) → PtraceMode → Result (Answer × State) Answer
by_ptrace script s from hold to target mode = do
  sender ← ok_or (task_of s from) (NoTask from)
  receiver ← ok_or (task_of s to) (NoTask to)
  own ← ok_or (held_by s hold) (NoHold hold)
  other ← ok_or (held_by s target) (NoHold target)
  let same = sender.process == receiver.process in
      let reach = reaches script.namespaces own.cred.ns other.cred.ns in
      let dumpable = is_dumpable s.dumpable receiver.process in
      if may_trace own.cred other.cred same reach dumpable mode then Ok (Done, s) else Err Eperm
