-- What the events of labels answer, and the state after them: a label holds a credential, prepares
-- one and commits it, and a task acts with what a label holds.
use Rattle.std.specs.Prelude.{ℕ, ◌==◌, ◌&&◌, Bool, true, false, [], ◌∷◌, ◌++◌, length, drop}
use Rattle.std.specs.Prelude.{position, remove, slice_get, Result, Ok, ok_or, Some, None}
use Rattle.std.specs.Prelude.{if◌then◌else◌, count_by}
use Rattle.std.specs.declared.option.Option.{Option}
use Rattle.std.specs.Option.{option_and_then, option_map_or}
use Rattle.cred_ids.specs.Limits.{HOLDS, PREPARED, DEPTH}
use Rattle.cred_ids.specs.Tests.{◌>>=◌}
use Rattle.cred_record.specs.declared.gains.Gains.{Gains}
use Rattle.cred_event.specs.declared.event.Change.{Change}
use Rattle.cred_event.specs.declared.event.Change.TheVariants.{Exec, Access}
use Rattle.cred_event.specs.declared.event.Query.{Query}
use Rattle.cred_event.specs.declared.event.Side.{Side}
use Rattle.cred_event.specs.declared.answer.Answer.{Answer}
use Rattle.cred_event.specs.declared.answer.Answer.TheVariants.{Done, Sealed, Kept, Executed, Ebadf}
use Rattle.cred_event.specs.declared.answer.Answer.TheVariants.{NoTask, NoHold, NoPrepared, Exists}
use Rattle.cred_event.specs.declared.answer.Answer.TheVariants.{NotOverridden, TooDeep, Stale}
use Rattle.cred_event.specs.declared.answer.Answer.TheVariants.{TooMany}
use Rattle.cred_event.specs.declared.answer.Named.TheVariants as named
use Rattle.cred_event.specs.declared.answer.Counted.TheVariants as counted
use Rattle.cred_model.specs.Script.{Script, chain_of}
use Rattle.cred_model.specs.Named.{query_files, change_files}
use Rattle.cred_model.specs.State.{State, Task, Prepared, Changed, Numbered, task_of, begun_by}
use Rattle.cred_model.specs.State.{hold_of, prepared_of, numbered, credential_of, opener_of}
use Rattle.cred_model.specs.State.{held_by, info_of}
use Rattle.cred_model.specs.Ends.{is_beside, ended}
use Rattle.cred_model.specs.Broadcasts.{not_busy, dropped}
use Rattle.cred_model.specs.Dumpable.{flags_committed}
use Rattle.cred_model.specs.Answers.{reply}
use Rattle.cred_model.specs.Change.{by_change}
use Rattle.cred_model.specs.Moves.{none_or, fewer_or, not_overridden, in_slot, table_full}
use Rattle.cred_model.specs.Moves.{with_overrides, holding, preparing, altered, given_up, committed}
use Rattle.cred_model.specs.Moves.{with_override, overridden}

-- a label takes hold of this credential
abbrev pub take_hold : State → ℕ → Numbered → Result (Answer × State) Answer
take_hold s label taken = do
  new ← none_or (hold_of s label) (Exists named.Label label)
  unprepared ← none_or (prepared_of s label) (Exists named.Label label)
  few ← fewer_or (length s.holds) HOLDS (TooMany counted.Holds)
  Ok (Sealed taken.number taken.slot, holding s label taken.number)

-- a label takes hold of the credential that the task acts with, or is acted on by
abbrev pub by_take : State → ℕ → ℕ → Side → Result (Answer × State) Answer
by_take s label task side = do
  taken ← ok_or (credential_of s task side) (NoTask task)
  take_hold s label taken

-- a label takes hold of the credential that an open file was opened by
abbrev pub by_take_file : State → ℕ → ℕ → Result (Answer × State) Answer
by_take_file s label fd = do
  taken ← ok_or (opener_of s fd) Ebadf
  take_hold s label taken

-- a label drops its hold
abbrev pub by_release : State → ℕ → Result (Answer × State) Answer
by_release s label = do
  place ← ok_or (position (λ h. h.label == label) s.holds) (NoHold label)
  hold ← ok_or (slice_get s.holds place) (NoHold label)
  Ok (Done, record s { holds = remove s.holds place; deferred = s.deferred ++ hold.number ∷ [] })

-- a question about what a label holds
abbrev pub by_ask : State → ℕ → Query → Result (Answer × State) Answer
by_ask s label query = do
  held ← ok_or (held_by s label) (NoHold label)
  Ok (reply (info_of s.inodes (query_files query)) held.cred query, s)

-- a label prepares a new credential for a task, based on what another holds
abbrev pub by_prepare : State → (label task hold : ℕ) → Result (Answer × State) Answer
by_prepare s label task hold = do
  owner ← ok_or (task_of s task) (NoTask task)
  idle ← not_busy (begun_by s task)
  base ← ok_or (hold_of s hold) (NoHold hold)
  new ← none_or (hold_of s label) (Exists named.Label label)
  unprepared ← none_or (prepared_of s label) (Exists named.Label label)
  few ← fewer_or (length s.prepared) PREPARED (TooMany counted.Prepared)
  Ok (in_slot s table_full (λ s slot. (
    Kept slot,
    preparing s (record {
      label = label;
      task = task;
      base = base.number;
      slot = slot;
      changed = None;
    }),
  )))

-- what a label prepared is its base, changed
abbrev pub by_alter : Script → State → ℕ → Change → Result (Answer × State) Answer
by_alter script s label change = do
  p ← ok_or (prepared_of s label) (NoPrepared label)
  base ← ok_or (numbered s.creds p.base) (NoPrepared label)
  made ← by_change (info_of s.inodes (change_files change)) (chain_of script base.cred.ns) base.cred
      change
  Ok (
    made.answer,
    altered s label (record { change = change; cred = made.cred; gains = made.gains }),
  )

-- The tasks that end with the commit of this change by its task: an execve ends all other threads
-- of the process (execve(2)), and no other change ends any.
abbrev pub ends_with : Change → Task → Task → Bool
ends_with (Exec file) task t = is_beside task t
ends_with change task t = false

-- the state in which the broadcast of the task's process is dropped, if the change is an execve
abbrev pub broadcasts_after : Change → Task → State → State
broadcasts_after (Exec file) task s = record s { broadcasts = dropped task.process s.broadcasts }
broadcasts_after change task s = s

-- what is answered where a change is committed, by what it was
abbrev pub committed_by : Change → Gains → (number slot count : ℕ) → Answer
committed_by (Exec file) gains number slot count = Executed number slot count gains
committed_by change gains number slot count = Sealed number slot

-- what a commit answers, where `count` tasks end with it
abbrev pub commit_answer : Changed → (number slot count : ℕ) → Answer
commit_answer last number slot count = committed_by last.change last.gains number slot count

-- Only a credential whose base is still the task's current one is committed. Another one is stale,
-- and is given up.
abbrev pub try_commit : State → ℕ → Prepared → Task → Changed → Answer × State
try_commit s place p owner last =
    let ends = ends_with last.change owner in
    let now = committed (ended ends s) place p owner.current last.cred in
    if owner.current == p.base
    then (
      commit_answer last (length s.creds) p.slot (count_by ends s.tasks),
      record (broadcasts_after last.change owner now) { dumpable = flags_committed s owner last },
    )
    else (Stale p.base owner.current, given_up s place p)

-- the change makes what access(2) asks by
abbrev pub is_access : Change → Bool
is_access Access = true
is_access change = false

-- what was changed, but for access(2), whose credential is never a task's current one
abbrev pub for_task : Changed → Option Changed
for_task last = if is_access last.change then None else Some last

-- what a label prepared becomes the current credential of its task
abbrev pub by_commit : State → ℕ → Result (Answer × State) Answer
by_commit s label = do
  place ← ok_or (position (λ p. p.label == label) s.prepared) (NoPrepared label)
  p ← ok_or (slice_get s.prepared place) (NoPrepared label)
  last ← ok_or (option_and_then for_task p.changed) (NoPrepared label)
  owner ← ok_or (task_of s p.task) (NoTask p.task)
  idle ← not_busy (begun_by s p.task)
  own ← not_overridden owner
  Ok (try_commit s place p owner last)

-- what a label prepared is given up
abbrev pub by_abort : State → ℕ → Result (Answer × State) Answer
by_abort s label = do
  place ← ok_or (position (λ p. p.label == label) s.prepared) (NoPrepared label)
  p ← ok_or (slice_get s.prepared place) (NoPrepared label)
  Ok (Done, given_up s place p)

-- what was changed for access(2) by a label that the task prepared
abbrev pub for_access : ℕ → Prepared → Option Changed
for_access task p =
    option_and_then (λ last. if p.task == task && is_access last.change then Some last else None)
    p.changed

-- The task acts with a credential that is sealed already.
abbrev pub override_held : State → Task → Numbered → Result (Answer × State) Answer
override_held s owner held = do
  few ← fewer_or (length owner.overrides) DEPTH TooDeep
  Ok (Sealed held.number held.slot, with_override s owner held.number)

-- The task acts with what it prepared for access(2): that is sealed, and its base is given up.
abbrev pub override_prepared : State → Task → ℕ → Result (Answer × State) Answer
override_prepared s owner label = do
  place ← ok_or (position (λ p. p.label == label) s.prepared) (NoHold label)
  p ← ok_or (slice_get s.prepared place) (NoHold label)
  last ← ok_or (for_access owner.number p) (NoHold label)
  few ← fewer_or (length owner.overrides) DEPTH TooDeep
  Ok (Sealed (length s.creds) p.slot, overridden s place p owner last.cred)

-- A task acts with another credential from now on: with one that a label holds, or with what it
-- prepared for access(2). Its current credential stays.
abbrev pub by_override : State → ℕ → ℕ → Result (Answer × State) Answer
by_override s task label = do
  owner ← ok_or (task_of s task) (NoTask task)
  option_map_or (override_held s owner) (held_by s label) (override_prepared s owner label)

-- a task acts again with the credential that it had before its newest override
abbrev pub by_revert : State → ℕ → Result (Answer × State) Answer
by_revert s task = do
  owner ← ok_or (task_of s task) (NoTask task)
  newest ← ok_or (slice_get owner.overrides 0) NotOverridden
  Ok (
    Done,
    record s {
      tasks = with_overrides s.tasks task (drop 1 owner.overrides);
      deferred = s.deferred ++ newest ∷ [];
    },
  )
