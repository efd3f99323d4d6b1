-- What the events of an id call answer, and the state after them: a task makes the call, and the
-- other threads of its process follow, or it makes it for itself alone.
use Rattle.std.specs.Prelude.{ℕ, ◌-◌, length, slice_get, Result, Ok, Err, ok_or}
use Rattle.cred_ids.specs.Tests.{◌>>=◌}
use Rattle.cred_record.specs.Credential.{Credential}
use Rattle.cred_record.specs.declared.id_call.IdCall.{IdCall}
use Rattle.cred_rules.specs.SetId.{set_id}
use Rattle.cred_event.specs.declared.answer.Answer.{Answer}
use Rattle.cred_event.specs.declared.answer.Answer.TheVariants.{Sealed, Began, Acted, NoTask}
use Rattle.cred_event.specs.declared.answer.Answer.TheVariants.{NoBroadcast, Exists, Aborted}
use Rattle.cred_event.specs.declared.answer.Named.TheVariants as named
use Rattle.cred_event.specs.declared.answer.AbortCause.TheVariants as cause
use Rattle.cred_model.specs.State.{State, Task, Broadcast, Numbered, task_of, broadcast_of}
use Rattle.cred_model.specs.State.{broadcast_in, numbered}
use Rattle.cred_model.specs.Ends.{is_thread_of, ended}
use Rattle.cred_model.specs.Broadcasts.{not_busy, others_of, with_broadcast, waits_no_more, dropped}
use Rattle.cred_model.specs.Dumpable.{without_flag, differs, renewed}
use Rattle.cred_model.specs.Change.{by_rule}
use Rattle.cred_model.specs.Moves.{none_or, not_overridden, in_slot, table_full, replaced}

-- A task makes an id call. The other threads of its process then wait for their step; where it has
-- none, the broadcast is completed at once.
abbrev pub by_begin : State → ℕ → ℕ → IdCall → Result (Answer × State) Answer
by_begin s line task call = do
  owner ← ok_or (task_of s task) (NoTask task)
  old ← ok_or (numbered s.creds owner.current) (NoTask task)
  idle ← not_busy (broadcast_in s owner.process)
  new ← none_or (broadcast_of s line) (Exists named.Broadcast line)
  own ← not_overridden owner
  made ← by_rule (set_id old.cred call)
  let others = others_of owner s.tasks in
      let broadcast : Broadcast = record {
        number = line;
        process = owner.process;
        caller = task;
        call = call;
        waiting = others;
      } in
      Ok (in_slot s table_full (λ s slot. (
        Began (length s.creds) slot (length others),
        record (replaced s task old.number made slot) {
          broadcasts = with_broadcast s.broadcasts broadcast;
          dumpable = renewed s.dumpable owner.process (differs old.cred made);
        },
      )))

-- A thread of the process can't follow: all its threads end, and the broadcast is dropped.
abbrev pub aborted : Broadcast → State → State
aborted broadcast s =
    record (ended (is_thread_of broadcast.process) s) {
      broadcasts = dropped broadcast.process s.broadcasts;
      dumpable = without_flag s.dumpable broadcast.process;
    }

-- The waiting thread makes the same call on its own current credential. A refusal, or no
-- free slot, ends the process.
abbrev pub follow : State → Broadcast → ℕ → Task → Numbered → Result Credential Answer
    → Answer × State
follow s broadcast task owner old (Err refusal) = (Aborted task cause.Perm, aborted broadcast s)
follow s broadcast task owner old (Ok made) =
    in_slot s (λ s. (Aborted task cause.Full, aborted broadcast s)) (λ s slot. (
      Acted task (length s.creds) slot (length broadcast.waiting - 1),
      record (replaced s task old.number made slot) {
        broadcasts = waits_no_more task s.broadcasts;
        dumpable = renewed s.dumpable owner.process (differs old.cred made);
      },
    ))

-- the least of the threads that wait in a broadcast makes its step
abbrev pub by_act : State → ℕ → Result (Answer × State) Answer
by_act s number = do
  broadcast ← ok_or (broadcast_of s number) (NoBroadcast number)
  task ← ok_or (slice_get broadcast.waiting 0) (NoBroadcast number)
  owner ← ok_or (task_of s task) (NoBroadcast number)
  old ← ok_or (numbered s.creds owner.current) (NoBroadcast number)
  Ok (follow s broadcast task owner old (by_rule (set_id old.cred broadcast.call)))

-- A task makes an id call for itself alone: no other thread of its process waits for a step
-- (nptl(7), "NPTL and process credential changes").
abbrev pub by_raw : State → ℕ → IdCall → Result (Answer × State) Answer
by_raw s task call = do
  owner ← ok_or (task_of s task) (NoTask task)
  old ← ok_or (numbered s.creds owner.current) (NoTask task)
  idle ← not_busy (broadcast_in s owner.process)
  own ← not_overridden owner
  made ← by_rule (set_id old.cred call)
  Ok (in_slot s table_full (λ s slot. (
    Sealed (length s.creds) slot,
    record (replaced s task old.number made slot) {
      dumpable = renewed s.dumpable owner.process (differs old.cred made);
    },
  )))
