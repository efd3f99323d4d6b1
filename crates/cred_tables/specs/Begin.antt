-- When a task may make an id call that its process's other threads follow (nptl(7)), and which of
-- these makes its step next.
use Rattle.std.specs.Prelude.{◌≡◌, ◌≢◌, ℕ, List, All, Ok, Some, None, length, slice_get}
use Rattle.std.specs.List.{AllPairs}
use Rattle.std.specs.Option.{option_and_then}
use Rattle.cred_record.specs.declared.id_call.IdCall.{IdCall}
use Rattle.cred_event.specs.declared.answer.AbortCause.{AbortCause}
use Rattle.cred_event.specs.declared.answer.AbortCause.TheVariants.{Perm, Full}
use Rattle.cred_model.specs.State.{State, Task, Broadcast, Numbered, task_of, current_of}
use Rattle.cred_model.specs.State.{broadcast_of}
use Rattle.cred_model.specs.State.{broadcast_in}
use Rattle.cred_model.specs.Broadcasts.{others_of, with_broadcast, WaitsNowhere}
use Rattle.cred_model.specs.Ends.{is_beside}
use Rattle.cred_model.specs.Moves.{not_overridden}
use Rattle.cred_broadcasts.specs.Broadcasts.{broadcast_under, broadcast_within}
use Rattle.cred_procs.specs.Tasks.{task_in, those}
use Rattle.cred_slots.specs.Table.{Table}
use Rattle.cred_slots.specs.Table as table

-- The task is alive and acts with its current credential, which is this one. No broadcast is open
-- in its process, and none has the line's number.
pub record MayBegin (s : State) (line task : ℕ) (now : Numbered) : Type 0 where
  pub owner : Task
  pub lives : task_of s task ≡ Some owner
  pub has : current_of s task ≡ Some now
  pub idle : broadcast_in s owner.process ≡ None
  pub new : broadcast_of s line ≡ None
  pub own : not_overridden owner ≡ Ok tt

-- The broadcast of this number stands in place `broadcast` among the open ones. The least thread
-- that waits in it is this task, which stands in place `place` among the tasks, and this is its
-- current credential.
pub record ActsNext (s : State) (number broadcast task place : ℕ) (now : Numbered) : Type 0 where
  pub under : slice_get s.broadcasts broadcast ≡ broadcast_of s number
  pub least : Some task ≡ option_and_then (λ b. slice_get b.waiting 0) (broadcast_of s number)
  pub there : slice_get s.tasks place ≡ task_of s task
  pub has : current_of s task ≡ Some now

-- the table of slots where `at_abort` is the state
abbrev pub table_at : AbortCause → Table → Table
table_at Perm t = t
table_at Full t = table.swept_table t

-- the broadcast of a task's call, in which the other threads of its process wait
abbrev pub broadcast_begun : ℕ → ℕ → IdCall → Task → List Task → Broadcast
broadcast_begun line task call owner tasks = record {
  number = line;
  process = owner.process;
  caller = task;
  call = call;
  waiting = others_of owner tasks;
}

-- The broadcast of a task's call may be begun: the other threads of its process wait nowhere, none
-- is open in its process, and none has the line's number.
pub record MayWait (tasks : List Task) (broadcasts : List Broadcast) (line task : ℕ) : Type 0 where
  pub owner : Task
  pub lives : task_in tasks task ≡ Some owner
  pub new : broadcast_under broadcasts line ≡ None
  pub idle : broadcast_within broadcasts owner.process ≡ None
  pub once : AllPairs (λ a b. a ≢ b) (those (is_beside owner) tasks)
  pub nowhere : All (WaitsNowhere broadcasts) (those (is_beside owner) tasks)

-- The broadcast was begun, in which `left` threads wait. Where nobody does it isn't open.
pub record HasBegun (before after : List Broadcast) (broadcast : Broadcast)
    (left : ℕ) : Type 0 where
  pub broadcasts : after ≡ with_broadcast before broadcast
  pub waiting : left ≡ length broadcast.waiting
