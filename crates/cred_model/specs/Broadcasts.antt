-- Broadcasts: who waits, and when one is closed (nptl(7)).
use Rattle.std.specs.Prelude.{ℕ, ◌==◌, Bool, not, List, [], ◌∷◌, ◌++◌, length, map, None, Some}
use Rattle.std.specs.Prelude.{Result, Ok, Err, if◌then◌else◌, ◌≡◌, true, false, All}
use Rattle.std.specs.declared.option.Option.{Option}
use Rattle.std.specs.List.{filter, list_any}
use Rattle.cred_ids.specs.Ordered.{in_order}
use Rattle.cred_event.specs.declared.answer.Answer.{Answer}
use Rattle.cred_event.specs.declared.answer.Answer.TheVariants.{Busy}
use Rattle.cred_event.specs.declared.event.Change.{Change}
use Rattle.cred_event.specs.declared.event.Change.TheVariants.{Exec}
use Rattle.cred_model.specs.State.{Task, Broadcast}
use Rattle.cred_model.specs.Ends.{is_beside}

-- refused while this broadcast is open
abbrev pub not_busy : Option Broadcast → Result (Unit {0}) Answer
not_busy None = Ok tt
not_busy (Some broadcast) = Err (Busy broadcast.number)

-- the other threads of a task's process, in rising order
abbrev pub others_of : Task → List Task → List ℕ
others_of task tasks = in_order (map (λ t. t.number) (filter (is_beside task) tasks))

-- the task waits in the broadcast
abbrev pub waits_in : ℕ → Broadcast → Bool
waits_in task broadcast = list_any (λ n. n == task) broadcast.waiting

-- The task waits in none of these.
abbrev pub WaitsNowhere : List Broadcast → ℕ → Type 0
WaitsNowhere broadcasts task = All (λ b. waits_in task b ≡ false) broadcasts

-- Nobody waits in both.
abbrev pub SharesNone : Broadcast → Broadcast → Type 0
SharesNone a b = (task : ℕ) → waits_in task a ≡ true → waits_in task b ≡ false

-- Somebody waits. A broadcast in which nobody does is completed, and is open no longer.
abbrev pub is_open : Broadcast → Bool
is_open broadcast = not (length broadcast.waiting == 0)

-- one broadcast more, if anybody waits in it
abbrev pub with_broadcast : List Broadcast → Broadcast → List Broadcast
with_broadcast broadcasts broadcast = broadcasts ++ filter is_open (broadcast ∷ [])

-- the broadcast, where this task waits no longer
abbrev pub without_waiter : ℕ → Broadcast → Broadcast
without_waiter task broadcast =
    record broadcast { waiting = filter (λ n. not (n == task)) broadcast.waiting }

-- The task waits no longer, since it has made its step or has ended.
abbrev pub waits_no_more : ℕ → List Broadcast → List Broadcast
waits_no_more task broadcasts = filter is_open (map (without_waiter task) broadcasts)

-- the broadcast, where a new thread waits if the thread that created it does
abbrev pub with_child : ℕ → ℕ → Broadcast → Broadcast
with_child parent child broadcast =
    if waits_in parent broadcast
    then record broadcast { waiting = in_order (broadcast.waiting ++ child ∷ []) }
    else broadcast

-- each of them so
abbrev pub joined : ℕ → ℕ → List Broadcast → List Broadcast
joined parent child broadcasts = map (with_child parent child) broadcasts

-- the broadcast of the process is dropped
abbrev pub dropped : ℕ → List Broadcast → List Broadcast
dropped process broadcasts = filter (λ broadcast. not (broadcast.process == process)) broadcasts

-- the broadcasts that a commit of this change leaves open: an execve drops that of its process
-- (execve(2))
abbrev pub broadcasts_left : Change → ℕ → List Broadcast → List Broadcast
broadcasts_left (Exec file) process broadcasts = dropped process broadcasts
broadcasts_left change process broadcasts = broadcasts
