-- What every state of the kernel keeps of its broadcasts gives the conditions of the table's calls.
use Rattle.std.proofs.Common.{◌≡◌, ◌≢◌, ◌==◌, ℕ, List, [], ◌∷◌, map, get_or, slice_get, Some, None, nat_le, true, false, if◌then◌else◌, refl, ap, ◌∙◌, arith}
use Rattle.std.specs.List.{AllPairs, filter, list_any}
use Rattle.std.proofs.lemmas.Bool.Decides.{nat_tests}
use Rattle.std.proofs.lemmas.List.Kept.{AllPairs-filter}
use Rattle.cred_ids.specs.Ordered.{placed, in_order}
use Rattle.cred_model.specs.State.{State, Task, Broadcast, task_of, broadcast_in}
use Rattle.cred_model.specs.Ends.{is_beside}
use Rattle.cred_model.specs.Broadcasts.{waits_in, others_of, WaitsNowhere}
use Rattle.cred_model.proofs.Lists.{AllPairs-map, Differ}
use Rattle.cred_model.proofs.Rising.{AllPairs-tail, Below, rising-in_order, rising_differ}
use Rattle.cred_sound.specs.Broadcasts.{IsThread, IsUnderWay}
use Rattle.cred_sound.specs.Sound.{IsSound}
use Rattle.cred_sound.proofs.Threads.{dead_differs, one_process, waits_at}
use Rattle.cred_sound.proofs.Unique.{none_has}
use Rattle.cred_broadcasts.specs.Broadcasts.{AreBroadcasts}

-- who waits in a broadcast is a thread of its process
thread_of : (tasks : List Task) (broadcast : Broadcast) (task : ℕ) → IsUnderWay tasks broadcast → waits_in task broadcast ≡ true
    → IsThread tasks broadcast.process task
thread_of tasks broadcast task under_way waits = waits_at (IsThread tasks broadcast.process) task broadcast.waiting under_way.waiting waits

-- what is no thread of its process doesn't wait there
waits_not : (tasks : List Task) (broadcast : Broadcast) (task : ℕ) → IsUnderWay tasks broadcast
    → (IsThread tasks broadcast.process task → ⊥) → waits_in task broadcast ≡ false
waits_not tasks broadcast task under_way none =
    elim (waits_in task broadcast) as (λ b. waits_in task broadcast ≡ b → b ≡ false) [
      | true ↦ λ waits. absurd (none (thread_of tasks broadcast task under_way waits))
      | false ↦ λ _. refl
    ] refl

pub broadcasts_are : (s : State) → IsSound s → AreBroadcasts s.broadcasts
broadcasts_are s sound = record {
  numbers = sound.broadcasts;
  processes = sound.processes;
  apart = λ i j d lt within task waits.
      let a = get_or s.broadcasts i d in
      let b = get_or s.broadcasts j d in
      waits_not s.tasks b task (sound.under_way j d within) (λ there.
      sound.processes i j d lt within
      (one_process s.tasks a.process b.process task (thread_of s.tasks a task (sound.under_way i d (omega arith)) waits) there));
  rising = λ k d lt. (sound.under_way k d lt).rising;
  some = λ k d lt. (sound.under_way k d lt).some;
}

-- `created`: a task that isn't alive waits nowhere
pub dead_waits_nowhere : (s : State) (task : ℕ) → IsSound s → task_of s task ≡ None → WaitsNowhere s.broadcasts task
dead_waits_nowhere s task sound dead k d lt =
    let broadcast = get_or s.broadcasts k d in
    waits_not s.tasks broadcast task (sound.under_way k d lt) (λ there. dead_differs s.tasks broadcast.process task task dead there refl)

-- `begin`: where a process has no open broadcast, none of its threads waits anywhere
pub idle_waits_nowhere : (s : State) (process task : ℕ) → IsSound s → broadcast_in s process ≡ None → IsThread s.tasks process task
    → WaitsNowhere s.broadcasts task
idle_waits_nowhere s process task sound idle there k d lt =
    let broadcast = get_or s.broadcasts k d in
    waits_not s.tasks broadcast task (sound.under_way k d lt) (λ here.
    none_has (λ (b : Broadcast). b.process) s.broadcasts process idle k d lt (one_process s.tasks broadcast.process process task here there))

-- `begin`: no two of the other threads are one
pub others_differ : (s : State) (owner : Task) → IsSound s → AllPairs (λ a b. a ≢ b) (others_of owner s.tasks)
others_differ s owner sound =
    let others = filter (is_beside owner) s.tasks in
    rising_differ (others_of owner s.tasks)
    (rising-in_order (map (λ t. t.number) others)
    (AllPairs-map (λ a b. a ≢ b) (λ (t : Task). t.number) others
    (AllPairs-filter (Differ (λ (t : Task). t.number)) (is_beside owner) s.tasks sound.tasks)))

-- and a rising list stays as it is when it is put in order
pub rising-stays : (xs : List ℕ) → AllPairs Below xs → in_order xs ≡ xs
unfolding in_order placed
rising-stays [] up = refl
rising-stays (x ∷ []) up = refl
rising-stays (x ∷ y ∷ ys) up =
    let below = up 0 1 0 (omega arith) (omega arith) in
    let first : nat_le x y ≡ true = grind (arith, nat_tests, below) in
    ap (placed x) (rising-stays (y ∷ ys) (AllPairs-tail Below x (y ∷ ys) up))
    ∙ ap (λ b. if b then x ∷ y ∷ ys else y ∷ placed x ys) first

-- `acted`: the least of those that wait, waits
pub least_waits : (broadcast : Broadcast) (task : ℕ) → slice_get broadcast.waiting 0 ≡ Some task → waits_in task broadcast ≡ true
least_waits broadcast task least = at broadcast.waiting least
  where
    at : (waiting : List ℕ) → slice_get waiting 0 ≡ Some task → list_any (λ n. n == task) waiting ≡ true
    at [] is = cc
    at (n ∷ ns) is = let same : n ≡ task = cc in grind (arith, nat_tests)
