-- What every sound state keeps of its broadcasts gives the conditions of their calls.
use Rattle.std.proofs.Common.{◌≡◌, ◌==◌, ℕ, ◌<◌, List, get_or, Some, true, false, refl, arith}
use Rattle.std.specs.List.{AllPairs}
use Rattle.cred_model.specs.State.{State, Task, Broadcast, broadcast_of}
use Rattle.cred_model.specs.Broadcasts.{waits_in, SharesNone}
use Rattle.cred_model.proofs.Lists.{found}
use Rattle.cred_sound.specs.Broadcasts.{IsThread, IsUnderWay}
use Rattle.cred_sound.specs.Sound.{IsSound}
use Rattle.cred_sound.proofs.Threads.{one_process, waits_at}
use Rattle.cred_plain.specs.Broadcasts.{AreWaitedFor}

-- who waits in a broadcast is a thread of its process
thread_of : (tasks : List Task) (broadcast : Broadcast) (task : ℕ) → IsUnderWay tasks broadcast → waits_in task broadcast ≡ true
    → IsThread tasks broadcast.process task
thread_of tasks broadcast task under_way waits = waits_at (IsThread tasks broadcast.process) task broadcast.waiting under_way.waiting waits

-- what is no thread of its process doesn't wait there
waits_not : (tasks : List Task) (broadcast : Broadcast) (task : ℕ) → IsUnderWay tasks broadcast
    → (IsThread tasks broadcast.process task → ⊥) → waits_in task broadcast ≡ false
waits_not tasks broadcast task under_way none =
    elim (waits_in task broadcast) as (λ b. waits_in task broadcast ≡ b → b ≡ false) [
      | true ↦ λ waits. absurd (none (thread_of tasks broadcast task under_way waits))
      | false ↦ λ _. refl
    ] refl

pub shares_none : (s : State) → IsSound s → AllPairs SharesNone s.broadcasts
shares_none s sound = λ i j d lt within task waits.
    let a = get_or s.broadcasts i d in
    let b = get_or s.broadcasts j d in
    waits_not s.tasks b task (sound.under_way j d within) (λ there.
    sound.processes i j d lt within
    (one_process s.tasks a.process b.process task (thread_of s.tasks a task (sound.under_way i d (omega arith)) waits) there))

pub are_broadcasts : (s : State) → IsSound s → AreWaitedFor s.broadcasts
are_broadcasts s sound = record {
  apart = shares_none s sound;
  rising = λ k d lt. (sound.under_way k d lt).rising;
  some = λ k d lt. (sound.under_way k d lt).some;
}

pub waits_rising : (s : State) (number : ℕ) (broadcast : Broadcast) → IsSound s → broadcast_of s number ≡ Some broadcast
    → AllPairs (λ m n. m < n) broadcast.waiting
waits_rising s number broadcast sound is =
    (found (IsUnderWay s.tasks) (λ (b : Broadcast). b.number == number) s.broadcasts broadcast is sound.under_way).0.rising
