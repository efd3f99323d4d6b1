-- A task's call is begun, and the other threads of its process wait.
use Rattle.std.proofs.Common.{◌≡◌, ◌<◌, ◌≤◌, ◌^◌, ℕ, Bool, not, filter, List, length, refl, ap, ◌∙◌, arith}
use Rattle.std.proofs.lemmas.List.{length-map}
use Rattle.std.proofs.lemmas.List.Filters.{length-filter_both}
use Rattle.cred_ids.specs.Ordered.{in_order}
use Rattle.cred_ids.specs.Limits.{TASKS}
use Rattle.cred_record.specs.declared.id_call.IdCall.{IdCall}
use Rattle.cred_model.specs.State.{Task, Broadcast}
use Rattle.cred_model.specs.Ends.{is_beside}
use Rattle.cred_model.specs.Broadcasts.{with_broadcast}
use Rattle.cred_procs.specs.Tasks.{those}
use Rattle.cred_tables.specs.Begin.{broadcast_begun}

-- the broadcast that was entered is that of the call
pub begun_broadcasts : (broadcasts now : List Broadcast) (tasks : List Task) (line task : ℕ) (owner : Task) (call : IdCall) {process : ℕ} {waiting : List ℕ}
    → process ≡ owner.process → waiting ≡ those (is_beside owner) tasks
    → now ≡ with_broadcast broadcasts (record { number = line; process = process; caller = task; call = call; waiting = in_order waiting })
    → now ≡ with_broadcast broadcasts (broadcast_begun line task call owner tasks)
begun_broadcasts broadcasts now tasks line task owner call {waiting = waiting} of these is =
    let broadcast : ℕ → List ℕ → Broadcast
    = λ p ns. record { number = line; process = p; caller = task; call = call; waiting = in_order ns } in
    is
    ∙ ap (λ (p : ℕ). with_broadcast broadcasts (broadcast p waiting)) of
    ∙ ap (λ (ns : List ℕ). with_broadcast broadcasts (broadcast owner.process ns)) these

-- They are few.
pub few_those : (passes : Task → Bool) (tasks : List Task) → length tasks ≤ TASKS → length (those passes tasks) < 2 ^ 32
few_those passes tasks few =
    let all = length-filter_both passes (λ t. not (passes t)) (λ t. refl) tasks in
    let same = length-map (filter passes tasks) (λ (t : Task). t.number) in
    omega (arith, few, all, same)
