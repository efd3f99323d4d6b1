-- How many other threads there are.
use Rattle.std.proofs.Common.{◌≡◌, ℕ, ◌≤◌, Bool, List, map, length, ap, arith}
use Rattle.std.specs.List.{filter}
use Rattle.std.proofs.lemmas.List.{length-map}
use Rattle.std.proofs.lemmas.List.Sums.{length-filter, count_by-le-length}
use Rattle.cred_ids.specs.Ordered.{in_order}
use Rattle.cred_ids.specs.Limits.{TASKS}
use Rattle.cred_model.specs.State.{Task}
use Rattle.cred_model.proofs.Rising.{length-in_order}

pub few_others : (test : Task → Bool) (tasks : List Task) (others : List ℕ) → others ≡ in_order (map (λ (t : Task). t.number) (filter test tasks))
    → length tasks ≤ TASKS → length others ≤ TASKS
few_others test tasks others is few =
    let numbers = map (λ (t : Task). t.number) (filter test tasks) in
    omega (
      arith,
      ap length is,
      length-in_order numbers,
      length-map (filter test tasks) (λ (t : Task). t.number),
      length-filter test tasks,
      count_by-le-length test
          tasks,
      few,
    )
