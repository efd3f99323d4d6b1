-- The supplementary groups of a task (setgroups(2), credentials(7)).
use Rattle.std.specs.Prelude.{ℕ, ◌≤◌, List, length, All}
use Rattle.std.specs.List.Sorted.{IsNonDecreasing}
use Rattle.cred_ids.specs.Id.{IsId}
use Rattle.cred_ids.specs.Limits.{GROUP_LIMIT}

-- at most 1024 ids, sorted, duplicates too
pub record IsGroupList (ids : List ℕ) : Type 0 where
  pub ordered : IsNonDecreasing ids
  pub each : All IsId ids
  pub few : length ids ≤ GROUP_LIMIT
