-- How references are counted while a task takes on an override and goes back.
use Rattle.std.proofs.Common.{◌≡◌, ℕ, ◌+◌, ◌==◌, Bool, List, [], ◌∷◌, drop, find, slice_get, Some, ap, ◌∙◌, arith}
use Rattle.std.specs.List.{count_by}
use Rattle.cred_model.specs.State.{State, Task}
use Rattle.cred_model.specs.Moves.{overriding, with_overrides}
use Rattle.cred_model.specs.Slots.{in_use}
use Rattle.cred_model.proofs.Lists.{map_same}
use Rattle.cred_model.proofs.Numbers.{overriding_current}
use Rattle.cred_slots.specs.Table.{IsSameBag}
use Rattle.cred_slots.proofs.Counting.{count-cons}
use Rattle.cred_tables.proofs.InUse.{currents, overrides, count-in_use, Differ}
use Rattle.cred_state.proofs.OneChanged.{count-changed}

module _ (s : State) (task : ℕ) (u : Task) (differ : Differ s.tasks) (found : find (λ t. t.number == task) s.tasks ≡ Some u) where
  abbrev acting_with : List ℕ → State
  acting_with numbers = record s { tasks = with_overrides s.tasks task numbers }

  -- the task's overrides are counted, and nothing else is counted otherwise
  count-acting : (test : ℕ → Bool) (numbers : List ℕ)
      → count_by test (in_use (acting_with numbers)) + count_by test u.overrides ≡ count_by test (in_use s) + count_by test numbers
  count-acting test numbers =
      let after = count-in_use test (acting_with numbers) in
      let before = count-in_use test s in
      let same : count_by test (currents (with_overrides s.tasks task numbers)) ≡ count_by test (currents s.tasks)
      = ap (λ (ns : List ℕ). count_by test ns) (map_same (λ (t : Task). t.current) (overriding task numbers) s.tasks (overriding_current task numbers)) in
      let change : count_by test (overrides (with_overrides s.tasks task numbers)) + count_by test u.overrides
      ≡ count_by test (overrides s.tasks) + count_by test numbers
      = count-changed (λ (t : Task). t.number) (λ t. record t { overrides = numbers }) task (λ t. t.overrides) test s.tasks u differ found in
      omega (arith, after, before, same, change)

  -- one override more
  pub in_use-lent : (number : ℕ) → IsSameBag (in_use (acting_with (number ∷ u.overrides))) (number ∷ in_use s)
  in_use-lent number = record {
    counts = λ test.
        let all = count-acting test (number ∷ u.overrides) in
        let more = count-cons test number u.overrides in
        let one = count-cons test number (in_use s) in
        omega (arith, all, more, one);
  }

  count-popped : (test : ℕ → Bool) (newest : ℕ) (numbers : List ℕ) → slice_get numbers 0 ≡ Some newest
      → count_by test numbers ≡ count_by test (newest ∷ drop 1 numbers)
  count-popped test newest [] is = cc
  count-popped test newest (n ∷ ns) is =
      let same : n ≡ newest = cc in
      ap (λ (k : ℕ). count_by test (k ∷ ns)) same

  -- the newest override less
  pub in_use-reverted : (newest : ℕ) → slice_get u.overrides 0 ≡ Some newest
      → IsSameBag (in_use s) (newest ∷ in_use (acting_with (drop 1 u.overrides)))
  in_use-reverted newest is = record {
    counts = λ test.
        let all = count-acting test (drop 1 u.overrides) in
        let own = count-popped test newest u.overrides is ∙ count-cons test newest (drop 1 u.overrides) in
        let one = count-cons test newest (in_use (acting_with (drop 1 u.overrides))) in
        omega (arith, all, own, one);
  }
