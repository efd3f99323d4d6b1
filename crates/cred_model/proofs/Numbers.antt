-- What stands under a number, and under the number of a task.
use Rattle.std.proofs.Common.{◌≡◌, ◌==◌, ℕ, ◌<◌, List, [], ◌∷◌, ◌++◌, length, slice_get, Option, Some, None, true, refl, sym, ap, ◌∙◌, arith}
use Rattle.std.specs.List.{find}
use Rattle.std.specs.Option.{option_map, option_and_then}
use Rattle.std.proofs.lemmas.Bool.{cond_both}
use Rattle.std.proofs.lemmas.Bool.Decides.{nat_tests}
use Rattle.std.proofs.lemmas.Option.{slice_get_within}
use Rattle.cred_model.specs.State.{State, SealedCred, Task, Prepared, Changed, Numbered, numbered, task_of, current_of}
use Rattle.cred_model.specs.Moves.{updated, with_current, overriding, with_overrides, altered_at}
use Rattle.cred_model.proofs.Lists.{find_changed, found, slice_get-left, slice_get-last}

abbrev under : ℕ → SealedCred → Numbered
under n sealed = record { number = n; cred = sealed.cred; slot = sealed.slot }

-- a sealed credential, by its place in the list
abbrev pub sealed_cred_of : Numbered → SealedCred
sealed_cred_of c = record { cred = c.cred; slot = c.slot }

sealed_at : (found : Option SealedCred) (n : ℕ) (c : Numbered) → option_map (under n) found ≡ Some c
    → (c.number ≡ n) × (found ≡ Some (sealed_cred_of c))
sealed_at None n c is = cc
sealed_at (Some x) n c is =
    let same : under n x ≡ c = cc in (
      sym (ap (λ (c : Numbered). c.number) same),
      ap (λ (c : Numbered). Some (sealed_cred_of c)) same,
    )

pub numbered_is : (creds : List SealedCred) (n : ℕ) (c : Numbered) → numbered creds n ≡ Some c
    → (c.number ≡ n) × (slice_get creds n ≡ Some (sealed_cred_of c))
numbered_is creds n c is = sealed_at (slice_get creds n) n c is

pub numbered_before : (creds more : List SealedCred) (n : ℕ) → n < length creds → numbered (creds ++ more) n ≡ numbered creds n
numbered_before creds more n lt = ap (option_map (under n)) (slice_get-left creds more n lt)

pub numbered_stays : (creds more : List SealedCred) (n : ℕ) (c : Numbered) → numbered creds n ≡ Some c
    → numbered (creds ++ more) n ≡ Some c
numbered_stays creds more n c is =
    let at = numbered_is creds n c is in
    numbered_before creds more n (slice_get_within creds n (sealed_cred_of c) at.1) ∙ is

-- the credential that was sealed last
pub numbered_last : (creds : List SealedCred) (new : SealedCred) → numbered (creds ++ new ∷ []) (length creds) ≡ Some (under (length creds) new)
numbered_last creds new = ap (option_map (under (length creds))) (slice_get-last creds new)

-- ---- a task's current credential

pub record IsCurrent (s : State) (task : ℕ) (c : Numbered) : Type 0 where
  pub owner : Task
  pub is : task_of s task ≡ Some owner
  pub number : c.number ≡ owner.current
  pub sealed : slice_get s.creds owner.current ≡ Some (sealed_cred_of c)

owned : (s : State) (task : ℕ) (c : Numbered) (found : Option Task) → task_of s task ≡ found
    → option_and_then (λ (t : Task). numbered s.creds t.current) found ≡ Some c → IsCurrent s task c
owned s task c None is current = cc
owned s task c (Some t) is current =
    let at = numbered_is s.creds t.current c current in
    record { owner = t; is = is; number = at.0; sealed = at.1 }

pub current_is : (s : State) (task : ℕ) (c : Numbered) → current_of s task ≡ Some c → IsCurrent s task c
current_is s task c is = owned s task c (task_of s task) refl is

-- the current credential is that of the owner's number
pub at_owner : (s : State) (task : ℕ) (c : Numbered) (at : IsCurrent s task c) → current_of s task ≡ Some c
    → numbered s.creds at.owner.current ≡ Some c
at_owner s task c at is = sym (ap (option_and_then (λ (t : Task). numbered s.creds t.current)) at.is) ∙ is

-- a task's own number is the one that it was found by
pub found_number : (tasks : List Task) (task : ℕ) (t : Task) → find (λ t. t.number == task) tasks ≡ Some t → t.number ≡ task
found_number tasks task t is =
    let test = (found (λ (t : Task). Unit {0}) (λ (t : Task). t.number == task) tasks t is (λ k d lt. tt)).1 in
    grind (arith, nat_tests)

pub owner_number : (s : State) (task : ℕ) (t : Task) → task_of s task ≡ Some t → t.number ≡ task
owner_number s task t is = found_number s.tasks task t is

-- ---- the tasks, where one has another current credential

pub updated_as : (P : Task → Type 0) (task n : ℕ) (t : Task) → P (record t { current = n }) → P t → P (updated task n t)
updated_as P task n t new old =
    cond_both (t.number == task) (record t { current = n }) t P (λ is. new) (λ other. old)

pub updated_number : (task n : ℕ) (t : Task) → (updated task n t).number ≡ t.number
updated_number task n t = updated_as (λ r. r.number ≡ t.number) task n t refl refl

pub updated_task : (tasks : List Task) (acting n task : ℕ)
    → find (λ t. t.number == task) (with_current tasks acting n) ≡ option_map (updated acting n) (find (λ t. t.number == task) tasks)
updated_task tasks acting n task = find_changed (λ (t : Task). t.number) (updated acting n) tasks task (updated_number acting n)

-- ---- the tasks, where one acts with other credentials

pub overriding_as : (P : Task → Type 0) (task : ℕ) (numbers : List ℕ) (t : Task) → P (record t { overrides = numbers }) → P t
    → P (overriding task numbers t)
overriding_as P task numbers t new old =
    cond_both (t.number == task) (record t { overrides = numbers }) t P (λ is. new) (λ other. old)

pub overriding_number : (task : ℕ) (numbers : List ℕ) (t : Task) → (overriding task numbers t).number ≡ t.number
overriding_number task numbers t = overriding_as (λ r. r.number ≡ t.number) task numbers t refl refl

pub overriding_current : (task : ℕ) (numbers : List ℕ) (t : Task) → (overriding task numbers t).current ≡ t.current
overriding_current task numbers t = overriding_as (λ r. r.current ≡ t.current) task numbers t refl refl

pub overriding_task : (tasks : List Task) (acting : ℕ) (numbers : List ℕ) (task : ℕ)
    → find (λ t. t.number == task) (with_overrides tasks acting numbers) ≡ option_map (overriding acting numbers) (find (λ t. t.number == task) tasks)
overriding_task tasks acting numbers task =
    find_changed (λ (t : Task). t.number) (overriding acting numbers) tasks task (overriding_number acting numbers)

-- ---- the prepared labels, where one has another change

pub changed_as : (Q : Prepared → Type 0) (label : ℕ) (to : Changed) (p : Prepared)
    → ((p.label == label) ≡ true → Q (record p { changed = Some to })) → Q p → Q (altered_at label to p)
changed_as Q label to p new old =
    cond_both (p.label == label) (record p { changed = Some to }) p Q new (λ other. old)

pub changed_label : (label : ℕ) (to : Changed) (p : Prepared) → (altered_at label to p).label ≡ p.label
changed_label label to p = changed_as (λ q. q.label ≡ p.label) label to p (λ test. refl) refl
