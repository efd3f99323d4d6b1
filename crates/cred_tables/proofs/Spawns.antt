-- A task creates a thread of its process.
use Rattle.std.proofs.Common.{◌≡◌, ℕ, Bool, true, false, not, cond, List, [], ◌∷◌, ◌++◌, find, Option, None, Some, refl, ap}
use Rattle.std.specs.Option.{option_map_or}
use Rattle.std.proofs.lemmas.Bool.{eq-eqb}
use Rattle.cred_model.specs.State.{Task}
use Rattle.cred_model.specs.Ends.{is_task, survivors}
use Rattle.cred_model.specs.Moves.{first_task}
use Rattle.cred_procs.specs.Tasks.{spawned, task_in}

-- The tasks are as they were where the one that came last is gone again.
pub last_goes : (child : ℕ) (tasks : List Task) (new : Task) → is_task child new ≡ true → find (is_task child) tasks ≡ None
    → survivors (is_task child) (tasks ++ new ∷ []) ≡ tasks
last_goes child [] new is none = ap (λ (b : Bool). cond (not b) (new ∷ []) []) is
last_goes child (t ∷ ts) new is none = by (is_task child t) none (λ rest. last_goes child ts new is rest)
  where
    by : (b : Bool) → cond b (Some t) (find (is_task child) ts) ≡ None
        → (find (is_task child) ts ≡ None → survivors (is_task child) (ts ++ new ∷ []) ≡ ts)
        → cond (not b) (t ∷ survivors (is_task child) (ts ++ new ∷ [])) (survivors (is_task child) (ts ++ new ∷ [])) ≡ t ∷ ts
    by true none rest = cc
    by false none rest = ap (λ (us : List Task). t ∷ us) (rest none)

all_stay : (child : ℕ) (tasks : List Task) → find (is_task child) tasks ≡ None → survivors (is_task child) tasks ≡ tasks
all_stay child [] none = refl
all_stay child (t ∷ ts) none = by (is_task child t) none (λ rest. all_stay child ts rest)
  where
    by : (b : Bool) → cond b (Some t) (find (is_task child) ts) ≡ None → (find (is_task child) ts ≡ None → survivors (is_task child) ts ≡ ts)
        → cond (not b) (t ∷ survivors (is_task child) ts) (survivors (is_task child) ts) ≡ t ∷ ts
    by true none rest = cc
    by false none rest = ap (λ (us : List Task). t ∷ us) (rest none)

pub spawn_undone : (tasks : List Task) (task child : ℕ) → task_in tasks child ≡ None → survivors (is_task child) (spawned tasks task child) ≡ tasks
spawn_undone tasks task child none = by (task_in tasks task)
  where
    by : (found : Option Task)
        → survivors (is_task child) (option_map_or (λ t. tasks ++ first_task child t.process t.current ∷ []) found tasks) ≡ tasks
    by None = all_stay child tasks none
    by (Some t) = last_goes child tasks (first_task child t.process t.current) (eq-eqb child child refl) none
