-- A map from the numbers of tasks, as the list of the tasks.
use Rattle.std.proofs.Common.{◌≡◌, ℕ, ◌==◌, Bool, true, false, not, cond, List, [], ◌∷◌, map, Option, None, Some, nat_eq, refl, sym, ap, ◌∙◌, arith}
use Rattle.std.specs.Cmp.{nat_eq_equiv}
use Rattle.std.specs.List.{IsDistinct}
use Rattle.std.specs.Map.{keys_of, lookup, remove_entry, set_value}
use Rattle.std.specs.Option.{option_map}
use Rattle.std.proofs.lemmas.Bool.{eqb-true}
use Rattle.std.proofs.lemmas.Bool.Decides.{nat_tests}
use Rattle.std.proofs.lemmas.Map.{NonePasses}
use Rattle.std.proofs.lemmas.Map.Entries.{none_past_head}
use Rattle.cred_model.specs.State.{Task}
use Rattle.cred_model.specs.Ends.{is_task, survivors}
use Rattle.cred_procs.specs.declared.thread.Thread.{Thread}
use Rattle.cred_procs.specs.Kept.{task_as, tasks_of}
use Rattle.cred_procs.specs.Tasks.{task_in}

pub test_sym : (a b : ℕ) → nat_eq a b ≡ nat_eq b a
test_sym a b = grind (arith, nat_tests)

pub numbers-tasks_of : (es : List (ℕ × Thread)) → map (λ t. t.number) (tasks_of es) ≡ keys_of es
numbers-tasks_of [] = refl
numbers-tasks_of (e ∷ es) = ap (λ (ns : List ℕ). e.0 ∷ ns) (numbers-tasks_of es)

module _ (task : ℕ) where
  found_at : (e : ℕ × Thread) (rest : Option Thread) (others : Option Task) (test : Bool) → (e.0 == task) ≡ test → others ≡ option_map (task_as task) rest
      → cond test (Some (task_as e.0 e.1)) others ≡ option_map (task_as task) (cond test (Some e.1) rest)
  found_at e rest others true is same = ap (λ (n : ℕ). Some (task_as n e.1)) (eqb-true e.0 task is)
  found_at e rest others false is same = same

  -- what is found among the tasks is what the map has
  pub task_in-tasks_of : (es : List (ℕ × Thread)) → task_in (tasks_of es) task ≡ option_map (task_as task) (lookup (nat_eq task) es)
  task_in-tasks_of [] = refl
  task_in-tasks_of (e ∷ es) =
      found_at e (lookup (nat_eq task) es) _ (e.0 == task) refl (task_in-tasks_of es)
      ∙ ap (λ (b : Bool). option_map (task_as task) (cond b (Some e.1) (lookup (nat_eq task) es))) (test_sym e.0 task)

  absent_from : (found : Option Thread) → option_map (task_as task) found ≡ None → found ≡ None
  absent_from None none = refl
  absent_from (Some t) none = cc

  pub absent-tasks_of : (es : List (ℕ × Thread)) → task_in (tasks_of es) task ≡ None → lookup (nat_eq task) es ≡ None
  absent-tasks_of es none = absent_from (lookup (nat_eq task) es) (sym (task_in-tasks_of es) ∙ none)

  -- ---- a task is taken away

  pub survivors-none : (es : List (ℕ × Thread)) → NonePasses (nat_eq task) es → survivors (is_task task) (tasks_of es) ≡ tasks_of es
  survivors-none [] none = refl
  survivors-none (e ∷ es) none =
      ap (λ (b : Bool). cond (not b) (task_as e.0 e.1 ∷ survivors (is_task task) (tasks_of es)) (survivors (is_task task) (tasks_of es)))
      (test_sym e.0 task ∙ none.0)
      ∙ ap (λ (ts : List Task). task_as e.0 e.1 ∷ ts) (survivors-none es none.1)

  removed_at : (e : ℕ × Thread) (es : List (ℕ × Thread)) (test : Bool) → nat_eq task e.0 ≡ test
      → (test ≡ true → NonePasses (nat_eq task) es)
      → tasks_of (remove_entry (nat_eq task) es) ≡ survivors (is_task task) (tasks_of es)
      → tasks_of (cond test es (e ∷ remove_entry (nat_eq task) es))
      ≡ cond (not test) (task_as e.0 e.1 ∷ survivors (is_task task) (tasks_of es)) (survivors (is_task task) (tasks_of es))
  removed_at e es true is last rest = sym (survivors-none es (last refl))
  removed_at e es false is last rest = ap (λ (ts : List Task). task_as e.0 e.1 ∷ ts) rest

  -- Only one task has the number, so that taking its entry out leaves the tasks without it.
  pub remove_entry-tasks_of : (es : List (ℕ × Thread)) → IsDistinct nat_eq (keys_of es)
      → tasks_of (remove_entry (nat_eq task) es) ≡ survivors (is_task task) (tasks_of es)
  unfolding IsDistinct
  remove_entry-tasks_of [] distinct = refl
  remove_entry-tasks_of (e ∷ es) distinct =
      removed_at e es (nat_eq task e.0) refl
      (λ same. none_past_head nat_eq_equiv task e es distinct same)
      (remove_entry-tasks_of es distinct.1)
      ∙ ap (λ (b : Bool). cond (not b) (task_as e.0 e.1 ∷ survivors (is_task task) (tasks_of es)) (survivors (is_task task) (tasks_of es))) (test_sym task e.0)

  -- ---- a task is changed

  module _ (f : Task → Task) where
    abbrev pub changed : Task → Task
    changed t = cond (t.number == task) (f t) t

    changed-none : (es : List (ℕ × Thread)) → NonePasses (nat_eq task) es → map changed (tasks_of es) ≡ tasks_of es
    changed-none [] none = refl
    changed-none (e ∷ es) none =
        ap (λ (b : Bool). cond b (f (task_as e.0 e.1)) (task_as e.0 e.1) ∷ map changed (tasks_of es)) (test_sym e.0 task ∙ none.0)
        ∙ ap (λ (ts : List Task). task_as e.0 e.1 ∷ ts) (changed-none es none.1)

    changed_at : (v w : Thread) (e : ℕ × Thread) (es : List (ℕ × Thread)) (test : Bool) → nat_eq task e.0 ≡ test
        → cond test (Some e.1) (lookup (nat_eq task) es) ≡ Some v
        → task_as task w ≡ f (task_as task v)
        → (test ≡ true → NonePasses (nat_eq task) es)
        → (lookup (nat_eq task) es ≡ Some v → tasks_of (set_value (nat_eq task) es w) ≡ map changed (tasks_of es))
        → tasks_of (cond test ((e.0, w) ∷ es) (e ∷ set_value (nat_eq task) es w))
        ≡ cond test (f (task_as e.0 e.1)) (task_as e.0 e.1) ∷ map changed (tasks_of es)
    changed_at v w e es true is found to last rest =
        let here : task ≡ e.0 = eqb-true task e.0 is in
        let same : e.1 ≡ v = cc in
        let head : task_as e.0 w ≡ f (task_as e.0 e.1)
        = ap (λ (n : ℕ). task_as n w) (sym here) ∙ to ∙ ap (λ (n : ℕ). f (task_as n v)) here ∙ ap (λ (t : Thread). f (task_as e.0 t)) (sym same) in
        ap (λ (t : Task). t ∷ tasks_of es) head
        ∙ ap (λ (ts : List Task). f (task_as e.0 e.1) ∷ ts) (sym (changed-none es (last refl)))
    changed_at v w e es false is found to last rest = ap (λ (ts : List Task). task_as e.0 e.1 ∷ ts) (rest found)

    -- Only one task has the number, so that writing its entry changes just that task.
    pub set_value-tasks_of : (v w : Thread) (es : List (ℕ × Thread)) → IsDistinct nat_eq (keys_of es) → lookup (nat_eq task) es ≡ Some v
        → task_as task w ≡ f (task_as task v) → tasks_of (set_value (nat_eq task) es w) ≡ map changed (tasks_of es)
    unfolding IsDistinct
    set_value-tasks_of v w [] distinct found to = cc
    set_value-tasks_of v w (e ∷ es) distinct found to =
        changed_at v w e es (nat_eq task e.0) refl found to
        (λ same. none_past_head nat_eq_equiv task e es distinct same)
        (λ there. set_value-tasks_of v w es distinct.1 there to)
        ∙ ap (λ (b : Bool). cond b (f (task_as e.0 e.1)) (task_as e.0 e.1) ∷ map changed (tasks_of es)) (test_sym task e.0)
