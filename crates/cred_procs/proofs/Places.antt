-- What stands at a place of the table, and what is left when it is written.
use Rattle.std.proofs.Common.{◌≡◌, ℕ, zero, suc, ◌<◌, ◌==◌, Bool, true, false, cond, List, [], ◌∷◌, get_or, length, position, slice_get, Option, None, Some}
use Rattle.std.proofs.Common.{is_some, nat_eq, refl, sym, ap, subst, ◌∙◌, arith}
use Rattle.std.specs.Cmp.{nat_eq_equiv}
use Rattle.std.specs.List.{IsDistinct}
use Rattle.std.specs.Map.{keys_of, values_of, lookup, set_value}
use Rattle.std.specs.Option.{IfSome, IsSome, option_map}
use Rattle.std.proofs.lemmas.Bool.{eqb-true}
use Rattle.std.proofs.lemmas.List.Quantifiers.{position-Some}
use Rattle.std.proofs.lemmas.Map.{lookup-none}
use Rattle.std.proofs.lemmas.Map.Entries.{none_past_head, lookup_from_place}
use Rattle.std.proofs.lemmas.Option.{same_Some, slice_get-map}
use Rattle.indexmap.specs.IndexMap.{set_value_at}
use Rattle.cred_model.specs.State.{Task}
use Rattle.cred_model.specs.Moves.{with_current}
use Rattle.cred_model.proofs.Numbers.{found_number}
use Rattle.cred_procs.specs.declared.processes.Processes.{Processes}
use Rattle.cred_procs.specs.declared.thread.Thread.{Thread}
use Rattle.cred_procs.specs.Kept.{task_as, tasks_of, AreGrouped}
use Rattle.cred_procs.specs.Tasks.{task_in}
use Rattle.cred_procs.proofs.Changes.{LeavesPlace}
use Rattle.cred_procs.proofs.Entries.{task_in-tasks_of, test_sym}
use Rattle.cred_procs.proofs.Writes.{written, kept_written}

-- ---- the place of a task

module _ (task : ℕ) where
  first_at : (es : List (ℕ × Thread)) (i : ℕ) → i < length (keys_of es) → nat_eq task (get_or (keys_of es) i 0) ≡ true
      → ((k : ℕ) → k < i → nat_eq task (get_or (keys_of es) k 0) ≡ false) → slice_get (tasks_of es) i ≡ task_in (tasks_of es) task
  first_at [] i within here before = absurd (omega arith)
  first_at (e ∷ es) zero within here before =
      sym (ap (λ b. cond b (Some (task_as e.0 e.1)) (task_in (tasks_of es) task)) (test_sym e.0 task ∙ here))
  first_at (e ∷ es) (suc i) within here before =
      first_at es i (omega arith) here (λ k h. before (suc k) (omega arith))
      ∙ sym (ap (λ b. cond b (Some (task_as e.0 e.1)) (task_in (tasks_of es) task)) (test_sym e.0 task ∙ before 0 (omega arith)))

  -- what stands at the place of its key is the task
  pub place_is : (es : List (ℕ × Thread)) (place : Option ℕ) → place ≡ position (nat_eq task) (keys_of es)
      → IfSome place (λ i. slice_get (tasks_of es) i ≡ task_in (tasks_of es) task)
  place_is es None is = tt
  place_is es (Some i) is =
      let at = position-Some (nat_eq task) (keys_of es) i 0 (sym is) in
      first_at es i at.0 at.1 at.2

pub is_some-option_map : {X Y : Type 0} (f : X → Y) (found : Option X) → is_some (option_map f found) ≡ is_some found
is_some-option_map f None = refl
is_some-option_map f (Some x) = refl

-- The entry at a place is that of the task whose number it has.
pub stands : (es : List (ℕ × Thread)) (place task k : ℕ) (v : Thread) → Some (k, v) ≡ slice_get es place → lookup (nat_eq k) es ≡ Some v → (k == task) ≡ true
    → (slice_get (tasks_of es) place ≡ task_in (tasks_of es) task) × IsSome (task_in (tasks_of es) task)
stands es place task k v at kept same =
    let here : k ≡ task = eqb-true k task same in
    let there : slice_get (tasks_of es) place ≡ Some (task_as k v)
    = slice_get-map (λ (e : ℕ × Thread). task_as e.0 e.1) es place ∙ ap (option_map (λ (e : ℕ × Thread). task_as e.0 e.1)) (sym at) in
    let found : task_in (tasks_of es) task ≡ Some (task_as task v)
    = task_in-tasks_of task es ∙ ap (option_map (task_as task)) (subst (λ (n : ℕ). lookup (nat_eq n) es ≡ Some v) here kept) in
    (there ∙ ap (λ (n : ℕ). Some (task_as n v)) here ∙ sym found, ap is_some found)

-- ---- what stands at a place

-- the entry there, by the value there
entry_at : (es : List (ℕ × Thread)) (i : ℕ) (v : Thread) → slice_get (values_of es) i ≡ Some v
    → (k : ℕ) × (slice_get es i ≡ Some (k, v)) × (slice_get (tasks_of es) i ≡ Some (task_as k v))
entry_at [] i v at = cc
entry_at (e ∷ es) zero v at = let same : e.1 ≡ v = cc in (e.0, ap (λ x. Some (e.0, x)) same, ap (λ x. Some (task_as e.0 x)) same)
entry_at (e ∷ es) (suc i) v at = entry_at es i v at

pub current_is : (es : List (ℕ × Thread)) (i : ℕ) (v : Thread) → slice_get (values_of es) i ≡ Some v
    → Some v.current ≡ option_map (λ t. t.current) (slice_get (tasks_of es) i)
current_is es i v at = sym (ap (option_map (λ (t : Task). t.current)) (entry_at es i v at).2)

as_task : (task k : ℕ) (v : Thread) (found : Option Thread) → option_map (task_as task) found ≡ Some (task_as k v) → task_as task v ≡ task_as k v
as_task task k v None is = cc
as_task task k v (Some w) is = ap (λ (n : ℕ). task_as n v) (ap (λ (t : Task). t.number) (same_Some (task_as task w) (task_as k v) is))

-- the value there is the task's, where the task stands there
pub value_is : (es : List (ℕ × Thread)) (i task : ℕ) (v : Thread) → slice_get (values_of es) i ≡ Some v → slice_get (tasks_of es) i ≡ task_in (tasks_of es) task
    → Some (task_as task v) ≡ task_in (tasks_of es) task
value_is es i task v at there =
    let entry = entry_at es i v at in
    ap Some (as_task task entry.0 v (lookup (nat_eq task) es) (sym (task_in-tasks_of task es) ∙ sym there ∙ entry.2))
    ∙ sym entry.2 ∙ there

-- ---- a write at a place

-- what is written at the place of a task is written of the task
pub set_there : (ts after : List Task) (task number place : ℕ) → slice_get ts place ≡ task_in ts task → IsSome (task_in ts task)
    → IfSome (slice_get ts place) (λ t. after ≡ with_current ts t.number number) → after ≡ with_current ts task number
set_there ts after task number place there alive set =
    to (task_in ts task) refl alive (subst (λ (t : Option Task). IfSome t (λ t. after ≡ with_current ts t.number number)) there set)
  where
    to : (t : Option Task) → task_in ts task ≡ t → IsSome t → IfSome t (λ t. after ≡ with_current ts t.number number) → after ≡ with_current ts task number
    to None is alive set = cc
    to (Some t) is alive set = set ∙ ap (λ (n : ℕ). with_current ts n number) (found_number ts task t is)

-- no two entries have one key, so a write at a place is a write of its key
set_at : (es : List (ℕ × Thread)) (i k : ℕ) (v w : Thread) → IsDistinct nat_eq (keys_of es) → slice_get es i ≡ Some (k, v)
    → set_value_at es i w ≡ set_value (nat_eq k) es w
unfolding IsDistinct
set_at [] i k v w distinct at = cc
set_at (e ∷ es) zero k v w distinct at =
    let same : k ≡ e.0 = cc in
    sym (ap (λ b. cond b ((e.0, w) ∷ es) (e ∷ set_value (nat_eq k) es w)) (ap (λ n. nat_eq n e.0) same ∙ nat_eq_equiv.refl e.0))
set_at (e ∷ es) (suc i) k v w distinct at =
    ap (λ l. e ∷ l) (set_at es i k v w distinct.1 at)
    ∙ sym (ap (λ b. cond b ((e.0, w) ∷ es) (e ∷ set_value (nat_eq k) es w)) (other (nat_eq k e.0) refl))
  where
    other : (test : Bool) → nat_eq k e.0 ≡ test → test ≡ false
    other false is = refl
    other true is =
        let none : lookup (nat_eq k) es ≡ None = lookup-none (nat_eq k) es (none_past_head nat_eq_equiv k e es distinct is) in
        let some : lookup (nat_eq k) es ≡ Some v = lookup_from_place nat_eq_equiv es i k v distinct.1 at in
        cc

pub current_stays : (number : ℕ) → LeavesPlace (λ t. record t { current = number })
current_stays number = record { number = λ t. refl; process = λ t. refl }

module _ (es after : List (ℕ × Thread)) (place : ℕ) (v : Thread) (number : ℕ) (distinct : IsDistinct nat_eq (keys_of es))
    (there : slice_get (values_of es) place ≡ Some v) (is : after ≡ set_value_at es place (record v { current = number })) where
  pub current_written : IfSome (slice_get (tasks_of es) place) (λ t. tasks_of after ≡ with_current (tasks_of es) t.number number)
  current_written =
      let entry = entry_at es place v there in
      let found = lookup_from_place nat_eq_equiv es place entry.0 v distinct entry.1 in
      subst (λ (t : Option Task). IfSome t (λ t. tasks_of after ≡ with_current (tasks_of es) t.number number)) (sym entry.2)
      (written entry.0 v es found (λ t. record t { current = number }) (record v { current = number }) after distinct refl
      (is ∙ set_at es place entry.0 v (record v { current = number }) distinct entry.1))

  pub current_kept : (processes : Processes) → AreGrouped (tasks_of es) processes → AreGrouped (tasks_of after) processes
  current_kept =
      let entry = entry_at es place v there in
      let found = lookup_from_place nat_eq_equiv es place entry.0 v distinct entry.1 in
      kept_written entry.0 v es found (λ t. record t { current = number }) (record v { current = number }) after distinct refl
      (is ∙ set_at es place entry.0 v (record v { current = number }) distinct entry.1)
      (current_stays number) (λ t low. low)
