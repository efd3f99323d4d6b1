-- What is left when the entry of one task is written.
use Rattle.std.proofs.Common.{◌≡◌, ℕ, ◌≤◌, ◌==◌, Bool, true, false, cond, List, [], ◌∷◌, All, length, map, Option, None, Some, MutBor, nat_eq, is_some, refl}
use Rattle.std.proofs.Common.{sym, ap, subst, ◌∙◌}
use Rattle.std.specs.List.{IsDistinct, AllByRecursion}
use Rattle.std.specs.Map.{keys_of, lookup, set_value}
use Rattle.std.specs.Option.{IfSome, IsSome, option_copied_mut, option_map, option_map_or}
use Rattle.std.proofs.lemmas.List.Elements.{recursion_from_All}
use Rattle.std.proofs.lemmas.Map.Steps.{set_value_same}
use Rattle.cred_ids.specs.Limits.{DEPTH}
use Rattle.cred_model.specs.State.{Task}
use Rattle.cred_model.specs.Moves.{with_overrides}
use Rattle.cred_procs.specs.declared.processes.Processes.{Processes}
use Rattle.cred_procs.specs.declared.thread.Thread.{Thread}
use Rattle.cred_procs.specs.Kept.{task_as, tasks_of, AreGrouped}
use Rattle.cred_procs.specs.Tasks.{task_in, overrides_of}
use Rattle.cred_procs.proofs.Entries.{task_in-tasks_of, set_value-tasks_of, changed}
use Rattle.cred_procs.proofs.Changes.{LeavesPlace, IsShallow, AreTasks-map, members-map}

choose_number : (f : Task → Task) → LeavesPlace f → (b : Bool) (t : Task) → (cond b (f t) t).number ≡ t.number
choose_number f leaves true t = leaves.number t
choose_number f leaves false t = refl

choose_process : (f : Task → Task) → LeavesPlace f → (b : Bool) (t : Task) → (cond b (f t) t).process ≡ t.process
choose_process f leaves true t = leaves.process t
choose_process f leaves false t = refl

choose_shallow : (f : Task → Task) → ((t : Task) → IsShallow t → IsShallow (f t)) → (b : Bool) (t : Task) → IsShallow t → IsShallow (cond b (f t) t)
choose_shallow f keeps true t low = keeps t low
choose_shallow f keeps false t low = low

shallow_at : (t : Task) (rest : Option Task) (b : Bool) → IsShallow t → IfSome rest IsShallow → IfSome (cond b (Some t) rest) IsShallow
shallow_at t rest true low others = low
shallow_at t rest false low others = others

pub shallow_found : (task : ℕ) (ts : List Task) → AllByRecursion IsShallow ts → IfSome (task_in ts task) IsShallow
shallow_found task [] all = tt
shallow_found task (t ∷ ts) all = shallow_at t (task_in ts task) (t.number == task) all.0 (shallow_found task ts all.1)

-- a live task has an entry
pub is_there : (task : ℕ) (es : List (ℕ × Thread)) (entry : Option (MutBor Thread)) → option_copied_mut entry ≡ lookup (nat_eq task) es
    → IsSome (task_in (tasks_of es) task) → IsSome entry
is_there task es None value alive =
    let none : task_in (tasks_of es) task ≡ None = task_in-tasks_of task es ∙ ap (option_map (task_as task)) (sym value) in
    sym (ap is_some none) ∙ alive
is_there task es (Some entry) value alive = refl

module _ (task : ℕ) (v : Thread) (es : List (ℕ × Thread)) (found : lookup (nat_eq task) es ≡ Some v) where
  -- what the map has is the live task
  pub is_task : task_in (tasks_of es) task ≡ Some (task_as task v)
  is_task = task_in-tasks_of task es ∙ ap (option_map (task_as task)) found

  pub overrides_is : overrides_of (tasks_of es) task ≡ v.overrides
  overrides_is = ap (λ (o : Option Task). option_map_or (λ t. t.overrides) o []) is_task

  pub is_shallow : All IsShallow (tasks_of es) → IsShallow (task_as task v)
  is_shallow all = subst (λ (o : Option Task). IfSome o IsShallow) is_task (shallow_found task (tasks_of es) (recursion_from_All IsShallow (tasks_of es) all))

  module _ (f : Task → Task) (w : Thread) (after : List (ℕ × Thread)) (unique : IsDistinct nat_eq (keys_of es))
      (to : task_as task w ≡ f (task_as task v)) (is : after ≡ set_value (nat_eq task) es w) where
    pub written : tasks_of after ≡ map (changed task f) (tasks_of es)
    written = ap tasks_of is ∙ set_value-tasks_of task f v w es unique found to

    pub kept_written : LeavesPlace f → ((t : Task) → IsShallow t → IsShallow (f t)) → (processes : Processes) → AreGrouped (tasks_of es) processes
        → AreGrouped (tasks_of after) processes
    kept_written leaves keeps processes kept =
        let place : LeavesPlace (changed task f)
        = record {
          number = λ t. choose_number f leaves (t.number == task) t;
          process = λ t. choose_process f leaves (t.number == task) t;
        } in
        subst (λ (ts : List Task). AreGrouped ts processes) (sym written)
        (record {
          sound = AreTasks-map (changed task f) place (λ t low. choose_shallow f keeps (t.number == task) t low) (tasks_of es) kept.sound;
          grouped = λ p. kept.grouped p ∙ sym (members-map (changed task f) place p (tasks_of es));
        })

overrides_stay : (overrides : List ℕ) → LeavesPlace (λ t. record t { overrides = overrides })
overrides_stay overrides = record { number = λ t. refl; process = λ t. refl }

-- A task is given other overrides.
module _ (task : ℕ) (v : Thread) (es after : List (ℕ × Thread)) (found : lookup (nat_eq task) es ≡ Some v) (unique : IsDistinct nat_eq (keys_of es))
    (stack overrides : List ℕ) (to : stack ≡ overrides) (is : after ≡ set_value (nat_eq task) es (record v { overrides = stack })) where
  gives : task_as task (record v { overrides = stack }) ≡ record (task_as task v) { overrides = overrides }
  gives = ap (λ (s : List ℕ). task_as task (record v { overrides = s })) to

  pub written_overrides : tasks_of after ≡ with_overrides (tasks_of es) task overrides
  written_overrides = written task v es found (λ t. record t { overrides = overrides }) (record v { overrides = stack }) after unique gives is

  pub kept_overrides : length overrides ≤ DEPTH → (processes : Processes) → AreGrouped (tasks_of es) processes → AreGrouped (tasks_of after) processes
  kept_overrides low =
      kept_written task v es found (λ t. record t { overrides = overrides }) (record v { overrides = stack }) after unique gives is
      (overrides_stay overrides) (λ t _. low)

-- A task is left as it was.
pub unwritten : (task : ℕ) (v : Thread) (es after : List (ℕ × Thread)) → lookup (nat_eq task) es ≡ Some v
    → (stack : List ℕ) → stack ≡ v.overrides → after ≡ set_value (nat_eq task) es (record v { overrides = stack }) → after ≡ es
unwritten task v es after found stack same is =
    is ∙ ap (λ (s : List ℕ). set_value (nat_eq task) es (record v { overrides = s })) same ∙ set_value_same (nat_eq task) es v found
