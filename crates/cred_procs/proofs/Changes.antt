-- What stays true of the tasks, and of the threads that are kept of each process, when a task is
-- created, changes its credentials or ends.
use Rattle.std.proofs.Common.{◌≡◌, ℕ, suc, ◌≤◌, ◌==◌, Bool, true, false, cond, List, [], ◌∷◌, filter, length, map, nat_eq, refl, sym, ap, subst, ◌∙◌, arith}
use Rattle.std.specs.List.{IsDistinct, AllByRecursion}
use Rattle.std.proofs.lemmas.List.Elements.{All-from_recursion, recursion_from_All}
use Rattle.cred_ids.specs.Limits.{DEPTH}
use Rattle.cred_model.specs.State.{Task}
use Rattle.cred_model.specs.Ends.{is_thread_of}
use Rattle.cred_procs.specs.Tasks.{AreTasks, members}

abbrev numbers : List Task → List ℕ
numbers ts = map (λ t. t.number) ts

abbrev pub IsShallow : Task → Type 0
IsShallow t = length t.overrides ≤ DEPTH

-- ---- a task is changed

-- a change that leaves a task its number and its process
pub record LeavesPlace (f : Task → Task) : Type 0 where
  pub number : (t : Task) → (f t).number ≡ t.number
  pub process : (t : Task) → (f t).process ≡ t.process

module _ (f : Task → Task) (leaves : LeavesPlace f) where
  numbers-map : (ts : List Task) → numbers (map f ts) ≡ numbers ts
  numbers-map [] = refl
  numbers-map (t ∷ ts) = λ i. leaves.number t i ∷ numbers-map ts i

  members_step : (p : ℕ) (t : Task) (ts : List Task) → members (map f ts) p ≡ members ts p → members (map f (t ∷ ts)) p ≡ members (t ∷ ts) p
  members_step p t ts rest =
      ap (λ (b : Bool). numbers (cond b (f t ∷ filter (is_thread_of p) (map f ts)) (filter (is_thread_of p) (map f ts))))
      (ap (λ (n : ℕ). n == p) (leaves.process t))
      ∙ at (t.process == p)
    where
      at : (b : Bool)
          → numbers (cond b (f t ∷ filter (is_thread_of p) (map f ts)) (filter (is_thread_of p) (map f ts)))
          ≡ numbers (cond b (t ∷ filter (is_thread_of p) ts) (filter (is_thread_of p) ts))
      at true = λ i. leaves.number t i ∷ rest i
      at false = rest

  pub members-map : (p : ℕ) (ts : List Task) → members (map f ts) p ≡ members ts p
  members-map p [] = refl
  members-map p (t ∷ ts) = members_step p t ts (members-map p ts)

  length-same : (ts : List Task) → length (map f ts) ≡ length ts
  length-same [] = refl
  length-same (t ∷ ts) = ap suc (length-same ts)

  each_step : ((t : Task) → IsShallow t → IsShallow (f t)) → (ts : List Task) → AllByRecursion IsShallow ts → AllByRecursion IsShallow (map f ts)
  each_step keeps [] all = tt
  each_step keeps (t ∷ ts) all = (keeps t all.0, each_step keeps ts all.1)

  pub AreTasks-map : ((t : Task) → IsShallow t → IsShallow (f t)) → (ts : List Task) → AreTasks ts → AreTasks (map f ts)
  AreTasks-map keeps ts are = record {
    apart = subst (IsDistinct nat_eq) (sym (numbers-map ts)) are.apart;
    few = omega (arith, are.few, length-same ts);
    shallow = All-from_recursion IsShallow (map f ts) (each_step keeps ts (recursion_from_All IsShallow ts are.shallow));
  }
