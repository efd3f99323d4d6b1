-- What an event leaves referred to: all that was, but for what a sweep drops.
use Rattle.std.proofs.Common.{◌≡◌, ◌≢◌, ◌==◌, not, ℕ, zero, suc, List, [], ◌∷◌, ◌++◌, map, slice_get, get_or, find, remove, Some, Bool, true, false, cond, refl}
use Rattle.std.proofs.Common.{sym, ◌∙◌, subst}
use Rattle.std.specs.List.{All, AllPairs, filter}
use Rattle.std.proofs.lemmas.Bool.{eqb-true}
use Rattle.std.proofs.lemmas.List.Elements.{All-cons, All-head, All-nil, All-tail, All-weaker}
use Rattle.cred_model.specs.State.{Task, Prepared, Changed}
use Rattle.cred_model.specs.Ends.{left_by, numbers_of, survivors}
use Rattle.cred_model.specs.Moves.{altered_at, overriding, updated, with_change, with_current, with_overrides}
use Rattle.cred_model.proofs.Lists.{All-right, All-unflat_map, All-unmap, alone, found}
use Rattle.cred_model.proofs.Numbers.{changed_as, overriding_as, updated_as}

-- ---- what was before a change of a list

-- with what was removed
pub unremoved : {X : Type 0} (P : X → Type 0) (xs : List X) (n : ℕ) (x : X) → slice_get xs n ≡ Some x → P x → All P (remove xs n) → All P xs
unremoved P [] n x is here rest = All-nil P
unremoved P (y ∷ ys) zero x is here rest =
    let same : y ≡ x = cc in All-cons P y ys (subst P (sym same) here) rest
unremoved P (y ∷ ys) (suc n) x is here rest =
    All-cons P y ys (All-head P y (remove ys n) rest) (unremoved P ys n x is here (All-tail P y (remove ys n) rest))

-- the last one
pub last_of : {X : Type 0} (P : X → Type 0) (xs : List X) (x : X) → All P (xs ++ x ∷ []) → P x
last_of P xs x each = All-head P x [] (All-right P xs (x ∷ []) each)

-- with those that the test kept, and those that it didn't
both_ways : {X : Type 0} (P : X → Type 0) (p : X → Bool) (xs : List X) → All P (filter (λ x. not (p x)) xs) → All P (filter p xs) → All P xs
both_ways P p [] on off = All-nil P
both_ways P p (x ∷ xs) on off =
    elim (p x) as
    (λ b. All P (cond (not b) (x ∷ filter (λ y. not (p y)) xs) (filter (λ y. not (p y)) xs)) → All P (cond b (x ∷ filter p xs) (filter p xs))
    → All P (x ∷ xs)) [
      | true ↦ λ on off. All-cons P x xs (All-head P x (filter p xs) off) (both_ways P p xs on (All-tail P x (filter p xs) off))
      | false ↦ λ on off.
          let rest = filter (λ y. not (p y)) xs in
          All-cons P x xs (All-head P x rest on) (both_ways P p xs (All-tail P x rest on) off)
    ] on off

back : {X : Type 0} (P Q : X → Type 0) (g : X → X) (xs : List X) → ((x : X) → P (g x) → Q x) → All P (map g xs) → All Q xs
back P Q g xs each all = All-weaker (λ x. P (g x)) Q each xs (All-unmap P g xs all)

-- ---- the tasks before a change of one

-- No other task has its number.
abbrev pub IsOwn : Task → Task → Type 0
IsOwn owner t = t.number ≡ owner.number → t ≡ owner

pub owned : (tasks : List Task) (task : ℕ) (owner : Task) → AllPairs (λ a b. a.number ≢ b.number) tasks → find (λ t. t.number == task) tasks ≡ Some owner
    → All (IsOwn owner) tasks
owned tasks task owner apart is =
    (found (λ (x : Task). All (IsOwn x) tasks) (λ (t : Task). t.number == task) tasks owner is (alone (λ (t : Task). t.number) tasks apart)).0

back_own : (P : Task → Type 0) (g : Task → Task) (owner : Task) (tasks : List Task) → All (IsOwn owner) tasks → ((t : Task) → IsOwn owner t → P (g t) → P t)
    → All P (map g tasks) → All P tasks
back_own P g owner tasks own each all k d lt = each (get_or tasks k d) (own k d lt) (All-unmap P g tasks all k d lt)

module _ (H : ℕ → Type 0) (task : ℕ) (owner : Task) (own : owner.number ≡ task) where
  current_before : (new : ℕ) → H owner.current → (t : Task) → IsOwn owner t → H (updated task new t).current → H t.current
  current_before new old t one now =
      elim (t.number == task) as (λ b. (b ≡ true → t.number ≡ task) → H (cond b (record t { current = new }) t).current → H t.current) [
        | true ↦ λ same now. subst (λ (u : Task). H u.current) (sym (one (same refl ∙ sym own))) old
        | false ↦ λ same now. now
      ] (eqb-true t.number task) now

  overrides_before : (numbers : List ℕ) → (All H numbers → All H owner.overrides) → (t : Task) → IsOwn owner t → All H (overriding task numbers t).overrides
      → All H t.overrides
  overrides_before numbers old t one now =
      elim (t.number == task) as (λ b. (b ≡ true → t.number ≡ task) → All H (cond b (record t { overrides = numbers }) t).overrides → All H t.overrides) [
        | true ↦ λ same now. subst (λ (u : Task). All H u.overrides) (sym (one (same refl ∙ sym own))) (old now)
        | false ↦ λ same now. now
      ] (eqb-true t.number task) now

  -- one has another current credential
  pub currents_before : (new : ℕ) (tasks : List Task) → All (IsOwn owner) tasks → H owner.current → All (λ t. H t.current) (with_current tasks task new)
      → All (λ t. H t.current) tasks
  currents_before new tasks apart old each =
      back_own (λ t. H t.current) (updated task new) owner tasks apart (current_before new old) each

  pub overrides_stay : (new : ℕ) (tasks : List Task) → All (λ t. All H t.overrides) (with_current tasks task new) → All (λ t. All H t.overrides) tasks
  overrides_stay new tasks each =
      back (λ (t : Task). All H t.overrides) (λ t. All H t.overrides) (updated task new) tasks
      (λ t now. subst (All H) (updated_as (λ r. r.overrides ≡ t.overrides) task new t refl refl) now) each

  -- one acts with other credentials
  pub overridden_before : (numbers : List ℕ) (tasks : List Task) → All (IsOwn owner) tasks → (All H numbers → All H owner.overrides)
      → All (λ t. All H t.overrides) (with_overrides tasks task numbers) → All (λ t. All H t.overrides) tasks
  overridden_before numbers tasks apart old each =
      back_own (λ t. All H t.overrides) (overriding task numbers) owner tasks apart (overrides_before numbers old) each

  pub currents_stay : (numbers : List ℕ) (tasks : List Task) → All (λ t. H t.current) (with_overrides tasks task numbers) → All (λ t. H t.current) tasks
  currents_stay numbers tasks each =
      back (λ (t : Task). H t.current) (λ t. H t.current) (overriding task numbers) tasks
      (λ t now. subst H (overriding_as (λ r. r.current ≡ t.current) task numbers t refl refl) now) each

-- ---- the tasks before some of them ended

pub currents_ended : (H : ℕ → Type 0) (ends : Task → Bool) (tasks : List Task) → All (λ t. H t.current) (survivors ends tasks) → All H (left_by ends tasks)
    → All (λ t. H t.current) tasks
currents_ended H ends tasks on left =
    both_ways (λ (t : Task). H t.current) ends tasks on
    (All-weaker (λ (t : Task). All H (numbers_of t)) (λ t. H t.current) (λ t all. All-head H t.current t.overrides all) (filter ends tasks)
    (All-unflat_map H numbers_of (filter ends tasks) left))

pub overrides_ended : (H : ℕ → Type 0) (ends : Task → Bool) (tasks : List Task) → All (λ t. All H t.overrides) (survivors ends tasks)
    → All H (left_by ends tasks) → All (λ t. All H t.overrides) tasks
overrides_ended H ends tasks on left =
    both_ways (λ (t : Task). All H t.overrides) ends tasks on
    (All-weaker (λ (t : Task). All H (numbers_of t)) (λ t. All H t.overrides) (λ t all. All-tail H t.current t.overrides all) (filter ends tasks)
    (All-unflat_map H numbers_of (filter ends tasks) left))

-- ---- the labels before one of them was changed

pub bases_before : (H : ℕ → Type 0) (label : ℕ) (to : Changed) (prepared : List Prepared) → All (λ p. H p.base) (with_change prepared label to)
    → All (λ p. H p.base) prepared
bases_before H label to prepared each =
    back (λ (p : Prepared). H p.base) (λ p. H p.base) (altered_at label to) prepared
    (λ p now. subst H (changed_as (λ q. q.base ≡ p.base) label to p (λ test. refl) refl) now) each
