-- Where the tasks stand.
use Rattle.std.proofs.Common.{◌≡◌, ◌≢◌, ℕ, zero, suc, ◌<◌, ◌==◌, Bool, true, false, cond, List, [], ◌∷◌, find, get_or, length, position, set, slice_get, Option}
use Rattle.std.proofs.Common.{None, Some, is_some, refl, sym, ap, ◌∙◌, subst, arith}
use Rattle.std.specs.List.{AllPairs}
use Rattle.std.specs.Option.{IfSome, option_map}
use Rattle.std.proofs.lemmas.Bool.Decides.{nat_tests}
use Rattle.std.proofs.lemmas.List.Quantifiers.{position-Some}
use Rattle.std.proofs.lemmas.Option.{slice_get-get_or}
use Rattle.cred_model.specs.State.{Task}
use Rattle.cred_model.specs.Moves.{updated, with_current}
use Rattle.cred_model.proofs.Lists.{All-at}
use Rattle.cred_model.proofs.Places.{find-at}
use Rattle.cred_model.proofs.Rising.{AllPairs-head, AllPairs-tail}
use Rattle.cred_plain.specs.Tasks.{IsTaskAt}
use Rattle.cred_plain.proofs.Places.{changed_there, none_there}

module _ (number : ℕ) where
  abbrev is_it : Task → Bool
  is_it t = t.number == number

  tested : (t : Task) → t.number ≡ number → is_it t ≡ true
  tested t same = grind (arith, nat_tests)

  untested : (t : Task) → t.number ≢ number → is_it t ≡ false
  untested t other = grind (arith, nat_tests)

  -- what stands there
  pub there : (o : Option Task) → option_map (λ t. t.number) o ≡ Some number → (t : Task) × (o ≡ Some t) × (t.number ≡ number)
  there None at = cc
  there (Some t) at = (t, refl, cc)

  -- a task that stands somewhere is alive
  pub alive_at : (tasks : List Task) (place : ℕ) → IsTaskAt tasks number place → is_some (find is_it tasks) ≡ true
  alive_at [] place at = cc
  alive_at (t ∷ ts) zero at = ap (λ b. is_some (cond b (Some t) (find is_it ts))) (tested t cc)
  alive_at (t ∷ ts) (suc i) at =
      elim (is_it t) as (λ b. is_some (cond b (Some t) (find is_it ts)) ≡ true) [
        | true ↦ refl
        | false ↦ alive_at ts i at
      ]

  pub alive_there : (tasks : List Task) (place : ℕ) (t : Task) → place < length tasks → t ≡ get_or tasks place t → t.number ≡ number
      → is_some (find is_it tasks) ≡ true
  alive_there tasks place t within is same =
      alive_at tasks place
      (ap (option_map (λ t. t.number)) (slice_get-get_or tasks place t within ∙ ap (λ (u : Task). Some u) (sym is)) ∙ ap (λ n. Some n) same)

  -- where no two have one number, it is the task of that number
  pub the_task : (tasks : List Task) (place : ℕ) → AllPairs (λ a b. a.number ≢ b.number) tasks → IsTaskAt tasks number place
      → slice_get tasks place ≡ find is_it tasks
  the_task [] place apart at = cc
  the_task (t ∷ ts) zero apart at = sym (ap (λ b. cond b (Some t) (find is_it ts)) (tested t cc))
  the_task (t ∷ ts) (suc i) apart at =
      let other = there (slice_get ts i) at in
      let differs : t.number ≢ other.0.number
      = All-at (λ (u : Task). t.number ≢ u.number) ts i other.0 other.1 (AllPairs-head (λ (a b : Task). a.number ≢ b.number) t ts apart) in
      the_task ts i (AllPairs-tail (λ (a b : Task). a.number ≢ b.number) t ts apart) at
      ∙ sym (ap (λ b. cond b (Some t) (find is_it ts)) (untested t (λ same. differs (same ∙ sym other.2))))

  -- the first of the number is one
  pub first_at : (tasks : List Task) (found : Option ℕ) → found ≡ position is_it tasks → IfSome found (IsTaskAt tasks number)
  first_at tasks None is = tt
  first_at [] (Some place) is = cc
  first_at (u ∷ us) (Some place) is =
      let at = position-Some is_it (u ∷ us) place u (sym is) in
      let same : (get_or (u ∷ us) place u).number ≡ number = grind (arith, nat_tests) in
      ap (option_map (λ t. t.number)) (slice_get-get_or (u ∷ us) place u at.0) ∙ ap (λ n. Some n) same

-- one has a place just where one is found
pub same_place : {X : Type 0} (p : X → Bool) (xs : List X) → is_some (position p xs) ≡ is_some (find p xs)
same_place p [] = refl
same_place {X = X} p (x ∷ xs) = by (position p (x ∷ xs)) refl
  where
    by : (o : Option ℕ) → position p (x ∷ xs) ≡ o → is_some o ≡ is_some (find p (x ∷ xs))
    by None is = sym (ap (λ (f : Option X). is_some f) (none_there p (x ∷ xs) is))
    by (Some i) is =
        let at = position-Some p (x ∷ xs) i x is in
        sym (ap (λ (f : Option X). is_some f) (find-at p (x ∷ xs) i (get_or (x ∷ xs) i x) is (slice_get-get_or (x ∷ xs) i x at.0)))

-- The task at a place has another current credential.
module _ (tasks after : List Task) (place number : ℕ) (t : Task) (is : t ≡ get_or tasks place t) (within : place < length tasks)
    (made : after ≡ set tasks place (record t { current = number })) where
  here : updated t.number number (get_or tasks place t) ≡ record t { current = number }
  here =
      let own : (t.number == t.number) ≡ true = grind (arith, nat_tests) in
      ap (updated t.number number) (sym is) ∙ ap (λ b. cond b (record t { current = number }) t) own

  others : (u : Task) → u.number ≢ t.number → updated t.number number u ≡ u
  others u other = let test : (u.number == t.number) ≡ false = grind (arith, nat_tests) in rw test refl

  pub current_at : AllPairs (λ a b. a.number ≢ b.number) tasks → IfSome (slice_get tasks place) (λ t. after ≡ with_current tasks t.number number)
  current_at apart =
      subst (λ (o : Option Task). IfSome o (λ t. after ≡ with_current tasks t.number number))
      (sym (slice_get-get_or tasks place t within ∙ ap (λ (u : Task). Some u) (sym is)))
      (made
      ∙ ap (set tasks place) (sym here)
      ∙ changed_there (λ (u : Task). u.number) (updated t.number number) t.number others tasks place t apart within (sym (ap (λ (u : Task). u.number) is)))
