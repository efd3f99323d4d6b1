-- The least number that tasks refer to.
use Rattle.std.proofs.Common.{◌≡◌, ℕ, ◌+◌, ◌<◌, ◌≤◌, ◌==◌, ◌||◌, All, Bool, true, false, List, [], ◌∷◌, length, get_or, take, refl, subst, arith}
use Rattle.std.specs.List.{list_any}
use Rattle.std.proofs.lemmas.Bool.Decides.{nat_tests}
use Rattle.std.proofs.lemmas.List.Elements.{All-cons, All-head, All-more, All-tail, All-weaker}
use Rattle.cred_model.specs.State.{Task}
use Rattle.cred_model.specs.Ends.{numbers_of}
use Rattle.cred_plain.specs.References.{is_among, UsesNoneBelow}
use Rattle.cred_plain.specs.declared.references.References.{References}

-- where one of a list passes, what follows of each one that passes
any_gives : {X : Type 0} {C : Type 0} (P : X → Type 0) (test : X → Bool) (xs : List X) → All P xs → list_any test xs ≡ true
    → ((x : X) → P x → test x ≡ true → C) → C
any_gives {C = C} P test [] all is gives = cc
any_gives {C = C} P test (x ∷ xs) all is gives =
    elim (test x) as (λ b. test x ≡ b → (b || list_any test xs) ≡ true → C) [
      | true ↦ λ here some. gives x (All-head P x xs all) here
      | false ↦ λ here some. any_gives P test xs (All-tail P x xs all) some gives
    ] refl is

same_tests : (m n : ℕ) → (m == n) ≡ true → m ≡ n
same_tests m n is = grind (arith, nat_tests)

-- no number that a task refers to is below the least
pub none_below : (r : References) (least : ℕ) → All (λ (t : Task). All (λ n. least ≤ n) (numbers_of t)) r.tasks.now → UsesNoneBelow r least
none_below r least each n used =
    elim (list_any (λ (t : Task). t.current == n) r.tasks.now)
    as (λ b. list_any (λ (t : Task). t.current == n) r.tasks.now ≡ b → (b || list_any (λ (t : Task). is_among t.overrides n) r.tasks.now) ≡ true → least ≤ n) [
      | true ↦ λ current some.
          any_gives (λ (t : Task). All (λ m. least ≤ m) (numbers_of t)) (λ (t : Task). t.current == n) r.tasks.now each current (λ t all is.
          let le = All-head (λ m. least ≤ m) t.current t.overrides all in let same = same_tests t.current n is in omega (arith, le, same))
      | false ↦ λ current some.
          any_gives (λ (t : Task). All (λ m. least ≤ m) (numbers_of t)) (λ (t : Task). is_among t.overrides n) r.tasks.now each some (λ t all among.
          any_gives (λ m. least ≤ m) (λ m. m == n) t.overrides (All-tail (λ m. least ≤ m) t.current t.overrides all) among (λ m le is.
          let same = same_tests m n is in omega (arith, le, same)))
    ] refl used

-- where none of these is below b, none is below what is at most b
pub lower : (a b : ℕ) → a ≤ b → (ns : List ℕ) → All (λ n. b ≤ n) ns → All (λ n. a ≤ n) ns
lower a b le = All-weaker (λ n. b ≤ n) (λ n. a ≤ n) (λ n from. omega (arith, le, from))

-- a task more, where this is no more than the least of the tasks before it and its own
pub more_tasks : (least before own : ℕ) (ts : List Task) (i : ℕ) (t : Task) → i < length ts → t ≡ get_or ts i t → least ≤ before → least ≤ own
    → All (λ (t : Task). All (λ n. before ≤ n) (numbers_of t)) (take i ts) → All (λ n. own ≤ n) (numbers_of t)
    → All (λ (t : Task). All (λ n. least ≤ n) (numbers_of t)) (take (i + 1) ts)
more_tasks least before own ts i t within is le_before le_own all mine =
    All-more (λ (t : Task). All (λ n. least ≤ n) (numbers_of t)) ts i t within
    (All-weaker (λ (t : Task). All (λ n. before ≤ n) (numbers_of t)) (λ (t : Task). All (λ n. least ≤ n) (numbers_of t))
    (λ (t : Task) each. lower least before le_before (numbers_of t) each) (take i ts) all)
    (subst (λ (t : Task). All (λ n. least ≤ n) (numbers_of t)) is (lower least own le_own (numbers_of t) mine))

-- a number more, where this is the least of it and those before it
pub more_numbers : (least before first : ℕ) (ns : List ℕ) (i : ℕ) → i < length ns → least ≤ before → least ≤ get_or ns i 0
    → All (λ n. before ≤ n) (first ∷ take i ns) → All (λ n. least ≤ n) (first ∷ take (i + 1) ns)
more_numbers least before first ns i within le_before le_own all =
    let was = lower least before le_before (first ∷ take i ns) all in
    All-cons (λ n. least ≤ n) first (take (i + 1) ns) (All-head (λ n. least ≤ n) first (take i ns) was)
    (All-more (λ n. least ≤ n) ns i 0 within (All-tail (λ n. least ≤ n) first (take i ns) was) le_own)
