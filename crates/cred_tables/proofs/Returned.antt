-- What is lent and comes back: lists as they were, places as they were.
use Rattle.std.proofs.Common.{◌≡◌, ◌≢◌, ℕ, zero, suc, ◌+◌, ◌==◌, Bool, cond, List, [], ◌∷◌, ◌++◌, Option, None, Some, slice_get, slice_set, get_or}
use Rattle.std.proofs.Common.{get_or-set_other, count_by, ◌⊎◌, inl, inr, refl, sym, ap, ◌∙◌, subst, arith}
use Rattle.std.specs.Option.{option_map_or}
use Rattle.std.proofs.lemmas.Bool.{cases_eq, eq-eqb, ne_eqb}
use Rattle.std.proofs.lemmas.List.Sums.{sum_by-cons, sum_by-append}
use Rattle.cred_record.specs.Credential.{Credential}
use Rattle.cred_model.specs.State.{SealedCred, no_credential}
use Rattle.cred_words.specs.Lists.{Has, IsTaken}
use Rattle.cred_tables.specs.Kept.{creds_in}
use Rattle.cred_tables.specs.Out.{cleared}

-- ---- an element that is taken from a list

module _ {A : Type 0} where
  rest : List A → List A
  rest [] = []
  rest (x ∷ xs) = xs

  has_there : (before : List A) (x : A) (after : List A) → Has (before ++ x ∷ after) x
  has_there [] x after = inl refl
  has_there (y ∷ before) x after = inr (has_there before x after)

  has_other : (before : List A) (x : A) (after : List A) (y : A) → Has (before ++ after) y → Has (before ++ x ∷ after) y
  has_other [] x after y has = inr has
  has_other (z ∷ before) x after y (inl is) = inl is
  has_other (z ∷ before) x after y (inr has) = inr (has_other before x after y has)

  pub has_taken : (old : List A) (x : A) (new : List A) → IsTaken old x new → Has old x
  has_taken old x new (before, after, is, gone) = subst (λ xs. Has xs x) (sym is) (has_there before x after)

  -- what is left was there
  pub taken_has : (old : List A) (x : A) (new : List A) → IsTaken old x new → (y : A) → Has new y → Has old y
  taken_has old x new (before, after, is, gone) y has =
      subst (λ xs. Has xs y) (sym is) (has_other before x after y (subst (λ xs. Has xs y) gone has))

  pub back_new : (x : A) (old new : List A) → IsTaken (x ∷ old) x new → (Has old x → ⊥) → new ≡ old
  unfolding rest
  back_new x old new ([], after, is, gone) fresh = gone ∙ sym (ap rest is)
  back_new x old new (y ∷ before, after, is, gone) fresh =
      absurd (fresh (subst (λ xs. Has xs x) (sym (ap rest is)) (has_there before x after)))

  -- also where it is lent twice
  pub back_newer : (y x : A) (old new : List A) → IsTaken (y ∷ x ∷ old) y new → (Has old y → ⊥) → new ≡ x ∷ old
  unfolding rest
  back_newer y x old new ([], after, is, gone) fresh = gone ∙ sym (ap rest is)
  back_newer y x old new (z ∷ [], after, is, gone) fresh =
      let both : x ∷ old ≡ y ∷ after = ap rest is in
      let heads : z ∷ y ∷ [] ≡ y ∷ x ∷ [] = cc in
      gone ∙ cc
  back_newer y x old new (z ∷ w ∷ before, after, is, gone) fresh =
      absurd (fresh (subst (λ xs. Has xs y) (sym (ap rest (ap rest is))) (has_there before y after)))

  -- and where what was lent before it is taken first
  pub back_older : (y x : A) (old new : List A) → IsTaken (y ∷ x ∷ old) x new → (Has old x → ⊥) → (y ≡ x → ⊥) → new ≡ y ∷ old
  unfolding rest
  back_older y x old new ([], after, is, gone) fresh ne = absurd (ne cc)
  back_older y x old new (z ∷ [], after, is, gone) fresh ne =
      let both : x ∷ old ≡ x ∷ after = ap rest is in
      let heads : y ≡ z = cc in
      gone ∙ cc
  back_older y x old new (z ∷ w ∷ before, after, is, gone) fresh ne =
      absurd (fresh (subst (λ xs. Has xs x) (sym (ap rest (ap rest is))) (has_there before x after)))

module _ {A : Type 0} (test : A → Bool) where
  pub weigh : A → ℕ
  weigh x = cond (test x) 1 0

  pub count_one : (x : A) (xs : List A) → count_by test (x ∷ xs) ≡ weigh x + count_by test xs
  unfolding weigh
  count_one x xs = sum_by-cons (λ y. cond (test y) 1 0) x xs

  pub count_both : (xs ys : List A) → count_by test (xs ++ ys) ≡ count_by test xs + count_by test ys
  count_both xs ys = sum_by-append (λ y. cond (test y) 1 0) xs ys

  -- what was taken and what is left count as before
  pub taken_count : (old : List A) (x : A) (new : List A) → IsTaken old x new → count_by test old ≡ count_by test (x ∷ new)
  taken_count old x new (before, after, is, gone) =
      let all = ap (count_by test) is ∙ count_both before (x ∷ after) in
      let less = ap (count_by test) gone ∙ count_both before after in
      let one = count_one x after in
      let more = count_one x new in
      omega (arith, all, less, one, more)

-- ---- what is read where something was written

pub set_same : {A : Type 0} (xs : List A) (n : ℕ) (x : A) → slice_get xs n ≡ Some x → slice_set xs n x ≡ xs
set_same [] n x at = refl
set_same (y ∷ xs) zero x at = let same : y ≡ x = cc in ap (λ z. z ∷ xs) (sym same)
set_same (y ∷ xs) (suc n) x at = ap (λ zs. y ∷ zs) (set_same xs n x at)

pub set_twice : {A : Type 0} (xs : List A) (n : ℕ) (x y : A) → slice_set (slice_set xs n x) n y ≡ slice_set xs n y
set_twice [] n x y = refl
set_twice (z ∷ xs) zero x y = refl
set_twice (z ∷ xs) (suc n) x y = ap (λ zs. z ∷ zs) (set_twice xs n x y)

-- a place that was something else for a while
pub set_again : {A : Type 0} (xs : List A) (n : ℕ) (x y : A) → slice_get xs n ≡ Some y → slice_set (slice_set xs n x) n y ≡ xs
set_again xs n x y at = set_twice xs n x y ∙ set_same xs n y at

-- ---- a slot in whose words is nothing

none_there : (store : List (Option Credential)) (slot : ℕ) → get_or (slice_set store slot None) slot None ≡ None
none_there [] slot = refl
none_there (c ∷ store) zero = refl
none_there (c ∷ store) (suc slot) = none_there store slot

seen_as : ℕ → Option Credential → SealedCred
seen_as s o = record { cred = option_map_or (λ c. c) o no_credential; slot = s }

cleared_one : (store : List (Option Credential)) (slot s : ℕ)
    → seen_as s (get_or (slice_set store slot None) s None) ≡ cond (s == slot) (seen_as s None) (seen_as s (get_or store s None))
cleared_one store slot s = by (cases_eq s slot)
  where
    by : (s ≡ slot) ⊎ (s ≢ slot)
        → seen_as s (get_or (slice_set store slot None) s None) ≡ cond (s == slot) (seen_as s None) (seen_as s (get_or store s None))
    by (inl same) =
        ap (λ n. seen_as s (get_or (slice_set store slot None) n None)) same ∙ ap (seen_as s) (none_there store slot)
        ∙ sym (ap (λ b. cond b (seen_as s None) (seen_as s (get_or store s None))) (eq-eqb s slot same))
    by (inr ne) =
        ap (seen_as s) (get_or-set_other store slot s None None ne)
        ∙ sym (ap (λ b. cond b (seen_as s None) (seen_as s (get_or store s None))) (ne_eqb s slot ne))

pub cleared_creds : (store : List (Option Credential)) (slot : ℕ) (slots : List ℕ)
    → creds_in (slice_set store slot None) slots ≡ cleared slot (creds_in store slots)
unfolding seen_as
cleared_creds store slot [] = refl
cleared_creds store slot (s ∷ slots) = λ k. cleared_one store slot s k ∷ cleared_creds store slot slots k
