-- What is referred to can be read where nothing is left in the words of a slot to which nothing that is referred to belongs.
use Rattle.std.proofs.Common.{◌≡◌, ◌≢◌, ℕ, ◌+◌, ◌<◌, ◌==◌, not, ◌||◌, Bool, true, false, cond, List, [], ◌∷◌, Option, None, Some, slice_get, slice_set, get_or}
use Rattle.std.proofs.Common.{get_or-set_other, ◌⊎◌, inl, inr, refl, sym, ap, ◌∙◌, subst, arith}
use Rattle.std.specs.List.{All, count_by, list_any, range_with_len}
use Rattle.std.specs.Option.{IsSome, option_map_or}
use Rattle.std.proofs.lemmas.Bool.{cases_eq, eq-eqb, eqb-true, false≢true}
use Rattle.std.proofs.lemmas.List.Elements.{All-head, All-tail}
use Rattle.std.proofs.lemmas.List.FromFn.{get_or-range_with_len, length-range_with_len}
use Rattle.cred_ids.specs.Limits.{SLOTS, slots}
use Rattle.cred_record.specs.Credential.{Credential}
use Rattle.cred_model.proofs.Lists.{found}
use Rattle.cred_slots.specs.Table.{Table, free_in, is_kept_in, is_live_in, references, references_to, is_sealed_in, swept_table_if_full}
use Rattle.cred_slots.proofs.Counting.{count-cons}
use Rattle.cred_tables.specs.Kept.{AreFilled}
use Rattle.cred_tables.proofs.Filled.{NoMore}

-- whatever is left in the slot's words
pub filled_spare : (store : List (Option Credential)) (slot : ℕ) (v : Option Credential) {t later : Table} → later.sealed ≡ t.sealed → NoMore t later
    → ((n : ℕ) → slice_get t.sealed n ≡ Some slot → 0 < references_to later n → ⊥) → AreFilled store t → AreFilled (slice_set store slot v) later
filled_spare store slot v {t = t} {later = later} sealed fewer unused is =
    record { each = λ n place at some. by n place (ap (λ ss. slice_get ss n) (sym sealed) ∙ at) some (cases_eq place slot) }
  where
    by : (n place : ℕ) → slice_get t.sealed n ≡ Some place → 0 < references_to later n → (place ≡ slot) ⊎ (place ≢ slot)
        → IsSome (get_or (slice_set store slot v) place None)
    by n place at some (inl same) = absurd (unused n (at ∙ ap Some same) some)
    by n place at some (inr ne) = rw (get_or-set_other store slot place v None ne) (is.each n place at (fewer n some))

-- ---- numbers that count

at_count : (P : ℕ → Type 0) (n x : ℕ) (test : Bool) (rest : ℕ) → (x == n) ≡ test → P x → 0 < cond {A = ℕ} test 1 0 + rest → (0 < rest → P n) → P n
at_count P n x true rest is holds some later = subst P (eqb-true x n is) holds
at_count P n x false rest is holds some later = later (omega (arith, some))

-- what holds of all holds of one that counts
pub count_found : (P : ℕ → Type 0) (xs : List ℕ) (n : ℕ) → All P xs → 0 < count_by (λ m. m == n) xs → P n
count_found P [] n each some = absurd (omega arith)
count_found P (x ∷ xs) n each some =
    let all = count-cons (λ m. m == n) x xs in
    at_count P n x (x == n) (count_by (λ m. m == n) xs) refl (All-head P x xs each) (omega arith)
    (λ more. count_found P xs n (All-tail P x xs each) more)

any_or : (a b : Bool) → b ≡ true → (a || b) ≡ true
any_or true b is = refl
any_or false b is = is

at_any : (test : ℕ → Bool) (n x : ℕ) (same : Bool) (xs : List ℕ) → (x == n) ≡ same → test n ≡ true → 0 < cond {A = ℕ} same 1 0 + count_by (λ m. m == n) xs
    → (0 < count_by (λ m. m == n) xs → list_any test xs ≡ true) → (test x || list_any test xs) ≡ true
at_any test n x true xs is passes some later = ap (λ b. b || list_any test xs) (ap test (eqb-true x n is) ∙ passes)
at_any test n x false xs is passes some later = any_or (test x) (list_any test xs) (later (omega (arith, some)))

-- a number that counts, and passes the test
pub any_counted : (test : ℕ → Bool) (xs : List ℕ) (n : ℕ) → test n ≡ true → 0 < count_by (λ m. m == n) xs → list_any test xs ≡ true
any_counted test [] n passes some = absurd (omega arith)
any_counted test (x ∷ xs) n passes some =
    let all = count-cons (λ m. m == n) x xs in
    at_any test n x (x == n) xs refl passes (omega arith) (λ more. any_counted test xs n passes more)

-- ---- a slot that is free

-- nothing that is referred to belongs to it
pub free_clear : (t : Table) (slot : ℕ) → free_in t ≡ Some slot → (n : ℕ) → slice_get t.sealed n ≡ Some slot → 0 < references_to (swept_table_if_full t) n → ⊥
free_clear t slot takes n at some =
    let room = swept_table_if_full t in
    let stands : is_sealed_in t.sealed slot n ≡ true = ap (λ o. option_map_or (λ k. k == slot) o false) at ∙ eq-eqb slot slot refl in
    let live : list_any (λ m. is_sealed_in t.sealed slot m) (references room) ≡ true =
    any_counted (λ m. is_sealed_in t.sealed slot m) (references room) n stands some in
    let Any : ℕ → Type 0 = λ k. Unit {0} in
    let not_live = (found Any (λ k. not (is_live_in room k)) slots slot takes (λ k d lt. tt)).1 in
    false≢true (sym (ap (λ b. not (b || is_kept_in t slot)) live) ∙ not_live)

range-within : (n : ℕ) → All (λ k. k < n) (range_with_len 0 n)
range-within n k d lt =
    let long = length-range_with_len 0 n in
    let small : k < n = omega arith in
    subst (λ m. m < n) (sym (get_or-range_with_len 0 n k d small)) (omega arith)

slots-within : All (λ k. k < SLOTS) slots
unfolding slots
slots-within = range-within SLOTS

pub free_within : (t : Table) (slot : ℕ) → free_in t ≡ Some slot → slot < SLOTS
free_within t slot takes =
    (found (λ k. k < SLOTS) (λ k. not (is_live_in (swept_table_if_full t) k)) slots slot takes slots-within).0
