-- The names of capabilities: no name begins another.
use Rattle.std.proofs.Common.{◌≡◌, ℕ, zero, suc, ◌+◌, ◌<◌, ◌≤◌, not, ◌&&◌, nat_lt, nat_le}
use Rattle.std.proofs.Common.{inl, inr, Bool, true, false, List, [], ◌∷◌, ◌++◌, length, take}
use Rattle.std.proofs.Common.{drop, get_or, Some, None, refl, sym, ap, subst, ◌∙◌, cond}
use Rattle.std.proofs.Common.{arith}
use Rattle.std.specs.List.{list_all, position, position_or_len}
use Rattle.std.specs.Str.{bytes_eq}
use Rattle.std.proofs.lemmas.Bool.{and_parts, not-true, both_ways, true_from_ne_false, ltb-false}
use Rattle.std.proofs.lemmas.Bool.{leb-true, cases_lt}
use Rattle.std.proofs.lemmas.List.{take_at, append-nil, length-append}
use Rattle.std.proofs.lemmas.List.{take-append-drop, get_or_default, get_or_past}
use Rattle.std.proofs.lemmas.List.Folds.{list_any_at, list_all_at, Any-from_list_any}
use Rattle.std.proofs.lemmas.List.Quantifiers.{position-Some}
use Rattle.std.proofs.lemmas.List.Sums.{fails_before_first}
use Rattle.std.proofs.lemmas.Slice.Eq.{bytes_eq-Decides}
use Rattle.cred_caps.specs.Caps.{IsCap}
use Rattle.cred_caps.specs.Names.{cap_names}
use Rattle.cred_captext.specs.Names.{lowercase_names, lowercase_name, cap_of_lowercase_name, begins_with, begins_name}

-- ---- a list of which none begins another

apart_from : List ℕ → List ℕ → Bool
apart_from x y = not (begins_with x y) && not (begins_with y x)

are_apart : List (List ℕ) → Bool
are_apart [] = true
are_apart (x ∷ xs) = list_all (apart_from x) xs && are_apart xs

all-at : {X : Type 0} (p : X → Bool) (xs : List X) (i : ℕ) (d : X) → i < length xs
    → list_all p xs ≡ true → p (get_or xs i d) ≡ true
all-at p xs i d within all =
    true_from_ne_false _ (λ not. both_ways _ (list_all_at p xs i d within not) all)

refused : (x y : List ℕ) → apart_from x y ≡ true
    → (begins_with x y ≡ false) × (begins_with y x ≡ false)
unfolding apart_from
refused x y is = let parts = and_parts _ _ is in (not-true _ parts.0, not-true _ parts.1)

one-place : (xs : List (List ℕ)) (i j : ℕ) → are_apart xs ≡ true → i < length xs → j < length xs
    → begins_with (get_or xs i []) (get_or xs j []) ≡ true → i ≡ j
unfolding are_apart
one-place [] i j apart i_in j_in begins = absurd (omega arith)
one-place (x ∷ xs) zero zero apart i_in j_in begins = refl
one-place (x ∷ xs) zero (suc j) apart i_in j_in begins =
    let each : list_all (apart_from x) xs ≡ true = (and_parts _ _ apart).0 in
    let lt : j < length xs = omega arith in
    absurd (both_ways _ (refused x _ (all-at (apart_from x) xs j [] lt each)).0 begins)
one-place (x ∷ xs) (suc i) zero apart i_in j_in begins =
    let each : list_all (apart_from x) xs ≡ true = (and_parts _ _ apart).0 in
    let lt : i < length xs = omega arith in
    absurd (both_ways _ (refused x _ (all-at (apart_from x) xs i [] lt each)).1 begins)
one-place (x ∷ xs) (suc i) (suc j) apart i_in j_in begins =
    let i_lt : i < length xs = omega arith in
    let j_lt : j < length xs = omega arith in
    ap suc (one-place xs i j (and_parts _ _ apart).1 i_lt j_lt begins)

-- ---- the table

names-apart : are_apart lowercase_names ≡ true
unfolding are_apart apart_from cap_names
names-apart = refl

pub names-count : length lowercase_names ≡ 41
unfolding cap_names
names-count = refl

names-first : list_all (λ name. begins_with name (99 ∷ [])) lowercase_names ≡ true
unfolding cap_names
names-first = refl

names-short : list_all (λ name. nat_le (length name) 22) lowercase_names ≡ true
unfolding cap_names
names-short = refl

pub in-table : (n : ℕ) → IsCap n → n < length lowercase_names
in-table n cap = omega (arith, names-count)

-- what is no capability has no name
pub name-short : (n : ℕ) → length (lowercase_name n) ≤ 22
name-short n =
    elim (cases_lt n (length lowercase_names)) [
      | inl within ↦
          leb-true _ _ (all-at (λ name. nat_le (length name) 22) lowercase_names n [] within names-short)
      | inr past ↦ let none : length (lowercase_name n)
          ≡ 0 = ap length (get_or_past lowercase_names n [] past) in omega arith
    ]

-- ---- fronts of names

begins-append : (w v : List ℕ) → begins_with (w ++ v) w ≡ true
begins-append w v = (bytes_eq-Decides (take (length w) (w ++ v)) w).1 (take_at w v (length w) refl)

pub prefix-begins : (n : ℕ) (w v : List ℕ) → w ++ v ≡ lowercase_name n → begins_with (lowercase_name n) w ≡ true
prefix-begins n w v is = subst (λ name. begins_with name w ≡ true) is (begins-append w v)

-- some name begins so where one does
pub begins : (n : ℕ) (w v : List ℕ) → IsCap n → w ++ v ≡ lowercase_name n → begins_name w ≡ true
begins n w v cap is =
    list_any_at (λ name. begins_with name w) lowercase_names n [] (in-table n cap) (prefix-begins n w v is)

-- a name that begins so
pub record Fronts (w : List ℕ) : Type 0 where
  pub number : ℕ
  pub rest : List ℕ
  pub cap : IsCap number
  pub name : w ++ rest ≡ lowercase_name number

pub begun-by : (w : List ℕ) → begins_name w ≡ true → Fronts w
begun-by w is =
    let (k, x, within, at, begins) = Any-from_list_any (λ name. begins_with name w) lowercase_names is in
    let same : get_or lowercase_names k [] ≡ x = get_or_default lowercase_names k [] x within ∙ at in
    let prefix : take (length w) (lowercase_name k) ≡ w =
    ap (take (length w)) same ∙ (bytes_eq-Decides (take (length w) x) w).0 begins in
    record {
      number = k;
      rest = drop (length w) (lowercase_name k);
      cap = omega (arith, names-count);
      name = ap (λ v. v ++ drop (length w) (lowercase_name k)) (sym prefix)
          ∙ take-append-drop (length w) (lowercase_name k);
    }

-- ---- whole names

pub record IsName (w : List ℕ) (n : ℕ) : Type 0 where
  pub cap : IsCap n
  pub name : lowercase_name n ≡ w

pub named-is : (w : List ℕ) (n : ℕ) → cap_of_lowercase_name w ≡ Some n → IsName w n
named-is w n is =
    let found = position-Some (bytes_eq w) lowercase_names n [] is in
    record {
      cap = let lt : n < length lowercase_names = found.0 in omega (arith, names-count);
      name = sym ((bytes_eq-Decides w (lowercase_name n)).0 found.1);
    }

-- a front of a name that is a name is that name
same-name : (m n : ℕ) (v : List ℕ) → IsCap m → IsCap n → lowercase_name m ++ v ≡ lowercase_name n → n ≡ m
same-name m n v m_cap n_cap is =
    one-place lowercase_names n m names-apart (in-table n n_cap) (in-table m m_cap)
    (prefix-begins n (lowercase_name m) v is)

no-place : (p : List ℕ → Bool) (n : ℕ) → n < length lowercase_names → p (lowercase_name n) ≡ true
    → position p lowercase_names ≡ None → ⊥
no-place p n within holds none =
    elim (nat_lt (position_or_len p lowercase_names) (length lowercase_names)) as
    (λ t. nat_lt (position_or_len p lowercase_names) (length lowercase_names) ≡ t
    → cond t (Some (position_or_len p lowercase_names)) None ≡ None → ⊥) [
      | true ↦ λ t bad. cc
      | false ↦ λ t same.
          let from : length lowercase_names ≤ position_or_len p lowercase_names = ltb-false _ _ t in
          let before : n < position_or_len p lowercase_names = omega arith in
          both_ways _ (fails_before_first p lowercase_names n [] before) holds
    ] refl none

pub named : (n : ℕ) → IsCap n → cap_of_lowercase_name (lowercase_name n) ≡ Some n
named n cap =
    elim (cap_of_lowercase_name (lowercase_name n)) as (λ o. cap_of_lowercase_name (lowercase_name n) ≡ o → o ≡ Some n) [
      | None ↦ λ none.
          absurd (no-place (bytes_eq (lowercase_name n)) n (in-table n cap)
          ((bytes_eq-Decides (lowercase_name n) (lowercase_name n)).1 refl) none)
      | Some m ↦ λ some.
          let is = named-is (lowercase_name n) m some in
          ap Some (sym (same-name m n [] is.cap cap (append-nil (lowercase_name m) ∙ is.name)))
    ] refl

pub unfinished : (n b : ℕ) (w v : List ℕ) → IsCap n → w ++ b ∷ v ≡ lowercase_name n → cap_of_lowercase_name w ≡ None
unfinished n b w v cap prefix =
    elim (cap_of_lowercase_name w) as (λ o. cap_of_lowercase_name w ≡ o → o ≡ None) [
      | None ↦ λ none. refl
      | Some m ↦ λ some.
          let is = named-is w m some in
          let same = same-name m n (b ∷ v) is.cap cap (ap (λ x. x ++ b ∷ v) is.name ∙ prefix) in
          let longer : length w + suc (length v)
          ≡ length (lowercase_name n) = sym (length-append w (b ∷ v)) ∙ ap length prefix in
          let equal : length (lowercase_name n) ≡ length w = ap (λ k. length (lowercase_name k)) same
          ∙ ap length is.name in
          absurd (omega arith)
    ] refl

-- each name begins with `c`
pub record Cs (n : ℕ) : Type 0 where
  pub rest : List ℕ
  pub name : 99 ∷ rest ≡ lowercase_name n

pub first-byte : (n : ℕ) → IsCap n → Cs n
first-byte n cap =
    let begins = all-at (λ name. begins_with name (99 ∷ [])) lowercase_names n []
    (in-table n cap) names-first in
    let prefix : take 1 (lowercase_name n)
    ≡ 99 ∷ [] = (bytes_eq-Decides (take 1 (lowercase_name n)) (99 ∷ [])).0 begins in
    record {
      rest = drop 1 (lowercase_name n);
      name = ap (λ v. v ++ drop 1 (lowercase_name n)) (sym prefix) ∙ take-append-drop 1 (lowercase_name n);
    }
