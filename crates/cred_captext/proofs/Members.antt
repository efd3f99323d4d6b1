-- The capabilities of a set, in order.
use Rattle.std.proofs.Common.{◌≡◌, inl, inr, ℕ, zero, suc, ◌+◌, ◌≤◌, ◌==◌, ◌&&◌}
use Rattle.std.proofs.Common.{◌||◌, nat_lt, Bool, true, false, List, [], ◌∷◌, ◌++◌}
use Rattle.std.proofs.Common.{filter, refl, sym, ap, subst, ◌∙◌, cond, arith}
use Rattle.std.specs.List.{range_with_len, fold, AllByRecursion}
use Rattle.std.proofs.lemmas.Bool.{lt-ltb, le-ltb, eq-eqb, ne_eqb, cases_order, cases_lt}
use Rattle.std.proofs.lemmas.List.{map-id, append-nil, append_assoc, flat_map_more}
use Rattle.std.proofs.lemmas.List.Elements.{filter-append}
use Rattle.std.proofs.lemmas.List.FromFn.{map-range_with_len_more}
use Rattle.std.proofs.lemmas.Nat.Bits.{bit_at_above}
use Rattle.cred_caps.specs.Caps.{Caps, IsCap, IsCaps, empty, has, with}
use Rattle.cred_caps.proofs.SetLaws.{has-with, has-empty, same_caps}
use Rattle.cred_captext.specs.Names.{lowercase_name}
use Rattle.cred_captext.specs.Printed.{cap_numbers_below, cap_numbers}
use Rattle.cred_captext.specs.Pieces.{comma_names, comma_text, are_some}

-- ---- one more number

range-more : (n : ℕ) → range_with_len 0 (n + 1) ≡ range_with_len 0 n ++ n ∷ []
range-more n =
    sym (map-id (range_with_len 0 (n + 1)))
    ∙ map-range_with_len_more (λ x. x) 0 n n (omega arith)
    ∙ ap (λ xs. xs ++ n ∷ []) (map-id (range_with_len 0 n))

pub members-more : (n : ℕ) (set : Caps)
    → cap_numbers_below (n + 1) set ≡ cap_numbers_below n set ++ cond (has set n) (n ∷ []) []
unfolding cap_numbers_below
members-more n set =
    ap (filter (has set)) (range-more n) ∙ filter-append (has set) (range_with_len 0 n) (n ∷ [])

pub members-none : (set : Caps) → cap_numbers_below 0 set ≡ []
unfolding cap_numbers_below
members-none set = refl

pub members-with : (n : ℕ) (set : Caps) → has set n ≡ true
    → cap_numbers_below (n + 1) set ≡ cap_numbers_below n set ++ n ∷ []
members-with n set is =
    members-more n set ∙ ap (λ t. cap_numbers_below n set ++ cond t (n ∷ []) []) is

pub members-without : (n : ℕ) (set : Caps) → has set n ≡ false
    → cap_numbers_below (n + 1) set ≡ cap_numbers_below n set
members-without n set is =
    members-more n set ∙ ap (λ t. cap_numbers_below n set ++ cond t (n ∷ []) []) is
    ∙ append-nil (cap_numbers_below n set)

-- ---- they are capabilities

pub all-append : {X : Type 0} (P : X → Type 0) (xs ys : List X) → AllByRecursion P xs
    → AllByRecursion P ys → AllByRecursion P (xs ++ ys)
all-append P [] ys left right = right
all-append P (x ∷ xs) ys left right = (left.0, all-append P xs ys left.1 right)

one-cap : (n : ℕ) (t : Bool) → IsCap n → AllByRecursion IsCap (cond t (n ∷ []) [])
one-cap n true cap = (cap, tt)
one-cap n false cap = tt

pub members-are : (n : ℕ) (set : Caps) → n ≤ 41 → AllByRecursion IsCap (cap_numbers_below n set)
members-are zero set small = subst (AllByRecursion IsCap) (sym (members-none set)) tt
members-are (suc n) set small =
    let more : cap_numbers_below (suc n) set ≡ cap_numbers_below n set ++ cond (has set n) (n ∷ []) [] =
    ap (λ k. cap_numbers_below k set) (let e : suc n ≡ n + 1 = omega arith in e)
    ∙ members-more n set in
    let below : n ≤ 41 = omega arith in
    let cap : IsCap n = omega arith in
    subst (AllByRecursion IsCap) (sym more)
    (all-append IsCap (cap_numbers_below n set) (cond (has set n) (n ∷ []) []) (members-are n set below)
    (one-cap n (has set n) cap))

-- ---- they are the set

pub fold-append : {A B : Type 0} (f : B → A → B) (b : B) (xs ys : List A)
    → fold f b (xs ++ ys) ≡ fold f (fold f b xs) ys
fold-append f b [] ys = refl
fold-append f b (x ∷ xs) ys = fold-append f (f b x) xs ys

or-false : (x : Bool) → (x || false) ≡ x
or-false true = refl
or-false false = refl

with-step : (k n : ℕ) (x : Bool) → (k ≡ n → x ≡ true)
    → ((nat_lt k n && x) || (n == k)) ≡ (nat_lt k (n + 1) && x)
with-step k n x member =
    elim (cases_order k n) [
      | inl same ↦
          let lt : nat_lt k n ≡ false = le-ltb k n (omega arith) in
          let eq : (n == k) ≡ true = eq-eqb n k (sym same) in
          let next : nat_lt k (n + 1) ≡ true = lt-ltb k (n + 1) (omega arith) in
          let is : x ≡ true = member same in
          rw (lt, eq, next, is) refl
      | inr (inl less) ↦
          let lt : nat_lt k n ≡ true = lt-ltb k n less in
          let eq : (n == k) ≡ false = ne_eqb n k (λ same. omega arith) in
          let next : nat_lt k (n + 1) ≡ true = lt-ltb k (n + 1) (omega arith) in
          rw (lt, eq, next) (or-false x)
      | inr (inr more) ↦
          let lt : nat_lt k n ≡ false = le-ltb k n (omega arith) in
          let eq : (n == k) ≡ false = ne_eqb n k (λ same. omega arith) in
          let next : nat_lt k (n + 1) ≡ false = le-ltb k (n + 1) (omega arith) in
          rw (lt, eq, next) refl
    ]

without-step : (k n : ℕ) (x : Bool) → (k ≡ n → x ≡ false)
    → (nat_lt k n && x) ≡ (nat_lt k (n + 1) && x)
without-step k n x other =
    elim (cases_order k n) [
      | inl same ↦
          let lt : nat_lt k n ≡ false = le-ltb k n (omega arith) in
          let next : nat_lt k (n + 1) ≡ true = lt-ltb k (n + 1) (omega arith) in
          let is : x ≡ false = other same in
          rw (lt, next, is) refl
      | inr (inl less) ↦
          let lt : nat_lt k n ≡ true = lt-ltb k n less in
          let next : nat_lt k (n + 1) ≡ true = lt-ltb k (n + 1) (omega arith) in
          rw (lt, next) refl
      | inr (inr more) ↦
          let lt : nat_lt k n ≡ false = le-ltb k n (omega arith) in
          let next : nat_lt k (n + 1) ≡ false = le-ltb k (n + 1) (omega arith) in
          rw (lt, next) refl
    ]

folded-more : (n : ℕ) (set : Caps) (k : ℕ)
    → ((j : ℕ) → has (fold with empty (cap_numbers_below n set)) j ≡ (nat_lt j n && has set j))
    → has (fold with empty (cap_numbers_below (n + 1) set)) k ≡ (nat_lt k (n + 1) && has set k)
folded-more n set k below =
    elim (has set n) as
    (λ t. has set n ≡ t
    → has (fold with empty (cap_numbers_below (n + 1) set)) k ≡ (nat_lt k (n + 1) && has set k)) [
      | true ↦ λ is.
          ap (λ xs. has (fold with empty xs) k) (members-with n set is)
          ∙ ap (λ s. has s k) (fold-append with empty (cap_numbers_below n set) (n ∷ []))
          ∙ has-with (fold with empty (cap_numbers_below n set)) n k
          ∙ ap (λ t. t || (n == k)) (below k)
          ∙ with-step k n (has set k) (λ same. ap (has set) same ∙ is)
      | false ↦ λ is.
          ap (λ xs. has (fold with empty xs) k) (members-without n set is)
          ∙ below k
          ∙ without-step k n (has set k) (λ same. ap (has set) same ∙ is)
    ] refl

folded : (n : ℕ) (set : Caps) (k : ℕ)
    → has (fold with empty (cap_numbers_below n set)) k ≡ (nat_lt k n && has set k)
folded zero set k =
    ap (λ xs. has (fold with empty xs) k) (members-none set) ∙ has-empty k
    ∙ ap (λ t. t && has set k) (sym (le-ltb k 0 (omega arith)))
folded (suc n) set k =
    subst (λ m. has (fold with empty (cap_numbers_below m set)) k ≡ (nat_lt k m && has set k))
    (let e : n + 1 ≡ suc n = omega arith in e)
    (folded-more n set k (folded n set))

in-set : (set : Caps) (k : ℕ) → IsCaps set → (nat_lt k 41 && has set k) ≡ has set k
in-set set k caps =
    elim (cases_lt k 41) [
      | inl lt ↦ let is : nat_lt k 41 ≡ true = lt-ltb k 41 lt in rw is refl
      | inr past ↦
          let is : nat_lt k 41 ≡ false = le-ltb k 41 past in
          let none : has set k ≡ false = ap (λ d. d == 1) (bit_at_above set 41 k caps past) in
          rw (is, none) refl
    ]

-- the set of its members
pub members-set : (set : Caps) → IsCaps set → fold with empty (cap_numbers set) ≡ set
members-set set caps =
    same_caps (fold with empty (cap_numbers set)) set (λ k. folded 41 set k ∙ in-set set k caps)

-- ---- how they are written

pub joined-more : (ns : List ℕ) (n : ℕ)
    → comma_names (ns ++ n ∷ []) ≡ comma_names ns ++ (comma_text (are_some ns) ++ lowercase_name n)
joined-more [] n = append-nil (lowercase_name n)
joined-more (m ∷ ns) n = sym (flat_map_more (λ k. 44 ∷ lowercase_name k) (lowercase_name m) ns n)

some-more : (ns : List ℕ) (n : ℕ) → are_some (ns ++ n ∷ []) ≡ true
some-more [] n = refl
some-more (m ∷ ns) n = refl

-- what was written of the members below a number, and whether it is something
pub record AreWritten (before after : List ℕ) (behind : Bool) (n : ℕ) (set : Caps) : Type 0 where
  pub text : after ≡ before ++ comma_names (cap_numbers_below n set)
  pub comma : behind ≡ are_some (cap_numbers_below n set)

pub written-none : (before : List ℕ) (set : Caps) → AreWritten before before false 0 set
written-none before set = record {
  text = sym (ap (λ ns. before ++ comma_names ns) (members-none set) ∙ append-nil before);
  comma = ap are_some (sym (members-none set));
}

pub written-with : (before after next : List ℕ) (comma : Bool) (n cap : ℕ) (set : Caps)
    → AreWritten before after comma n set → cap ≡ n → has set cap ≡ true
    → next ≡ after ++ (comma_text comma ++ lowercase_name cap) → AreWritten before next true (n + 1) set
written-with before after next comma n cap set are same member is =
    let holds : has set n ≡ true = sym (ap (has set) same) ∙ member in
    record {
      text = is
          ∙ ap (λ k. after ++ (comma_text comma ++ lowercase_name k)) same
          ∙ ap (λ t. after ++ (comma_text t ++ lowercase_name n)) are.comma
          ∙ ap (λ x. x ++ (comma_text (are_some (cap_numbers_below n set)) ++ lowercase_name n)) are.text
          ∙ append_assoc before (comma_names (cap_numbers_below n set))
          (comma_text (are_some (cap_numbers_below n set)) ++ lowercase_name n)
          ∙ ap (λ x. before ++ x) (sym (joined-more (cap_numbers_below n set) n))
          ∙ ap (λ ns. before ++ comma_names ns) (sym (members-with n set holds));
      comma = sym (ap are_some (members-with n set holds) ∙ some-more (cap_numbers_below n set) n);
    }

pub written-without : (before after : List ℕ) (comma : Bool) (n cap : ℕ) (set : Caps)
    → AreWritten before after comma n set → cap ≡ n → has set cap ≡ false
    → AreWritten before after comma (n + 1) set
written-without before after comma n cap set are same other =
    let holds : has set n ≡ false = sym (ap (has set) same) ∙ other in
    record {
      text = are.text ∙ ap (λ ns. before ++ comma_names ns) (sym (members-without n set holds));
      comma = are.comma ∙ ap are_some (sym (members-without n set holds));
    }
