-- What is referred to can be read, whatever is given up, added or sealed.
use Rattle.std.proofs.Common.{◌≡◌, ◌≢◌, ℕ, zero, suc, ◌<◌, ◌≤◌, ◌==◌, Bool, true, false, cond, List, [], ◌∷◌, ◌++◌, length, Option, None, Some, is_some}
use Rattle.std.proofs.Common.{slice_get, slice_set, get_or, get_or-set_same, get_or-set_other, ◌⊎◌, inl, inr, refl, sym, ap, ◌∙◌, subst, arith}
use Rattle.std.specs.List.{count_by}
use Rattle.std.specs.Option.{IsSome}
use Rattle.std.proofs.lemmas.Bool.{cases_eq, ne_eqb}
use Rattle.std.proofs.lemmas.Option.{same_Some}
use Rattle.cred_record.specs.Credential.{Credential}
use Rattle.cred_slots.specs.Table.{Table, IsSameBag, least_free_in, references_to, swept_table, swept_table_if_full}
use Rattle.cred_slots.proofs.Counting.{count-cons, count-append}
use Rattle.cred_tables.specs.Kept.{AreFilled, Seals, SealsKept}

-- no number is referred to that wasn't
abbrev pub NoMore : Table → Table → Type 0
NoMore before after = (n : ℕ) → 0 < references_to after n → 0 < references_to before n

-- no number was given up that wasn't
abbrev NoLater : Table → Table → Type 0
NoLater before after =
    (n : ℕ) → count_by (λ k. k == n) after.deferred ≤ count_by (λ k. k == n) before.deferred

pub filled_same : {store : List (Option Credential)} {t later : Table} → later.sealed ≡ t.sealed → NoMore t later → AreFilled store t → AreFilled store later
filled_same sealed fewer is = record {
  each = λ n slot at some. is.each n slot (ap (λ ss. slice_get ss n) (sym sealed) ∙ at) (fewer n some);
}

-- ---- references that are given up

pub no_more_dropped : (t later : Table) (ms : List ℕ) → IsSameBag t.held (ms ++ later.held) → later.deferred ≡ t.deferred ++ ms → NoMore t later
no_more_dropped t later ms drops late n some =
    let test : ℕ → Bool = λ k. k == n in
    let held = drops.counts test ∙ count-append test ms later.held in
    let deferred = ap (λ (ds : List ℕ). count_by test ds) late ∙ count-append test t.deferred ms in
    let all = count-append test later.held later.deferred in
    let each = count-append test t.held t.deferred in
    omega (arith, some, held, deferred, all, each)

-- a sweep drops them
pub no_more_swept : (t : Table) → NoMore t (swept_table t)
no_more_swept t n some =
    let test : ℕ → Bool = λ k. k == n in
    let all = count-append test t.held [] in
    let each = count-append test t.held t.deferred in
    omega (arith, some, all, each)

none_later : (ds : List ℕ) (test : Bool) (n : ℕ) → count_by (λ k. k == n) (cond test ds []) ≤ count_by (λ k. k == n) ds
none_later ds true n = omega arith
none_later ds false n = omega arith

-- and so does the room that is made where no slot is free
no_later : (t : Table) {ds : List ℕ} → ds ≡ (swept_table_if_full t).deferred → (n : ℕ) → count_by (λ k. k == n) ds ≤ count_by (λ k. k == n) t.deferred
no_later t is n =
    subst (λ (ds : List ℕ). count_by (λ k. k == n) ds ≤ count_by (λ k. k == n) t.deferred) (sym is)
    (none_later t.deferred (is_some (least_free_in t)) n)

-- ---- references that are added

counts_none : (b : Bool) → b ≡ false → cond {A = ℕ} b 1 0 ≡ 0
counts_none true is = cc
counts_none false is = refl

-- of other numbers than this there are no more
no_others : (t later : Table) (m : ℕ) → IsSameBag later.held (m ∷ t.held) → NoLater t later → (n : ℕ) → m ≢ n → 0 < references_to later n
    → 0 < references_to t n
no_others t later m adds fewer n ne some =
    let test : ℕ → Bool = λ k. k == n in
    let held = adds.counts test ∙ count-cons test m t.held in
    let none = counts_none (m == n) (ne_eqb m n ne) in
    let late = fewer n in
    let all = count-append test later.held later.deferred in
    let each = count-append test t.held t.deferred in
    omega (arith, some, held, none, late, all, each)

-- one more reference to what is referred to
no_more_added : (t later : Table) (m : ℕ) → IsSameBag later.held (m ∷ t.held) → NoLater t later → 0 < references_to t m → NoMore t later
no_more_added t later m adds fewer has n some = by (cases_eq m n)
  where
    by : (m ≡ n) ⊎ (m ≢ n) → 0 < references_to t n
    by (inl same) = subst (λ (k : ℕ). 0 < references_to t k) same has
    by (inr ne) = no_others t later m adds fewer n ne some

pub no_more_counted : (t later : Table) (m : ℕ) → IsSameBag later.held (m ∷ t.held) → later.deferred ≡ t.deferred → 0 < references_to t m → NoMore t later
no_more_counted t later m adds same has =
    no_more_added t later m adds
    (λ n. let late = ap (λ (ds : List ℕ). count_by (λ k. k == n) ds) same in omega (arith, late)) has

pub no_more_roomy : (t later : Table) (m : ℕ) → IsSameBag later.held (m ∷ t.held) → later.deferred ≡ (swept_table_if_full t).deferred → 0 < references_to t m
    → NoMore t later
no_more_roomy t later m adds room has = no_more_added t later m adds (no_later t room) has

-- ---- a number that is sealed

-- beside the new number, what was referred to before
pub no_more_sealed : {t later : Table} {number slot : ℕ} → Seals t later number slot → (n : ℕ) → n ≢ length t.sealed → 0 < references_to later n
    → 0 < references_to t n
no_more_sealed {t = t} {later = later} {number = number} seals n ne some =
    no_others t later number seals.held (no_later t seals.deferred) n (λ e. ne (sym e ∙ seals.counted)) some

pub no_more_finished : {t later : Table} {number base slot : ℕ} → SealsKept t later number base slot → (n : ℕ) → n ≢ length t.sealed
    → 0 < references_to later n → 0 < references_to t n
no_more_finished {t = t} {later = later} {number = number} {base = base} seals n ne some =
    let test : ℕ → Bool = λ k. k == n in
    let held = sym (count-cons test base later.held) ∙ seals.held.counts test ∙ count-cons test number t.held in
    let none = counts_none (number == n) (ne_eqb number n (λ e. ne (sym e ∙ seals.counted))) in
    let deferred = ap (λ (ds : List ℕ). count_by test ds) seals.deferred ∙ count-append test t.deferred (base ∷ []) in
    let one = count-cons test base [] in
    let all = count-append test later.held later.deferred in
    let each = count-append test t.held t.deferred in
    omega (arith, some, held, none, deferred, one, all, each)

before_last : (xs : List ℕ) (x y n : ℕ) → slice_get (xs ++ x ∷ []) n ≡ Some y → y ≢ x → (n ≢ length xs) × (slice_get xs n ≡ Some y)
before_last [] x y zero at ne = absurd (ne (sym (same_Some x y at)))
before_last [] x y (suc n) at ne = absurd (cc)
before_last (z ∷ xs) x y zero at ne = (λ e. absurd (omega arith), at)
before_last (z ∷ xs) x y (suc n) at ne = let r = before_last xs x y n at ne in (λ e. r.0 (omega (arith, e)), r.1)

-- where a credential is put in the slot of the number that is sealed
pub filled_put : (store : List (Option Credential)) (slot : ℕ) (c : Credential) {t later : Table} → slot < length store
    → later.sealed ≡ t.sealed ++ slot ∷ [] → ((n : ℕ) → n ≢ length t.sealed → 0 < references_to later n → 0 < references_to t n)
    → AreFilled store t → AreFilled (slice_set store slot (Some c)) later
filled_put store slot c {t = t} {later = later} within sealed fewer is = record {
  each = λ n place at some. by n place at some (cases_eq place slot);
}
  where
    by : (n place : ℕ) → slice_get later.sealed n ≡ Some place → 0 < references_to later n → (place ≡ slot) ⊎ (place ≢ slot)
        → IsSome (get_or (slice_set store slot (Some c)) place None)
    by n place at some (inl same) =
        rw (same, get_or-set_same store slot (Some c) None within) refl
    by n place at some (inr ne) =
        let old = before_last t.sealed slot place n (ap (λ ss. slice_get ss n) (sym sealed) ∙ at) ne in
        rw (get_or-set_other store slot place (Some c) None ne) (is.each n place old.1 (fewer n old.0 some))
