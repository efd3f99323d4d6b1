-- Which slots are live, by the flags.
use Rattle.std.proofs.Common.{◌≡◌, ◌≢◌, ◌⊎◌, ℕ, zero, suc, ◌+◌, ◌<◌, ◌≤◌, ◌==◌, ◌||◌, Bool, true, false, not, cond, List, [], length, get_or, map, find, refl}
use Rattle.std.proofs.Common.{sym, ap, ◌∙◌, subst, inl, inr, arith, nat_lt, Option, None, Some, is_some, slice_get}
use Rattle.std.specs.List.{count_by, list_any, range_with_len}
use Rattle.std.proofs.lemmas.List.FromFn.{get_or-map-range_with_len}
use Rattle.std.proofs.lemmas.List.Folds.{list_any-append}
use Rattle.std.proofs.lemmas.Bool.{cases_lt}
use Rattle.std.proofs.lemmas.Bool.Decides.{nat_tests}
use Rattle.cred_slots.specs.declared.row.Row.{Row}
use Rattle.cred_slots.specs.Table.{Table, is_sealed_in, is_live_in, least_free_in, swept_table, free_in}
use Rattle.cred_slots.specs.Flags.{in_either, first_unset}
use Rattle.cred_slots.specs.Rows.{row_at, repeated, held_in, held_count, late_count, AreSoundRows}
use Rattle.cred_slots.proofs.Counting.{weight, any-count, count-repeated, sum_only}
use Rattle.cred_slots.proofs.Tables.{room-free, room-full}
use Rattle.cred_ids.specs.Limits.{SLOTS, slots}

-- Two tests that agree below the end find the same.
pub find-same : (p q : ℕ → Bool) (a n : ℕ) → ((k : ℕ) → a ≤ k → k < a + n → p k ≡ q k) → find p (range_with_len a n) ≡ find q (range_with_len a n)
find-same p q a zero each = refl
find-same p q a (suc n) each =
    rw (each a (omega arith) (omega arith), find-same p q (a + 1) n (λ k l h. each k (omega arith) (omega arith))) refl

pub weight_none : (b : Bool) (n : ℕ) → n ≡ 0 → cond b n 0 ≡ 0
weight_none true n e = e
weight_none false n e = refl

weight_here : (sealed : List ℕ) (count : Row → ℕ) (row : Row) (slot : ℕ) → (0 < count row → slice_get sealed row.number ≡ Some slot)
    → weight count (is_sealed_in sealed slot) row ≡ count row
weight_here sealed count row slot stands = elim (cases_lt 0 (count row)) [
  | inl lt ↦
      let there = stands lt in
      let same : (slot == slot) ≡ true = grind (arith, nat_tests) in
      rw (there, same) refl
  | inr ge ↦
      let none : count row ≡ 0 = omega arith in
      weight_none (is_sealed_in sealed slot row.number) (count row) none ∙ sym none
]

pub weight_elsewhere : (sealed : List ℕ) (count : Row → ℕ) (row : Row) (slot i : ℕ) → i ≢ slot → (0 < count row → slice_get sealed row.number ≡ Some i)
    → weight count (is_sealed_in sealed slot) row ≡ 0
weight_elsewhere sealed count row slot i ne stands = elim (cases_lt 0 (count row)) [
  | inl lt ↦
      let there = stands lt in
      let other : (i == slot) ≡ false = grind (arith, nat_tests) in
      rw (there, other) refl
  | inr ge ↦ weight_none (is_sealed_in sealed slot row.number) (count row) (omega arith)
]

-- A row counts the references to all numbers in its slot.
count-in_slot : (rows : List Row) (sealed : List ℕ) (count : Row → ℕ) → length rows ≡ SLOTS
    → ((slot : ℕ) → slot < SLOTS → 0 < count (row_at rows slot) → slice_get sealed (row_at rows slot).number ≡ Some slot)
    → (slot : ℕ) → slot < SLOTS → count_by (is_sealed_in sealed slot) (repeated count rows) ≡ count (row_at rows slot)
count-in_slot rows sealed count long stands slot within =
    count-repeated count (is_sealed_in sealed slot) rows
    ∙ sum_only (weight count (is_sealed_in sealed slot)) rows slot (omega arith)
    (λ i h ne. weight_elsewhere sealed count (row_at rows i) slot i ne (stands i (omega arith)))
    ∙ weight_here sealed count (row_at rows slot) slot (stands slot within)

pub held-in_slot : {rows : List Row} {sealed deferred : List ℕ} {kept used late : List Bool} {held spare sealable referable : ℕ}
    → AreSoundRows rows sealed deferred kept used late held spare sealable referable
    → (slot : ℕ) → slot < SLOTS → count_by (is_sealed_in sealed slot) (held_in rows) ≡ (row_at rows slot).held
held-in_slot {rows = rows} {sealed = sealed} s slot within =
    count-in_slot rows sealed held_count s.all_rows (λ k h some. s.stands k h (omega arith)) slot within

pub late-in_slot : {rows : List Row} {sealed deferred : List ℕ} {kept used late : List Bool} {held spare sealable referable : ℕ}
    → AreSoundRows rows sealed deferred kept used late held spare sealable referable
    → (slot : ℕ) → slot < SLOTS → count_by (is_sealed_in sealed slot) deferred ≡ (row_at rows slot).late
late-in_slot {rows = rows} {sealed = sealed} s slot within =
    s.given_up.counts (is_sealed_in sealed slot)
    ∙ count-in_slot rows sealed late_count s.all_rows (λ k h some. s.stands k h (omega arith)) slot within

reorder : (u l k : Bool) → ((u || l) || k) ≡ ((k || u) || l)
reorder true true true = refl
reorder true true false = refl
reorder true false true = refl
reorder true false false = refl
reorder false true true = refl
reorder false true false = refl
reorder false false true = refl
reorder false false false = refl

or_none : (b : Bool) → (b || false) ≡ b
or_none true = refl
or_none false = refl

-- the table that the parts stand for
abbrev pub seen : List Row → List ℕ → List ℕ → List Bool → ℕ → Table
seen rows sealed deferred kept spare = record { sealed = sealed; held = held_in rows; deferred = deferred; kept = kept; spare = spare }

pub live-by_flags : {rows : List Row} {sealed deferred : List ℕ} {kept used late : List Bool} {held spare sealable referable : ℕ}
    → AreSoundRows rows sealed deferred kept used late held spare sealable referable
    → (slot : ℕ) → slot < SLOTS → is_live_in (seen rows sealed deferred kept spare) slot ≡ in_either (map (in_either kept used) slots) late slot
unfolding slots
live-by_flags {rows = rows} {sealed = sealed} {deferred = deferred} {kept = kept} {used = used} {late = late} s slot within =
    let test : ℕ → Bool = is_sealed_in sealed slot in
    let u : list_any test (held_in rows) ≡ get_or used slot false =
    any-count test (held_in rows) ∙ ap (nat_lt 0) (held-in_slot s slot within) ∙ sym (s.is_used.each slot within) in
    let l : list_any test deferred ≡ get_or late slot false =
    any-count test deferred ∙ ap (nat_lt 0) (late-in_slot s slot within) ∙ sym (s.is_late.each slot within) in
    rw (list_any-append test (held_in rows) deferred, u, l, get_or-map-range_with_len (in_either kept used) 0 SLOTS slot slot false within (omega arith))
    (reorder (get_or used slot false) (get_or late slot false) (get_or kept slot false))

pub live-once_swept : {rows : List Row} {sealed deferred : List ℕ} {kept used late : List Bool} {held spare sealable referable : ℕ}
    → AreSoundRows rows sealed deferred kept used late held spare sealable referable
    → (slot : ℕ) → slot < SLOTS → is_live_in (seen rows sealed [] kept spare) slot ≡ in_either kept used slot
live-once_swept {rows = rows} {sealed = sealed} {deferred = deferred} {kept = kept} {used = used} {late = late} s slot within =
    let test : ℕ → Bool = is_sealed_in sealed slot in
    let u : list_any test (held_in rows) ≡ get_or used slot false =
    any-count test (held_in rows) ∙ ap (nat_lt 0) (held-in_slot s slot within) ∙ sym (s.is_used.each slot within) in
    rw (list_any-append test (held_in rows) [], u) (reorder (get_or used slot false) false (get_or kept slot false) ∙ or_none _)

pub least-by_flags : {rows : List Row} {sealed deferred : List ℕ} {kept used late : List Bool} {held spare sealable referable : ℕ}
    → AreSoundRows rows sealed deferred kept used late held spare sealable referable
    → first_unset (map (in_either (map (in_either kept used) slots) late) slots) ≡ least_free_in (seen rows sealed deferred kept spare)
unfolding slots
least-by_flags {rows = rows} {sealed = sealed} {deferred = deferred} {kept = kept} {used = used} {late = late} {spare = spare} s =
    let both : ℕ → Bool = in_either (map (in_either kept used) slots) late in
    find-same (λ slot. not (get_or (map both slots) slot false)) (λ slot. not (is_live_in (seen rows sealed deferred kept spare) slot)) 0 SLOTS
    (λ k l h. ap not (get_or-map-range_with_len both 0 SLOTS k k false (omega arith) (omega arith) ∙ sym (live-by_flags s k (omega arith))))

pub least-once_swept : {rows : List Row} {sealed deferred : List ℕ} {kept used late : List Bool} {held spare sealable referable : ℕ}
    → AreSoundRows rows sealed deferred kept used late held spare sealable referable
    → first_unset (map (in_either kept used) slots) ≡ least_free_in (seen rows sealed [] kept spare)
unfolding slots
least-once_swept {rows = rows} {sealed = sealed} {kept = kept} {used = used} {spare = spare} s =
    find-same (λ slot. not (get_or (map (in_either kept used) slots) slot false)) (λ slot. not (is_live_in (seen rows sealed [] kept spare) slot)) 0 SLOTS
    (λ k l h. ap not (get_or-map-range_with_len (in_either kept used) 0 SLOTS k k false (omega arith) (omega arith) ∙ sym (live-once_swept s k (omega arith))))

none_set : (a b c : Bool) → not ((a || b) || c) ≡ true → (a ≡ false) × (b ≡ false)
none_set true b c e = cc
none_set false true c e = cc
none_set false false c e = (refl, refl)

none_counted : (held late : ℕ) (kept : Bool) → not ((nat_lt 0 held || nat_lt 0 late) || kept) ≡ true → held + late ≡ 0
none_counted held late kept e =
    let none = none_set (nat_lt 0 held) (nat_lt 0 late) kept e in
    let h : nat_lt 0 held ≡ false = none.0 in
    let l : nat_lt 0 late ≡ false = none.1 in
    grind (arith, nat_tests)

some_is : (b : Bool) (a s : ℕ) (rest : Option ℕ) → cond b (Some a) rest ≡ Some s → ((b ≡ true) × (a ≡ s)) ⊎ (rest ≡ Some s)
some_is true a s rest e = inl (refl, cc)
some_is false a s rest e = inr e

find-passes : (test : ℕ → Bool) (a n s : ℕ) → find test (range_with_len a n) ≡ Some s → (s < a + n) × (test s ≡ true)
find-passes test a zero s e = cc
find-passes test a (suc n) s e = elim (some_is (test a) a s (find test (range_with_len (a + 1) n)) e) [
  | inl here ↦ (omega (arith, here.1), subst (λ (k : ℕ). test k ≡ true) here.1 here.0)
  | inr later ↦ let found = find-passes test (a + 1) n s later in (omega (arith, found.0), found.1)
]

-- the least slot is in the table, and nothing refers to a number in it
pub least-is : {rows : List Row} {sealed deferred : List ℕ} {kept used late : List Bool} {held spare sealable referable : ℕ}
    → AreSoundRows rows sealed deferred kept used late held spare sealable referable
    → (slot : ℕ) → least_free_in (seen rows sealed deferred kept spare) ≡ Some slot
    → (slot < SLOTS) × ((row_at rows slot).held + (row_at rows slot).late ≡ 0)
unfolding slots
least-is {rows = rows} {sealed = sealed} {deferred = deferred} {kept = kept} {used = used} {late = late} {spare = spare} s slot e =
    let found = find-passes (λ k. not (is_live_in (seen rows sealed deferred kept spare) k)) 0 SLOTS slot e in
    let within : slot < SLOTS = omega (arith, found.0) in
    let test : ℕ → Bool = is_sealed_in sealed slot in
    let u : list_any test (held_in rows) ≡ nat_lt 0 (row_at rows slot).held = any-count test (held_in rows) ∙ ap (nat_lt 0) (held-in_slot s slot within) in
    let l : list_any test deferred ≡ nat_lt 0 (row_at rows slot).late = any-count test deferred ∙ ap (nat_lt 0) (late-in_slot s slot within) in
    let dead : not ((nat_lt 0 (row_at rows slot).held || nat_lt 0 (row_at rows slot).late) || get_or kept slot false) ≡ true =
    rw (← u, ← l, ← list_any-append test (held_in rows) deferred) found.1 in
    (within, none_counted (row_at rows slot).held (row_at rows slot).late (get_or kept slot false) dead)

-- ---- the slot that is taken next

none_is : (b : Bool) (a : ℕ) (rest : Option ℕ) → cond b (Some a) rest ≡ None → (b ≡ false) × (rest ≡ None)
none_is true a rest e = cc
none_is false a rest e = (refl, e)

find-fails : (test : ℕ → Bool) (a n s : ℕ) → find test (range_with_len a n) ≡ None → a ≤ s → s < a + n → test s ≡ false
find-fails test a zero s none low high = absurd (omega arith)
find-fails test a (suc n) s none low high =
    let each = none_is (test a) a (find test (range_with_len (a + 1) n)) none in
    elim (cases_lt a s) [
      | inl lt ↦ find-fails test (a + 1) n s each.1 (omega arith) (omega arith)
      | inr ge ↦ let same : a ≡ s = omega arith in subst (λ (k : ℕ). test k ≡ false) same each.0
    ]

-- It is free at once, and then nothing was given up in it, or all slots are live until a sweep, and
-- then something was.
pub record IsNext (t : Table) (late slot : ℕ) : Type 0 where
  pub within : slot < SLOTS
  pub at_once : late ≡ 0 → least_free_in t ≡ Some slot
  pub all_live : 0 < late → (least_free_in t ≡ None) × (least_free_in (swept_table t) ≡ Some slot)

pub next-is : {rows : List Row} {sealed deferred : List ℕ} {kept used late : List Bool} {held spare sealable referable : ℕ}
    → AreSoundRows rows sealed deferred kept used late held spare sealable referable
    → (slot : ℕ) → free_in (seen rows sealed deferred kept spare) ≡ Some slot
    → IsNext (seen rows sealed deferred kept spare) (row_at rows slot).late slot
unfolding slots
next-is {rows = rows} {sealed = sealed} {deferred = deferred} {kept = kept} {used = used} {late = late} {spare = spare} s slot takes =
    by_least (least_free_in (seen rows sealed deferred kept spare)) refl
  where
    by_least : (o : Option ℕ) → least_free_in (seen rows sealed deferred kept spare) ≡ o
        → IsNext (seen rows sealed deferred kept spare) (row_at rows slot).late slot
    by_least (Some n) at =
        let t = seen rows sealed deferred kept spare in
        let here : least_free_in t ≡ Some slot = sym (ap least_free_in (room-free t (ap is_some at))) ∙ takes in
        let is = least-is s slot here in
        record {
          within = is.0;
          at_once = λ none. here;
          all_live = λ some. absurd (omega (arith, some, is.1));
        }
    by_least None at =
        let t = seen rows sealed deferred kept spare in
        let test : ℕ → Bool = is_sealed_in sealed slot in
        let later : least_free_in (swept_table t) ≡ Some slot = sym (ap least_free_in (room-full t (ap is_some at))) ∙ takes in
        let found = find-passes (λ k. not (is_live_in (swept_table t) k)) 0 SLOTS slot later in
        let within : slot < SLOTS = omega (arith, found.0) in
        let live : not (is_live_in t slot) ≡ false = find-fails (λ k. not (is_live_in t k)) 0 SLOTS slot at (omega arith) within in
        let given_up : list_any test deferred ≡ nat_lt 0 (row_at rows slot).late = any-count test deferred ∙ ap (nat_lt 0) (late-in_slot s slot within) in
        record {
          within = within;
          at_once = λ none.
              let nothing : list_any test deferred ≡ false = given_up ∙ ap (nat_lt 0) none in
              let same : is_live_in t slot ≡ is_live_in (swept_table t) slot =
              ap (λ (b : Bool). b || get_or kept slot false)
              (list_any-append test (held_in rows) deferred ∙ ap (λ (b : Bool). list_any test (held_in rows) || b) nothing
              ∙ sym (list_any-append test (held_in rows) [])) in
              let dead : not (is_live_in t slot) ≡ true = ap not same ∙ found.1 in
              absurd (let wrong : false ≡ true = sym live ∙ dead in cc);
          all_live = λ some. (at, later);
        }
