-- What each change keeps of a table's parts.
use Rattle.std.proofs.Common.{◌≡◌, ◌⊎◌, ℕ, zero, suc, ◌+◌, ◌-◌, ◌<◌, ◌≤◌, ◌==◌, Bool, true, false, cond, List, [], ◌∷◌, ◌++◌, length, get_or, refl, sym, ap}
use Rattle.std.proofs.Common.{◌∙◌, subst, inl, inr, arith, nat_lt, Some, slice_get, slice_set, length-append, length-set, get_or-set_same, get_or-set_other}
use Rattle.std.specs.List.{count_by}
use Rattle.std.proofs.lemmas.List.{get_or_read}
use Rattle.std.proofs.lemmas.Bool.{cases_lt, cases_eq}
use Rattle.std.proofs.lemmas.Bool.Decides.{nat_tests}
use Rattle.cred_ids.specs.Limits.{SLOTS}
use Rattle.cred_slots.specs.declared.row.Row.{Row}
use Rattle.cred_slots.specs.Table.{IsSameBag}
use Rattle.cred_slots.specs.Rows.{row_at, repeated, held_in, deferred_in, held_count, late_count, IsFlagged, AreSoundRows}
use Rattle.cred_slots.proofs.Counting.{weight, count-append, count-cons, count-repeated, count-repeated-set, length-repeated-set, count-le-length, sum_some}
use Rattle.cred_slots.proofs.Counting.{bag_length}

pub place_within : (sealed : List ℕ) (number slot : ℕ) → slice_get sealed number ≡ Some slot → number < length sealed
place_within [] number slot e = cc
place_within (x ∷ xs) zero slot e = omega arith
place_within (x ∷ xs) (suc number) slot e = let rest = place_within xs number slot e in omega arith

pub place_read : (sealed : List ℕ) (number slot d : ℕ) → slice_get sealed number ≡ Some slot → get_or sealed number d ≡ slot
place_read [] number slot d e = cc
place_read (x ∷ xs) zero slot d e = cc
place_read (x ∷ xs) (suc number) slot d e = place_read xs number slot d e

-- a value is in the table's part that a flag is for
each_row-set : (P : ℕ → Row → Type 0) (rows : List Row) (slot : ℕ) (row : Row) → length rows ≡ SLOTS → slot < SLOTS → P slot row
    → ((k : ℕ) → k < SLOTS → P k (row_at rows k)) → (k : ℕ) → k < SLOTS → P k (row_at (slice_set rows slot row) k)
each_row-set P rows slot row long within here others k h = elim (cases_eq k slot) [
  | inl e ↦
      let in_rows : slot < length rows = omega arith in
      rw (e, get_or-set_same rows slot row (row_at [] 0) in_rows) here
  | inr ne ↦ rw (get_or-set_other rows slot k row (row_at [] 0) ne) (others k h)
]

IsFlagged-set : (count : Row → ℕ) (flags : List Bool) (rows : List Row) → IsFlagged count flags rows → length rows ≡ SLOTS → (slot : ℕ) → slot < SLOTS
    → (row : Row) (flag : Bool)
    → flag ≡ nat_lt 0 (count row) → IsFlagged count (slice_set flags slot flag) (slice_set rows slot row)
IsFlagged-set count flags rows is long slot within row flag e = record {
  long = omega (arith, is.long, length-set {A = Bool});
  each = λ k h. elim (cases_eq k slot) [
    | inl same ↦
        let in_rows : slot < length rows = omega arith in
        let in_flags : slot < length flags = omega (arith, is.long) in
        rw (same, get_or-set_same rows slot row (row_at [] 0) in_rows, get_or-set_same flags slot flag false in_flags) e
    | inr ne ↦ rw (get_or-set_other rows slot k row (row_at [] 0) ne, get_or-set_other flags slot k flag false ne) (is.each k h)
  ];
}

IsFlagged-keep : (count : Row → ℕ) (flags : List Bool) (rows : List Row) → IsFlagged count flags rows → length rows ≡ SLOTS → (slot : ℕ) → slot < SLOTS
    → (row : Row)
    → count row ≡ count (row_at rows slot) → IsFlagged count flags (slice_set rows slot row)
IsFlagged-keep count flags rows is long slot within row e = record {
  long = is.long;
  each = each_row-set (λ k r. get_or flags k false ≡ nat_lt 0 (count r)) rows slot row long within (is.each slot within ∙ ap (nat_lt 0) (sym e)) is.each;
}

-- deferred references, where the row counts as many as before
bag-keep : (deferred : List ℕ) (rows : List Row) (slot : ℕ) (row : Row) → slot < length rows → IsSameBag deferred (deferred_in rows)
    → ((test : ℕ → Bool) → weight late_count test row ≡ weight late_count test (row_at rows slot)) → IsSameBag deferred (deferred_in (slice_set rows slot row))
bag-keep deferred rows slot row within is same = record {
  counts = λ test. omega (arith, is.counts test, same test, count-repeated-set late_count test rows slot row within);
}

-- a test that passes one number of a slot
positive : (b : Bool) (n : ℕ) → 0 < cond b n 0 → (b ≡ true) × (0 < n)
positive true n h = (refl, h)
positive false n h = absurd (omega arith)

-- where a number stands that a row counts
pub record Standing (rows : List Row) (sealed : List ℕ) (number slot : ℕ) : Type 0 where
  pub in_table : slot < SLOTS
  pub number_is : (row_at rows slot).number ≡ number
  pub place : slice_get sealed number ≡ Some slot

standing : {rows : List Row} {sealed deferred : List ℕ} {kept used late : List Bool} {held spare sealable referable : ℕ}
    → AreSoundRows rows sealed deferred kept used late held spare sealable referable
    → (count : Row → ℕ) → ((row : Row) → count row ≤ row.held + row.late) → (number : ℕ) → 0 < count_by (λ n. n == number) (repeated count rows)
    → (slot : ℕ) × Standing rows sealed number slot × (0 < count (row_at rows slot))
standing {rows = rows} {sealed = sealed} s count bounded number some =
    let found = sum_some (weight count (λ n. n == number)) rows (omega (arith, count-repeated count (λ n. n == number) rows)) in
    let slot : ℕ = found.0 in
    let row : Row = row_at rows slot in
    let counted = positive (row.number == number) (count row) found.2 in
    let is : (row.number == number) ≡ true = counted.0 in
    let same : row.number ≡ number = grind (arith, nat_tests) in
    let within : slot < SLOTS = omega (arith, s.all_rows, found.1) in (
      slot,
      record {
        in_table = within;
        number_is = same;
        place = subst (λ (n : ℕ). slice_get sealed n ≡ Some slot) same (s.stands slot within (omega (arith, bounded row, counted.1)));
      },
      counted.1,
    )

pub held_standing : {rows : List Row} {sealed deferred : List ℕ} {kept used late : List Bool} {held spare sealable referable : ℕ}
    → AreSoundRows rows sealed deferred kept used late held spare sealable referable
    → (number : ℕ) → 0 < count_by (λ n. n == number) (held_in rows)
    → (slot : ℕ) × Standing rows sealed number slot × (0 < (row_at rows slot).held)
held_standing s number some = standing s held_count (λ row. omega arith) number some

pub referred_standing : {rows : List Row} {sealed deferred : List ℕ} {kept used late : List Bool} {held spare sealable referable : ℕ}
    → AreSoundRows rows sealed deferred kept used late held spare sealable referable
    → (number : ℕ) → 0 < count_by (λ n. n == number) (held_in rows ++ deferred)
    → (slot : ℕ) × Standing rows sealed number slot × (0 < (row_at rows slot).held + (row_at rows slot).late)
referred_standing {rows = rows} {deferred = deferred} s number some =
    let test : ℕ → Bool = λ n. n == number in
    elim (cases_lt 0 (count_by test (held_in rows))) [
      | inl lt ↦ let found = standing s held_count (λ row. omega arith) number lt in (found.0, found.1, omega (arith, found.2))
      | inr ge ↦
          let found = standing s late_count (λ row. omega arith) number (omega (arith, count-append test (held_in rows) deferred, s.given_up.counts test)) in
          (found.0, found.1, omega (arith, found.2))
    ]

-- no count comes near the greatest number
pub row_fits : {rows : List Row} {sealed deferred : List ℕ} {kept used late : List Bool} {held spare sealable referable : ℕ}
    → AreSoundRows rows sealed deferred kept used late held spare sealable referable
    → (slot : ℕ) → slot < SLOTS → (row_at rows slot).held + (row_at rows slot).late + spare ≤ referable
row_fits {rows = rows} {deferred = deferred} s slot within =
    omega (
      arith,
      s.all_rows,
      s.counted,
      s.refers,
      bag_length deferred (deferred_in rows) s.given_up,
      count-le-length held_count rows slot (omega (arith, s.all_rows)),
      count-le-length late_count rows slot (omega (arith, s.all_rows)),
    )

slice_get-prefix : (xs ys : List ℕ) (i x : ℕ) → slice_get xs i ≡ Some x → slice_get (xs ++ ys) i ≡ Some x
slice_get-prefix [] ys i x e = cc
slice_get-prefix (y ∷ xs) ys zero x e = e
slice_get-prefix (y ∷ xs) ys (suc i) x e = slice_get-prefix xs ys i x e

slice_get-last : (xs : List ℕ) (y : ℕ) → slice_get (xs ++ y ∷ []) (length xs) ≡ Some y
slice_get-last [] y = refl
slice_get-last (x ∷ xs) y = slice_get-last xs y

slice_get-of_push : (xs : List ℕ) (y i x : ℕ) → slice_get (xs ++ y ∷ []) i ≡ Some x → (slice_get xs i ≡ Some x) ⊎ (x ≡ y)
slice_get-of_push [] y zero x e = inr cc
slice_get-of_push [] y (suc i) x e = inl e
slice_get-of_push (z ∷ xs) y zero x e = inl e
slice_get-of_push (z ∷ xs) y (suc i) x e = slice_get-of_push xs y i x e

none : (b : Bool) (n : ℕ) → n ≡ 0 → cond b n 0 ≡ 0
none true n e = e
none false n e = refl

more : (b : Bool) (n : ℕ) → cond b (n + 1) 0 ≡ cond b n 0 + cond b 1 0
more true n = refl
more false n = refl

weightless : (test : ℕ → Bool) (new old : Row) → new.late ≡ 0 → old.late ≡ 0 → weight late_count test new ≡ weight late_count test old
weightless test new old e f = none (test new.number) new.late e ∙ sym (none (test old.number) old.late f)

weight_more : (test : ℕ → Bool) (row : Row) (number : ℕ) → row.number ≡ number
    → cond (test row.number) (row.late + 1) 0 ≡ weight late_count test row + cond (test number) 1 0
weight_more test row number e = rw (← e) (more (test row.number) row.late)

pub seal-sound : {rows : List Row} {sealed deferred : List ℕ} {kept used late : List Bool} {held spare sealable referable : ℕ}
    → AreSoundRows rows sealed deferred kept used late held spare sealable referable
    → (slot number : ℕ) → slot < SLOTS → get_or kept slot false ≡ true → 0 < spare → number ≡ length sealed
    → AreSoundRows (slice_set rows slot (record { number = number; held = 1; late = 0 })) (sealed ++ slot ∷ []) deferred
    (slice_set kept slot false) (slice_set used slot true) late (held + 1) (spare - 1) sealable referable
seal-sound {rows = rows} {sealed = sealed} {deferred = deferred} {kept = kept} {used = used} {late = late} s slot number within is some next =
    let row : Row = record { number = number; held = 1; late = 0 } in
    let none = s.keeps slot within is in
    let in_rows : slot < length rows = omega (arith, s.all_rows) in
    let in_kept : slot < length kept = omega (arith, s.all_kept) in
    record {
      all_rows = omega (arith, s.all_rows, length-set {A = Row});
      all_kept = omega (arith, s.all_kept, length-set {A = Bool});
      is_used = IsFlagged-set held_count used rows s.is_used s.all_rows slot within row true refl;
      is_late = IsFlagged-keep late_count late rows s.is_late s.all_rows slot within row (omega arith);
      places = λ n p e. elim (slice_get-of_push sealed slot n p e) [ inl old ↦ s.places n p old | inr new ↦ omega arith ];
      stands = each_row-set (λ k r. 0 < r.held + r.late → slice_get (sealed ++ slot ∷ []) r.number ≡ Some k) rows slot row s.all_rows within
          (λ _. rw next (slice_get-last sealed slot))
          (λ k h lt. slice_get-prefix sealed (slot ∷ []) _ k (s.stands k h lt));
      keeps = λ k h kept_k. elim (cases_eq k slot) [
        | inl same ↦
            let gone : get_or (slice_set kept slot false) slot false ≡ false = get_or-set_same kept slot false false in_kept in
            let still : get_or (slice_set kept slot false) slot false ≡ true =
            subst (λ (j : ℕ). get_or (slice_set kept slot false) j false ≡ true) same kept_k in
            cc
        | inr ne ↦
            rw (get_or-set_other rows slot k row (row_at [] 0) ne)
            (s.keeps k h (sym (get_or-set_other kept slot k false false ne) ∙ kept_k))
      ];
      given_up = bag-keep deferred rows slot row in_rows s.given_up (λ test. weightless test row (row_at rows slot) refl (omega arith));
      counted = omega (arith, s.counted, length-repeated-set held_count rows slot row in_rows);
      seals = omega (arith, s.seals, length-append {A = ℕ});
      refers = omega (arith, s.refers);
    }

pub add-sound : {rows : List Row} {sealed deferred : List ℕ} {kept used late : List Bool} {held spare sealable referable : ℕ}
    → AreSoundRows rows sealed deferred kept used late held spare sealable referable
    → (number slot : ℕ) → Standing rows sealed number slot → (row : Row) → row ≡ row_at rows slot → 0 < row.held + row.late → 0 < spare
    → AreSoundRows (slice_set rows slot (record { number = row.number; held = row.held + 1; late = row.late })) sealed deferred
    kept (slice_set used slot true) late (held + 1) (spare - 1) sealable referable
add-sound {rows = rows} {sealed = sealed} {deferred = deferred} {kept = kept} {used = used} {late = late} s number slot at row is more some =
    let new : Row = record { number = row.number; held = row.held + 1; late = row.late } in
    let within = at.in_table in
    let in_rows : slot < length rows = omega (arith, s.all_rows) in
    let same_held : row.held ≡ (row_at rows slot).held = ap held_count is in
    let same_late : row.late ≡ (row_at rows slot).late = ap late_count is in
    let positive : nat_lt 0 (row.held + 1) ≡ true = grind (arith, nat_tests) in
    record {
      all_rows = omega (arith, s.all_rows, length-set {A = Row});
      all_kept = s.all_kept;
      is_used = IsFlagged-set held_count used rows s.is_used s.all_rows slot within new true (sym positive);
      is_late = IsFlagged-keep late_count late rows s.is_late s.all_rows slot within new same_late;
      places = s.places;
      stands = each_row-set (λ k r. 0 < r.held + r.late → slice_get sealed r.number ≡ Some k) rows slot new s.all_rows within
          (λ _. rw (is, at.number_is) at.place) s.stands;
      keeps = λ k h kept_k. each_row-set (λ j r. get_or kept j false ≡ true → r.held + r.late ≡ 0) rows slot new s.all_rows within
          (λ kept_slot. absurd (omega (arith, s.keeps slot within kept_slot))) s.keeps k h kept_k;
      given_up = bag-keep deferred rows slot new in_rows s.given_up (λ test. ap (weight late_count test) is);
      counted = omega (arith, s.counted, length-repeated-set held_count rows slot new in_rows);
      seals = omega (arith, s.seals);
      refers = omega (arith, s.refers);
    }

pub drop-sound : {rows : List Row} {sealed deferred : List ℕ} {kept used late : List Bool} {held spare sealable referable : ℕ}
    → AreSoundRows rows sealed deferred kept used late held spare sealable referable
    → (number slot : ℕ) → Standing rows sealed number slot → (row : Row) → row ≡ row_at rows slot → 0 < row.held
    → AreSoundRows (slice_set rows slot (record { number = row.number; held = row.held - 1; late = row.late + 1 })) sealed (deferred ++ number ∷ [])
    kept (slice_set used slot (nat_lt 0 (row.held - 1))) (slice_set late slot true) (held - 1) spare sealable referable
drop-sound {rows = rows} {sealed = sealed} {deferred = deferred} {kept = kept} {used = used} {late = late} s number slot at row is more =
    let new : Row = record { number = row.number; held = row.held - 1; late = row.late + 1 } in
    let within = at.in_table in
    let in_rows : slot < length rows = omega (arith, s.all_rows) in
    let same_held : row.held ≡ (row_at rows slot).held = ap held_count is in
    let same_late : row.late ≡ (row_at rows slot).late = ap late_count is in
    let same_number : row.number ≡ number = rw is at.number_is in
    let positive : nat_lt 0 (row.late + 1) ≡ true = grind (arith, nat_tests) in
    record {
      all_rows = omega (arith, s.all_rows, length-set {A = Row});
      all_kept = s.all_kept;
      is_used = IsFlagged-set held_count used rows s.is_used s.all_rows slot within new (nat_lt 0 (row.held - 1)) refl;
      is_late = IsFlagged-set late_count late rows s.is_late s.all_rows slot within new true (sym positive);
      places = s.places;
      stands = each_row-set (λ k r. 0 < r.held + r.late → slice_get sealed r.number ≡ Some k) rows slot new s.all_rows within
          (λ _. rw (is, at.number_is) at.place) s.stands;
      keeps = λ k h kept_k. each_row-set (λ j r. get_or kept j false ≡ true → r.held + r.late ≡ 0) rows slot new s.all_rows within
          (λ kept_slot. absurd (omega (arith, s.keeps slot within kept_slot))) s.keeps k h kept_k;
      given_up = record {
        counts = λ test.
            omega (
              arith,
              s.given_up.counts test,
              count-append test deferred (number ∷ []),
              count-cons test number [],
              count-repeated-set late_count test rows slot new in_rows,
              weight_more test row number same_number,
              ap (weight late_count test) is,
            );
      };
      counted = omega (arith, s.counted, length-repeated-set held_count rows slot new in_rows);
      seals = s.seals;
      refers = omega (arith, s.refers, s.counted, length-append {A = ℕ}, count-le-length held_count rows slot in_rows);
    }

pub keep-sound : {rows : List Row} {sealed deferred : List ℕ} {kept used late : List Bool} {held spare sealable referable : ℕ}
    → AreSoundRows rows sealed deferred kept used late held spare sealable referable
    → (slot : ℕ) → slot < SLOTS → (row_at rows slot).held + (row_at rows slot).late ≡ 0
    → AreSoundRows rows sealed deferred (slice_set kept slot true) used late held spare sealable referable
keep-sound {rows = rows} {kept = kept} s slot within none = record {
  all_rows = s.all_rows;
  all_kept = omega (arith, s.all_kept, length-set {A = Bool});
  is_used = s.is_used;
  is_late = s.is_late;
  places = s.places;
  stands = s.stands;
  keeps = λ k h kept_k. elim (cases_eq k slot) [
    | inl same ↦ rw same none
    | inr ne ↦ s.keeps k h (sym (get_or-set_other kept slot k true false ne) ∙ kept_k)
  ];
  given_up = s.given_up;
  counted = s.counted;
  seals = s.seals;
  refers = s.refers;
}

-- what the calls do to the references
pub seal-bag : {rows : List Row} {sealed deferred : List ℕ} {kept used late : List Bool} {held spare sealable referable : ℕ}
    → AreSoundRows rows sealed deferred kept used late held spare sealable referable
    → (slot number : ℕ) → slot < SLOTS → get_or kept slot false ≡ true
    → IsSameBag (held_in (slice_set rows slot (record { number = number; held = 1; late = 0 }))) (number ∷ held_in rows)
seal-bag {rows = rows} s slot number within is = record {
  counts = λ test.
      let row : Row = record { number = number; held = 1; late = 0 } in
      let before : (row_at rows slot).held ≡ 0 = omega (arith, s.keeps slot within is) in
      omega (
        arith,
        count-repeated-set held_count test rows slot row (omega (arith, s.all_rows)),
        count-cons test number (held_in rows),
        none (test (row_at rows slot).number) (row_at rows slot).held before,
      );
}

pub add-bag : (rows : List Row) (sealed : List ℕ) (number slot : ℕ) → length rows ≡ SLOTS → Standing rows sealed number slot → (row : Row)
    → row ≡ row_at rows slot
    → IsSameBag (held_in (slice_set rows slot (record { number = row.number; held = row.held + 1; late = row.late }))) (number ∷ held_in rows)
add-bag rows sealed number slot long at row is = record {
  counts = λ test.
      let new : Row = record { number = row.number; held = row.held + 1; late = row.late } in
      let same : row.number ≡ number = rw is at.number_is in
      let in_rows : slot < length rows = omega (arith, at.in_table) in
      let counted : cond (test row.number) (row.held + 1) 0 ≡ weight held_count test row + cond (test number) 1 0 =
      rw (← same) (more (test row.number) row.held) in
      omega (arith, count-repeated-set held_count test rows slot new in_rows, count-cons test number (held_in rows), counted, ap (weight held_count test) is);
}

pub drop-bag : (rows : List Row) (sealed : List ℕ) (number slot : ℕ) → length rows ≡ SLOTS → Standing rows sealed number slot → (row : Row)
    → row ≡ row_at rows slot → 0 < row.held
    → IsSameBag (held_in rows) (number ∷ held_in (slice_set rows slot (record { number = row.number; held = row.held - 1; late = row.late + 1 })))
drop-bag rows sealed number slot long at row is some = record {
  counts = λ test.
      let new : Row = record { number = row.number; held = row.held - 1; late = row.late + 1 } in
      let same : row.number ≡ number = rw is at.number_is in
      let in_rows : slot < length rows = omega (arith, at.in_table) in
      let back : row.held - 1 + 1 ≡ row.held = omega arith in
      let counted : cond (test row.number) row.held 0 ≡ weight held_count test new + cond (test number) 1 0 =
      rw (← same) (ap (λ n. cond (test row.number) n 0) (sym back) ∙ more (test row.number) (row.held - 1)) in
      omega (
        arith,
        count-repeated-set held_count test rows slot new in_rows,
        count-cons test number (held_in (slice_set rows slot new)),
        counted,
        ap
            (weight held_count test) is,
      );
}

-- a number that is referred to, at the slot that was read for it
pub referred_at : {rows : List Row} {sealed deferred : List ℕ} {kept used late : List Bool} {held spare sealable referable : ℕ}
    → AreSoundRows rows sealed deferred kept used late held spare sealable referable
    → (number : ℕ) → 0 < count_by (λ n. n == number) (held_in rows ++ deferred) → (read : ℕ) → read ≡ get_or sealed number read
    → Standing rows sealed number read × (0 < (row_at rows read).held + (row_at rows read).late)
referred_at {rows = rows} {sealed = sealed} s number some read is =
    let found = referred_standing s number some in
    let same : read ≡ found.0 = is ∙ place_read sealed number found.0 read found.1.place in
    subst (λ (k : ℕ). Standing rows sealed number k × (0 < (row_at rows k).held + (row_at rows k).late)) (sym same) (found.1, found.2)

pub held_at : {rows : List Row} {sealed deferred : List ℕ} {kept used late : List Bool} {held spare sealable referable : ℕ}
    → AreSoundRows rows sealed deferred kept used late held spare sealable referable
    → (number : ℕ) → 0 < count_by (λ n. n == number) (held_in rows) → (read : ℕ) → read ≡ get_or sealed number read
    → Standing rows sealed number read × (0 < (row_at rows read).held)
held_at {rows = rows} {sealed = sealed} s number some read is =
    let found = held_standing s number some in
    let same : read ≡ found.0 = is ∙ place_read sealed number found.0 read found.1.place in
    subst (λ (k : ℕ). Standing rows sealed number k × (0 < (row_at rows k).held)) (sym same) (found.1, found.2)

-- the row that was read
pub row_read : (rows : List Row) (slot : ℕ) (row : Row) → length rows ≡ SLOTS → slot < SLOTS → row ≡ get_or rows slot row → row ≡ row_at rows slot
row_read rows slot row long within is = get_or_read rows slot row (omega arith) is (row_at [] 0)

kept_in : (kept : List Bool) (slot : ℕ) → get_or kept slot false ≡ true → slot < length kept
kept_in [] slot is = cc
kept_in (k ∷ kept) zero is = omega arith
kept_in (k ∷ kept) (suc slot) is = let rest = kept_in kept slot is in omega arith

pub kept_within : {rows : List Row} {sealed deferred : List ℕ} {kept used late : List Bool} {held spare sealable referable : ℕ}
    → AreSoundRows rows sealed deferred kept used late held spare sealable referable
    → (slot : ℕ) → get_or kept slot false ≡ true → slot < SLOTS
kept_within {kept = kept} s slot is = omega (arith, kept_in kept slot is, s.all_kept)
