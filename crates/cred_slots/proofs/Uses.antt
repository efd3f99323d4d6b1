-- What a slot's row says of the references to the numbers in it.
use Rattle.std.proofs.Common.{◌≡◌, ◌≢◌, ℕ, ◌+◌, ◌<◌, ◌≤◌, ◌==◌, Bool, true, false, List, ◌++◌, refl, ap, ◌∙◌, subst, inl, inr, arith, Option, Some, None}
use Rattle.std.proofs.Common.{slice_get, slice_set, length, get_or-set_same, sym}
use Rattle.std.specs.List.{count_by}
use Rattle.std.specs.Option.{option_map_or}
use Rattle.std.proofs.lemmas.Bool.{cases_lt, cases_eq}
use Rattle.std.proofs.lemmas.Bool.Decides.{nat_tests}
use Rattle.cred_ids.specs.Limits.{SLOTS}
use Rattle.cred_slots.specs.declared.row.Row.{Row}
use Rattle.cred_slots.specs.Table.{is_sealed_in}
use Rattle.cred_slots.specs.Rows.{unused, row_at, repeated, held_in, held_count, late_count, AreSoundRows}
use Rattle.cred_slots.proofs.Counting.{weight, count-append, count-repeated, sum_only, sum_zero}
use Rattle.cred_slots.proofs.Sound.{Standing, referred_standing}
use Rattle.cred_slots.proofs.Live.{held-in_slot, late-in_slot, weight_none, weight_elsewhere}

pub uses_here : {rows : List Row} {sealed deferred : List ℕ} {kept used late : List Bool} {held spare sealable referable : ℕ}
    → AreSoundRows rows sealed deferred kept used late held spare sealable referable
    → (slot : ℕ) → slot < SLOTS → (row_at rows slot).held + (row_at rows slot).late ≡ count_by (is_sealed_in sealed slot) (held_in rows ++ deferred)
uses_here {rows = rows} {sealed = sealed} {deferred = deferred} s slot within =
    omega (arith, count-append (is_sealed_in sealed slot) (held_in rows) deferred, held-in_slot s slot within, late-in_slot s slot within)

none_beyond : {rows : List Row} {sealed deferred : List ℕ} {kept used late : List Bool} {held spare sealable referable : ℕ}
    → AreSoundRows rows sealed deferred kept used late held spare sealable referable
    → (count : Row → ℕ) → ((row : Row) → count row ≤ row.held + row.late) → (slot : ℕ) → SLOTS ≤ slot
    → count_by (is_sealed_in sealed slot) (repeated count rows) ≡ 0
none_beyond {rows = rows} {sealed = sealed} s count bounded slot beyond =
    count-repeated count (is_sealed_in sealed slot) rows
    ∙ sum_zero (weight count (is_sealed_in sealed slot)) rows (λ i h.
    let within : i < SLOTS = omega (arith, s.all_rows) in
    weight_elsewhere sealed count (row_at rows i) slot i (omega arith) (λ some. s.stands i within (omega (arith, bounded (row_at rows i)))))

-- no number stands past the last slot
pub uses_beyond : {rows : List Row} {sealed deferred : List ℕ} {kept used late : List Bool} {held spare sealable referable : ℕ}
    → AreSoundRows rows sealed deferred kept used late held spare sealable referable
    → (slot : ℕ) → SLOTS ≤ slot → count_by (is_sealed_in sealed slot) (held_in rows ++ deferred) ≡ 0
uses_beyond {rows = rows} {sealed = sealed} {deferred = deferred} s slot beyond =
    let test : ℕ → Bool = is_sealed_in sealed slot in
    omega (
      arith,
      count-append test (held_in rows) deferred,
      s.given_up.counts test,
      none_beyond s held_count (λ row. omega arith) slot beyond,
      none_beyond s late_count (λ row. omega arith) slot beyond,
    )

stands_is : (place : Option ℕ) (slot : ℕ) → option_map_or (λ p. p == slot) place false ≡ true → place ≡ Some slot
stands_is (Some p) slot is = let same : p ≡ slot = grind (arith, nat_tests) in ap Some same
stands_is None slot is = cc

-- a row of another slot counts no references to the number
another : (sealed : List ℕ) (count : Row → ℕ) (row : Row) (number slot i : ℕ) → i ≢ slot → slice_get sealed number ≡ Some slot
    → (0 < count row → slice_get sealed row.number ≡ Some i) → weight count (λ n. n == number) row ≡ 0
another sealed count row number slot i ne place stands = elim (cases_lt 0 (count row)) [
  | inl lt ↦ elim (cases_eq row.number number) [
    | inl same ↦
        let there : slice_get sealed row.number ≡ Some i = stands lt in
        let here : slice_get sealed row.number ≡ Some slot = rw same place in
        let twice : i ≡ slot = cc in
        absurd (ne twice)
    | inr off ↦ let other : (row.number == number) ≡ false = grind (arith, nat_tests) in rw other refl
  ]
  | inr ge ↦ weight_none (row.number == number) (count row) (omega arith)
]

in_one : {rows : List Row} {sealed deferred : List ℕ} {kept used late : List Bool} {held spare sealable referable : ℕ}
    → AreSoundRows rows sealed deferred kept used late held spare sealable referable
    → (count : Row → ℕ) → ((row : Row) → count row ≤ row.held + row.late) → (slot number : ℕ) → slot < SLOTS → slice_get sealed number ≡ Some slot
    → (row_at rows slot).number ≡ number → count_by (λ n. n == number) (repeated count rows) ≡ count (row_at rows slot)
in_one {rows = rows} {sealed = sealed} s count bounded slot number within place is =
    let test : ℕ → Bool = λ n. n == number in
    let same : ((row_at rows slot).number == number) ≡ true = grind (arith, nat_tests) in
    count-repeated count test rows
    ∙ sum_only (weight count test) rows slot (omega (arith, s.all_rows)) (λ i h ne.
    let i_within : i < SLOTS = omega (arith, s.all_rows) in
    another sealed count (row_at rows i) number slot i ne place (λ more. s.stands i i_within (omega (arith, bounded (row_at rows i)))))
    ∙ rw same refl

-- A number in the slot that is referred to is the one that the slot's row counts.
pub of_row : {rows : List Row} {sealed deferred : List ℕ} {kept used late : List Bool} {held spare sealable referable : ℕ}
    → AreSoundRows rows sealed deferred kept used late held spare sealable referable
    → (slot number : ℕ) → is_sealed_in sealed slot number ≡ true → 0 < count_by (λ n. n == number) (held_in rows ++ deferred)
    → Standing rows sealed number slot
of_row {rows = rows} {sealed = sealed} s slot number is some =
    let found = referred_standing s number some in
    let place : slice_get sealed number ≡ Some slot = stands_is (slice_get sealed number) slot is in
    let there : slice_get sealed number ≡ Some found.0 = found.1.place in
    let same : found.0 ≡ slot = cc in
    subst (λ (k : ℕ). Standing rows sealed number k) same found.1

-- all references to numbers in the slot are to the one that is referred to
pub one_number : {rows : List Row} {sealed deferred : List ℕ} {kept used late : List Bool} {held spare sealable referable : ℕ}
    → AreSoundRows rows sealed deferred kept used late held spare sealable referable
    → (slot number : ℕ) → is_sealed_in sealed slot number ≡ true → 0 < count_by (λ n. n == number) (held_in rows ++ deferred)
    → (row_at rows slot).held + (row_at rows slot).late ≡ count_by (λ n. n == number) (held_in rows ++ deferred)
one_number {rows = rows} {sealed = sealed} {deferred = deferred} s slot number is some =
    let at = of_row s slot number is some in
    let test : ℕ → Bool = λ n. n == number in
    omega (
      arith,
      count-append test (held_in rows) deferred,
      s.given_up.counts test,
      in_one s held_count (λ row. omega arith) slot number at.in_table at.place at.number_is,
      in_one s late_count (λ row. omega arith) slot number at.in_table at.place at.number_is,
    )

-- Where a row is set to count a number, no other number in its slot is referred to.
pub alone-set : (rows : List Row) (slot : ℕ) (row : Row) {sealed deferred : List ℕ} {kept used late : List Bool} {held spare sealable referable : ℕ}
    → AreSoundRows (slice_set rows slot row) sealed deferred kept used late held spare sealable referable
    → slot < length rows
    → (other : ℕ) → is_sealed_in sealed slot other ≡ true → 0 < count_by (λ n. n == other) (held_in (slice_set rows slot row) ++ deferred)
    → other ≡ row.number
alone-set rows slot row s within other is some =
    let at = of_row s slot other is some in
    sym at.number_is ∙ ap (λ (r : Row). r.number) (get_or-set_same rows slot row unused within)
