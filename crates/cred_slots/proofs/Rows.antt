-- Rows of which nothing is late.
use Rattle.std.proofs.Common.{◌≡◌, ℕ, zero, suc, ◌<◌, List, [], ◌∷◌, ◌++◌, length, get_or, map, replicate, refl, ap, ◌∙◌, sym, arith, Bool, false, nat_lt, take}
use Rattle.std.proofs.Common.{drop}
use Rattle.std.specs.List.{count_by}
use Rattle.std.proofs.lemmas.List.{length-map, take-append-le, take_all}
use Rattle.std.proofs.lemmas.List.FromFn.{length-map-range_with_len, get_or-map-range_with_len}
use Rattle.cred_slots.specs.declared.row.Row.{Row}
use Rattle.cred_ids.specs.Limits.{SLOTS, slots}
use Rattle.cred_slots.specs.Rows.{row_at, repeated, held_in, deferred_in, held_count, late_count, without_late, unused, AreSoundRows}

pub map-is : (f : Row → Row) (xs ys : List Row) → length ys ≡ length xs → ((k : ℕ) → k < length xs → row_at ys k ≡ f (row_at xs k)) → ys ≡ map f xs
map-is f [] [] long each = refl
map-is f [] (y ∷ ys) long each = absurd (omega arith)
map-is f (x ∷ xs) [] long each = absurd (omega arith)
map-is f (x ∷ xs) (y ∷ ys) long each =
    let head : y ≡ f x = each 0 (omega arith) in
    let rest : ys ≡ map f xs = map-is f xs ys (omega arith) (λ k h. each (suc k) (omega arith)) in
    cc

pub row_at-map : (rows : List Row) (slot : ℕ) → row_at (map without_late rows) slot ≡ without_late (row_at rows slot)
row_at-map [] slot = refl
row_at-map (row ∷ rows) zero = refl
row_at-map (row ∷ rows) (suc slot) = row_at-map rows slot

pub held_in-map : (rows : List Row) → held_in (map without_late rows) ≡ held_in rows
held_in-map [] = refl
held_in-map (row ∷ rows) = ap (λ (rest : List ℕ). replicate row.held row.number ++ rest) (held_in-map rows)

pub deferred_in-map : (rows : List Row) → deferred_in (map without_late rows) ≡ []
deferred_in-map [] = refl
deferred_in-map (row ∷ rows) = deferred_in-map rows

pub no_flag : (slot : ℕ) → slot < SLOTS → get_or (map (λ _. false) slots) slot false ≡ false
unfolding slots
no_flag slot within = get_or-map-range_with_len (λ _. false) 0 SLOTS slot slot false within (omega arith)

pub flags_long : length (map (λ _. false) slots) ≡ SLOTS
unfolding slots
flags_long = length-map-range_with_len (λ _. false) 0 SLOTS

pub sweep-sound : {rows : List Row} {sealed deferred : List ℕ} {kept used late : List Bool} {held spare sealable referable : ℕ}
    → AreSoundRows rows sealed deferred kept used late held spare sealable referable
    → AreSoundRows (map without_late rows) sealed [] kept used (map (λ _. false) slots) held spare sealable referable
sweep-sound {rows = rows} {deferred = deferred} s = record {
  all_rows = omega (arith, s.all_rows, length-map rows without_late);
  all_kept = s.all_kept;
  is_used = record { long = s.is_used.long; each = λ k h. s.is_used.each k h ∙ ap (λ (r : Row). nat_lt 0 r.held) (sym (row_at-map rows k)) };
  is_late = record { long = flags_long; each = λ k h. no_flag k h ∙ ap (λ (r : Row). nat_lt 0 r.late) (sym (row_at-map rows k)) };
  places = s.places;
  stands = λ k h. rw (row_at-map rows k) (λ some. s.stands k h (omega arith));
  keeps = λ k h is. rw (row_at-map rows k) (omega (arith, s.keeps k h is));
  given_up = record { counts = λ test. rw (deferred_in-map rows) refl };
  counted = ap length (held_in-map rows) ∙ s.counted;
  seals = s.seals;
  refers = omega (arith, s.refers);
}

-- the table before the first number is sealed
pub row_at-replicate : (n slot : ℕ) → row_at (replicate n unused) slot ≡ unused
row_at-replicate zero slot = refl
row_at-replicate (suc n) zero = refl
row_at-replicate (suc n) (suc slot) = row_at-replicate n slot

pub repeated-replicate : (count : Row → ℕ) (n : ℕ) → count unused ≡ 0 → repeated count (replicate n unused) ≡ []
repeated-replicate count zero none = refl
repeated-replicate count (suc n) none = rw none (repeated-replicate count n none)

pub new-sound : (sealable referable : ℕ)
    → AreSoundRows (replicate SLOTS unused) [] [] (map (λ _. false) slots) (map (λ _. false) slots) (map (λ _. false) slots) 0 0 sealable referable
new-sound sealable referable = record {
  all_rows = refl;
  all_kept = flags_long;
  is_used = record { long = flags_long; each = λ k h. no_flag k h ∙ ap (λ (r : Row). nat_lt 0 r.held) (sym (row_at-replicate SLOTS k)) };
  is_late = record { long = flags_long; each = λ k h. no_flag k h ∙ ap (λ (r : Row). nat_lt 0 r.late) (sym (row_at-replicate SLOTS k)) };
  places = λ n p e. absurd (cc);
  stands = λ k h. rw (row_at-replicate SLOTS k) (λ some. absurd (omega arith));
  keeps = λ k h is. rw (row_at-replicate SLOTS k) refl;
  given_up = record { counts = λ test. ap (count_by test) (sym (repeated-replicate late_count SLOTS refl)) };
  counted = ap length (repeated-replicate held_count SLOTS refl);
  seals = omega arith;
  refers = omega arith;
}

-- the rows of a `Vec` once all of them are written
pub written_whole : (n : ℕ) (rows was : List Row) → length rows ≡ n → take n (rows ++ drop (length rows) was) ≡ rows
written_whole n rows was long =
    take-append-le n rows (drop (length rows) was) (omega arith) ∙ take_all n rows (omega arith)
