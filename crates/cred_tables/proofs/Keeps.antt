-- Which slots are kept while labels begin and give up.
use Rattle.std.proofs.Common.{◌≡◌, ◌≢◌, ℕ, zero, suc, Bool, true, false, not, cond, ◌||◌, ◌==◌, List, [], ◌∷◌, ◌++◌, find, remove, slice_get, slice_set, get_or}
use Rattle.std.proofs.Common.{get_or-set_other, Option, Some, refl, sym, ap, ◌∙◌, inl, inr, arith}
use Rattle.std.specs.List.{AllPairs, list_any}
use Rattle.std.proofs.lemmas.Bool.{cases_eq, eq-eqb}
use Rattle.std.proofs.lemmas.Bool.Decides.{nat_tests}
use Rattle.std.proofs.lemmas.List.Folds.{list_any-append, list_any_none}
use Rattle.cred_slots.specs.Table.{Table, is_kept_in, is_live_in, swept_table_if_full, free_in}
use Rattle.cred_model.proofs.Lists.{others_differ}

-- ---- a free slot

passes_at : (test : ℕ → Bool) (x y : ℕ) (b : Bool) (rest : Option ℕ) → test y ≡ b → cond b (Some y) rest ≡ Some x
    → (rest ≡ Some x → test x ≡ true) → test x ≡ true
passes_at test x y true rest is found later = let same : y ≡ x = cc in sym (ap test same) ∙ is
passes_at test x y false rest is found later = later found

passes : (test : ℕ → Bool) (xs : List ℕ) (x : ℕ) → find test xs ≡ Some x → test x ≡ true
passes test [] x found = cc
passes test (y ∷ ys) x found = passes_at test x y (test y) (find test ys) refl found (λ there. passes test ys x there)

neither : (referred kept : Bool) → not (referred || kept) ≡ true → kept ≡ false
neither true kept free_in = cc
neither false true free_in = cc
neither false false free_in = refl

-- a free slot is kept by none
pub free-not_kept : (t : Table) (slot : ℕ) → free_in t ≡ Some slot → is_kept_in t slot ≡ false
free-not_kept t slot takes =
    neither _ (is_kept_in t slot) (passes (λ place. not (is_live_in (swept_table_if_full t) place)) _ slot takes)

-- ---- one slot more

-- the slot is one of those that are kept
abbrev pub is_among : List ℕ → ℕ → Bool
is_among slots slot = list_any (λ kept. kept == slot) slots

or_last : (a b : Bool) → b ≡ true → (a || (b || false)) ≡ true
or_last true b last = refl
or_last false true last = refl
or_last false false last = cc

or_none : (a b : Bool) → b ≡ false → (a || (b || false)) ≡ a
or_none true b none = refl
or_none false true none = cc
or_none false false none = refl

among-push : (slots : List ℕ) (new slot : ℕ) → is_among (slots ++ new ∷ []) slot ≡ (is_among slots slot || (new == slot || false))
among-push slots new slot = list_any-append (λ (k : ℕ). k == slot) slots (new ∷ [])

pub keeps-push : (flags : List Bool) (slots : List ℕ) (new : ℕ) → ((slot : ℕ) → get_or flags slot false ≡ is_among slots slot)
    → get_or (slice_set flags new true) new false ≡ true
    → (slot : ℕ) → get_or (slice_set flags new true) slot false ≡ is_among (slots ++ new ∷ []) slot
keeps-push flags slots new keeps here slot = elim (cases_eq slot new) [
  | inl same ↦
      let last : (new == slot) ≡ true = eq-eqb new slot (sym same) in
      ap (λ (s : ℕ). get_or (slice_set flags new true) s false) same ∙ here ∙ sym (among-push slots new slot ∙ or_last (is_among slots slot) _ last)
  | inr ne ↦
      let other : (new == slot) ≡ false = grind (arith, nat_tests) in
      get_or-set_other flags new slot true false ne ∙ keeps slot ∙ sym (among-push slots new slot ∙ or_none (is_among slots slot) _ other)
]

-- ---- one slot less

-- no other label keeps this slot
gone : (slots : List ℕ) (place slot : ℕ) → AllPairs (λ a b. a ≢ b) slots → slice_get slots place ≡ Some slot
    → is_among (remove slots place) slot ≡ false
gone slots place slot own there =
    list_any_none (λ k. k == slot) (remove slots place)
    (λ k d lt. let ne = others_differ (λ (n : ℕ). n) slots place slot there own k d lt in grind (arith, nat_tests))

among-others : (slots : List ℕ) (place old slot : ℕ) → slice_get slots place ≡ Some old → (old == slot) ≡ false
    → is_among slots slot ≡ is_among (remove slots place) slot
among-others [] place old slot there other = cc
among-others (k ∷ ks) zero old slot there other =
    let same : k ≡ old = cc in
    ap (λ (b : Bool). b || is_among ks slot) (ap (λ (n : ℕ). n == slot) same ∙ other)
among-others (k ∷ ks) (suc place) old slot there other =
    ap (λ (b : Bool). k == slot || b) (among-others ks place old slot there other)

unset : (flags : List Bool) (slot : ℕ) → get_or (slice_set flags slot false) slot false ≡ false
unset [] zero = refl
unset [] (suc slot) = refl
unset (k ∷ flags) zero = refl
unset (k ∷ flags) (suc slot) = unset flags slot

pub keeps-remove : (flags : List Bool) (slots : List ℕ) (place old : ℕ) → AllPairs (λ a b. a ≢ b) slots → slice_get slots place ≡ Some old
    → ((slot : ℕ) → get_or flags slot false ≡ is_among slots slot)
    → (slot : ℕ) → get_or (slice_set flags old false) slot false ≡ is_among (remove slots place) slot
keeps-remove flags slots place old own there keeps slot = elim (cases_eq slot old) [
  | inl same ↦
      ap (λ (s : ℕ). get_or (slice_set flags old false) s false) same ∙ unset flags old
      ∙ sym (ap (λ (s : ℕ). is_among (remove slots place) s) same ∙ gone slots place old own there)
  | inr ne ↦
      let other : (old == slot) ≡ false = grind (arith, nat_tests) in
      get_or-set_other flags old slot false false ne ∙ keeps slot ∙ among-others slots place old slot there other
]

-- a slot at a place is kept
pub among-at : (slots : List ℕ) (place slot : ℕ) → slice_get slots place ≡ Some slot → is_among slots slot ≡ true
among-at [] place slot there = cc
among-at (k ∷ ks) zero slot there =
    let same : k ≡ slot = cc in
    ap (λ (b : Bool). b || is_among ks slot) (eq-eqb k slot same)
among-at (k ∷ ks) (suc place) slot there =
    ap (λ (b : Bool). k == slot || b) (among-at ks place slot there) ∙ or_true (k == slot)
  where
    or_true : (b : Bool) → (b || true) ≡ true
    or_true true = refl
    or_true false = refl
