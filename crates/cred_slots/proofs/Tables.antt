-- What callers need to know of a table.
use Rattle.std.proofs.Common.{◌≡◌, ℕ, zero, suc, ◌<◌, ◌==◌, Bool, true, false, List, [], ◌∷◌, get_or, refl, sym, ap, arith, slice_set, is_some}
use Rattle.std.specs.List.{count_by}
use Rattle.cred_slots.specs.Table.{Table, references_to, least_free_in, swept_table, swept_table_if_full}
use Rattle.cred_slots.proofs.Counting.{count-append}

-- what is held is referred to
pub held_is_referred : (t : Table) (number : ℕ) → 0 < count_by (λ n. n == number) t.held → 0 < references_to t number
held_is_referred t number some = omega (arith, count-append (λ n. n == number) t.held t.deferred)

-- a slot that was kept for a while is as it was
pub kept_again : (kept : List Bool) (slot : ℕ) → get_or kept slot false ≡ false → slice_set (slice_set kept slot true) slot false ≡ kept
kept_again [] slot none = refl
kept_again (k ∷ kept) zero none = ap (λ (b : Bool). b ∷ kept) (sym none)
kept_again (k ∷ kept) (suc slot) none = ap (λ (rest : List Bool). k ∷ rest) (kept_again kept slot none)

pub room-free : (t : Table) → is_some (least_free_in t) ≡ true → swept_table_if_full t ≡ t
room-free t e = rw e refl

pub room-full : (t : Table) → is_some (least_free_in t) ≡ false → swept_table_if_full t ≡ swept_table t
room-full t e = rw e refl
