-- A table of slots, as its callers see it, and which slot of it is taken next.
use Rattle.std.specs.Prelude.{◌≡◌, ℕ, ◌<◌, ◌==◌, Bool, true, false, not, ◌||◌, List, [], ◌++◌, map}
use Rattle.std.specs.Prelude.{find, count_by, slice_get, slice_index_or, is_some, if◌then◌else◌}
use Rattle.std.specs.declared.option.Option.{Option}
use Rattle.std.specs.List.{list_any, range_with_len}
use Rattle.std.specs.Option.{option_map_or}
use Rattle.cred_ids.specs.Limits.{SLOTS, slots}

pub record Table : Type 0 where
  -- the slot of each number that was sealed: the place in this list is the number
  pub sealed : List ℕ
  -- the numbers that are referred to, each as often as it is, in some order, without those that
  -- were given up
  pub held : List ℕ
  -- the references that were given up since the last sweep, in that order
  pub deferred : List ℕ
  -- for each slot, whether it is kept for a credential that is being prepared
  pub kept : List Bool
  -- how many more references there is room for
  pub spare : ℕ

-- the table before the first number is sealed
unfoldable pub empty_table : Table
empty_table = record {
  sealed = [];
  held = [];
  deferred = [];
  kept = map (λ _. false) (range_with_len 0 SLOTS);
  spare = 0;
}

-- all references; one that was given up counts until the sweep
abbrev pub references : Table → List ℕ
references t = t.held ++ t.deferred

-- how many references there are to a number
abbrev pub references_to : Table → ℕ → ℕ
references_to t number = count_by (λ n. n == number) (references t)

-- the number stands in the slot
abbrev pub is_sealed_in : List ℕ → (slot number : ℕ) → Bool
is_sealed_in sealed slot number =
    option_map_or (λ place. place == slot) (slice_get sealed number) false

-- how many references there are to numbers in the slot
abbrev pub uses_in : Table → ℕ → ℕ
uses_in t slot = count_by (λ number. is_sealed_in t.sealed slot number) (references t)

-- the slot is kept for a credential that is being prepared
abbrev pub is_kept_in : Table → ℕ → Bool
is_kept_in t slot = slice_index_or t.kept slot false

-- A slot is live if something refers to a number in it, or if it is kept.
abbrev pub is_live_in : Table → ℕ → Bool
is_live_in t slot =
    list_any (λ number. is_sealed_in t.sealed slot number) (references t) || is_kept_in t slot

-- the least slot that isn't live
abbrev pub least_free_in : Table → Option ℕ
least_free_in t = find (λ slot. not (is_live_in t slot)) slots

-- The sweep drops all that was given up.
abbrev pub swept_table : Table → Table
swept_table t = record t { deferred = [] }

-- Where all slots are live, a sweep makes room, if there is any to be made.
abbrev pub swept_table_if_full : Table → Table
swept_table_if_full t = record t { deferred = if is_some (least_free_in t) then t.deferred else [] }

-- the slot that is taken next, in the table with room
abbrev pub free_in : Table → Option ℕ
free_in t = least_free_in (swept_table_if_full t)

-- Two lists have the same numbers, each as often, if each test passes as many of the one as of the
-- other.
pub record IsSameBag (xs ys : List ℕ) : Type 0 where
  pub counts : (test : ℕ → Bool) → count_by test xs ≡ count_by test ys

-- Of all numbers that stand in the slot, only this one is referred to.
pub record IsOnlyUser (t : Table) (number slot : ℕ) : Type 0 where
  pub only : (other : ℕ) → is_sealed_in t.sealed slot other ≡ true → 0 < references_to t other
      → other ≡ number
