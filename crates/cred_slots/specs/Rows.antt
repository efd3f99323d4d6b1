-- What the rows of a table count, and what holds of a table's parts at all times.
use Rattle.std.specs.Prelude.{◌≡◌, ℕ, ◌+◌, ◌<◌, ◌≤◌, Bool, true, false, nat_lt, List, [], ◌∷◌, ◌++◌}
use Rattle.std.specs.Prelude.{length, replicate, slice_get, slice_index_or, Some}
use Rattle.cred_ids.specs.Limits.{SLOTS}
use Rattle.cred_slots.specs.declared.row.Row.{Row}
use Rattle.cred_slots.specs.Table.{IsSameBag}

-- a row that counts nothing
abbrev pub unused : Row
unused = record { number = 0; held = 0; late = 0 }

-- the row of a slot
abbrev pub row_at : List Row → ℕ → Row
row_at rows slot = slice_index_or rows slot unused

-- the numbers of the rows, each as often as its row counts it
abbrev pub repeated : (Row → ℕ) → List Row → List ℕ
repeated count [] = []
repeated count (row ∷ rows) = replicate (count row) row.number ++ repeated count rows

abbrev pub held_count : Row → ℕ
held_count row = row.held

abbrev pub late_count : Row → ℕ
late_count row = row.late

-- the numbers that are referred to, each as often as it is
abbrev pub held_in : List Row → List ℕ
held_in rows = repeated held_count rows

-- the numbers that were given up, each as often as it was
abbrev pub deferred_in : List Row → List ℕ
deferred_in rows = repeated late_count rows

abbrev pub without_late : Row → Row
without_late row = record row { late = 0 }

-- The flags are set where the rows count something.
pub record IsFlagged (count : Row → ℕ) (flags : List Bool) (rows : List Row) : Type 0 where
  pub long : length flags ≡ SLOTS
  pub each : (slot : ℕ) → slot < SLOTS
      → slice_index_or flags slot false ≡ nat_lt 0 (count (row_at rows slot))

-- `sealable` and `referable` are how many numbers may be sealed, and how many may be given up, in
-- the memory that is there.
pub record AreSoundRows (rows : List Row) (sealed deferred : List ℕ) (kept used late : List Bool)
    (held spare sealable referable : ℕ) : Type 0 where
  pub all_rows : length rows ≡ SLOTS
  pub all_kept : length kept ≡ SLOTS
  pub is_used : IsFlagged held_count used rows
  pub is_late : IsFlagged late_count late rows
  -- each number stands in one of the slots
  pub places : (number slot : ℕ) → slice_get sealed number ≡ Some slot → slot < SLOTS
  -- a number that is referred to stands in the slot that counts it
  pub stands : (slot : ℕ) → slot < SLOTS → let row = row_at rows slot in 0 < row.held + row.late
      → slice_get sealed row.number ≡ Some slot
  -- nothing refers to a kept slot
  pub keeps : (slot : ℕ) → slot < SLOTS → slice_index_or kept slot false ≡ true
      → let row = row_at rows slot in row.held + row.late ≡ 0
  -- what was given up is counted as late, and all that is held is counted in one number
  pub given_up : IsSameBag deferred (deferred_in rows)
  pub counted : length (held_in rows) ≡ held
  -- There is room for as many more as are spare, and for each reference once it is given up.
  pub seals : length sealed + spare ≤ sealable
  pub refers : held + length deferred + spare ≤ referable
