-- A table and a state that it counts take the same slot.
use Rattle.std.proofs.Common.{◌≡◌, ℕ, ◌+◌, Bool, true, false, not, cond, ◌||◌, ◌==◌, List, [], ◌++◌, find, map, slice_get, Option, None, Some, is_some, refl}
use Rattle.std.proofs.Common.{sym, ap, ◌∙◌, subst}
use Rattle.std.specs.List.{list_any, count_by}
use Rattle.std.specs.Option.{option_map, option_map_or}
use Rattle.std.proofs.lemmas.List.Folds.{list_any-append}
use Rattle.std.proofs.lemmas.Option.{slice_get-map}
use Rattle.cred_ids.specs.Limits.{slots}
use Rattle.cred_model.specs.State.{State, SealedCred}
use Rattle.cred_model.specs.Slots as model
use Rattle.cred_model.specs.Slots.{in_use, kept}
use Rattle.cred_slots.specs.Table.{Table, is_kept_in, swept_table}
use Rattle.cred_slots.specs.Table as table
use Rattle.cred_slots.proofs.Counting.{count-append}
use Rattle.cred_slots.proofs.Tables.{room-free, room-full}
use Rattle.cred_tables.specs.Kept.{IsCounted}
use Rattle.cred_tables.proofs.Bags.{any-bag, any-same, find-same, count-same}

-- The table counts what the state refers to and keeps, and has its slots and its deferred numbers.
pub record IsTable (s : State) (t : Table) : Type 0 where
  pub counted : IsCounted (in_use s) (kept s) t
  pub slots : map (λ sealed. sealed.slot) s.creds ≡ t.sealed
  pub deferred : s.deferred ≡ t.deferred

stands-or : (slot : ℕ) (found : Option SealedCred)
    → option_map_or (λ s. s.slot == slot) found false ≡ option_map_or (λ place. place == slot) (option_map (λ s. s.slot) found) false
stands-or slot None = refl
stands-or slot (Some s) = refl

stands-same : (s : State) (t : Table) → IsTable s t → (slot n : ℕ) → table.is_sealed_in t.sealed slot n ≡ model.stands_in s.creds slot n
stands-same s t is slot n =
    sym (stands-or slot (slice_get s.creds n)
    ∙ ap (λ o. option_map_or (λ place. place == slot) o false)
    (sym (slice_get-map (λ (x : SealedCred). x.slot) s.creds n) ∙ ap (λ (ss : List ℕ). slice_get ss n) is.slots))

live-same : (s : State) (t : Table) → IsTable s t → (slot : ℕ) → table.is_live_in t slot ≡ model.is_live s slot
live-same s t is slot =
    let stands = table.is_sealed_in t.sealed slot in
    let each = model.stands_in s.creds slot in
    let same : list_any stands (t.held ++ t.deferred) ≡ list_any each (in_use s ++ s.deferred)
    = list_any-append stands t.held t.deferred
    ∙ ap (λ b. b || list_any stands t.deferred) (any-bag stands t.held (in_use s) is.counted.counts)
    ∙ ap (λ ds. list_any stands (in_use s) || list_any stands ds) (sym is.deferred)
    ∙ sym (list_any-append stands (in_use s) s.deferred)
    ∙ any-same stands each (in_use s ++ s.deferred) (λ n. stands-same s t is slot n) in
    ap (λ b. b || is_kept_in t slot) same ∙ ap (λ b. list_any each (in_use s ++ s.deferred) || b) (is.counted.keeps slot)

least_free-same : (s : State) (t : Table) → IsTable s t → table.least_free_in t ≡ model.least_free s
least_free-same s t is =
    find-same (λ slot. not (table.is_live_in t slot)) (λ slot. not (model.is_live s slot)) slots (λ slot. ap not (live-same s t is slot))

room_by : (s : State) (test : Bool) → cond test s (model.swept s) ≡ record s { deferred = cond test s.deferred [] }
room_by s true = refl
room_by s false = refl

-- the state with room has the deferred numbers of the table with room
pub room-same : (s : State) (t : Table) → IsTable s t → model.swept_if_full s ≡ record s { deferred = (table.swept_table_if_full t).deferred }
room-same s t is =
    room_by s (is_some (model.least_free s))
    ∙ ap (λ (o : Option ℕ). record s { deferred = cond (is_some o) s.deferred [] }) (sym (least_free-same s t is))
    ∙ ap (λ (ds : List ℕ). record s { deferred = cond (is_some (table.least_free_in t)) ds [] }) is.deferred

pub room-table : (s : State) (t : Table) → IsTable s t → IsTable (model.swept_if_full s) (table.swept_table_if_full t)
room-table s t is =
    subst (λ (r : State). IsTable r (table.swept_table_if_full t)) (sym (room-same s t is))
    (record { counted = record { counts = is.counted.counts; keeps = is.counted.keeps }; slots = is.slots; deferred = refl })

pub free-same : (s : State) (t : Table) → IsTable s t → table.free_in t ≡ model.free s
free-same s t is = least_free-same (model.swept_if_full s) (table.swept_table_if_full t) (room-table s t is)

-- where no slot is free, the room that is made is a sweep's
pub full_swept : (t : Table) → table.free_in t ≡ None → table.swept_table_if_full t ≡ swept_table t
full_swept t none = by (is_some (table.least_free_in t)) refl
  where
    by : (test : Bool) → is_some (table.least_free_in t) ≡ test → table.swept_table_if_full t ≡ swept_table t
    by false is = room-full t is
    by true is =
        let full : table.least_free_in t ≡ None = sym (ap table.least_free_in (room-free t is)) ∙ none in
        let test : is_some (table.least_free_in t) ≡ false = ap is_some full in
        cc

pub uses-same : (s : State) (t : Table) → IsTable s t → (slot : ℕ) → table.uses_in t slot ≡ model.uses s slot
uses-same s t is slot =
    let stands = table.is_sealed_in t.sealed slot in
    count-append stands t.held t.deferred
    ∙ ap (λ n. n + count_by stands t.deferred) (is.counted.counts.counts stands)
    ∙ ap (λ ds. count_by stands (in_use s) + count_by stands ds) (sym is.deferred)
    ∙ sym (count-append stands (in_use s) s.deferred)
    ∙ count-same stands (model.stands_in s.creds slot) (in_use s ++ s.deferred) (λ n. stands-same s t is slot n)
