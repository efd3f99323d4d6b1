-- Which slots are in use, and which one is taken next.
use Rattle.std.specs.Prelude.{ℕ, ◌==◌, Bool, false, not, ◌||◌, List, [], ◌∷◌, ◌++◌, map, find}
use Rattle.std.specs.Prelude.{count_by, slice_get, is_some, if◌then◌else◌}
use Rattle.std.specs.declared.option.Option.{Option}
use Rattle.std.specs.List.{concat, flat_map, list_any}
use Rattle.std.specs.Option.{option_map_or}
use Rattle.cred_ids.specs.Limits.{slots}
use Rattle.cred_model.specs.State.{State, SealedCred}

-- The places that refer to a credential, by its number: a list for each kind of thing that refers.
abbrev pub places : State → List (List ℕ)
places s =
    map (λ t. t.current) s.tasks ∷
    flat_map (λ t. t.overrides) s.tasks ∷
    map (λ f. f.opener) s.files ∷
    map (λ h. h.number) s.holds ∷
    map (λ p. p.base) s.prepared ∷
    []

-- all references in use: those that were not given up
abbrev pub in_use : State → List ℕ
in_use s = concat (places s)

-- Every reference: those in use, and those that were given up since the last sweep.
abbrev pub refs : State → List ℕ
refs s = in_use s ++ s.deferred

-- the slots that prepared labels keep
abbrev pub kept : State → List ℕ
kept s = map (λ p. p.slot) s.prepared

-- the credential of this number stands in the slot
abbrev pub stands_in : List SealedCred → ℕ → ℕ → Bool
stands_in creds slot number =
    option_map_or (λ sealed. sealed.slot == slot) (slice_get creds number) false

-- how many references there are to credentials in the slot
abbrev pub uses : State → ℕ → ℕ
uses s slot = count_by (λ number. stands_in s.creds slot number) (refs s)

-- a prepared label keeps the slot for the credential that it will seal
abbrev pub is_kept : State → ℕ → Bool
is_kept s slot = list_any (λ kept. kept == slot) (kept s)

-- A slot is live if something refers to a credential in it, or if it is kept.
abbrev pub is_live : State → ℕ → Bool
is_live s slot = list_any (λ number. stands_in s.creds slot number) (refs s) || is_kept s slot

-- the least slot that isn't live
abbrev pub least_free : State → Option ℕ
least_free s = find (λ slot. not (is_live s slot)) slots

-- The sweep drops all that was given up.
abbrev pub swept : State → State
swept s = record s { deferred = [] }

-- Where all slots are live there is a sweep, whether or not it frees one.
abbrev pub swept_if_full : State → State
swept_if_full s = if is_some (least_free s) then s else swept s

-- the slot that a new credential takes, after the sweep if there was one
abbrev pub free : State → Option ℕ
free s = least_free (swept_if_full s)
