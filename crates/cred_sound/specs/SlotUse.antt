-- What a state refers to, and the slots that it uses.
use Rattle.std.specs.Prelude.{◌≡◌, ◌≢◌, ℕ, ◌<◌, List, ◌++◌, length, map, slice_get, Some, All}
use Rattle.std.specs.Prelude.{Contains}
use Rattle.std.specs.List.{AllPairs}
use Rattle.cred_ids.specs.Limits.{SLOTS}
use Rattle.cred_event.specs.declared.event.Event.{Event}
use Rattle.cred_event.specs.declared.event.Event.TheVariants.{Commit, Override}
use Rattle.cred_model.specs.State.{State}
use Rattle.cred_model.specs.Slots.{in_use, kept}

-- The slot of each number that was sealed, the references in use, those that were given up since
-- the last sweep, and the slots that are kept for credentials that are being prepared.
pub record SlotUse : Type 0 where
  pub slots : List ℕ
  pub in_use : List ℕ
  pub deferred : List ℕ
  pub kept : List ℕ

-- the use of the slots in a state
abbrev pub slot_use : State → SlotUse
slot_use s = record {
  slots = map (λ sealed. sealed.slot) s.creds;
  in_use = in_use s;
  deferred = s.deferred;
  kept = kept s;
}

-- all references
abbrev pub referred : SlotUse → List ℕ
referred l = l.in_use ++ l.deferred

-- the credential of this number stands in the slot
abbrev pub StandsIn : List ℕ → (slot number : ℕ) → Type 0
StandsIn slots slot number = slice_get slots number ≡ Some slot

-- none of these numbers stands in the slot
abbrev pub IsClear : List ℕ → ℕ → List ℕ → Type 0
IsClear slots slot numbers = All (λ n. slice_get slots n ≢ Some slot) numbers

-- two of these numbers whose credentials stand in one slot are one number
abbrev pub SlotsApart : List ℕ → List ℕ → Type 0
SlotsApart slots numbers =
    (slot m n : ℕ) → Contains numbers m → Contains numbers n
    → StandsIn slots slot m → StandsIn slots slot n → m ≡ n

-- Each reference is to a sealed credential, each of those stands in a slot, and no two that are
-- referred to stand in the same. Each slot that is kept is kept once, and nothing that is referred
-- to stands in it.
pub record IsOrderly (l : SlotUse) : Type 0 where
  pub sealed : All (λ n. n < length l.slots) (referred l)
  pub slotted : All (λ slot. slot < SLOTS) l.slots
  pub apart : SlotsApart l.slots (referred l)
  pub kept : All (λ slot. slot < SLOTS) l.kept
  pub own : AllPairs (λ a b. a ≢ b) l.kept
  pub clear : All (λ slot. IsClear l.slots slot (referred l)) l.kept

-- the event seals what this label prepared: it commits that, or has it override the task's own
abbrev pub SealsOf : Event → ℕ → Type 0
SealsOf (Commit committed) label = committed ≡ label
SealsOf (Override task overriding) label = overriding ≡ label
SealsOf event label = ⊥
