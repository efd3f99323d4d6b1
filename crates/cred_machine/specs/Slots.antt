-- Slots that are marked.
use Rattle.std.specs.Prelude.{◌≡◌, ℕ, ◌<◌, ◌==◌, ◌||◌, not, Bool, false, true}
use Rattle.std.specs.Prelude.{List, length, slice_index_or, IfSome}
use Rattle.std.specs.declared.option.Option.{Option}
use Rattle.std.specs.List.{list_any}
use Rattle.cred_ids.specs.Limits.{SLOTS}
use Rattle.cred_event.specs.declared.answer.Answer.{Answer}
use Rattle.cred_event.specs.declared.answer.Answer.TheVariants.{Acted, Stale}
use Rattle.cred_event.specs.declared.event.Event.{Event}
use Rattle.cred_event.specs.declared.event.Event.TheVariants.{Act, Alter, Ask, Begin, Commit}
use Rattle.cred_event.specs.declared.event.Event.TheVariants.{Prepare, Release, Take}
use Rattle.cred_model.specs.State.{State, SealedCred}
use Rattle.cred_model.specs.Slots.{is_live, stands_in}
use Rattle.cred_machine.specs.Kept.{KeepsReferred}

-- a slot's mark; none past the last
abbrev pub is_marked : List Bool → ℕ → Bool
is_marked marks slot = slice_index_or marks slot false

-- There is a mark for each slot, and all below this one are marked.
pub record IsMarking (marks : List Bool) (below : ℕ) : Type 0 where
  pub slots : length marks ≡ SLOTS
  pub marked : (slot : ℕ) → slot < below → is_marked marks slot ≡ true

-- One of these numbers stands in the slot, or it is one of those that are kept.
abbrev pub is_live_by : List SealedCred → List ℕ → List ℕ → ℕ → Bool
is_live_by creds numbers kept slot =
    list_any (λ number. stands_in creds slot number) numbers
    || list_any (λ kept. kept == slot) kept

-- The marked slots are those that are live.
abbrev pub AreLive : List Bool → State → Type 0
AreLive marks s = (slot : ℕ) → slot < SLOTS → is_marked marks slot ≡ is_live s slot

-- Where it is known which slots are live, those are; and what nothing refers to is forgotten.
pub record IsTidy (live : Option (List Bool)) (s : State) : Type 0 where
  pub known : IfSome live (λ marks. AreLive marks s)
  pub kept : KeepsReferred s

-- the event is a preparation, an id call or a thread's step
abbrev pub takes_slot : Event → Bool
takes_slot (Prepare label task hold) = true
takes_slot (Begin task call) = true
takes_slot (Act broadcast) = true
takes_slot event = false

-- the answer of a commit that comes too late, and gives up the slot that was kept for it
abbrev pub is_too_late : Answer → Bool
is_too_late (Stale base now) = true
is_too_late answer = false

-- Where it was known which slots are live, it still is after the event with this answer: the slots
-- that were live still are, and no others but one that the event says that it took.
abbrev pub keeps_marks : Event → Answer → Bool
keeps_marks (Take label task side) answer = true
keeps_marks (Release label) answer = true
keeps_marks (Ask label query) answer = true
keeps_marks (Prepare label task hold) answer = true
keeps_marks (Alter label change) answer = true
keeps_marks (Commit label) answer = not (is_too_late answer)
keeps_marks (Begin task call) answer = true
keeps_marks (Act broadcast) answer = true
keeps_marks event answer = false

-- The marks after it have this slot too.
abbrev pub HasTaken : List Bool → ℕ → List Bool → Type 0
HasTaken before taken after = (slot : ℕ) → slot < SLOTS
    → is_marked after slot ≡ (is_marked before slot || (taken == slot))

-- A step with this answer took its slot: the marks after it have that one too.
pub record TakesSlot (before : List Bool) (answer : Answer) (after : List Bool) : Type 0 where
  pub task : ℕ
  pub cred : ℕ
  pub taken : ℕ
  pub left : ℕ
  pub acted : answer ≡ Acted task cred taken left
  pub marks : HasTaken before taken after
