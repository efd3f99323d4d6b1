-- Where a credential is sealed.
use Rattle.std.specs.Prelude.{◌≡◌, ℕ, ◌≤◌, length, All, Some}
use Rattle.cred_event.specs.declared.event.Event.{Event}
use Rattle.cred_model.specs.Script.{Script}
use Rattle.cred_model.specs.State.{State, Numbered, numbered}
use Rattle.cred_model.specs.Slots.{in_use}
use Rattle.cred_model.specs.Step.{step}
use Rattle.cred_sound.specs.SlotUse.{slot_use, IsClear, SealsOf}
use Rattle.cred_sound.specs.Sound.{IsSound}

-- No reference in use is to a credential in the slot, and no prepared label keeps it but the one
-- whose credential the event seals. Of a journal two laws say together that what is referred to
-- stays in its place: a sealed number keeps its slot for good (`KeepsSealed`), and nothing else is
-- put into that slot while a reference in use is to it (`WritesUnusedSlots`, which is this).
pub record IsUnusedSlot (s : State) (event : Event) (slot : ℕ) : Type 0 where
  pub clear : IsClear (slot_use s).slots slot (in_use s)
  pub kept : All (λ p. p.slot ≡ slot → SealsOf event p.label) s.prepared

-- Each credential that an event seals in a sound state is put into such a slot.
abbrev pub NoHeldSlotIsRewritten : Type 0
NoHeldSlotIsRewritten =
    (script : Script) (s : State) (line : ℕ) (event : Event) (number : ℕ) (new : Numbered)
    → IsSound s → length s.creds ≤ number
    → numbered (step script s line event).1.creds number ≡ Some new → IsUnusedSlot s event new.slot
