-- Sweeps that are made to find a slot.
use Rattle.std.specs.Prelude.{◌≡◌, ℕ, Bool, [], ◌∷◌, ◌++◌, length, if◌then◌else◌, Some}
use Rattle.std.specs.Option.{option_map}
use Rattle.cred_record.specs.Credential.{Credential}
use Rattle.cred_event.specs.declared.answer.Answer.{Answer}
use Rattle.cred_event.specs.declared.answer.Answer.TheVariants.{Began, Sealed}
use Rattle.cred_model.specs.State.{State, Broadcast, task_of}
use Rattle.cred_model.specs.Slots.{swept}
use Rattle.cred_model.specs.Broadcasts.{with_broadcast}
use Rattle.cred_model.specs.Dumpable.{renewed}
use Rattle.cred_model.specs.Moves.{replaced, sealed}

-- the state after a sweep, if there was one
abbrev pub swept_if : Bool → State → State
swept_if sweep s = if sweep then swept s else s

-- the credential of this number is the task's current one
abbrev pub IsCurrentOf : State → ℕ → ℕ → Type 0
IsCurrentOf s task number = option_map (λ t. t.current) (task_of s task) ≡ Some number

-- One more credential is sealed, for the one of this number, which is given up.
abbrev pub sealed_for : State → ℕ → Credential → ℕ → State
sealed_for s old c slot =
    let now = sealed s c slot in record now { deferred = s.deferred ++ old ∷ [] }

-- What a call answers whose new credential takes this slot, and the state after it. `other` says
-- whether the old and the new credential differ in an effective or a filesystem id.
abbrev pub begun : State → Broadcast → ℕ → Credential → Bool → ℕ → Answer × State
begun s broadcast old made other slot = (
  Began (length s.creds) slot (length broadcast.waiting),
  record (replaced s broadcast.caller old made slot) {
    broadcasts = with_broadcast s.broadcasts broadcast;
    dumpable = renewed s.dumpable broadcast.process other;
  },
)

-- The same of a call of one thread alone: no other thread waits.
abbrev pub called_alone : State → (task process old : ℕ) → Credential → Bool → (slot : ℕ)
    → Answer × State
called_alone s task process old made other slot = (
  Sealed (length s.creds) slot,
  record (replaced s task old made slot) { dumpable = renewed s.dumpable process other },
)
