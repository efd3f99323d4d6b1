-- What an override leaves as it is, and what an open file keeps.
use Rattle.std.specs.Prelude.{◌≡◌, ◌≢◌, ℕ, Some, ⊤}
use Rattle.std.specs.Option.{option_map}
use Rattle.cred_event.specs.declared.event.Event.{Event}
use Rattle.cred_event.specs.declared.event.Event.TheVariants.{Override, Revert, CloseFile}
use Rattle.cred_model.specs.Script.{Script}
use Rattle.cred_model.specs.State.{State, OpenFile, task_of, open_of}
use Rattle.cred_model.specs.Step.{step}

-- a task begins or ends an override
abbrev pub IsOverriding : Event → Type 0
IsOverriding (Override task label) = ⊤
IsOverriding (Revert task) = ⊤
IsOverriding event = ⊥

-- An override lends a task another credential for its acts. The credential that each task is acted
-- on by stays (Documentation/security/credentials.rst, "Overriding the VFS's use of credentials").
abbrev pub OverridesLeaveCurrent : Type 0
OverridesLeaveCurrent =
    (script : Script) (s : State) (line : ℕ) (event : Event) (task : ℕ) → IsOverriding event
    → option_map (λ t. t.current) (task_of (step script s line event).1 task)
    ≡ option_map (λ t. t.current) (task_of s task)

-- A file stays open, by its opener's credential, after each event but the close of its descriptor.
abbrev pub OpenStays : Type 0
OpenStays =
    (script : Script) (s : State) (line : ℕ) (event : Event) (fd : ℕ) (file : OpenFile)
    → open_of s fd ≡ Some file → event ≢ CloseFile fd
    → open_of (step script s line event).1 fd ≡ Some file
