-- What was sealed, what is held and what is prepared stays as it is.
use Rattle.std.specs.Prelude.{◌≡◌, ◌≢◌, ◌==◌, ℕ, Bool, false, List, ◌++◌, length, take, Some, None}
use Rattle.std.specs.Prelude.{All}
use Rattle.std.specs.declared.option.Option.{Option}
use Rattle.std.specs.Option.{option_map}
use Rattle.cred_event.specs.declared.event.Event.{Event}
use Rattle.cred_event.specs.declared.event.Event.TheVariants.{Release, Commit, Abort, Override}
use Rattle.cred_event.specs.declared.entry.Entry.{Entry}
use Rattle.cred_model.specs.Script.{Script}
use Rattle.cred_model.specs.State.{State, Hold, Prepared, Numbered, hold_of, held_by, prepared_of}
use Rattle.cred_model.specs.Step.{step}
use Rattle.cred_model.specs.Journal.{replay}

-- The sealed credentials are, whatever is entered later, the first ones of those that are then
-- sealed, in their slots.
abbrev pub SealedStays : Type 0
SealedStays =
    (script : Script) (journal more : List Entry)
    → let before = (replay script journal).creds in
    take (length before) (replay script (journal ++ more)).creds ≡ before

-- A hold stands, with its number, after each event but its label's release.
abbrev pub HoldStays : Type 0
HoldStays =
    (script : Script) (s : State) (line : ℕ) (event : Event) (label : ℕ) (hold : Hold)
    → hold_of s label ≡ Some hold → event ≢ Release label
    → hold_of (step script s line event).1 label ≡ Some hold

-- While a label isn't released it holds one number, whose credential and slot are the same
-- throughout.
abbrev pub HeldStays : Type 0
HeldStays =
    (script : Script) (journal more : List Entry) (label : ℕ) (held : Numbered)
    → held_by (replay script journal) label ≡ Some held
    → All (λ entry. entry.event ≢ Release label) more
    → held_by (replay script (journal ++ more)) label ≡ Some held

-- What a label prepares, as it was before the first change of its credential: the task, the base
-- and the slot.
abbrev pub preparation_of : State → ℕ → Option Prepared
preparation_of s label =
    option_map (λ (p : Prepared). record p { changed = None }) (prepared_of s label)

-- the event ends what the label prepares
abbrev pub ends_label : ℕ → Event → Bool
ends_label label (Commit committed) = committed == label
ends_label label (Abort aborted) = aborted == label
ends_label label (Override task overriding) = overriding == label
ends_label label event = false

-- A prepared label stands, with its task, its base and its slot, after each event that doesn't end
-- it.
abbrev pub PreparedStays : Type 0
PreparedStays =
    (script : Script) (s : State) (line : ℕ) (event : Event) (label : ℕ) (p : Prepared)
    → preparation_of s label ≡ Some p → ends_label label event ≡ false
    → preparation_of (step script s line event).1 label ≡ Some p
