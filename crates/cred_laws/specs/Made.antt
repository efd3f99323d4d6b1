-- What a prepared credential is.
use Rattle.std.specs.Prelude.{◌≡◌, ℕ, List, All, Ok, IfSome, ⊤}
use Rattle.std.specs.declared.option.Option.{Option}
use Rattle.cred_record.specs.File.{File}
use Rattle.cred_event.specs.declared.answer.Answer.{Answer}
use Rattle.cred_event.specs.declared.entry.Entry.{Entry}
use Rattle.cred_event.specs.declared.event.Change.{Change}
use Rattle.cred_model.specs.Script.{Script, chain_of}
use Rattle.cred_model.specs.State.{State, SealedCred, Prepared, Changed, Numbered, numbered}
use Rattle.cred_model.specs.Change.{by_change}
use Rattle.cred_model.specs.Journal.{replay}

-- The credential, and what it gains, are what the change makes of the base, with a file of which
-- this holds.
abbrev pub IsMadeFrom : (Option File → Type 0) → Script → Option Numbered → Changed → Type 0
IsMadeFrom From script found last =
    IfSome found (λ base.
    (file : Option File) × (answer : Answer)
    × (by_change file (chain_of script base.cred.ns) base.cred last.change
    ≡ Ok (record { answer = answer; cred = last.cred; gains = last.gains }))
    × From file)

-- the same with any file
abbrev pub IsChangedFrom : Script → Option Numbered → Changed → Type 0
IsChangedFrom script found last = IsMadeFrom (λ file. ⊤) script found last

-- the same of a prepared credential, once it was changed
abbrev pub IsMade : Script → List SealedCred → Prepared → Type 0
IsMade script creds p = IfSome p.changed (IsChangedFrom script (numbered creds p.base))

-- the same of all that are prepared, where `From` holds of the file that each was changed with, by
-- its label and the change
abbrev pub AreMadeFrom : (ℕ → Change → Option File → Type 0) → Script → State → Type 0
AreMadeFrom From script s =
    All (λ p. IfSome p.changed (λ last.
    IsMadeFrom (From p.label last.change) script (numbered s.creds p.base) last)) s.prepared

-- the same of all that are prepared, with any files
abbrev pub AreMade : Script → State → Type 0
AreMade script s = All (IsMade script s.creds) s.prepared

-- this holds after every journal
abbrev pub PreparedAreMade : Type 0
PreparedAreMade = (script : Script) (journal : List Entry) → AreMade script (replay script journal)
