-- The sets of each sealed credential are valid.
use Rattle.std.specs.Prelude.{List, All}
use Rattle.cred_record.specs.Credential.{Credential, AreValidSets}
use Rattle.cred_event.specs.declared.entry.Entry.{Entry}
use Rattle.cred_model.specs.Script.{Script}
use Rattle.cred_model.specs.State.{State}
use Rattle.cred_model.specs.Journal.{replay}

-- nothing is effective that isn't permitted, and nothing ambient that isn't permitted and
-- inheritable (capabilities(7), "Thread capability sets")
abbrev pub IsValid : Credential → Type 0
IsValid c = AreValidSets c.perm c.inh c.eff c.amb

-- this holds of all that were sealed
abbrev pub AreValid : State → Type 0
AreValid s = All (λ sealed. IsValid sealed.cred) s.creds

-- this holds after every journal
abbrev pub SealedAreValid : Type 0
SealedAreValid = (script : Script) (journal : List Entry) → AreValid (replay script journal)
