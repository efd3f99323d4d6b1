-- What replaces a thread's credential.
use Rattle.std.specs.Prelude.{◌≡◌, ◌<◌, ℕ, ⊤, List, [], ◌∷◌, ◌++◌, Some}
use Rattle.cred_record.specs.Credential.{Credential, AreValidSets}
use Rattle.cred_setid.specs.Parts.{changed}
use Rattle.cred_model.specs.State.{Task, current_of}
use Rattle.cred_hold.specs.Tokens.{Mastered}
use Rattle.cred_slots.specs.Table.{Table, IsSameBag, free_in}
use Rattle.cred_tables.specs.Kept.{StateLists, creds_in, seen_in, state_of, IsKept, Seals}
use Rattle.cred_tables.specs.Out.{AreOut}
use Rattle.cred_tables.specs.declared.table.NumberedSlot.{NumberedSlot}
use Rattle.cred_state.specs.declared.state.call_events.acts.Replacement.{Replacement}
use Rattle.cred_state.specs.declared.state.call_events.acts.Replacement.TheVariants.{Changed, Words}

-- the credential by which a thread's own is replaced
abbrev pub replacement : Credential → Replacement → Credential
replacement c (Changed parts groups) = changed c parts groups
replacement c (Words made) = made

-- its sets are those of a credential
abbrev pub HasValidSets : Credential → Replacement → Type 0
HasValidSets c (Changed parts groups) = AreValidSets parts.perm c.inh parts.eff parts.amb
HasValidSets c (Words made) = ⊤

-- The task's current credential is this one, and may be replaced in the slot, which is taken next:
-- there is room for one more reference, and the tables are kept, with what else refers to
-- credentials.
pub record MayReplace (tasks : List Task) (slots : Table) (master : Mastered) (task slot : ℕ)
    (now : NumberedSlot) : Type 0 where
  pub beside : StateLists
  pub kept : IsKept (record beside { tasks = tasks }) master.slots slots
  pub has :
      current_of (state_of (record beside { tasks = tasks }) master.slots slots) task
      ≡ Some (seen_in (creds_in master.slots slots.sealed) now)
  pub out : AreOut (state_of (record beside { tasks = tasks }) master.slots slots) master.loans
  pub free : free_in slots ≡ Some slot
  pub spare : 0 < slots.spare

-- The next number was sealed in the slot, and then one reference to an old number was given up.
pub record IsReplaced (before after : Table) (number slot old : ℕ) : Type 0 where
  pub between : Table
  pub seals : Seals before between number slot
  pub held : IsSameBag between.held (old ∷ after.held)
  pub made :
      after ≡ record between { held = after.held; deferred = between.deferred ++ old ∷ [] }
