-- How the state of a run is kept: the tasks, the open broadcasts, the open files, the holds, the
-- prepared labels, the processes that are dumpable and the declared files as they are, the
-- credentials in the shared words of their slots, and a table of slots that counts references.
use Rattle.std.specs.Prelude.{◌≡◌, ℕ, ◌<◌, ◌≤◌, ◌==◌, List, ◌∷◌, [], ◌++◌, count_by, length, map}
use Rattle.std.specs.Prelude.{slice_get, slice_index_or, slice_set, false, Some, None}
use Rattle.std.specs.declared.option.Option.{Option}
use Rattle.std.specs.List.{list_any}
use Rattle.std.specs.Option.{IsSome, option_map_or}
use Rattle.cred_ids.specs.Limits.{SLOTS}
use Rattle.atomic_table.specs.Seated.{TableId}
use Rattle.cred_record.specs.Credential.{Credential}
use Rattle.cred_record.specs.File.{File}
use Rattle.cred_model.specs.State.{State, Task, Broadcast, OpenFile, Hold, Prepared, SealedCred}
use Rattle.cred_model.specs.State.{Numbered, ProcessFlag, no_credential}
use Rattle.cred_model.specs.Slots.{in_use, kept, refs}
use Rattle.cred_hold.specs.Tokens.{Loan}
use Rattle.cred_slots.specs.Table.{Table, IsSameBag, IsOnlyUser, is_kept_in, swept_table_if_full}
use Rattle.cred_slots.specs.Table.{free_in}
use Rattle.cred_slots.specs.Table.{references_to}
use Rattle.cred_tables.specs.declared.table.NumberedSlot as table

-- the credential in a slot's place
abbrev pub stored_at : List (Option Credential) → ℕ → Credential
stored_at store slot = option_map_or (λ cred. cred) (slice_index_or store slot None) no_credential

-- what stands under each sealed number, where these are their slots
abbrev pub creds_in : List (Option Credential) → List ℕ → List SealedCred
creds_in store slots = map (λ slot. record { cred = stored_at store slot; slot = slot }) slots

-- the credential under a number
abbrev pub cred_under : List SealedCred → ℕ → Credential
cred_under creds number =
    option_map_or (λ sealed. sealed.cred) (slice_get creds number) no_credential

-- a sealed credential with its number, among these
abbrev pub seen_in : List SealedCred → table.NumberedSlot → Numbered
seen_in creds n = record { number = n.number; cred = cred_under creds n.number; slot = n.slot }

-- What is referred to can be read: a credential is in its slot's place. Of other numbers nothing
-- is said.
pub record AreFilled (store : List (Option Credential)) (t : Table) : Type 0 where
  pub each : (n slot : ℕ) → slice_get t.sealed n ≡ Some slot → 0 < references_to t n
      → IsSome (slice_index_or store slot None)

-- What refers to credentials: a list for each kind of thing that does; and the open broadcasts, the
-- flags of the processes and the declared files as they stand, which refer to none.
pub record StateLists : Type 0 where
  pub tasks : List Task
  pub broadcasts : List Broadcast
  pub files : List OpenFile
  pub holds : List Hold
  pub prepared : List Prepared
  pub dumpable : List ProcessFlag
  pub inodes : List File

abbrev pub as_lists : List Task → List Broadcast → List OpenFile → List Hold → List Prepared
    → List ProcessFlag → List File → StateLists
as_lists tasks broadcasts files holds prepared dumpable inodes = record {
  tasks = tasks;
  broadcasts = broadcasts;
  files = files;
  holds = holds;
  prepared = prepared;
  dumpable = dumpable;
  inodes = inodes;
}

-- the shared words that credentials stand in: the identity of the cells, and what is lent of them
pub record SharedWords : Type 0 where
  pub id : TableId
  pub out : List Loan

-- a state, the shared words, and for each slot the credential that stands in its words, if one does
pub record Standing : Type 0 where
  pub state : State
  pub words : SharedWords
  pub places : List (Option Credential)

-- Each credential that something refers to stands in the words of its slot.
abbrev pub AreInPlace : State → List (Option Credential) → Type 0
AreInPlace s places =
    (n : ℕ) (sealed : SealedCred) → 0 < count_by (λ m. m == n) (refs s)
    → slice_get s.creds n ≡ Some sealed → slice_get places sealed.slot ≡ Some (Some sealed.cred)

-- the state that is kept so
abbrev pub state_of : StateLists → List (Option Credential) → Table → State
state_of parts store table = record {
  tasks = parts.tasks;
  broadcasts = parts.broadcasts;
  files = parts.files;
  holds = parts.holds;
  prepared = parts.prepared;
  deferred = table.deferred;
  dumpable = parts.dumpable;
  inodes = parts.inodes;
  creds = creds_in store table.sealed;
}

-- something refers to the credential of this number, and hasn't given it up
abbrev pub IsInUse : State → ℕ → Type 0
IsInUse s number = 0 < count_by (λ m. m == number) (in_use s)

-- each of these numbers is referred to at least as often as it stands among them
abbrev pub AreHeld : List ℕ → List ℕ → Type 0
AreHeld numbers held =
    (n : ℕ) → count_by (λ m. m == n) numbers ≤ count_by (λ m. m == n) held

-- The table counts just these references, and keeps just these slots.
pub record IsCounted (in_use kept : List ℕ) (table : Table) : Type 0 where
  pub counts : IsSameBag table.held in_use
  pub keeps : (slot : ℕ) → is_kept_in table slot ≡ list_any (λ kept. kept == slot) kept

-- The table counts what the parts refer to and keep, and each credential that is referred to is in
-- its slot's place.
pub record IsKept (parts : StateLists) (store : List (Option Credential)) (table : Table)
    : Type 0 where
  pub counted :
      IsCounted (in_use (state_of parts store table)) (kept (state_of parts store table)) table
  pub filled : AreFilled store table

-- The next number was sealed in the free slot, with one reference, after a sweep where one was
-- needed, and the same slots are kept as before. Nothing else that stands in the slot is referred
-- to.
pub record Seals (before after : Table) (number slot : ℕ) : Type 0 where
  pub takes : free_in before ≡ Some slot
  pub in_table : slot < SLOTS
  pub alone : IsOnlyUser after number slot
  pub counted : number ≡ length before.sealed
  pub held : IsSameBag after.held (number ∷ before.held)
  pub sealed : after.sealed ≡ before.sealed ++ slot ∷ []
  pub deferred : after.deferred ≡ (swept_table_if_full before).deferred
  pub kept : after.kept ≡ before.kept

-- The next number was sealed in a slot that was kept for it, and one reference to its base was
-- given up. Nothing else that stands in the slot is referred to.
pub record SealsKept (before after : Table) (number base slot : ℕ) : Type 0 where
  pub in_table : slot < SLOTS
  pub alone : IsOnlyUser after number slot
  pub counted : number ≡ length before.sealed
  pub held : IsSameBag (base ∷ after.held) (number ∷ before.held)
  pub sealed : after.sealed ≡ before.sealed ++ slot ∷ []
  pub deferred : after.deferred ≡ before.deferred ++ base ∷ []
  pub kept : after.kept ≡ slice_set before.kept slot false
