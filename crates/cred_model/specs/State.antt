-- The state of a run (credentials(7); Documentation/security/credentials.rst).
use Rattle.std.specs.Prelude.{ℕ, ◌==◌, Bool, List, [], ◌∷◌, find, slice_get, None}
use Rattle.std.specs.declared.option.Option.{Option}
use Rattle.std.specs.Option.{option_map, option_and_then, unwrap_or}
use Rattle.cred_record.specs.Credential.{Credential, first_credential}
use Rattle.cred_record.specs.File.{File}
use Rattle.cred_record.specs.declared.gains.Gains.{Gains}
use Rattle.cred_record.specs.declared.id_call.IdCall.{IdCall}
use Rattle.cred_event.specs.declared.event.Change.{Change}
use Rattle.cred_event.specs.declared.event.Side.{Side}
use Rattle.cred_event.specs.declared.event.Side.TheVariants.{Subjective, Objective}
use Rattle.cred_model.specs.Script.{Script, inodes_of}

-- A task (a thread) belongs to a process, and has the number of its current credential and those of
-- the credentials that it acts with in its place, the newest first.
pub record Task : Type 0 where
  pub number : ℕ
  pub process : ℕ
  pub current : ℕ
  pub overrides : List ℕ

-- A hold keeps the number of a credential under a label.
pub record Hold : Type 0 where
  pub label : ℕ
  pub number : ℕ

-- What the last change of a prepared credential was, the credential that it made of the base, and
-- what that one gains.
pub record Changed : Type 0 where
  pub change : Change
  pub cred : Credential
  pub gains : Gains

-- A label prepares a new credential for a task. It keeps the number of the credential that the new
-- one is based on, and the slot that the new one will stand in; once it was changed, also what the
-- base has become.
pub record Prepared : Type 0 where
  pub label : ℕ
  pub task : ℕ
  pub base : ℕ
  pub slot : ℕ
  pub changed : Option Changed

-- An open file has a descriptor, the number of the credential that it was opened by, and its place
-- among the script's files.
pub record OpenFile : Type 0 where
  pub fd : ℕ
  pub opener : ℕ
  pub file : ℕ

-- An open broadcast: an id call that a task has begun, and that the other threads of its process
-- have to make too (nptl(7), "NPTL and process credential changes"). It has the number of the line
-- that began it, and the threads that still wait for their step, in rising order.
pub record Broadcast : Type 0 where
  pub number : ℕ
  pub process : ℕ
  pub caller : ℕ
  pub call : IdCall
  pub waiting : List ℕ

-- A process is dumpable or isn't (prctl(2), PR_SET_DUMPABLE), as `mm->dumpable` of Linux says.
pub record ProcessFlag : Type 0 where
  pub process : ℕ
  pub dumpable : Bool

-- A sealed credential stands in a slot.
pub record SealedCred : Type 0 where
  pub cred : Credential
  pub slot : ℕ

-- The live tasks, the open broadcasts, the open files, the holds, the prepared labels, the numbers
-- that were given up since the last sweep, which processes are dumpable, the files that the script
-- declares as they stand, by their places, and all credentials that were ever sealed. The place of
-- a credential in that list is its number.
pub record State : Type 0 where
  pub tasks : List Task
  pub broadcasts : List Broadcast
  pub files : List OpenFile
  pub holds : List Hold
  pub prepared : List Prepared
  pub deferred : List ℕ
  pub dumpable : List ProcessFlag
  pub inodes : List File
  pub creds : List SealedCred

-- the state before a script's first event: its files are as it declares them
abbrev pub opening : Script → State
opening script = record {
  tasks = [];
  broadcasts = [];
  files = [];
  holds = [];
  prepared = [];
  deferred = [];
  dumpable = [];
  inodes = inodes_of script;
  creds = [];
}

-- the file that an event names, by its place, as it stands in this list; none where it names none
abbrev pub info_of : List File → List ℕ → Option File
info_of inodes [] = None
info_of inodes (place ∷ places) = slice_get inodes place

-- the task of this number, if it is alive
abbrev pub task_of : State → ℕ → Option Task
task_of s number = find (λ t. t.number == number) s.tasks

-- the broadcast of this number
abbrev pub broadcast_of : State → ℕ → Option Broadcast
broadcast_of s number = find (λ b. b.number == number) s.broadcasts

-- the broadcast that is open in a process
abbrev pub broadcast_in : State → ℕ → Option Broadcast
broadcast_in s process = find (λ b. b.process == process) s.broadcasts

-- the broadcast that a task has begun, while it is open
abbrev pub begun_by : State → ℕ → Option Broadcast
begun_by s task = find (λ b. b.caller == task) s.broadcasts

-- the file that is open under a descriptor
abbrev pub open_of : State → ℕ → Option OpenFile
open_of s fd = find (λ f. f.fd == fd) s.files

-- the hold of a label
abbrev pub hold_of : State → ℕ → Option Hold
hold_of s label = find (λ h. h.label == label) s.holds

-- what a label prepares
abbrev pub prepared_of : State → ℕ → Option Prepared
prepared_of s label = find (λ p. p.label == label) s.prepared

-- a sealed credential with its number
pub record Numbered : Type 0 where
  pub number : ℕ
  pub cred : Credential
  pub slot : ℕ

-- the sealed credential of this number, with the number
abbrev pub numbered : List SealedCred → ℕ → Option Numbered
numbered creds number =
    option_map (λ sealed. record { number = number; cred = sealed.cred; slot = sealed.slot })
    (slice_get creds number)

-- what stands for the credential where none is, or where it doesn't matter which one it is
unfoldable pub no_credential : Credential
no_credential = first_credential 0 0 0 0

-- a sealed credential by its number and its slot alone
abbrev pub numbered_in : ℕ → ℕ → Numbered
numbered_in number slot = record { number = number; cred = no_credential; slot = slot }

-- the current credential of a task
abbrev pub current_of : State → ℕ → Option Numbered
current_of s task = option_and_then (λ t. numbered s.creds t.current) (task_of s task)

-- The number of the credential that a task acts with: of its newest override, and where it has
-- none, of its current credential.
abbrev pub acting : Task → ℕ
acting t = unwrap_or (slice_get t.overrides 0) t.current

-- the number of a task's subjective credential, which it acts with, or of its objective one, which
-- it is acted on by (Documentation/security/credentials.rst)
abbrev pub number_on : Side → Task → ℕ
number_on Subjective t = acting t
number_on Objective t = t.current

-- the subjective or the objective credential of a task
abbrev pub credential_of : State → ℕ → Side → Option Numbered
credential_of s task side =
    option_and_then (λ t. numbered s.creds (number_on side t)) (task_of s task)

-- the credential that the file of a descriptor was opened by
abbrev pub opener_of : State → ℕ → Option Numbered
opener_of s fd = option_and_then (λ f. numbered s.creds f.opener) (open_of s fd)

-- the credential that a label holds
abbrev pub held_by : State → ℕ → Option Numbered
held_by s label = option_and_then (λ h. numbered s.creds h.number) (hold_of s label)
