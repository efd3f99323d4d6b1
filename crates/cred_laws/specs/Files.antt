-- What a run makes of the files that its script declares (chown(2), chmod(2), capabilities(7),
-- "File capabilities"), and which file, as it stood when, an execve was of.
use Rattle.std.specs.Prelude.{◌≡◌, ◌≢◌, ℕ, Bool, true, false, ◌==◌, ◌&&◌, ◌<◌, List, length}
use Rattle.std.specs.Prelude.{Some, slice_get}
use Rattle.std.specs.Prelude.{None, IfSome}
use Rattle.std.specs.declared.option.Option.{Option}
use Rattle.cred_ids.specs.declared.arg.Arg.{Arg}
use Rattle.cred_record.specs.File.{File}
use Rattle.cred_rules.specs.Files.{strips}
use Rattle.cred_rules.specs.Modes.{SET_USER, has_any}
use Rattle.cred_event.specs.declared.answer.Answer.TheVariants.{Done}
use Rattle.cred_event.specs.declared.entry.Entry.{Entry}
use Rattle.cred_event.specs.declared.event.Change.{Change}
use Rattle.cred_event.specs.declared.event.Event.{Event}
use Rattle.cred_event.specs.declared.event.Event.TheVariants.{Alter, Chown, Chmod, SetAttr}
use Rattle.cred_event.specs.Answers.{is_ok}
use Rattle.cred_model.specs.FileChanges.{changed_file}
use Rattle.cred_model.specs.Named.{change_files}
use Rattle.cred_model.specs.Script.{Script}
use Rattle.cred_model.specs.State.{State, info_of}
use Rattle.cred_model.specs.Step.{step}
use Rattle.cred_laws.specs.States.{state_at}

-- ---- a file changes by three calls alone

-- Where an event changes a file, it is chown(2), chmod(2), or setxattr(2) or removexattr(2) of its
-- attribute, on that file, and isn't refused.
abbrev pub FilesChangeByCalls : Type 0
FilesChangeByCalls =
    (script : Script) (s : State) (line : ℕ) (event : Event) (place : ℕ) (old new : File)
    → slice_get s.inodes place ≡ Some old
    → slice_get (step script s line event).1.inodes place ≡ Some new → old ≢ new
    → (changed_file event ≡ Some place) × ((step script s line event).0 ≡ Done)

-- No event adds a file, or takes one away.
abbrev pub FilesAreAsMany : Type 0
FilesAreAsMany =
    (script : Script) (s : State) (line : ℕ) (event : Event)
    → length (step script s line event).1.inodes ≡ length s.inodes

-- ---- what a chown takes away

-- The file has no capability attribute, and no set-user-ID bit.
pub record IsStripped (file : File) : Type 0 where
  pub attr : file.attr ≡ None
  pub mode : has_any file.mode SET_USER ≡ false

-- this holds of the file at a place
abbrev pub HasStripped : List File → ℕ → Type 0
HasStripped inodes place = IfSome (slice_get inodes place) IsStripped

-- the event may give the file at this place set-id bits or an attribute again
abbrev pub resets : Event → ℕ → Bool
resets (Chmod hold file mode) place = file == place
resets (SetAttr hold file attr) place = file == place
resets event place = false

-- A chown that isn't refused, and gives an owner or a group to an executable regular file, leaves
-- it without an attribute and without the set-user-ID bit.
abbrev pub ChownStrips : Type 0
ChownStrips =
    (script : Script) (s : State) (line hold place : ℕ) (owner group : Arg) (old : File)
    → slice_get s.inodes place ≡ Some old → strips old owner group ≡ true
    → (step script s line (Chown hold place owner group)).0 ≡ Done
    → HasStripped (step script s line (Chown hold place owner group)).1.inodes place

-- A file that has neither stays so over each event but a chmod of it and a change of its attribute.
abbrev pub StaysStripped : Type 0
StaysStripped =
    (script : Script) (s : State) (line : ℕ) (event : Event) (place : ℕ)
    → HasStripped s.inodes place → resets event place ≡ false
    → HasStripped (step script s line event).1.inodes place

-- ---- which file a label was changed with

-- the event changes what this label prepares
abbrev pub alters : Event → ℕ → Bool
alters (Alter other change) label = other == label
alters event label = false

-- The entry changes what the label prepares, and isn't refused.
abbrev pub has_altered : ℕ → Entry → Bool
has_altered label entry = alters entry.event label && is_ok entry.answer

-- Before entry `upto` the label was changed last by entry `at`, by this change, which wasn't
-- refused.
pub record IsLastChange (journal : List Entry) (upto label : ℕ) (change : Change) (at : ℕ)
    : Type 0 where
  pub before : at < upto
  pub entry : Entry
  pub is : slice_get journal at ≡ Some entry
  pub changes : entry.event ≡ Alter label change
  pub done : is_ok entry.answer ≡ true
  pub last : (i : ℕ) → at < i → i < upto
      → IfSome (slice_get journal i) (λ later. has_altered label later ≡ false)

-- Before entry k the label was changed last by this change, and this is the file that the change
-- names, as it stood then.
abbrev pub IsFileOf : Script → List Entry → ℕ → ℕ → Change → Option File → Type 0
IsFileOf script journal k label change file =
    (at : ℕ) × IsLastChange journal k label change at
    × (info_of (state_at script journal at).inodes (change_files change) ≡ file)
