-- What the events on files answer, and the state after them.
use Rattle.std.specs.Prelude.{ℕ, ◌==◌, [], ◌∷◌, ◌++◌, length, position, remove, slice_get}
use Rattle.std.specs.Prelude.{slice_set, Result, Ok, ok_or, is_some}
use Rattle.cred_ids.specs.Limits.{OPEN_FILES}
use Rattle.cred_ids.specs.Tests.{◌>>=◌}
use Rattle.cred_record.specs.Credential.{Credential}
use Rattle.cred_record.specs.File.{File}
use Rattle.cred_record.specs.declared.refusal.Denial.{Denial}
use Rattle.cred_record.specs.declared.want.Want.{Want}
use Rattle.cred_event.specs.declared.answer.Answer.{Answer}
use Rattle.cred_event.specs.declared.answer.Answer.TheVariants.{Done, Told, Ebadf, NoHold, Exists}
use Rattle.cred_event.specs.declared.answer.Answer.TheVariants.{TooMany}
use Rattle.cred_event.specs.declared.answer.Named.TheVariants as named
use Rattle.cred_event.specs.declared.answer.Counted.TheVariants as counted
use Rattle.cred_event.specs.declared.answer.Told.TheVariants as told
use Rattle.cred_model.specs.State.{State, open_of, held_by, info_of}
use Rattle.cred_model.specs.Answers.{checked}
use Rattle.cred_model.specs.Change.{by_rule}
use Rattle.cred_model.specs.Moves.{none_or, fewer_or, unless_refused}

-- A file is opened under a descriptor: the credential that a label holds decides, and stays with it
-- (open(2)).
abbrev pub by_open : State → (hold place : ℕ) → Want → (fd : ℕ) → Result (Answer × State) Answer
by_open s hold place asked fd = do
  held ← ok_or (held_by s hold) (NoHold hold)
  new ← none_or (open_of s fd) (Exists named.File fd)
  may ← unless_refused (checked held.cred (info_of s.inodes (place ∷ [])) asked)
  few ← fewer_or (length s.files) OPEN_FILES (TooMany counted.Files)
  Ok (
    Done,
    record s { files = s.files ++ record { fd = fd; opener = held.number; file = place } ∷ [] },
  )

-- a descriptor is closed: its opener's credential is given up
abbrev pub by_close : State → ℕ → Result (Answer × State) Answer
by_close s fd = do
  place ← ok_or (position (λ f. f.fd == fd) s.files) Ebadf
  file ← ok_or (slice_get s.files place) Ebadf
  Ok (Done, record s { files = remove s.files place; deferred = s.deferred ++ file.opener ∷ [] })

-- A file is changed: the credential that a label holds decides by this rule, and the file is from
-- then on what the rule makes of it (chown(2), chmod(2), setxattr(2)). There always is a file at
-- the place, since an event names a declared one.
abbrev pub by_file : State → ℕ → ℕ → (Credential → File → Result File Denial)
    → Result (Answer × State) Answer
by_file s hold place rule = do
  held ← ok_or (held_by s hold) (NoHold hold)
  old ← ok_or (slice_get s.inodes place) (NoHold hold)
  new ← by_rule (rule held.cred old)
  Ok (Done, record s { inodes = slice_set s.inodes place new })

-- A task that holds a credential asks how a file stands (stat(2)).
abbrev pub by_stat : State → ℕ → ℕ → Result (Answer × State) Answer
by_stat s hold place = do
  held ← ok_or (held_by s hold) (NoHold hold)
  file ← ok_or (slice_get s.inodes place) (NoHold hold)
  Ok (Told (told.File file.owner file.group file.mode (is_some file.attr)), s)
