-- Which processes are dumpable, and what each event makes of that (prctl(2), PR_SET_DUMPABLE).
-- Where a process stops being dumpable the flag takes the value of /proc/sys/fs/suid_dumpable,
-- which by default is 0; here it has no other.
use Rattle.std.specs.Prelude.{ℕ, Bool, true, false, ◌==◌, ◌&&◌, not, List, [], ◌∷◌, ◌++◌, map, find}
use Rattle.std.specs.Prelude.{is_some, Some, None, if◌then◌else◌}
use Rattle.std.specs.declared.option.Option.{Option}
use Rattle.std.specs.List.{filter}
use Rattle.std.specs.Option.{option_map_or}
use Rattle.cred_caps.specs.Caps.{empty}
use Rattle.cred_record.specs.Credential.{Credential}
use Rattle.cred_record.specs.declared.gains.Gains.{Gains}
use Rattle.cred_event.specs.declared.event.Change.{Change}
use Rattle.cred_event.specs.declared.event.Change.TheVariants.{Exec}
use Rattle.cred_model.specs.State.{State, Task, Changed, ProcessFlag, numbered}
use Rattle.cred_model.specs.Ends.{is_thread_of, is_beside}

-- the flag of a process
abbrev pub flag_in : List ProcessFlag → ℕ → Option ProcessFlag
flag_in flags process = find (λ f. f.process == process) flags

-- whether a process is dumpable: one that isn't there isn't
abbrev pub is_dumpable : List ProcessFlag → ℕ → Bool
is_dumpable flags process = option_map_or (λ f. f.dumpable) (flag_in flags process) false

-- A process begins, and this is its flag.
abbrev pub with_process_flag : List ProcessFlag → ℕ → Bool → List ProcessFlag
with_process_flag flags process dumpable =
    flags ++ record { process = process; dumpable = dumpable } ∷ []

-- this is the process's flag from now on
abbrev pub flagged : ℕ → Bool → ProcessFlag → ProcessFlag
flagged process dumpable f = if f.process == process then record f { dumpable = dumpable } else f

-- the flags, where the process has this one from now on
abbrev pub set_flag : List ProcessFlag → ℕ → Bool → List ProcessFlag
set_flag flags process dumpable = map (flagged process dumpable) flags

-- The process has ended.
abbrev pub without_flag : List ProcessFlag → ℕ → List ProcessFlag
without_flag flags process = filter (λ f. not (f.process == process)) flags

-- ---- when a process stops being dumpable

-- The two credentials differ in an effective or a filesystem id, of the user or of the group.
abbrev pub differs : Credential → Credential → Bool
differs old new =
    not ((old.uid.effective == new.uid.effective) && (old.uid.fs == new.uid.fs)
    && (old.gid.effective == new.gid.effective) && (old.gid.fs == new.gid.fs))

-- The flags after a task's credential was replaced: where the old and the new one differ (`other`),
-- its process is dumpable no longer.
abbrev pub renewed : List ProcessFlag → ℕ → Bool → List ProcessFlag
renewed flags process other = if other then set_flag flags process false else flags

-- The execve adds to the permitted set.
abbrev pub is_gain : Gains → Bool
is_gain gains =
    not ((gains.file == empty) && (gains.inherit == empty) && (gains.root == empty))

-- what a commit of this change makes of the flag: an execve makes the process dumpable again,
-- unless an id is another one or the permitted set grows
abbrev pub flags_by : Change → Gains → List ProcessFlag → ℕ → Bool → List ProcessFlag
flags_by (Exec file) gains flags process other =
    set_flag flags process (not other && not (is_gain gains))
flags_by change gains flags process other = renewed flags process other

-- whether the task's current credential differs in such an id from the one that is committed in its
-- place
abbrev pub differs_by : State → Task → Changed → Bool
differs_by s owner last =
    option_map_or (λ old. differs old.cred last.cred) (numbered s.creds owner.current) false

-- the flags after that commit
abbrev pub flags_committed : State → Task → Changed → List ProcessFlag
flags_committed s owner last =
    flags_by last.change last.gains s.dumpable owner.process (differs_by s owner last)

-- ---- when a process begins and ends

-- A first task of a process that has no threads begins the process, dumpable. One thread more
-- leaves the flag as it is.
abbrev pub flags_begun : State → ℕ → List ProcessFlag
flags_begun s process =
    if is_some (find (is_thread_of process) s.tasks) then s.dumpable
    else with_process_flag s.dumpable process true

-- The task has ended. If it was the last of its process, the process has ended too.
abbrev pub flags_left : State → Task → List ProcessFlag
flags_left s owner =
    if is_some (find (is_beside owner) s.tasks) then s.dumpable
    else without_flag s.dumpable owner.process

-- ---- prctl(2)

-- the flag of a value, which is 0 or 1
abbrev pub flag_of_value : ℕ → Option Bool
flag_of_value value =
    if value == 0 then Some false else if value == 1 then Some true else None
