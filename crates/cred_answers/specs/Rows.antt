-- Which answers an event may be given: its refusals in the order in which they are tested, and then
-- what it is answered where none comes. The numbers of an answer don't matter.
use Rattle.std.specs.Prelude.{ℕ, Bool, true, false, not, nat_lt, IsTrue, if◌then◌else◌, List}
use Rattle.std.specs.declared.option.Option.{Option}
use Rattle.cred_ids.specs.declared.arg.Arg.{Arg}
use Rattle.cred_rules.specs.Files as files
use Rattle.cred_caps.specs.Numbers.{LAST}
use Rattle.cred_event.specs.declared.answer.Named.TheVariants.{Task, Process, Label, File}
use Rattle.cred_event.specs.declared.answer.Counted.TheVariants.{Tasks, Files, Holds, Prepared}
use Rattle.cred_event.specs.declared.answer.Told.TheVariants.{Ids, Caps, Groups, Bits, Flag}
use Rattle.cred_event.specs.declared.answer.Told.TheVariants as told
use Rattle.cred_event.specs.declared.answer.Answer.{Answer}
use Rattle.cred_event.specs.declared.answer.Answer.TheVariants.{Done, Sealed, Kept, Was, Executed}
use Rattle.cred_event.specs.declared.answer.Answer.TheVariants.{Acted, Told, Eperm, Einval}
use Rattle.cred_event.specs.declared.answer.Answer.TheVariants.{Eacces, Ebadf, NoTask, NoHold}
use Rattle.cred_event.specs.declared.answer.Answer.TheVariants.{NoPrepared, NoBroadcast, Busy}
use Rattle.cred_event.specs.declared.answer.Answer.TheVariants.{Exists, Overridden, NotOverridden}
use Rattle.cred_event.specs.declared.answer.Answer.TheVariants.{TooDeep, Stale, TooMany, TableFull}
use Rattle.cred_event.specs.declared.answer.Answer.TheVariants.{Aborted}
use Rattle.cred_event.specs.declared.event.Change.{Change}
use Rattle.cred_event.specs.declared.event.Change.TheVariants as change
use Rattle.cred_event.specs.declared.event.Query.{Query}
use Rattle.cred_event.specs.declared.event.Query.TheVariants as query
use Rattle.cred_event.specs.declared.event.Event.{Event}
use Rattle.cred_event.specs.declared.event.Event.TheVariants as event
use Rattle.cred_answers.specs.CallRows.{adjust_row, begin_row, raw_row}

-- a first task
abbrev pub init_row : Answer → Bool
init_row (Busy broadcast) = true
init_row (Exists Task number) = true
init_row (TooMany Tasks) = true
init_row TableFull = true
init_row (Sealed cred slot) = true
init_row answer = false

-- the taking of a credential of a task
abbrev pub take_row : Answer → Bool
take_row (NoTask task) = true
take_row (Exists Label number) = true
take_row (TooMany Holds) = true
take_row (Sealed cred slot) = true
take_row answer = false

-- the taking of the credential of a file's opener
abbrev pub takefile_row : Answer → Bool
takefile_row Ebadf = true
takefile_row (Exists Label number) = true
takefile_row (TooMany Holds) = true
takefile_row (Sealed cred slot) = true
takefile_row answer = false

-- the end of a hold
abbrev pub release_row : Answer → Bool
release_row (NoHold label) = true
release_row Done = true
release_row answer = false

-- the question `ids`
abbrev pub ids_row : Answer → Bool
ids_row (NoHold label) = true
ids_row (Told (Ids uid gid)) = true
ids_row answer = false

-- the question `caps`
abbrev pub caps_row : Answer → Bool
caps_row (NoHold label) = true
caps_row (Told (Caps perm inh eff bound amb)) = true
caps_row answer = false

-- the question `groups`
abbrev pub groups_row : Answer → Bool
groups_row (NoHold label) = true
groups_row (Told (Groups groups)) = true
groups_row answer = false

-- the question `bits`
abbrev pub bits_row : Answer → Bool
bits_row (NoHold label) = true
bits_row (Told (Bits bits nnp)) = true
bits_row answer = false

-- a question whether a set has a capability
abbrev pub capable_row : Answer → Bool
capable_row (NoHold label) = true
capable_row (Told (Flag flag)) = true
capable_row answer = false

-- the same question about a number that is no capability's
abbrev pub no_cap_row : Answer → Bool
no_cap_row (NoHold label) = true
no_cap_row Einval = true
no_cap_row answer = false

-- a question whether a set has the capability of this number
abbrev pub cap_row : ℕ → Answer → Bool
cap_row cap answer = if nat_lt LAST cap then no_cap_row answer else capable_row answer

-- the check of a file
abbrev pub check_row : Answer → Bool
check_row (NoHold label) = true
check_row Eacces = true
check_row Done = true
check_row answer = false

-- a signal, and a question whether a task may look into another
abbrev pub signal_row : Answer → Bool
signal_row (NoTask task) = true
signal_row (NoHold label) = true
signal_row Eperm = true
signal_row Done = true
signal_row answer = false

-- the preparation of a credential
abbrev pub prepare_row : Answer → Bool
prepare_row (NoTask task) = true
prepare_row (Busy broadcast) = true
prepare_row (NoHold label) = true
prepare_row (Exists Label number) = true
prepare_row (TooMany Prepared) = true
prepare_row TableFull = true
prepare_row (Kept slot) = true
prepare_row answer = false

-- setfsuid(2) and setfsgid(2), which are never refused
abbrev pub setfs_row : Answer → Bool
setfs_row (NoPrepared label) = true
setfs_row (Was previous) = true
setfs_row answer = false

-- execve(2)
abbrev pub exec_row : Answer → Bool
exec_row (NoPrepared label) = true
exec_row Eacces = true
exec_row Einval = true
exec_row Eperm = true
exec_row Done = true
exec_row answer = false

-- the credential of access(2), which is never refused
abbrev pub access_row : Answer → Bool
access_row (NoPrepared label) = true
access_row Done = true
access_row answer = false

-- a commit
abbrev pub commit_row : Answer → Bool
commit_row (NoPrepared label) = true
commit_row (NoTask task) = true
commit_row (Busy broadcast) = true
commit_row (Overridden depth) = true
commit_row (Stale base now) = true
commit_row (Sealed cred slot) = true
commit_row (Executed cred slot ended gains) = true
commit_row answer = false

-- the end of a preparation
abbrev pub abort_row : Answer → Bool
abort_row (NoPrepared label) = true
abort_row Done = true
abort_row answer = false

-- an override
abbrev pub override_row : Answer → Bool
override_row (NoTask task) = true
override_row (NoHold label) = true
override_row TooDeep = true
override_row (Sealed cred slot) = true
override_row answer = false

-- the end of an override
abbrev pub revert_row : Answer → Bool
revert_row (NoTask task) = true
revert_row NotOverridden = true
revert_row Done = true
revert_row answer = false

-- a thread that follows an id call
abbrev pub act_row : Answer → Bool
act_row (NoBroadcast broadcast) = true
act_row (Aborted task cause) = true
act_row (Acted task cred slot left) = true
act_row answer = false

-- the opening of a file
abbrev pub open_row : Answer → Bool
open_row (NoHold label) = true
open_row (Exists File number) = true
open_row Eacces = true
open_row (TooMany Files) = true
open_row Done = true
open_row answer = false

-- the closing of a descriptor
abbrev pub close_row : Answer → Bool
close_row Ebadf = true
close_row Done = true
close_row answer = false

-- a new thread
abbrev pub spawn_row : Answer → Bool
spawn_row (NoTask task) = true
spawn_row (Busy broadcast) = true
spawn_row (Exists Task number) = true
spawn_row (Overridden depth) = true
spawn_row (TooMany Tasks) = true
spawn_row (Sealed cred slot) = true
spawn_row answer = false

-- a new process
abbrev pub fork_row : Answer → Bool
fork_row (NoTask task) = true
fork_row (Busy broadcast) = true
fork_row (Exists Task number) = true
fork_row (Exists Process number) = true
fork_row (Overridden depth) = true
fork_row (TooMany Tasks) = true
fork_row (Sealed cred slot) = true
fork_row answer = false

-- the end of a task
abbrev pub exit_row : Answer → Bool
exit_row (NoTask task) = true
exit_row (Busy broadcast) = true
exit_row (Overridden depth) = true
exit_row Done = true
exit_row answer = false

-- a sweep
abbrev pub sweep_row : Answer → Bool
sweep_row Done = true
sweep_row answer = false

-- a value for the flag of a process, which is 0 or 1
abbrev pub dumpable_row : ℕ → Answer → Bool
dumpable_row value (NoTask task) = true
dumpable_row value Einval = nat_lt 1 value
dumpable_row value Done = not (nat_lt 1 value)
dumpable_row value answer = false

-- a question about the flag
abbrev pub dumped_row : Answer → Bool
dumped_row (NoTask task) = true
dumped_row (Told (Flag flag)) = true
dumped_row answer = false

-- chown(2): a call that gives neither an owner nor a group is refused to nobody
abbrev pub chown_row : Arg → Arg → Answer → Bool
chown_row owner group (NoHold label) = true
chown_row owner group Eperm = files.gives_one owner group
chown_row owner group Done = true
chown_row owner group answer = false

-- chmod(2)
abbrev pub chmod_row : Answer → Bool
chmod_row (NoHold label) = true
chmod_row Eperm = true
chmod_row Done = true
chmod_row answer = false

-- setxattr(2) and removexattr(2): bytes that are no attribute are given to no file
abbrev pub set_attr_row : Option (List ℕ) → Answer → Bool
set_attr_row attr (NoHold label) = true
set_attr_row attr Eperm = true
set_attr_row attr Einval = not (files.is_attr attr)
set_attr_row attr Done = files.is_attr attr
set_attr_row attr answer = false

-- stat(2)
abbrev pub stat_row : Answer → Bool
stat_row (NoHold label) = true
stat_row (Told (told.File owner group mode attr)) = true
stat_row answer = false

-- what a question may be answered
abbrev pub may_tell : Query → Answer → Bool
may_tell query.Ids answer = ids_row answer
may_tell query.Caps answer = caps_row answer
may_tell query.Groups answer = groups_row answer
may_tell query.Bits answer = bits_row answer
may_tell (query.Capable cap) answer = cap_row cap answer
may_tell (query.Bset cap) answer = cap_row cap answer
may_tell (query.AmbIs cap) answer = cap_row cap answer
may_tell (query.Check file want) answer = check_row answer

-- what a change may be answered
abbrev pub may_answer_change : Change → Answer → Bool
may_answer_change (change.SetFs kind id) answer = setfs_row answer
may_answer_change (change.Adjust call) answer = adjust_row call answer
may_answer_change (change.Exec file) answer = exec_row answer
may_answer_change change.Access answer = access_row answer

-- what an event may be answered
abbrev pub may_answer : Event → Answer → Bool
may_answer (event.Init task process user group ns) answer = init_row answer
may_answer (event.Take label task side) answer = take_row answer
may_answer (event.TakeFile label fd) answer = takefile_row answer
may_answer (event.Release label) answer = release_row answer
may_answer (event.Ask label query) answer = may_tell query answer
may_answer (event.Signal from hold to target) answer = signal_row answer
may_answer (event.Prepare label task hold) answer = prepare_row answer
may_answer (event.Alter label change) answer = may_answer_change change answer
may_answer (event.Commit label) answer = commit_row answer
may_answer (event.Abort label) answer = abort_row answer
may_answer (event.Override task label) answer = override_row answer
may_answer (event.Revert task) answer = revert_row answer
may_answer (event.Begin task call) answer = begin_row call answer
may_answer (event.Act broadcast) answer = act_row answer
may_answer (event.OpenFile hold file want fd) answer = open_row answer
may_answer (event.CloseFile fd) answer = close_row answer
may_answer (event.Spawn task child) answer = spawn_row answer
may_answer (event.Fork task child process) answer = fork_row answer
may_answer (event.Exit task) answer = exit_row answer
may_answer event.Sweep answer = sweep_row answer
may_answer (event.Dumpable task value) answer = dumpable_row value answer
may_answer (event.Dumped task) answer = dumped_row answer
may_answer (event.Ptrace from hold to target mode) answer = signal_row answer
may_answer (event.Chown hold file owner group) answer = chown_row owner group answer
may_answer (event.Chmod hold file mode) answer = chmod_row answer
may_answer (event.SetAttr hold file attr) answer = set_attr_row attr answer
may_answer (event.Stat hold file) answer = stat_row answer
may_answer (event.Raw task call) answer = raw_row call answer

-- the event may be given an answer of this form
abbrev pub CanAnswer : Event → Answer → Type 0
CanAnswer event answer = IsTrue (may_answer event answer)
