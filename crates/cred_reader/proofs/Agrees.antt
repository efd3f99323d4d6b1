-- The answers that an event may be given are those that are read for it.
use Rattle.std.proofs.Common.{◌≡◌, ℕ, Bool, true, false, nat_lt, cond, Option, List, refl}
use Rattle.cred_ids.specs.declared.arg.Arg.{Arg}
use Rattle.cred_caps.specs.Numbers.{LAST}
use Rattle.cred_record.specs.declared.id_call.IdCall.{IdCall}
use Rattle.cred_record.specs.declared.adj_call.AdjCall.{AdjCall}
use Rattle.cred_event.specs.declared.answer.Told.TheVariants.{Ids, Caps, Groups, Bits, Flag, File}
use Rattle.cred_event.specs.declared.answer.Answer.{Answer}
use Rattle.cred_event.specs.declared.answer.Answer.TheVariants.{Done, Sealed, Kept, Was, Executed, Began, Acted, Told}
use Rattle.cred_event.specs.declared.event.Change.{Change}
use Rattle.cred_event.specs.declared.event.Change.TheVariants as change
use Rattle.cred_event.specs.declared.event.Query.{Query}
use Rattle.cred_event.specs.declared.event.Query.TheVariants as query
use Rattle.cred_event.specs.declared.event.Event.{Event}
use Rattle.cred_event.specs.declared.event.Event.TheVariants as event
use Rattle.cred_reader.specs.declared.answers.AnswerForm.{AnswerForm}
use Rattle.cred_reader.specs.declared.answers.AnswerForm.TheVariants as tells
use Rattle.cred_reader.specs.Answers.{told_by}
use Rattle.cred_answers.specs.CallRows as call_rows
use Rattle.cred_answers.specs.Rows as rows

abbrev pub same : AnswerForm → AnswerForm → Bool
same tells.Nothing tells.Nothing = true
same tells.Ids tells.Ids = true
same tells.Caps tells.Caps = true
same tells.Groups tells.Groups = true
same tells.Bits tells.Bits = true
same tells.Flag tells.Flag = true
same tells.File tells.File = true
same told other = false

-- A value that is told is read where it is told, and a refusal is read whatever is told.
abbrev pub agrees : AnswerForm → Answer → Bool
agrees told Done = same told tells.Nothing
agrees told (Sealed cred slot) = same told tells.Nothing
agrees told (Kept slot) = same told tells.Nothing
agrees told (Was previous) = same told tells.Nothing
agrees told (Executed cred slot ended gains) = same told tells.Nothing
agrees told (Began cred slot left) = same told tells.Nothing
agrees told (Acted task cred slot left) = same told tells.Nothing
agrees told (Told (Ids uid gid)) = same told tells.Ids
agrees told (Told (Caps perm inh eff bound amb)) = same told tells.Caps
agrees told (Told (Groups groups)) = same told tells.Groups
agrees told (Told (Bits bits nnp)) = same told tells.Bits
agrees told (Told (Flag flag)) = same told tells.Flag
agrees told (Told (File owner group mode attr)) = same told tells.File
agrees told answer = true

init_agrees : (answer : Answer) → rows.init_row answer ≡ true → agrees tells.Nothing answer ≡ true
init_agrees (Told told) h = absurd (cc)
init_agrees answer h = refl

take_agrees : (answer : Answer) → rows.take_row answer ≡ true → agrees tells.Nothing answer ≡ true
take_agrees (Told told) h = absurd (cc)
take_agrees answer h = refl

takefile_agrees : (answer : Answer) → rows.takefile_row answer ≡ true → agrees tells.Nothing answer ≡ true
takefile_agrees (Told told) h = absurd (cc)
takefile_agrees answer h = refl

release_agrees : (answer : Answer) → rows.release_row answer ≡ true → agrees tells.Nothing answer ≡ true
release_agrees (Told told) h = absurd (cc)
release_agrees answer h = refl

ids_agrees : (answer : Answer) → rows.ids_row answer ≡ true → agrees tells.Ids answer ≡ true
ids_agrees Done h = absurd (cc)
ids_agrees (Sealed cred slot) h = absurd (cc)
ids_agrees (Kept slot) h = absurd (cc)
ids_agrees (Was previous) h = absurd (cc)
ids_agrees (Executed cred slot ended gains) h = absurd (cc)
ids_agrees (Began cred slot left) h = absurd (cc)
ids_agrees (Acted task cred slot left) h = absurd (cc)
ids_agrees (Told (Caps perm inh eff bound amb)) h = absurd (cc)
ids_agrees (Told (Groups groups)) h = absurd (cc)
ids_agrees (Told (Bits bits nnp)) h = absurd (cc)
ids_agrees (Told (Flag flag)) h = absurd (cc)
ids_agrees (Told (File owner group mode attr)) h = absurd (cc)
ids_agrees answer h = refl

caps_agrees : (answer : Answer) → rows.caps_row answer ≡ true → agrees tells.Caps answer ≡ true
caps_agrees Done h = absurd (cc)
caps_agrees (Sealed cred slot) h = absurd (cc)
caps_agrees (Kept slot) h = absurd (cc)
caps_agrees (Was previous) h = absurd (cc)
caps_agrees (Executed cred slot ended gains) h = absurd (cc)
caps_agrees (Began cred slot left) h = absurd (cc)
caps_agrees (Acted task cred slot left) h = absurd (cc)
caps_agrees (Told (Ids uid gid)) h = absurd (cc)
caps_agrees (Told (Groups groups)) h = absurd (cc)
caps_agrees (Told (Bits bits nnp)) h = absurd (cc)
caps_agrees (Told (Flag flag)) h = absurd (cc)
caps_agrees (Told (File owner group mode attr)) h = absurd (cc)
caps_agrees answer h = refl

groups_agrees : (answer : Answer) → rows.groups_row answer ≡ true → agrees tells.Groups answer ≡ true
groups_agrees Done h = absurd (cc)
groups_agrees (Sealed cred slot) h = absurd (cc)
groups_agrees (Kept slot) h = absurd (cc)
groups_agrees (Was previous) h = absurd (cc)
groups_agrees (Executed cred slot ended gains) h = absurd (cc)
groups_agrees (Began cred slot left) h = absurd (cc)
groups_agrees (Acted task cred slot left) h = absurd (cc)
groups_agrees (Told (Ids uid gid)) h = absurd (cc)
groups_agrees (Told (Caps perm inh eff bound amb)) h = absurd (cc)
groups_agrees (Told (Bits bits nnp)) h = absurd (cc)
groups_agrees (Told (Flag flag)) h = absurd (cc)
groups_agrees (Told (File owner group mode attr)) h = absurd (cc)
groups_agrees answer h = refl

bits_agrees : (answer : Answer) → rows.bits_row answer ≡ true → agrees tells.Bits answer ≡ true
bits_agrees Done h = absurd (cc)
bits_agrees (Sealed cred slot) h = absurd (cc)
bits_agrees (Kept slot) h = absurd (cc)
bits_agrees (Was previous) h = absurd (cc)
bits_agrees (Executed cred slot ended gains) h = absurd (cc)
bits_agrees (Began cred slot left) h = absurd (cc)
bits_agrees (Acted task cred slot left) h = absurd (cc)
bits_agrees (Told (Ids uid gid)) h = absurd (cc)
bits_agrees (Told (Caps perm inh eff bound amb)) h = absurd (cc)
bits_agrees (Told (Groups groups)) h = absurd (cc)
bits_agrees (Told (Flag flag)) h = absurd (cc)
bits_agrees (Told (File owner group mode attr)) h = absurd (cc)
bits_agrees answer h = refl

capable_agrees : (answer : Answer) → rows.capable_row answer ≡ true → agrees tells.Flag answer ≡ true
capable_agrees Done h = absurd (cc)
capable_agrees (Sealed cred slot) h = absurd (cc)
capable_agrees (Kept slot) h = absurd (cc)
capable_agrees (Was previous) h = absurd (cc)
capable_agrees (Executed cred slot ended gains) h = absurd (cc)
capable_agrees (Began cred slot left) h = absurd (cc)
capable_agrees (Acted task cred slot left) h = absurd (cc)
capable_agrees (Told (Ids uid gid)) h = absurd (cc)
capable_agrees (Told (Caps perm inh eff bound amb)) h = absurd (cc)
capable_agrees (Told (Groups groups)) h = absurd (cc)
capable_agrees (Told (Bits bits nnp)) h = absurd (cc)
capable_agrees (Told (File owner group mode attr)) h = absurd (cc)
capable_agrees answer h = refl

no_cap_agrees : (answer : Answer) → rows.no_cap_row answer ≡ true → agrees tells.Flag answer ≡ true
no_cap_agrees Done h = absurd (cc)
no_cap_agrees (Sealed cred slot) h = absurd (cc)
no_cap_agrees (Kept slot) h = absurd (cc)
no_cap_agrees (Was previous) h = absurd (cc)
no_cap_agrees (Executed cred slot ended gains) h = absurd (cc)
no_cap_agrees (Began cred slot left) h = absurd (cc)
no_cap_agrees (Acted task cred slot left) h = absurd (cc)
no_cap_agrees (Told told) h = absurd (cc)
no_cap_agrees answer h = refl

cap_agrees : (cap : ℕ) (answer : Answer) → rows.cap_row cap answer ≡ true → agrees tells.Flag answer ≡ true
cap_agrees cap answer = by_number (nat_lt LAST cap)
  where
    by_number : (above : Bool) → cond above (rows.no_cap_row answer) (rows.capable_row answer) ≡ true → agrees tells.Flag answer ≡ true
    by_number true h = no_cap_agrees answer h
    by_number false h = capable_agrees answer h

check_agrees : (answer : Answer) → rows.check_row answer ≡ true → agrees tells.Nothing answer ≡ true
check_agrees (Told told) h = absurd (cc)
check_agrees answer h = refl

signal_agrees : (answer : Answer) → rows.signal_row answer ≡ true → agrees tells.Nothing answer ≡ true
signal_agrees (Told told) h = absurd (cc)
signal_agrees answer h = refl

prepare_agrees : (answer : Answer) → rows.prepare_row answer ≡ true → agrees tells.Nothing answer ≡ true
prepare_agrees (Told told) h = absurd (cc)
prepare_agrees answer h = refl

setfs_agrees : (answer : Answer) → rows.setfs_row answer ≡ true → agrees tells.Nothing answer ≡ true
setfs_agrees (Told told) h = absurd (cc)
setfs_agrees answer h = refl

adjust_agrees : (call : AdjCall) (answer : Answer) → call_rows.adjust_row call answer ≡ true → agrees tells.Nothing answer ≡ true
adjust_agrees call (Told told) h = absurd (cc)
adjust_agrees call answer h = refl

exec_agrees : (answer : Answer) → rows.exec_row answer ≡ true → agrees tells.Nothing answer ≡ true
exec_agrees (Told told) h = absurd (cc)
exec_agrees answer h = refl

access_agrees : (answer : Answer) → rows.access_row answer ≡ true → agrees tells.Nothing answer ≡ true
access_agrees (Told told) h = absurd (cc)
access_agrees answer h = refl

commit_agrees : (answer : Answer) → rows.commit_row answer ≡ true → agrees tells.Nothing answer ≡ true
commit_agrees (Told told) h = absurd (cc)
commit_agrees answer h = refl

abort_agrees : (answer : Answer) → rows.abort_row answer ≡ true → agrees tells.Nothing answer ≡ true
abort_agrees (Told told) h = absurd (cc)
abort_agrees answer h = refl

override_agrees : (answer : Answer) → rows.override_row answer ≡ true → agrees tells.Nothing answer ≡ true
override_agrees (Told told) h = absurd (cc)
override_agrees answer h = refl

revert_agrees : (answer : Answer) → rows.revert_row answer ≡ true → agrees tells.Nothing answer ≡ true
revert_agrees (Told told) h = absurd (cc)
revert_agrees answer h = refl

begin_agrees : (call : IdCall) (answer : Answer) → call_rows.begin_row call answer ≡ true → agrees tells.Nothing answer ≡ true
begin_agrees call (Told told) h = absurd (cc)
begin_agrees call answer h = refl

act_agrees : (answer : Answer) → rows.act_row answer ≡ true → agrees tells.Nothing answer ≡ true
act_agrees (Told told) h = absurd (cc)
act_agrees answer h = refl

open_agrees : (answer : Answer) → rows.open_row answer ≡ true → agrees tells.Nothing answer ≡ true
open_agrees (Told told) h = absurd (cc)
open_agrees answer h = refl

close_agrees : (answer : Answer) → rows.close_row answer ≡ true → agrees tells.Nothing answer ≡ true
close_agrees (Told told) h = absurd (cc)
close_agrees answer h = refl

spawn_agrees : (answer : Answer) → rows.spawn_row answer ≡ true → agrees tells.Nothing answer ≡ true
spawn_agrees (Told told) h = absurd (cc)
spawn_agrees answer h = refl

fork_agrees : (answer : Answer) → rows.fork_row answer ≡ true → agrees tells.Nothing answer ≡ true
fork_agrees (Told told) h = absurd (cc)
fork_agrees answer h = refl

exit_agrees : (answer : Answer) → rows.exit_row answer ≡ true → agrees tells.Nothing answer ≡ true
exit_agrees (Told told) h = absurd (cc)
exit_agrees answer h = refl

sweep_agrees : (answer : Answer) → rows.sweep_row answer ≡ true → agrees tells.Nothing answer ≡ true
sweep_agrees (Told told) h = absurd (cc)
sweep_agrees answer h = refl

dumped_agrees : (answer : Answer) → rows.dumped_row answer ≡ true → agrees tells.Flag answer ≡ true
dumped_agrees Done h = absurd (cc)
dumped_agrees (Sealed cred slot) h = absurd (cc)
dumped_agrees (Kept slot) h = absurd (cc)
dumped_agrees (Was previous) h = absurd (cc)
dumped_agrees (Executed cred slot ended gains) h = absurd (cc)
dumped_agrees (Began cred slot left) h = absurd (cc)
dumped_agrees (Acted task cred slot left) h = absurd (cc)
dumped_agrees (Told (Ids uid gid)) h = absurd (cc)
dumped_agrees (Told (Caps perm inh eff bound amb)) h = absurd (cc)
dumped_agrees (Told (Groups groups)) h = absurd (cc)
dumped_agrees (Told (Bits bits nnp)) h = absurd (cc)
dumped_agrees (Told (File owner group mode attr)) h = absurd (cc)
dumped_agrees answer h = refl

dumpable_agrees : (value : ℕ) (answer : Answer) → rows.dumpable_row value answer ≡ true → agrees tells.Nothing answer ≡ true
dumpable_agrees value (Told told) h = absurd (cc)
dumpable_agrees value answer h = refl

chown_agrees : (owner group : Arg) (answer : Answer) → rows.chown_row owner group answer ≡ true → agrees tells.Nothing answer ≡ true
chown_agrees owner group (Told told) h = absurd (cc)
chown_agrees owner group answer h = refl

chmod_agrees : (answer : Answer) → rows.chmod_row answer ≡ true → agrees tells.Nothing answer ≡ true
chmod_agrees (Told told) h = absurd (cc)
chmod_agrees answer h = refl

set_attr_agrees : (attr : Option (List ℕ)) (answer : Answer) → rows.set_attr_row attr answer ≡ true → agrees tells.Nothing answer ≡ true
set_attr_agrees attr (Told told) h = absurd (cc)
set_attr_agrees attr answer h = refl

stat_agrees : (answer : Answer) → rows.stat_row answer ≡ true → agrees tells.File answer ≡ true
stat_agrees Done h = absurd (cc)
stat_agrees (Sealed cred slot) h = absurd (cc)
stat_agrees (Kept slot) h = absurd (cc)
stat_agrees (Was previous) h = absurd (cc)
stat_agrees (Executed cred slot ended gains) h = absurd (cc)
stat_agrees (Began cred slot left) h = absurd (cc)
stat_agrees (Acted task cred slot left) h = absurd (cc)
stat_agrees (Told (Ids uid gid)) h = absurd (cc)
stat_agrees (Told (Caps perm inh eff bound amb)) h = absurd (cc)
stat_agrees (Told (Groups groups)) h = absurd (cc)
stat_agrees (Told (Bits bits nnp)) h = absurd (cc)
stat_agrees (Told (Flag flag)) h = absurd (cc)
stat_agrees answer h = refl

raw_agrees : (call : IdCall) (answer : Answer) → call_rows.raw_row call answer ≡ true → agrees tells.Nothing answer ≡ true
raw_agrees call (Told told) h = absurd (cc)
raw_agrees call answer h = refl

tell_agrees : (label : ℕ) (query : Query) (answer : Answer) → rows.may_tell query answer ≡ true → agrees (told_by (event.Ask label query)) answer ≡ true
tell_agrees label query.Ids answer h = ids_agrees answer h
tell_agrees label query.Caps answer h = caps_agrees answer h
tell_agrees label query.Groups answer h = groups_agrees answer h
tell_agrees label query.Bits answer h = bits_agrees answer h
tell_agrees label (query.Capable cap) answer h = cap_agrees cap answer h
tell_agrees label (query.Bset cap) answer h = cap_agrees cap answer h
tell_agrees label (query.AmbIs cap) answer h = cap_agrees cap answer h
tell_agrees label (query.Check file want) answer h = check_agrees answer h

change_agrees : (change : Change) (answer : Answer) → rows.may_answer_change change answer ≡ true → agrees tells.Nothing answer ≡ true
change_agrees (change.SetFs kind id) answer h = setfs_agrees answer h
change_agrees (change.Adjust call) answer h = adjust_agrees call answer h
change_agrees (change.Exec file) answer h = exec_agrees answer h
change_agrees change.Access answer h = access_agrees answer h

-- an answer that the event may be given is one that is read for it
pub can_agree : (event : Event) (answer : Answer) → rows.CanAnswer event answer → agrees (told_by event) answer ≡ true
can_agree (event.Init task process user group ns) answer h = init_agrees answer h
can_agree (event.Take label task side) answer h = take_agrees answer h
can_agree (event.TakeFile label fd) answer h = takefile_agrees answer h
can_agree (event.Release label) answer h = release_agrees answer h
can_agree (event.Ask label query) answer h = tell_agrees label query answer h
can_agree (event.Signal from hold to target) answer h = signal_agrees answer h
can_agree (event.Prepare label task hold) answer h = prepare_agrees answer h
can_agree (event.Alter label change) answer h = change_agrees change answer h
can_agree (event.Commit label) answer h = commit_agrees answer h
can_agree (event.Abort label) answer h = abort_agrees answer h
can_agree (event.Override task label) answer h = override_agrees answer h
can_agree (event.Revert task) answer h = revert_agrees answer h
can_agree (event.Begin task call) answer h = begin_agrees call answer h
can_agree (event.Act broadcast) answer h = act_agrees answer h
can_agree (event.OpenFile hold file want fd) answer h = open_agrees answer h
can_agree (event.CloseFile fd) answer h = close_agrees answer h
can_agree (event.Spawn task child) answer h = spawn_agrees answer h
can_agree (event.Fork task child process) answer h = fork_agrees answer h
can_agree (event.Exit task) answer h = exit_agrees answer h
can_agree event.Sweep answer h = sweep_agrees answer h
can_agree (event.Dumpable task value) answer h = dumpable_agrees value answer h
can_agree (event.Dumped task) answer h = dumped_agrees answer h
can_agree (event.Ptrace from hold to target mode) answer h = signal_agrees answer h
can_agree (event.Chown hold file owner group) answer h = chown_agrees owner group answer h
can_agree (event.Chmod hold file mode) answer h = chmod_agrees answer h
can_agree (event.SetAttr hold file attr) answer h = set_attr_agrees attr answer h
can_agree (event.Stat hold file) answer h = stat_agrees answer h
can_agree (event.Raw task call) answer h = raw_agrees call answer h
