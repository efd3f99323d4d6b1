-- The text of an event. A letter says what a number is of: a task, a process, a label (h), a
-- descriptor (f) or a namespace.
use Rattle.std.specs.Prelude.{ℕ, List, ◌++◌, codes, decimal, Some, None}
use Rattle.hex.specs.Hex.{encode_lower}
use Rattle.cred_event.specs.declared.event.Side.{Side}
use Rattle.cred_event.specs.declared.event.Side.TheVariants.{Subjective, Objective}
use Rattle.cred_event.specs.declared.event.Event.{Event}
use Rattle.cred_event.specs.declared.event.Event.TheVariants.{Init, Take, TakeFile, Release, Ask}
use Rattle.cred_event.specs.declared.event.Event.TheVariants.{Signal, Prepare, Alter, Commit, Abort}
use Rattle.cred_event.specs.declared.event.Event.TheVariants.{Override, Revert, Begin, Act}
use Rattle.cred_event.specs.declared.event.Event.TheVariants.{OpenFile, CloseFile, Spawn, Fork}
use Rattle.cred_event.specs.declared.event.Event.TheVariants.{Exit, Sweep, Dumpable, Dumped}
use Rattle.cred_event.specs.declared.event.Event.TheVariants.{Ptrace, Chown, Chmod, SetAttr, Stat}
use Rattle.cred_event.specs.declared.event.Event.TheVariants.{Raw}
use Rattle.cred_record.specs.declared.mode.PtraceMode.{PtraceMode}
use Rattle.cred_record.specs.declared.mode.PtraceMode.TheVariants.{Fs, Real}
use Rattle.cred_model.specs.Script.{Script}
use Rattle.cred_report.specs.Questions.{file_text, want_text, query_text}
use Rattle.cred_report.specs.Numbers.{arg_text}
use Rattle.cred_report.specs.Calls.{call_text, change_text}
use Rattle.cred_report.specs.Told.{mode_text}

-- what comes before the label that takes a credential of a task
abbrev pub take_text : Side → List ℕ
take_text Subjective = codes "take h"
take_text Objective = codes "takereal h"

-- what comes before the task that asks to look into another
abbrev pub trace_text : PtraceMode → List ℕ
trace_text Fs = codes "ptrace fs t"
trace_text Real = codes "ptrace real t"

abbrev pub event_text : Script → Event → List ℕ
event_text script (Init task process user group ns) =
    codes "init t" ++ decimal task ++ codes " p" ++ decimal process ++ codes " " ++ decimal user ++
    codes " " ++ decimal group
    ++ codes " n" ++ decimal ns
event_text script (Take label task side) =
    take_text side ++ decimal label ++ codes " t" ++ decimal task
event_text script (TakeFile label fd) =
    codes "takefile h" ++ decimal label ++ codes " f" ++ decimal fd
event_text script (Release label) = codes "drop h" ++ decimal label
event_text script (Ask label query) =
    codes "ask h" ++ decimal label ++ codes " " ++ query_text script query
event_text script (Signal from hold to target) =
    codes "signal t" ++ decimal from ++ codes " h" ++ decimal hold ++ codes " t" ++ decimal to ++
    codes " h" ++ decimal target
event_text script (Prepare label task hold) =
    codes "prepare h" ++ decimal label ++ codes " t" ++ decimal task ++ codes " h" ++ decimal hold
event_text script (Alter label change) =
    codes "change h" ++ decimal label ++ codes " " ++ change_text script change
event_text script (Commit label) = codes "commit h" ++ decimal label
event_text script (Abort label) = codes "abort h" ++ decimal label
event_text script (Override task label) =
    codes "override t" ++ decimal task ++ codes " h" ++ decimal label
event_text script (Revert task) = codes "revert t" ++ decimal task
event_text script (Begin task call) = codes "begin t" ++ decimal task ++ codes " " ++ call_text call
event_text script (Act broadcast) = codes "act " ++ decimal broadcast
event_text script (OpenFile hold file want fd) =
    codes "open h" ++ decimal hold ++ codes " " ++ file_text script file ++ codes " " ++
    want_text want
    ++ codes " f" ++ decimal fd
event_text script (CloseFile fd) = codes "close f" ++ decimal fd
event_text script (Spawn task child) =
    codes "spawn t" ++ decimal task ++ codes " t" ++ decimal child
event_text script (Fork task child process) =
    codes "fork t" ++ decimal task ++ codes " t" ++ decimal child ++ codes " p" ++ decimal process
event_text script (Exit task) = codes "exit t" ++ decimal task
event_text script Sweep = codes "sweep"
event_text script (Dumpable task value) =
    codes "dumpable t" ++ decimal task ++ codes " " ++ decimal value
event_text script (Dumped task) = codes "dumped t" ++ decimal task
event_text script (Ptrace from hold to target mode) =
    trace_text mode ++ decimal from ++ codes " h" ++ decimal hold ++ codes " t" ++ decimal to ++
    codes " h" ++ decimal target
event_text script (Chown hold file owner group) =
    codes "chown h" ++ decimal hold ++ codes " " ++ file_text script file ++ arg_text owner ++
    arg_text group
event_text script (Chmod hold file mode) =
    codes "chmod h" ++ decimal hold ++ codes " " ++ file_text script file ++ mode_text mode
event_text script (SetAttr hold file (Some attr)) =
    codes "setattr h" ++ decimal hold ++ codes " " ++ file_text script file ++ codes " " ++
    encode_lower attr
event_text script (SetAttr hold file None) =
    codes "clearattr h" ++ decimal hold ++ codes " " ++ file_text script file
event_text script (Stat hold file) =
    codes "stat h" ++ decimal hold ++ codes " " ++ file_text script file
event_text script (Raw task call) = codes "raw t" ++ decimal task ++ codes " " ++ call_text call
