-- What each event answers, and the state after it.
use Rattle.std.specs.Prelude.{ℕ, Result, Ok, Err}
use Rattle.cred_rules.specs.Files.{chown, chmod, set_attr}
use Rattle.cred_event.specs.declared.event.Event.{Event}
use Rattle.cred_event.specs.declared.event.Event.TheVariants.{Init, Take, TakeFile, Release, Ask}
use Rattle.cred_event.specs.declared.event.Event.TheVariants.{Signal, Prepare, Alter, Commit, Abort}
use Rattle.cred_event.specs.declared.event.Event.TheVariants.{Override, Revert, Begin, Act}
use Rattle.cred_event.specs.declared.event.Event.TheVariants.{OpenFile, CloseFile, Spawn, Fork}
use Rattle.cred_event.specs.declared.event.Event.TheVariants.{Exit, Sweep, Dumpable, Dumped, Ptrace}
use Rattle.cred_event.specs.declared.event.Event.TheVariants.{Chown, Chmod, SetAttr, Stat, Raw}
use Rattle.cred_event.specs.declared.answer.Answer.{Answer}
use Rattle.cred_event.specs.declared.answer.Answer.TheVariants.{Done}
use Rattle.cred_model.specs.Script.{Script, root_of}
use Rattle.cred_model.specs.State.{State}
use Rattle.cred_model.specs.Slots.{swept}
use Rattle.cred_model.specs.TaskEvents.{by_init, by_spawn, by_fork, by_exit, by_signal, by_ptrace}
use Rattle.cred_model.specs.TaskEvents.{by_dumpable, by_dumped}
use Rattle.cred_model.specs.LabelEvents.{by_take, by_take_file, by_release, by_ask, by_prepare}
use Rattle.cred_model.specs.LabelEvents.{by_alter, by_commit, by_abort, by_override, by_revert}
use Rattle.cred_model.specs.CallEvents.{by_begin, by_act, by_raw}
use Rattle.cred_model.specs.FileEvents.{by_open, by_close, by_file, by_stat}

-- what an event of a line does if nothing refuses it, with its answer: the events of labels, of id
-- calls, of tasks and of files, and the sweep
abbrev pub done : Script → State → ℕ → Event → Result (Answer × State) Answer
done script s line (Take label task side) = by_take s label task side
done script s line (TakeFile label fd) = by_take_file s label fd
done script s line (Release label) = by_release s label
done script s line (Ask label query) = by_ask s label query
done script s line (Prepare label task hold) = by_prepare s label task hold
done script s line (Alter label change) = by_alter script s label change
done script s line (Commit label) = by_commit s label
done script s line (Abort label) = by_abort s label
done script s line (Override task label) = by_override s task label
done script s line (Revert task) = by_revert s task
done script s line (Begin task call) = by_begin s line task call
done script s line (Act number) = by_act s number
done script s line (Raw task call) = by_raw s task call
done script s line (Init task process user group ns) =
    by_init s task process user group ns (root_of script ns)
done script s line (Spawn task child) = by_spawn s task child
done script s line (Fork task child process) = by_fork s task child process
done script s line (Exit task) = by_exit s task
done script s line (Signal from hold to target) = by_signal s from hold to target
done script s line (Ptrace from hold to target mode) = by_ptrace script s from hold to target mode
done script s line (Dumpable task value) = by_dumpable s task value
done script s line (Dumped task) = by_dumped s task
done script s line (OpenFile hold place asked fd) = by_open s hold place asked fd
done script s line (CloseFile fd) = by_close s fd
done script s line (Chown hold place owner group) =
    by_file s hold place (λ c file. chown c file owner group)
done script s line (Chmod hold place mode) = by_file s hold place (λ c file. chmod c file mode)
done script s line (SetAttr hold place attr) = by_file s hold place (λ c file. set_attr c file attr)
done script s line (Stat hold place) = by_stat s hold place
done script s line Sweep = Ok (Done, swept s)

-- A refusal leaves the state.
abbrev pub outcome : State → Result (Answer × State) Answer → Answer × State
outcome s (Ok after) = after
outcome s (Err answer) = (answer, s)

-- What a line's event answers in a state, and the state after it.
abbrev pub step : Script → State → ℕ → Event → Answer × State
step script s line event = outcome s (done script s line event)
