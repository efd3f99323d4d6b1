-- How many tasks live in a state that a run comes to.
use Rattle.std.specs.Prelude.{◌≤◌, List, length}
use Rattle.cred_ids.specs.Limits.{TASKS}
use Rattle.cred_event.specs.declared.entry.Entry.{Entry}
use Rattle.cred_model.specs.Script.{Script}
use Rattle.cred_model.specs.Journal.{replay}

-- at most as many as there may be, after every journal
abbrev pub TasksAreFew : Type 0
TasksAreFew =
    (script : Script) (journal : List Entry) → length (replay script journal).tasks ≤ TASKS
