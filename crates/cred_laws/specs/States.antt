-- The states of a journal.
use Rattle.std.specs.Prelude.{ℕ, List, take}
use Rattle.cred_event.specs.declared.entry.Entry.{Entry}
use Rattle.cred_model.specs.Script.{Script}
use Rattle.cred_model.specs.State.{State}
use Rattle.cred_model.specs.Journal.{replay}

-- the state after the first k entries
abbrev pub state_at : Script → List Entry → ℕ → State
state_at script journal k = replay script (take k journal)
