-- A state by its tables, as contracts see it.
use Rattle.cred_model.specs.State.{State}
use Rattle.cred_tables.specs.Kept.{StateLists, as_lists, state_of}
use Rattle.cred_state.specs.declared.state.State.TheInside.{Inside}

abbrev pub seen_parts : Inside → StateLists
seen_parts t = as_lists t.tasks t.broadcasts t.files t.holds t.prepared t.flags t.inodes

abbrev pub seen_state : Inside → State
seen_state t = state_of (seen_parts t) t.master.slots t.slots
