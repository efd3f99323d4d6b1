-- What contracts see of a state and of what stands in it, by the fields of the code, and what was found there.
use Rattle.std.proofs.Common.{◌≡◌, ℕ, Bool, List, find, get_or, position, reverse, slice_get, Some, sym, ap, ◌∙◌}
use Rattle.cred_model.specs.State.{State, Task, Broadcast, Prepared}
use Rattle.cred_plain.specs.declared.broadcasts.Broadcast.TheInside as broadcast
use Rattle.cred_plain.specs.declared.labels.Prepared.TheInside as prepared
use Rattle.cred_plain.specs.declared.one_task.Task.TheInside as task
use Rattle.cred_plain.proofs.Places.{at_place}
use Rattle.cred_machine.specs.declared.state.State.TheInside as state

abbrev pub seen_state : state.Inside → State
seen_state s = record {
  tasks = s.tasks;
  broadcasts = s.broadcasts.items;
  files = s.files.items;
  holds = s.holds.items;
  prepared = s.prepared.items;
  deferred = s.deferred.items;
  dumpable = s.flags;
  inodes = s.inodes;
  creds = s.creds.list;
}

abbrev pub seen_task : task.Inside → Task
seen_task t = record { number = t.number; process = t.process; current = t.current; overrides = t.overrides.items }

abbrev pub seen_broadcast : broadcast.Inside → Broadcast
seen_broadcast b = record { number = b.number; process = b.process; caller = b.caller; call = b.call; waiting = reverse b.falling.items }

abbrev pub seen_prepared : prepared.Inside → Prepared
seen_prepared p = record { label = p.label; task = p.task; base = p.base; slot = p.slot; changed = p.changed }

-- what was found in a list
pub found_in : {X : Type 0} (test : X → Bool) (xs looked : List X) (x seen : X) → looked ≡ xs → Some seen ≡ find test looked → x ≡ seen → find test xs ≡ Some x
found_in test xs looked x seen same found read = ap (find test) (sym same) ∙ sym found ∙ ap Some (sym read)

-- where one was found, and what stands there
pub placed : {X : Type 0} (test : X → Bool) (xs looked : List X) (place : ℕ) (x : X) → looked ≡ xs → Some place ≡ position test looked → x ≡ get_or xs place x
    → (position test xs ≡ Some place) × (slice_get xs place ≡ Some x)
placed test xs looked place x same found is =
    let at = ap (position test) (sym same) ∙ sym found in (at, at_place test xs place x at is)
