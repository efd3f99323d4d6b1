-- The task that acts by a line.
use Rattle.std.specs.Prelude.{ℕ, Some, None}
use Rattle.std.specs.declared.option.Option.{Option}
use Rattle.cred_event.specs.declared.event.Event.{Event}
use Rattle.cred_event.specs.declared.event.Event.TheVariants.{Prepare, Override, Revert, Begin}
use Rattle.cred_event.specs.declared.event.Event.TheVariants.{Spawn, Fork, Exit, Dumpable, Dumped}
use Rattle.cred_event.specs.declared.event.Event.TheVariants.{Raw}
use Rattle.cred_event.specs.declared.content.Content.{Content}
use Rattle.cred_event.specs.declared.content.Content.TheVariants.{One, Nothing}
use Rattle.cred_event.specs.declared.content.Content.TheVariants as line

-- The task that an event names as one that calls, prepares, overrides, reverts or begins. A task
-- that is taken, signalled, looked into or created does none of these.
abbrev pub event_actor : Event → Option ℕ
event_actor (Prepare label task hold) = Some task
event_actor (Override task label) = Some task
event_actor (Revert task) = Some task
event_actor (Begin task call) = Some task
event_actor (Spawn task child) = Some task
event_actor (Fork task child process) = Some task
event_actor (Exit task) = Some task
event_actor (Dumpable task value) = Some task
event_actor (Dumped task) = Some task
event_actor (Raw task call) = Some task
event_actor event = None

-- The same of what a line holds. A line `T close F` doesn't show its task here: its event names
-- none.
abbrev pub actor : Content → Option ℕ
actor Nothing = None
actor (One event) = event_actor event
actor (line.Id task call) = Some task
actor (line.Question task query) = Some task
actor (line.Open task file want fd) = Some task
actor (line.Fcap task fd cap) = Some task
actor (line.Signal task to) = Some task
actor (line.Ptrace task to mode) = Some task
actor (line.Change task change) = Some task
actor (line.Access task file want) = Some task
actor (line.OnFile task call) = Some task
