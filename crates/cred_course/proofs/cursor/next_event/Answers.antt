use Rattle.std.proofs.Common.{◌≡◌, ℕ, List, length, Result, Ok, Err, IfOk, Option, Some, None, sym}
use Rattle.std.specs.Option.{IfSome}
use Rattle.cred_ids.specs.declared.memory.NoMemory.{NoMemory}
use Rattle.cred_event.specs.declared.content.Content.{Content}
use Rattle.cred_event.specs.declared.event.Event.{Event}
use Rattle.cred_model.specs.Script.{Namespace}
use Rattle.cred_model.specs.Course.{Course, event_at}
use Rattle.cred_model.specs.Named.{IsEventOf, IsContentOf}
use Rattle.cred_model.proofs.Names.{event_named}
use Rattle.cred_course.proofs.cursor.next_event.Goals as goal

-- the event of a line names what is declared
named : (count : ℕ) (declared : List Namespace) (content : Content) (course : Course) (found : Result (Option Event) NoMemory)
    → IsContentOf count declared content
    → IfOk found (λ event. event ≡ event_at content course) → IfOk found (λ event. IfSome event (IsEventOf count declared))
named count declared content course (Ok (Some event)) of is = event_named count declared content course event of (sym is)
named count declared content course (Ok None) of is = tt
named count declared content course (Err e) of is = tt

pub returns-in-Some-clause-named : goal.returns-in-Some-clause-named
returns-in-Some-clause-named c =
    named (length c.args.script.now.files) c.args.script.now.namespaces c.in-Some.content.now c.args.course c.event.result c.in-Some.ensures.kind
    c.event.ensures.event
