-- An event that changes a file is made by a line that does.
use Rattle.std.proofs.Common.{◌≡◌, ℕ, Bool, true, false, Option, Some, None, is_some, refl, subst}
use Rattle.std.specs.Option.{IfSome, option_and_then, option_map_or}
use Rattle.cred_event.specs.declared.content.Content.{Content}
use Rattle.cred_event.specs.declared.content.Content.TheVariants.{One, OnFile}
use Rattle.cred_event.specs.declared.content.FileCall.{FileCall}
use Rattle.cred_event.specs.declared.content.FileCall.TheVariants.{Chown, Chmod, SetAttr, Stat}
use Rattle.cred_event.specs.declared.content.Stage.{Stage}
use Rattle.cred_event.specs.declared.content.Stage.TheVariants.{First, Calling}
use Rattle.cred_event.specs.declared.event.Event.{Event}
use Rattle.cred_model.specs.Course.{Course, hold_label, calling, event_in, event_at}
use Rattle.cred_model.specs.FileChanges.{event_changes, call_changes, line_changes}

-- where the event changes a file, so does the line
abbrev IsOfChange : Content → Event → Type 0
IsOfChange content event = event_changes event ≡ true → line_changes content ≡ true

-- no event, or one that changes no file
none_changes : (content : Content) (o : Option Event) → option_map_or event_changes o false ≡ false → IfSome o (IsOfChange content)
none_changes content None is = tt
none_changes content (Some event) is = λ changes. cc

call_changed : (task hold : ℕ) (call : FileCall) → IsOfChange (OnFile task call) (calling hold call)
call_changed task hold (Chown file owner group) is = refl
call_changed task hold (Chmod file mode) is = refl
call_changed task hold (SetAttr file attr) is = refl
call_changed task hold (Stat file) is = cc

stage_changed : (line : ℕ) (content : Content) (stage : Stage) → IfSome (event_in line content stage) (IsOfChange content)
stage_changed line (One event) First = λ is. is
stage_changed line (OnFile task call) Calling = call_changed task (hold_label line) call
stage_changed line content First = none_changes content (event_in line content First) refl
stage_changed line content stage = none_changes content (event_in line content stage) refl

course_changed : (line : ℕ) (content : Content) (o : Option Stage) (event : Event) → option_and_then (event_in line content) o ≡ Some event
    → IsOfChange content event
course_changed line content None event is = cc
course_changed line content (Some stage) event is =
    subst (λ (o : Option Event). IfSome o (IsOfChange content)) is (stage_changed line content stage)

pub event_of_change : (content : Content) (course : Course) (event : Event) → event_at content course ≡ Some event
    → event_changes event ≡ true → line_changes content ≡ true
event_of_change content course event = course_changed course.line content course.stage event
