-- The events that a line makes name only what the line names.
use Rattle.std.proofs.Common.{◌≡◌, ℕ, ◌<◌, List, [], All, IsSome, Option, Some, None, refl, subst}
use Rattle.std.specs.Option.{IfSome, option_and_then, option_map_or}
use Rattle.std.proofs.lemmas.List.Elements.{All-nil}
use Rattle.cred_event.specs.declared.content.Content.{Content}
use Rattle.cred_event.specs.declared.content.Content.TheVariants.{One, Question, Open, Change, Access, OnFile}
use Rattle.cred_event.specs.declared.content.FileCall.{FileCall}
use Rattle.cred_event.specs.declared.content.FileCall.TheVariants.{Chown, Chmod, SetAttr, Stat}
use Rattle.cred_event.specs.declared.content.Stage.{Stage}
use Rattle.cred_event.specs.declared.content.Stage.TheVariants.{First, Asking, Opening, Calling, Altering}
use Rattle.cred_event.specs.declared.event.Event.{Event}
use Rattle.cred_model.specs.Script.{Namespace, chain_in}
use Rattle.cred_record.specs.File.{IsMode}
use Rattle.cred_model.specs.Named.{event_files, event_namespaces, event_modes, call_files, call_modes, IsEventOf, IsContentOf}
use Rattle.cred_model.specs.Course.{Course, hold_label, calling, event_in, event_at}

no_files : (count : ℕ) → All (λ (file : ℕ). file < count) []
no_files count = All-nil (λ file. file < count)

no_namespaces : (declared : List Namespace) → All (λ (namespace : ℕ). IsSome (chain_in declared namespace)) []
no_namespaces declared = All-nil (λ namespace. IsSome (chain_in declared namespace))

no_modes : All (λ (mode : ℕ). IsMode mode) []
no_modes = All-nil (λ mode. IsMode mode)

-- no event, or one that names nothing
names_nothing : (count : ℕ) (declared : List Namespace) (o : Option Event) → option_map_or event_files o [] ≡ []
    → option_map_or event_namespaces o [] ≡ [] → option_map_or event_modes o [] ≡ [] → IfSome o (IsEventOf count declared)
names_nothing count declared None files namespaces modes = tt
names_nothing count declared (Some event) files namespaces modes = record {
  files = rw files (no_files count);
  namespaces = rw namespaces (no_namespaces declared);
  modes = rw modes no_modes;
}

-- the event of a call on a file names what the call names
call_named : (count : ℕ) (declared : List Namespace) (hold : ℕ) (call : FileCall) → All (λ (file : ℕ). file < count) (call_files call)
    → All (λ (mode : ℕ). IsMode mode) (call_modes call) → IsEventOf count declared (calling hold call)
call_named count declared hold (Chown file owner group) files modes =
    record { files = files; namespaces = no_namespaces declared; modes = modes }
call_named count declared hold (Chmod file mode) files modes =
    record { files = files; namespaces = no_namespaces declared; modes = modes }
call_named count declared hold (SetAttr file attr) files modes =
    record { files = files; namespaces = no_namespaces declared; modes = modes }
call_named count declared hold (Stat file) files modes =
    record { files = files; namespaces = no_namespaces declared; modes = modes }

stage_named : (count : ℕ) (declared : List Namespace) (line : ℕ) (content : Content) (stage : Stage) → IsContentOf count declared content
    → IfSome (event_in line content stage) (IsEventOf count declared)
stage_named count declared line (One event) First of =
    record { files = of.files; namespaces = of.namespaces; modes = of.modes }
stage_named count declared line (Question task query) Asking of =
    record { files = of.files; namespaces = no_namespaces declared; modes = no_modes }
stage_named count declared line (Open task file want fd) Opening of =
    record { files = of.files; namespaces = no_namespaces declared; modes = no_modes }
stage_named count declared line (Change task change) Altering of =
    record { files = of.files; namespaces = no_namespaces declared; modes = no_modes }
stage_named count declared line (Access task file want) Asking of =
    record { files = of.files; namespaces = no_namespaces declared; modes = no_modes }
stage_named count declared line (OnFile task call) Calling of =
    call_named count declared (hold_label line) call of.files of.modes
stage_named count declared line content First of =
    names_nothing count declared (event_in line content First) refl refl refl
stage_named count declared line content stage of =
    names_nothing count declared (event_in line content stage) refl refl refl

course_named : (count : ℕ) (declared : List Namespace) (line : ℕ) (content : Content) (o : Option Stage) (event : Event) → IsContentOf count declared content
    → option_and_then (event_in line content) o ≡ Some event → IsEventOf count declared event
course_named count declared line content None event of is = cc
course_named count declared line content (Some stage) event of is =
    subst (λ (o : Option Event). IfSome o (IsEventOf count declared)) is (stage_named count declared line content stage of)

-- an event that a line makes names only files and namespaces that its line names
pub event_named : (count : ℕ) (declared : List Namespace) (content : Content) (course : Course) (event : Event) → IsContentOf count declared content
    → event_at content course ≡ Some event → IsEventOf count declared event
event_named count declared content course event = course_named count declared course.line content course.stage event
