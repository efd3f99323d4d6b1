-- What events and lines name.
use Rattle.std.specs.Prelude.{ℕ, ◌<◌, List, [], ◌∷◌, All, IsSome}
use Rattle.cred_record.specs.File.{IsMode}
use Rattle.cred_event.specs.declared.event.Change.{Change}
use Rattle.cred_event.specs.declared.event.Change.TheVariants.{Exec}
use Rattle.cred_event.specs.declared.event.Event.{Event}
use Rattle.cred_event.specs.declared.event.Event.TheVariants.{Init, Ask, Alter, OpenFile, Chown}
use Rattle.cred_event.specs.declared.event.Event.TheVariants.{Chmod, SetAttr, Stat}
use Rattle.cred_event.specs.declared.event.Query.{Query}
use Rattle.cred_event.specs.declared.event.Query.TheVariants.{Check}
use Rattle.cred_event.specs.declared.content.Content.{Content}
use Rattle.cred_event.specs.declared.content.Content.TheVariants.{One, Question, Open, Access}
use Rattle.cred_event.specs.declared.content.Content.TheVariants.{OnFile}
use Rattle.cred_event.specs.declared.content.Content.TheVariants as content
use Rattle.cred_event.specs.declared.content.FileCall.{FileCall}
use Rattle.cred_event.specs.declared.content.FileCall.TheVariants as call
use Rattle.cred_model.specs.Script.{Namespace, chain_in}

-- the files that a question names, by their places
abbrev pub query_files : Query → List ℕ
query_files (Check file want) = file ∷ []
query_files query = []

-- the files that a change names
abbrev pub change_files : Change → List ℕ
change_files (Exec file) = file ∷ []
change_files other = []

-- the files that an event names
abbrev pub event_files : Event → List ℕ
event_files (Ask label query) = query_files query
event_files (Alter label change) = change_files change
event_files (OpenFile hold file want fd) = file ∷ []
event_files (Chown hold file owner group) = file ∷ []
event_files (Chmod hold file mode) = file ∷ []
event_files (SetAttr hold file attr) = file ∷ []
event_files (Stat hold file) = file ∷ []
event_files event = []

-- the namespaces that an event names
abbrev pub event_namespaces : Event → List ℕ
event_namespaces (Init task process user group namespace) = namespace ∷ []
event_namespaces event = []

-- the modes that an event gives
abbrev pub event_modes : Event → List ℕ
event_modes (Chmod hold file mode) = mode ∷ []
event_modes event = []

-- the file that a call names
abbrev pub call_files : FileCall → List ℕ
call_files (call.Chown file owner group) = file ∷ []
call_files (call.Chmod file mode) = file ∷ []
call_files (call.SetAttr file attr) = file ∷ []
call_files (call.Stat file) = file ∷ []

-- the modes that it gives
abbrev pub call_modes : FileCall → List ℕ
call_modes (call.Chmod file mode) = mode ∷ []
call_modes other = []

-- the files that a line names
abbrev pub files : Content → List ℕ
files (One event) = event_files event
files (Question task query) = query_files query
files (Open task file want fd) = file ∷ []
files (content.Change task change) = change_files change
files (Access task file want) = file ∷ []
files (OnFile task call) = call_files call
files content = []

-- the namespaces that a line names
abbrev pub namespaces : Content → List ℕ
namespaces (One event) = event_namespaces event
namespaces content = []

-- the modes that a line gives
abbrev pub modes : Content → List ℕ
modes (One event) = event_modes event
modes (OnFile task call) = call_modes call
modes content = []

-- each of these files is one of the first `count`
abbrev pub AreAmong : ℕ → List ℕ → Type 0
AreAmong count files = All (λ file. file < count) files

-- Each of these namespaces is the initial one, or one of those that are declared.
abbrev pub AreDeclared : List Namespace → List ℕ → Type 0
AreDeclared declared namespaces = All (λ namespace. IsSome (chain_in declared namespace)) namespaces

-- each of these is a mode
abbrev pub AreModes : List ℕ → Type 0
AreModes modes = All (λ mode. IsMode mode) modes

-- The event names only declared files and namespaces, where `count` files and these namespaces are
-- declared, and gives a file only what is a mode.
pub record IsEventOf (count : ℕ) (declared : List Namespace) (event : Event) : Type 0 where
  pub files : AreAmong count (event_files event)
  pub namespaces : AreDeclared declared (event_namespaces event)
  pub modes : AreModes (event_modes event)

-- The same of what a line holds.
pub record IsContentOf (count : ℕ) (declared : List Namespace) (content : Content) : Type 0 where
  pub files : AreAmong count (files content)
  pub namespaces : AreDeclared declared (namespaces content)
  pub modes : AreModes (modes content)
