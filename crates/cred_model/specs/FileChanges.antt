-- Which events and lines change a file, what an event makes of it, and where such a line may stand.
use Rattle.std.specs.Prelude.{◌≡◌, ℕ, Bool, true, false, All, Some, None, is_some, Result, Ok}
use Rattle.std.specs.declared.option.Option.{Option}
use Rattle.cred_record.specs.Credential.{Credential}
use Rattle.cred_record.specs.File.{File}
use Rattle.cred_record.specs.declared.refusal.Denial.{Denial}
use Rattle.cred_rules.specs.Files.{chown, chmod, set_attr}
use Rattle.cred_event.specs.declared.event.Event.{Event}
use Rattle.cred_event.specs.declared.event.Event.TheVariants.{Chown, Chmod, SetAttr}
use Rattle.cred_event.specs.declared.content.Content.{Content}
use Rattle.cred_event.specs.declared.content.Content.TheVariants.{One, OnFile}
use Rattle.cred_event.specs.declared.content.FileCall.{FileCall}
use Rattle.cred_event.specs.declared.content.FileCall.TheVariants.{Stat}
use Rattle.cred_model.specs.Script.{Script, Line}

-- the file that an event changes if nothing refuses it, by its place
abbrev pub changed_file : Event → Option ℕ
changed_file (Chown hold file owner group) = Some file
changed_file (Chmod hold file mode) = Some file
changed_file (SetAttr hold file attr) = Some file
changed_file event = None

-- what the event makes of a file, decided by this credential
abbrev pub changed_by : Event → Credential → File → Result File Denial
changed_by (Chown hold place owner group) c file = chown c file owner group
changed_by (Chmod hold place mode) c file = chmod c file mode
changed_by (SetAttr hold place attr) c file = set_attr c file attr
changed_by event c file = Ok file

-- the event changes a file, if nothing refuses it
abbrev pub event_changes : Event → Bool
event_changes event = is_some (changed_file event)

-- the call changes a file: each but stat(2)
abbrev pub call_changes : FileCall → Bool
call_changes (Stat file) = false
call_changes call = true

-- the line changes a file
abbrev pub line_changes : Content → Bool
line_changes (One event) = event_changes event
line_changes (OnFile task call) = call_changes call
line_changes content = false

-- A line that changes a file is one of the setup.
abbrev pub ChangesInSetup : Line → Type 0
ChangesInSetup line = line_changes line.content ≡ true → line.lane ≡ 0

-- All lines that change a file are. Once the setup has ended the files stay as they are.
abbrev pub FixesFiles : Script → Type 0
FixesFiles script = All ChangesInSetup script.lines
