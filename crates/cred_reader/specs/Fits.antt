-- Which entries fit a script: the files and the namespaces that they name are the script's, each of
-- their words is spelled as the grammar asks, and the event may be given the answer. Numbers of
-- lines, tasks, processes, labels, descriptors and slots may be any of 32 bits, numbers of
-- credentials any of 64.
use Rattle.std.specs.Prelude.{◌≡◌, ℕ, ◌^◌, ◌<◌, ◌≤◌, ◌||◌, List, Some, IfSome, IsTrue, All, ⊤}
use Rattle.std.specs.Prelude.{length}
use Rattle.cred_ids.specs.declared.arg.Arg.{Arg}
use Rattle.cred_ids.specs.declared.arg.Arg.TheVariants.{Keep, Set}
use Rattle.cred_ids.specs.declared.id.Ids4.{Ids4}
use Rattle.cred_ids.specs.Id.{IsId}
use Rattle.cred_ids.specs.Limits.{LAST_NAMESPACE}
use Rattle.cred_caps.specs.Caps.{IsCaps}
use Rattle.cred_caps.specs.Secure.{LAST_BITS}
use Rattle.cred_record.specs.File.{IsMode}
use Rattle.cred_record.specs.declared.want.Want.{Want}
use Rattle.cred_record.specs.declared.gains.Gains.{Gains}
use Rattle.cred_record.specs.declared.id_call.IdCall.{IdCall}
use Rattle.cred_record.specs.declared.id_call.IdCall.TheVariants.{SetUid, SetEuid, SetReuid}
use Rattle.cred_record.specs.declared.id_call.IdCall.TheVariants.{SetResuid, SetGid, SetEgid}
use Rattle.cred_record.specs.declared.id_call.IdCall.TheVariants.{SetRegid, SetResgid, SetGroups}
use Rattle.cred_record.specs.declared.adj_call.AdjCall.{AdjCall}
use Rattle.cred_record.specs.declared.adj_call.AdjCall.TheVariants.{Capset, BoundDrop, AmbRaise}
use Rattle.cred_record.specs.declared.adj_call.AdjCall.TheVariants.{AmbLower, AmbClear, Bits}
use Rattle.cred_record.specs.declared.adj_call.AdjCall.TheVariants.{KeepCaps, NoNewPrivs}
use Rattle.cred_event.specs.declared.event.Change.{Change}
use Rattle.cred_event.specs.declared.event.Change.TheVariants.{SetFs, Adjust, Exec, Access}
use Rattle.cred_event.specs.declared.event.Query.{Query}
use Rattle.cred_event.specs.declared.event.Query.TheVariants as query
use Rattle.cred_event.specs.declared.event.Event.{Event}
use Rattle.cred_event.specs.declared.event.Event.TheVariants.{Init, Take, TakeFile, Release, Ask}
use Rattle.cred_event.specs.declared.event.Event.TheVariants.{Signal, Prepare, Alter, Commit, Abort}
use Rattle.cred_event.specs.declared.event.Event.TheVariants.{Override, Revert, Begin, Act}
use Rattle.cred_event.specs.declared.event.Event.TheVariants.{OpenFile, CloseFile, Spawn, Fork}
use Rattle.cred_event.specs.declared.event.Event.TheVariants.{Exit, Sweep, Dumpable, Dumped}
use Rattle.cred_event.specs.declared.event.Event.TheVariants.{Ptrace, Chown, Chmod, SetAttr, Stat}
use Rattle.cred_event.specs.declared.event.Event.TheVariants.{Raw}
use Rattle.cred_event.specs.declared.content.FileCall.{FileCall}
use Rattle.cred_event.specs.declared.content.FileCall.TheVariants as call
use Rattle.cred_event.specs.declared.answer.Told.{Told}
use Rattle.cred_event.specs.declared.answer.Told.TheVariants as told
use Rattle.cred_event.specs.declared.answer.Answer.{Answer}
use Rattle.cred_event.specs.declared.answer.Answer.TheVariants as answer
use Rattle.cred_event.specs.declared.entry.Entry.{Entry}
use Rattle.cred_model.specs.Script.{Script}
use Rattle.cred_model.specs.Named.{AreDeclared, event_files, event_namespaces}
use Rattle.cred_spelling.specs.Spellings.{is_name}
use Rattle.cred_script.specs.Files.{file_place}
use Rattle.cred_report.specs.Questions.{file_text}
use Rattle.cred_answers.specs.Rows.{CanAnswer}

-- a number of 32 bits
abbrev pub IsNumber : ℕ → Type 0
IsNumber n = n < 2 ^ 32

-- a number of 64 bits
abbrev pub IsLong : ℕ → Type 0
IsLong n = n < 2 ^ 64

-- The script declares a file at this place, whose name is a name, and that of no earlier file.
pub record IsFile (script : Script) (place : ℕ) : Type 0 where
  pub own : file_place script.files (file_text script place) ≡ Some place
  pub name : IsTrue (is_name (file_text script place))

-- the number of a namespace
abbrev pub IsNamespace : ℕ → Type 0
IsNamespace ns = ns ≤ LAST_NAMESPACE

-- something is wanted
abbrev pub IsWant : Want → Type 0
IsWant want = IsTrue (want.r || want.w || want.x)

abbrev pub IsArg : Arg → Type 0
IsArg Keep = ⊤
IsArg (Set id) = IsId id

abbrev pub FitsCall : IdCall → Type 0
FitsCall (SetUid id) = IsArg id
FitsCall (SetEuid id) = IsArg id
FitsCall (SetReuid real effective) = IsArg real × IsArg effective
FitsCall (SetResuid real effective saved) = IsArg real × IsArg effective × IsArg saved
FitsCall (SetGid id) = IsArg id
FitsCall (SetEgid id) = IsArg id
FitsCall (SetRegid real effective) = IsArg real × IsArg effective
FitsCall (SetResgid real effective saved) = IsArg real × IsArg effective × IsArg saved
FitsCall (SetGroups groups) = All IsId groups

abbrev pub FitsAdjust : AdjCall → Type 0
FitsAdjust (Capset perm inh eff) = IsCaps perm × IsCaps inh × IsCaps eff
FitsAdjust (BoundDrop cap) = IsNumber cap
FitsAdjust (AmbRaise cap) = IsNumber cap
FitsAdjust (AmbLower cap) = IsNumber cap
FitsAdjust AmbClear = ⊤
FitsAdjust (Bits bits) = IsNumber bits
FitsAdjust (KeepCaps value) = IsNumber value
FitsAdjust (NoNewPrivs value) = IsNumber value

abbrev pub FitsChange : Change → Type 0
FitsChange (SetFs kind id) = IsArg id
FitsChange (Adjust call) = FitsAdjust call
FitsChange (Exec file) = ⊤
FitsChange Access = ⊤

abbrev pub FitsQuery : Query → Type 0
FitsQuery query.Ids = ⊤
FitsQuery query.Caps = ⊤
FitsQuery query.Groups = ⊤
FitsQuery query.Bits = ⊤
FitsQuery (query.Capable cap) = IsNumber cap
FitsQuery (query.Bset cap) = IsNumber cap
FitsQuery (query.AmbIs cap) = IsNumber cap
FitsQuery (query.Check file want) = IsWant want

-- bytes that a word may spell: at most 128 hexadecimal digits, two of each
pub record AreBytes (bytes : List ℕ) : Type 0 where
  pub some : 1 ≤ length bytes
  pub few : length bytes ≤ 64
  pub each : All (λ byte. byte < 256) bytes

abbrev pub FitsFileCall : FileCall → Type 0
FitsFileCall (call.Chown file owner group) = IsArg owner × IsArg group
FitsFileCall (call.Chmod file mode) = IsMode mode
FitsFileCall (call.SetAttr file attr) = IfSome attr AreBytes
FitsFileCall (call.Stat file) = ⊤

abbrev pub FitsEvent : Event → Type 0
FitsEvent (Init task process user group ns) =
    IsNumber task × IsNumber process × IsId user × IsId group × IsNamespace ns
FitsEvent (Take label task side) = IsNumber label × IsNumber task
FitsEvent (TakeFile label fd) = IsNumber label × IsNumber fd
FitsEvent (Release label) = IsNumber label
FitsEvent (Ask label query) = IsNumber label × FitsQuery query
FitsEvent (Signal from hold to target) =
    IsNumber from × IsNumber hold × IsNumber to × IsNumber target
FitsEvent (Prepare label task hold) = IsNumber label × IsNumber task × IsNumber hold
FitsEvent (Alter label change) = IsNumber label × FitsChange change
FitsEvent (Commit label) = IsNumber label
FitsEvent (Abort label) = IsNumber label
FitsEvent (Override task label) = IsNumber task × IsNumber label
FitsEvent (Revert task) = IsNumber task
FitsEvent (Begin task call) = IsNumber task × FitsCall call
FitsEvent (Act broadcast) = IsNumber broadcast
FitsEvent (OpenFile hold file want fd) =
    IsNumber hold × IsWant want × IsNumber fd
FitsEvent (CloseFile fd) = IsNumber fd
FitsEvent (Spawn task child) = IsNumber task × IsNumber child
FitsEvent (Fork task child process) = IsNumber task × IsNumber child × IsNumber process
FitsEvent (Exit task) = IsNumber task
FitsEvent Sweep = ⊤
FitsEvent (Dumpable task value) = IsNumber task × IsNumber value
FitsEvent (Dumped task) = IsNumber task
FitsEvent (Ptrace from hold to target mode) =
    IsNumber from × IsNumber hold × IsNumber to × IsNumber target
FitsEvent (Chown hold file owner group) = IsNumber hold × IsArg owner × IsArg group
FitsEvent (Chmod hold file mode) = IsNumber hold × IsMode mode
FitsEvent (SetAttr hold file attr) = IsNumber hold × IfSome attr AreBytes
FitsEvent (Stat hold file) = IsNumber hold
FitsEvent (Raw task call) = IsNumber task × FitsCall call

abbrev pub FitsIds : Ids4 → Type 0
FitsIds ids = IsId ids.real × IsId ids.effective × IsId ids.saved × IsId ids.fs

abbrev pub FitsTold : Told → Type 0
FitsTold (told.Ids uid gid) = FitsIds uid × FitsIds gid
FitsTold (told.Caps perm inh eff bound amb) =
    IsCaps perm × IsCaps inh × IsCaps eff × IsCaps bound × IsCaps amb
FitsTold (told.Groups groups) = All IsId groups
FitsTold (told.Bits bits nnp) = bits ≤ LAST_BITS
FitsTold (told.Flag flag) = ⊤
FitsTold (told.File owner group mode attr) = IsId owner × IsId group × IsMode mode

abbrev pub FitsGains : Gains → Type 0
FitsGains gains = IsCaps gains.file × IsCaps gains.inherit × IsCaps gains.root

abbrev pub FitsAnswer : Answer → Type 0
FitsAnswer answer.Done = ⊤
FitsAnswer (answer.Sealed cred slot) = IsLong cred × IsNumber slot
FitsAnswer (answer.Kept slot) = IsNumber slot
FitsAnswer (answer.Was previous) = IsId previous
FitsAnswer (answer.Executed cred slot ended gains) =
    IsLong cred × IsNumber slot × IsNumber ended × FitsGains gains
FitsAnswer (answer.Began cred slot left) = IsLong cred × IsNumber slot × IsNumber left
FitsAnswer (answer.Acted task cred slot left) =
    IsNumber task × IsLong cred × IsNumber slot × IsNumber left
FitsAnswer (answer.Told told) = FitsTold told
FitsAnswer answer.Eperm = ⊤
FitsAnswer answer.Einval = ⊤
FitsAnswer answer.Eacces = ⊤
FitsAnswer answer.Ebadf = ⊤
FitsAnswer (answer.NoTask task) = IsNumber task
FitsAnswer (answer.NoHold label) = IsNumber label
FitsAnswer (answer.NoPrepared label) = IsNumber label
FitsAnswer (answer.NoBroadcast broadcast) = IsNumber broadcast
FitsAnswer (answer.Busy broadcast) = IsNumber broadcast
FitsAnswer (answer.Exists what number) = IsNumber number
FitsAnswer (answer.Overridden depth) = IsNumber depth
FitsAnswer answer.NotOverridden = ⊤
FitsAnswer answer.TooDeep = ⊤
FitsAnswer (answer.Stale base now) = IsLong base × IsLong now
FitsAnswer (answer.TooMany counted) = ⊤
FitsAnswer answer.TableFull = ⊤
FitsAnswer (answer.Aborted task cause) = IsNumber task

-- the files and the namespaces that an event names are the script's
pub record IsOf (script : Script) (event : Event) : Type 0 where
  pub files : All (IsFile script) (event_files event)
  pub namespaces : AreDeclared script.namespaces (event_namespaces event)

-- an entry that names what is the script's, and whose event may be given its answer
pub record IsSoundEntry (script : Script) (entry : Entry) : Type 0 where
  pub names : IsOf script entry.event
  pub row : CanAnswer entry.event entry.answer

-- an entry that this script's journals could have, by its words and by the form of its answer
pub record Fits (script : Script) (entry : Entry) : Type 0 where
  pub line : IsNumber entry.line
  pub event : FitsEvent entry.event
  pub answer : FitsAnswer entry.answer
  pub sound : IsSoundEntry script entry
