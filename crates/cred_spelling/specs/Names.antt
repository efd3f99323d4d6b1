-- The tables of keywords: which words may begin a line, and name a call, a change and a question.
use Rattle.std.specs.Prelude.{ℕ, List, [], ◌∷◌, Some, codes, if◌then◌else◌}
use Rattle.std.specs.declared.option.Option.{Option}
use Rattle.std.specs.Option.{option_map, option_or}
use Rattle.std.specs.Str.{bytes_eq}
use Rattle.cred_ids.specs.declared.id.Kind.TheVariants.{User, Group}
use Rattle.cred_spelling.specs.declared.names.Form.{Form}
use Rattle.cred_spelling.specs.declared.names.Form.TheVariants.{Init, File, Namespace, Lane}
use Rattle.cred_spelling.specs.declared.names.Form.TheVariants.{Task, Event}
use Rattle.cred_spelling.specs.declared.names.EventName.TheVariants as event
use Rattle.cred_spelling.specs.declared.names.IdName.{IdName}
use Rattle.cred_spelling.specs.declared.names.IdName.TheVariants as id
use Rattle.cred_spelling.specs.declared.names.ChangeName.{ChangeName}
use Rattle.cred_spelling.specs.declared.names.ChangeName.TheVariants as change
use Rattle.cred_spelling.specs.declared.names.QueryName.{QueryName}
use Rattle.cred_spelling.specs.declared.names.QueryName.TheVariants as query
use Rattle.cred_spelling.specs.declared.names.OtherName.{OtherName}
use Rattle.cred_spelling.specs.declared.names.OtherName.TheVariants as other
use Rattle.cred_spelling.specs.declared.names.FileCallName.{FileCallName}
use Rattle.cred_spelling.specs.declared.names.FileCallName.TheVariants as file
use Rattle.cred_spelling.specs.declared.names.CallName.{CallName}
use Rattle.cred_spelling.specs.declared.names.CallName.TheVariants as call
use Rattle.cred_spelling.specs.Spellings.{spelled_task}
use Rattle.cred_spelling.specs.Table.{named}

-- the lines that no task calls
unfoldable pub forms : List (List ℕ × Form)
forms =
    (codes "init", Init) ∷
    (codes "file", File) ∷
    (codes "ns", Namespace) ∷
    (codes "lane", Lane) ∷
    (codes "take", Event event.Take) ∷
    (codes "takereal", Event event.TakeReal) ∷
    (codes "takefile", Event event.TakeFile) ∷
    (codes "drop", Event event.Release) ∷
    (codes "ask", Event event.Ask) ∷
    (codes "prepare", Event event.Prepare) ∷
    (codes "change", Event event.Alter) ∷
    (codes "commit", Event event.Commit) ∷
    (codes "abort", Event event.Abort) ∷
    (codes "override", Event event.Override) ∷
    (codes "revert", Event event.Revert) ∷
    (codes "begin", Event event.Begin) ∷
    (codes "act", Event event.Act) ∷
    (codes "sweep", Event event.Sweep) ∷
    []

-- the id calls
unfoldable pub id_names : List (List ℕ × IdName)
id_names =
    (codes "setuid", id.SetUid) ∷
    (codes "seteuid", id.SetEuid) ∷
    (codes "setreuid", id.SetReuid) ∷
    (codes "setresuid", id.SetResuid) ∷
    (codes "setgid", id.SetGid) ∷
    (codes "setegid", id.SetEgid) ∷
    (codes "setregid", id.SetRegid) ∷
    (codes "setresgid", id.SetResgid) ∷
    (codes "setgroups", id.SetGroups) ∷
    []

-- the changes of a credential that a call makes
unfoldable pub change_names : List (List ℕ × ChangeName)
change_names =
    (codes "setfsuid", change.SetFs User) ∷
    (codes "setfsgid", change.SetFs Group) ∷
    (codes "capset", change.Capset) ∷
    (codes "capdrop", change.BoundDrop) ∷
    (codes "ambraise", change.AmbRaise) ∷
    (codes "amblower", change.AmbLower) ∷
    (codes "ambclear", change.AmbClear) ∷
    (codes "securebits", change.Bits) ∷
    (codes "keepcaps", change.KeepCaps) ∷
    (codes "nonewprivs", change.NoNewPrivs) ∷
    (codes "exec", change.Exec) ∷
    []

-- the questions
unfoldable pub query_names : List (List ℕ × QueryName)
query_names =
    (codes "ids", query.Ids) ∷
    (codes "caps", query.Caps) ∷
    (codes "groups", query.Groups) ∷
    (codes "bits", query.Bits) ∷
    (codes "capable", query.Capable) ∷
    (codes "bset", query.Bset) ∷
    (codes "ambis", query.AmbIs) ∷
    (codes "check", query.Check) ∷
    []

-- the calls that are neither id calls, nor changes, nor questions
unfoldable pub other_names : List (List ℕ × OtherName)
other_names =
    (codes "open", other.Open) ∷
    (codes "close", other.Close) ∷
    (codes "fcap", other.Fcap) ∷
    (codes "access", other.Access) ∷
    (codes "signal", other.Signal) ∷
    (codes "spawn", other.Spawn) ∷
    (codes "fork", other.Fork) ∷
    (codes "exit", other.Exit) ∷
    (codes "dumpable", other.Dumpable) ∷
    (codes "dumped", other.Dumped) ∷
    (codes "ptrace", other.Ptrace) ∷
    (codes "capsetraw", other.CapsetRaw) ∷
    (codes "raw", other.Raw) ∷
    []

-- the calls on a file, but for those by which it is opened or executed
unfoldable pub file_call_names : List (List ℕ × FileCallName)
file_call_names =
    (codes "chown", file.Chown) ∷
    (codes "chmod", file.Chmod) ∷
    (codes "setattr", file.SetAttr) ∷
    (codes "clearattr", file.ClearAttr) ∷
    (codes "stat", file.Stat) ∷
    []

-- what a line is by its first word: a call or a question of a task is named by the task
abbrev pub form_of : List ℕ → Option Form
form_of word = option_or (option_map Task (spelled_task word)) (named forms word)

-- the id call that a word names
abbrev pub id_name : List ℕ → Option IdName
id_name word = named id_names word

-- the change that a call of this name makes
abbrev pub change_name : List ℕ → Option ChangeName
change_name word = named change_names word

-- The change that an event of this name makes: that of a call, or what access(2) decides on. After
-- a task `access` is that call.
abbrev pub altered_name : List ℕ → Option ChangeName
altered_name word =
    if bytes_eq word (codes "access") then Some change.Access else change_name word

-- the question that a word names
abbrev pub query_name : List ℕ → Option QueryName
query_name word = named query_names word

-- the call on a file that a word names
abbrev pub file_call_name : List ℕ → Option FileCallName
file_call_name word = named file_call_names word

-- what a task does on a line of its own, by its name
abbrev pub call_name : List ℕ → Option CallName
call_name word =
    option_or (option_map call.Question (query_name word))
    (option_or (option_map call.Id (id_name word))
    (option_or (option_map call.Change (change_name word))
    (option_or (option_map call.Other (named other_names word))
    (option_map call.File (file_call_name word)))))
