-- What is true of what was read of a script, and of the line that comes next.
use Rattle.std.specs.Prelude.{◌≡◌, ◌≢◌, ℕ, ◌≤◌, ◌<◌, true, false, List, [], length, All, AllPairs}
use Rattle.std.specs.Prelude.{IfSome, IsSome, None, Some, ⊤}
use Rattle.std.specs.declared.option.Option.{Option}
use Rattle.std.specs.List.{cons_option}
use Rattle.cred_ids.specs.Limits.{LINE_LIMIT, LAST_LANE, LAST_NUMBER, FILES}
use Rattle.cred_event.specs.declared.content.Content.{Content}
use Rattle.cred_model.specs.Script.{Line, Namespace, SetupBefore, chain_in}
use Rattle.cred_model.specs.Named.{AreModes, IsContentOf, modes}
use Rattle.cred_model.specs.FileChanges.{ChangesInSetup, line_changes}
use Rattle.cred_grammar.specs.declared.forms.Parsed.{Parsed}
use Rattle.cred_grammar.specs.declared.forms.Parsed.TheVariants.{Empty, File, Starts, Lane, Holds}
use Rattle.cred_grammar.specs.declared.forms.Parsed.TheVariants as parsed
use Rattle.cred_script.specs.Acting.{actor}
use Rattle.cred_names.specs.Labels.{labels}
use Rattle.cred_names.specs.Owners.{Lanes, HasAll, may_name}
use Rattle.cred_script.specs.Files.{file_place}
use Rattle.cred_script.specs.Sound.{IsSoundLine}
use Rattle.cred_grammar.specs.Reading.{Reading, may_change, next_line}

-- The lane of the line has the task that acts by it and its labels, if it isn't the setup's.
abbrev pub IsOwned : Lanes → Line → Type 0
IsOwned lanes line =
    line.lane ≢ 0
    → HasAll lanes.tasks line.lane (cons_option (actor line.content) [])
    × HasAll lanes.labels line.lane (labels line.content)

-- the next line is sound if it holds this
pub record IsNextLine (reading : Reading) (content : Content) : Type 0 where
  pub labels : All (λ label. label ≤ LAST_NUMBER) (labels content)
  pub named : IsContentOf (length reading.files) reading.namespaces content
  pub fixed : ChangesInSetup (next_line reading content)
  pub owned : IsOwned reading.lanes (next_line reading content)

-- A line that creates a first task holds this: no task acts by it, it has no label, and it changes
-- no file.
pub record IsStart (reading : Reading) (content : Content) : Type 0 where
  pub labels : labels content ≡ []
  pub actor : actor content ≡ None
  pub changes : line_changes content ≡ false
  pub named : IsContentOf (length reading.files) reading.namespaces content

-- What a line holds, before its names are looked up: by this task it acts, or by none.
abbrev pub IsOwnLine : Option ℕ → Content → Type 0
IsOwnLine by content =
    All (λ label. label ≤ LAST_NUMBER) (labels content)
    × IfSome (actor content) (λ task. by ≡ Some task)
    × AreModes (modes content)

-- A line by which this task acts holds this.
pub record IsTaskLine (reading : Reading) (by : Option ℕ) (content : Content) : Type 0 where
  pub labels : All (λ label. label ≤ LAST_NUMBER) (labels content)
  pub actor : IfSome (actor content) (λ task. by ≡ Some task)
  pub named : IsContentOf (length reading.files) reading.namespaces content
  pub fixed : may_change reading.lanes content ≡ true
  pub apart : may_name reading.lanes by content ≡ true

-- what is true of a line that was parsed, after what was read before it
abbrev pub IsParsed : Reading → Parsed → Type 0
IsParsed reading Empty = ⊤
IsParsed reading (File file) =
    (length reading.files < FILES) × (file_place reading.files file.name ≡ None)
IsParsed reading (parsed.Namespace number root parent) =
    IsSome (chain_in reading.namespaces parent)
IsParsed reading (Starts content) = IsStart reading content
IsParsed reading (Lane number) = (1 ≤ number) × (number ≤ LAST_LANE)
IsParsed reading (Holds by content) = IsTaskLine reading by content

-- what is true of the lines that were read, where `count` files, these namespaces and these lanes
-- were read
pub record AreLinesRead (count : ℕ) (declared : List Namespace) (lanes : Lanes) (lines : List Line)
    : Type 0 where
  pub few : length lines ≤ LINE_LIMIT
  pub each : All (IsSoundLine count declared) lines
  pub lane : lanes.current ≤ LAST_LANE
  pub setup : lanes.current ≡ 0 → All (λ line. line.lane ≡ 0) lines
  pub first : AllPairs SetupBefore lines
  pub owned : All (IsOwned lanes) lines
