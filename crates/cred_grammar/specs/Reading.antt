-- What was read of a script before a line, what that asks of the line, and what the line adds.
use Rattle.std.specs.Prelude.{ℕ, Bool, true, false, not, ◌==◌, ◌&&◌, ◌||◌, nat_lt, List, [], ◌∷◌}
use Rattle.std.specs.Prelude.{◌++◌, length, is_some, Result, Ok, Err, if◌then◌else◌}
use Rattle.std.specs.declared.option.Option.{Option}
use Rattle.std.specs.List.{list_all}
use Rattle.cred_event.specs.declared.content.Content.{Content}
use Rattle.cred_event.specs.declared.content.Content.TheVariants.{Nothing}
use Rattle.cred_model.specs.Script.{Line, NamedFile, Namespace, Script, chain_in}
use Rattle.cred_model.specs.Named as named
use Rattle.cred_model.specs.FileChanges.{line_changes}
use Rattle.cred_spelling.specs.declared.reason.Reason.{Reason}
use Rattle.cred_spelling.specs.declared.reason.Reason.TheVariants.{Order, Name}
use Rattle.cred_spelling.specs.declared.reason.Reason.TheVariants as reason
use Rattle.cred_ids.specs.Tests.{◌>>=◌}
use Rattle.cred_grammar.specs.declared.forms.Parsed.{Parsed}
use Rattle.cred_grammar.specs.declared.forms.Parsed.TheVariants.{Empty, File, Starts, Lane, Holds}
use Rattle.cred_grammar.specs.declared.forms.Parsed.TheVariants as parsed
use Rattle.cred_script.specs.Files.{file_place}
use Rattle.cred_names.specs.Owners.{Lanes, no_lanes, may_name, naming}
use Rattle.cred_names.specs.Namespaces.{with_namespace}

-- The files and the namespaces that are declared, the lines, whether a call, an event or a lane
-- line stands there, so that nothing more may be declared, and the lanes.
pub record Reading : Type 0 where
  pub files : List NamedFile
  pub namespaces : List Namespace
  pub lines : List Line
  pub is_used : Bool
  pub lanes : Lanes

-- before the first line
abbrev pub nothing : Reading
nothing = record {
  files = [];
  namespaces = [];
  lines = [];
  is_used = false;
  lanes = no_lanes;
}

-- the script that was read
abbrev pub script : Reading → Script
script reading = record {
  files = reading.files;
  namespaces = reading.namespaces;
  lines = reading.lines;
}

-- Declarations stand before all calls, events and lane lines.
abbrev pub is_declaration : Parsed → Bool
is_declaration (File file) = true
is_declaration (parsed.Namespace number root parent) = true
is_declaration (Starts content) = true
is_declaration other = false

-- no declaration stands after a call, an event or a lane line
abbrev pub in_its_place : Reading → Parsed → Result (Unit {0}) Reason
in_its_place reading line = if is_declaration line && reading.is_used then Err Order else Ok tt

-- Each namespace that the line names is the initial one, or one of those that are declared.
abbrev pub has_namespaces : List Namespace → Content → Bool
has_namespaces declared content =
    list_all (λ number. is_some (chain_in declared number)) (named.namespaces content)

-- Each file that the line names is one of those that are declared.
abbrev pub has_files : List NamedFile → Content → Bool
has_files declared content =
    list_all (λ file. nat_lt file (length declared)) (named.files content)

-- each name that the line uses is declared
abbrev pub uses_declared : Reading → Content → Bool
uses_declared reading content =
    has_namespaces reading.namespaces content && has_files reading.files content

-- the names that the line uses are declared, and the one that it declares is not
abbrev pub has_names : Reading → Parsed → Bool
has_names reading Empty = true
has_names reading (File file) = not (is_some (file_place reading.files file.name))
has_names reading (parsed.Namespace number root parent) =
    is_some (chain_in reading.namespaces parent)
    && not (is_some (chain_in reading.namespaces number))
has_names reading (Starts content) = uses_declared reading content
has_names reading (Lane number) = true
has_names reading (Holds by content) = uses_declared reading content

-- where they aren't so, the line is refused for a name
abbrev pub names_declared : Reading → Parsed → Result (Unit {0}) Reason
names_declared reading line = if has_names reading line then Ok tt else Err Name

-- A file is changed by a line of the setup alone, so that it stays as it is while lanes run.
abbrev pub may_change : Lanes → Content → Bool
may_change lanes content = lanes.current == 0 || not (line_changes content)

-- The line changes no file outside the setup, and no line of another lane but the setup has named
-- the task that acts by it, or a label of it.
abbrev pub is_apart : Reading → Parsed → Bool
is_apart reading (Holds by content) =
    may_change reading.lanes content && may_name reading.lanes by content
is_apart reading other = true

-- where it isn't so, the line is refused for its lane
abbrev pub lanes_apart : Reading → Parsed → Result (Unit {0}) Reason
lanes_apart reading line = if is_apart reading line then Ok tt else Err reason.Lane

-- what a line may be after what was read: first the order, then the names, then the lanes
abbrev pub admits : Reading → Parsed → Result (Unit {0}) Reason
admits reading line = do
  order ← in_its_place reading line
  names ← names_declared reading line
  lanes_apart reading line

-- a line that holds this, in the lane that the lines belong to now
abbrev pub next_line : Reading → Content → Line
next_line reading content = record { lane = reading.lanes.current; content = content }

-- one more line, which holds this
abbrev pub push : Reading → Content → Reading
push reading content =
    record reading { lines = reading.lines ++ next_line reading content ∷ [] }

-- From now on the lines belong to this lane, and nothing is declared.
abbrev pub in_lane : Reading → ℕ → Reading
in_lane reading number =
    record reading { is_used = true; lanes = record reading.lanes { current = number } }

-- From now on nothing is declared, and the lane has the task that acts and the labels.
abbrev pub used_by : Reading → Option ℕ → Content → Reading
used_by reading by content =
    record reading { is_used = true; lanes = naming reading.lanes by content }

-- What a line adds. A lane line belongs to the lane that it opens.
abbrev pub keep : Reading → Parsed → Reading
keep reading Empty = push reading Nothing
keep reading (File file) = record (push reading Nothing) { files = reading.files ++ file ∷ [] }
keep reading (parsed.Namespace number root parent) =
    record (push reading Nothing) {
      namespaces = with_namespace reading.namespaces number root parent;
    }
keep reading (Starts content) = push reading content
keep reading (Lane number) = push (in_lane reading number) Nothing
keep reading (Holds by content) = push (used_by reading by content) content
