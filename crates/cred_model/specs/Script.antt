-- What a script is.
use Rattle.std.specs.Prelude.{◌≡◌, ℕ, ◌==◌, Bool, List, [], ◌∷◌, find, map, Some}
use Rattle.std.specs.Prelude.{if◌then◌else◌, slice_index_or}
use Rattle.std.specs.declared.option.Option.{Option}
use Rattle.std.specs.List.{AllPairs, list_any}
use Rattle.std.specs.Option.{option_map, option_map_or}
use Rattle.cred_record.specs.File.{File}
use Rattle.cred_event.specs.declared.content.Content.{Content}

-- A declared file has a name, as bytes, and what checks and execve see of it.
pub record NamedFile : Type 0 where
  pub name : List ℕ
  pub info : File

-- A line belongs to a lane, and holds what its words say. Lane 0 is the setup.
pub record Line : Type 0 where
  pub lane : ℕ
  pub content : Content

-- A declared user namespace has a number, the root ids of itself and of its ancestors, its own
-- first, and the numbers of these namespaces (user_namespaces(7)).
pub record Namespace : Type 0 where
  pub number : ℕ
  pub chain : List ℕ
  pub lineage : List ℕ

-- The files and the namespaces that a script declares, and its lines, each in its order. An event
-- names a file by its place. A line's number is its place, counted from 1.
pub record Script : Type 0 where
  pub files : List NamedFile
  pub namespaces : List Namespace
  pub lines : List Line

-- what checks and execve see of the declared files, each in its order
abbrev pub inodes_of : Script → List File
inodes_of script = map (λ file. file.info) script.files

-- Namespace 0 is the initial one. Its root id is 0, and it has no parent.
abbrev pub INITIAL_ROOT : ℕ
INITIAL_ROOT = 0

abbrev pub INITIAL : List ℕ
INITIAL = INITIAL_ROOT ∷ []

-- the root ids of a namespace and of its ancestors; none where it isn't declared
abbrev pub chain_in : List Namespace → ℕ → Option (List ℕ)
chain_in declared number =
    if number == 0 then Some INITIAL
    else option_map (λ ns. ns.chain) (find (λ ns. ns.number == number) declared)

-- the same; an empty list where it isn't declared
abbrev pub chain_of : Script → ℕ → List ℕ
chain_of script number = option_map_or (λ chain. chain) (chain_in script.namespaces number) []

-- The user id of root in a namespace: the first of its chain, which is its own. For one that isn't
-- declared it is that of the initial namespace.
abbrev pub root_of : Script → ℕ → ℕ
root_of script number = slice_index_or (chain_of script number) 0 INITIAL_ROOT

-- the numbers of a namespace and of its ancestors; none where it isn't declared
abbrev pub lineage_in : List Namespace → ℕ → List ℕ
lineage_in declared number =
    if number == 0 then number ∷ []
    else option_map_or (λ ns. ns.lineage) (find (λ ns. ns.number == number) declared) []

-- The outer namespace is the inner one or an ancestor of it: what a task of the outer one is
-- capable of it is capable of in the inner one too (user_namespaces(7), "Capabilities").
abbrev pub reaches : List Namespace → ℕ → ℕ → Bool
reaches declared outer inner = list_any (λ ns. ns == outer) (lineage_in declared inner)

-- A line of the setup has none but such lines before it.
abbrev pub SetupBefore : Line → Line → Type 0
SetupBefore earlier later = later.lane ≡ 0 → earlier.lane ≡ 0

-- The setup's lines come before all others.
abbrev pub SetupFirst : Script → Type 0
SetupFirst script = AllPairs SetupBefore script.lines
