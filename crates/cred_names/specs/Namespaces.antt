-- The lines that declare user namespaces (user_namespaces(7)).
use Rattle.std.specs.Prelude.{ℕ, List, [], ◌∷◌, ◌++◌}
use Rattle.std.specs.Option.{option_map_or}
use Rattle.cred_model.specs.Script.{Namespace, chain_in, lineage_in}

-- the root ids of a namespace and of its ancestors: its own, and then those of its parent
abbrev pub chain_below : List Namespace → ℕ → ℕ → List ℕ
chain_below declared root parent =
    root ∷ option_map_or (λ chain. chain) (chain_in declared parent) []

-- the numbers of a namespace and of its ancestors: its own, and then those of its parent
abbrev pub lineage_below : List Namespace → ℕ → ℕ → List ℕ
lineage_below declared number parent = number ∷ lineage_in declared parent

-- one namespace more, with its number, its root id and its parent's number
abbrev pub with_namespace : List Namespace → (number root parent : ℕ) → List Namespace
with_namespace declared number root parent =
    declared
    ++ record {
      number = number;
      chain = chain_below declared root parent;
      lineage = lineage_below declared number parent;
    } ∷ []
