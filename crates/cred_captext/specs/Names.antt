-- The names of capabilities as a text of file capabilities has them.
use Rattle.std.specs.Prelude.{ℕ, ◌≤◌, Bool, List, [], map, take, length, slice_index_or}
use Rattle.std.specs.Char.{to_ascii_lowercase}
use Rattle.std.specs.List.{list_any, position}
use Rattle.std.specs.Str.{bytes_eq}
use Rattle.cred_caps.specs.Caps.{IsCap}
use Rattle.cred_caps.specs.Names.{cap_names}
use Rattle.std.specs.declared.option.Option.{Option}

-- in lower case, by number
abbrev pub lowercase_names : List (List ℕ)
lowercase_names = map (map to_ascii_lowercase) cap_names

-- the name of capability n, in lower case
abbrev pub lowercase_name : ℕ → List ℕ
lowercase_name n = slice_index_or lowercase_names n []

-- the capability that has this name
abbrev pub cap_of_lowercase_name : List ℕ → Option ℕ
cap_of_lowercase_name word = position (bytes_eq word) lowercase_names

-- the name begins with these bytes
abbrev pub begins_with : List ℕ → List ℕ → Bool
begins_with name word = bytes_eq (take (length word) name) word

-- some name does
abbrev pub begins_name : List ℕ → Bool
begins_name word = list_any (λ name. begins_with name word) lowercase_names

-- the name of capability n has a prefix of `k` bytes
pub record IsNamePrefix (n k : ℕ) : Type 0 where
  pub cap : IsCap n
  pub within : k ≤ length (lowercase_name n)
