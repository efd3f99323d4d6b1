-- The files, as a map from names keeps them.
use Rattle.std.specs.Prelude.{◌≤◌, List, length, map, string_bytes, String}
use Rattle.std.specs.List.{IsDistinct}
use Rattle.std.specs.Map.{keys_of}
use Rattle.std.specs.String.{string_eq}
use Rattle.std.specs.declared.alloc.Global.{Global}
use Rattle.cred_ids.specs.Limits.{FILES}
use Rattle.cred_record.specs.File.{File}
use Rattle.cred_model.specs.Script.{NamedFile}

-- an entry of the map, as a declared file
abbrev pub named_file : String Global × File → NamedFile
named_file entry = record { name = string_bytes entry.0; info = entry.1 }

abbrev pub files_of : List (String Global × File) → List NamedFile
files_of entries = map named_file entries

-- There are no more files than a script may declare, and no two of them share a name.
pub record AreFew (entries : List (String Global × File)) : Type 0 where
  pub few : length entries ≤ FILES
  pub apart : IsDistinct string_eq (keys_of entries)
