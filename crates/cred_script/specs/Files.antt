-- The files of a script, by their names.
use Rattle.std.specs.Prelude.{ℕ, List, position}
use Rattle.std.specs.declared.option.Option.{Option}
use Rattle.std.specs.Str.{bytes_eq}
use Rattle.cred_model.specs.Script.{NamedFile}

-- the place of the file of this name
abbrev pub file_place : List NamedFile → List ℕ → Option ℕ
file_place files name = position (λ file. bytes_eq name file.name) files
