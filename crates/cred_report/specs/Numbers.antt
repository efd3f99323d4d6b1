-- How numbers, ids, sets and flags are spelled.
use Rattle.std.specs.Prelude.{ℕ, Bool, true, false, List, ◌++◌, codes, decimal}
use Rattle.std.specs.Fmt.{digits}
use Rattle.std.specs.List.{flat_map}
use Rattle.cred_ids.specs.declared.arg.Arg.{Arg}
use Rattle.cred_ids.specs.declared.arg.Arg.TheVariants.{Keep, Set}

-- in lower-case hexadecimal without leading zeros, and 0 as `0`
abbrev pub hexadecimal : ℕ → List ℕ
hexadecimal n = digits 16 false n

-- a set of capabilities after a space, as the number whose bit n is 1 where capability n is in it
abbrev pub set_text : ℕ → List ℕ
set_text set = codes " " ++ hexadecimal set

-- ids in their order, each after a space
abbrev pub ids_text : List ℕ → List ℕ
ids_text ids = flat_map (λ id. codes " " ++ decimal id) ids

-- the argument of an id call after a space; -1 keeps the id
abbrev pub arg_text : Arg → List ℕ
arg_text Keep = codes " -1"
arg_text (Set id) = codes " " ++ decimal id

-- a flag after a space
abbrev pub flag_text : Bool → List ℕ
flag_text false = codes " 0"
flag_text true = codes " 1"
