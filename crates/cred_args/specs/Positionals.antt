-- The words of a command line: a command, and perhaps its operand.
use Rattle.std.specs.Prelude.{ℕ, ◌==◌, Bool, false, not, List, [], ◌∷◌, Some, None}
use Rattle.std.specs.Prelude.{if◌then◌else◌}
use Rattle.std.specs.declared.option.Option.{Option}
use Rattle.std.specs.List.{list_all}
use Rattle.std.specs.Option.{option_map}
use Rattle.cred_args.specs.declared.parsing.Positionals.{Positionals}

-- a word that is not empty, and doesn't begin with `-`
abbrev pub is_plain : List ℕ → Bool
is_plain [] = false
is_plain (first ∷ rest) = not (first == 45)

-- a command and its operand, if it has one
abbrev pub WordsGiven : Type 0
WordsGiven = List ℕ × Option (List ℕ)

-- one word or two
abbrev pub split : List (List ℕ) → Option WordsGiven
split (command ∷ []) = Some (command, None)
split (command ∷ operand ∷ []) = Some (command, Some operand)
split words = None

-- what a command line is: none where a word is no plain one, and where there are none or more
abbrev pub positionals : List (List ℕ) → Option WordsGiven
positionals words = if list_all is_plain words then split words else None

-- the words as values, where they are borrowed
abbrev pub words_seen : Positionals → WordsGiven
words_seen given = (given.command.now, option_map (λ word. word.now) given.operand)
