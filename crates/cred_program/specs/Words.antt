-- The words of the command line.
use Rattle.std.specs.Prelude.{ℕ, Bool, true, false, not, String, List, length, map, codes}
use Rattle.std.specs.Prelude.{string_bytes, Some, None, if◌then◌else◌, nat_lt}
use Rattle.std.specs.declared.option.Option.{Option}
use Rattle.std.specs.Option.{option_map, option_and_then}
use Rattle.std.specs.Str.{bytes_eq}
use Rattle.std.specs.declared.alloc.Global.{Global}
use Rattle.cred_args.specs.Positionals.{WordsGiven, positionals}
use Rattle.cred_generate.specs.Generated.{CALLS}
use Rattle.cred_spelling.specs.Spellings.{bytes_of, number_within}
use Rattle.cred_program.specs.declared.words.Command.{Command}
use Rattle.cred_program.specs.declared.words.Command.TheVariants.{Run, Lanes, Audit, Gen}
use Rattle.cred_program.specs.declared.words.Command.TheVariants.{Decode, Encode, Capdata}

-- what the words spell
abbrev pub texts : List (String Global) → List (List ℕ)
texts words = map string_bytes words

-- the command that one word is
abbrev pub alone : List ℕ → Option Command
alone word =
    if bytes_eq word (codes "run") then Some Run
    else if bytes_eq word (codes "lanes") then Some Lanes
    else if bytes_eq word (codes "audit") then Some Audit
    else None

-- the greatest length of a text of file capabilities
abbrev pub TEXT_LIMIT : ℕ
TEXT_LIMIT = 4096

-- a text of file capabilities, none that is too long
abbrev pub text_within : List ℕ → Option (List ℕ)
text_within operand = if nat_lt TEXT_LIMIT (length operand) then None else Some operand

-- the command that a word is with its operand: a number from 1 to the greatest, without a leading
-- zero, or bytes in hexadecimal, or a text
abbrev pub with_operand : List ℕ → List ℕ → Option Command
with_operand word operand =
    if bytes_eq word (codes "gen") then option_map Gen (number_within 1 CALLS operand)
    else if bytes_eq word (codes "decode") then option_map Decode (bytes_of operand)
    else if bytes_eq word (codes "encode") then option_map Encode (text_within operand)
    else if bytes_eq word (codes "capdata") then option_map Capdata (bytes_of operand)
    else None

-- memory is needed for an operand: to read one in hexadecimal, and to keep a text that is not too
-- long
abbrev pub needs_memory : List ℕ → List ℕ → Bool
needs_memory word operand =
    if bytes_eq word (codes "gen") then false
    else if bytes_eq word (codes "decode") then true
    else if bytes_eq word (codes "encode") then not (nat_lt TEXT_LIMIT (length operand))
    else bytes_eq word (codes "capdata")

-- the command that a word is, with its operand if it has one
abbrev pub command_by : WordsGiven → Option Command
command_by (word, None) = alone word
command_by (word, Some operand) = with_operand word operand

-- memory is needed for the operand that a word has
abbrev pub needs_memory_by : WordsGiven → Bool
needs_memory_by (word, None) = false
needs_memory_by (word, Some operand) = needs_memory word operand

-- The command that the words are, if they are one: one word or two, none of which is empty or
-- begins with `-`.
abbrev pub command_of : List (List ℕ) → Option Command
command_of words = option_and_then command_by (positionals words)
