-- The command that clap reads: one of two positionals, the first of which is required, with no flag
-- and no name before its words.
use Rattle.std.specs.Prelude.{◌≡◌, true, List, [], codes, MatchResult, Result}
use Rattle.clap.specs.Words.{App, HasKind, Rule, Text, fault_of, found_of, matches_of, new_app}
use Rattle.clap.specs.Words.{new_rule, rows_of, with_rule}
use Rattle.clap.specs.declared.error.Error.{Error}
use Rattle.clap.specs.declared.parser.matches.ArgMatches.{ArgMatches}

abbrev pub command : Rule
command = record (new_rule (codes "command")) { required = true }

abbrev pub operand : Rule
operand = new_rule (codes "operand")

abbrev pub bare_line : App
bare_line = record (new_app (codes "credtrace")) {
  top = record (new_app (codes "credtrace")).top {
    no_binary_name = true;
    disable_help_flag = true;
  };
}

abbrev pub line : App
line = with_rule (with_rule bare_line command) operand

-- what clap gives for the words: what it found, if nothing in them is refused; else the first
-- fault, or out of memory
abbrev pub Finds : List Text → Result ArgMatches Error → Type 0
Finds words given =
    MatchResult given
    (λ m. (fault_of line words ≡ []) × (rows_of (found_of m) ≡ matches_of line words))
    (HasKind (fault_of line words))
