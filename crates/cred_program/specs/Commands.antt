-- What is known of a command, and what is written where the words are no command.
use Rattle.std.specs.Prelude.{◌≡◌, ◌⊎◌, ℕ, List, codes, Some, ⊤}
use Rattle.std.specs.Io.KnownBytes.{Appends}
use Rattle.cred_io.specs.Ends.{AppendsPrefix}
use Rattle.std.specs.declared.option.Option.{Option}
use Rattle.cred_ids.specs.Limits.{AUDIT_LIMIT, BYTE_LIMIT}
use Rattle.cred_commands.specs.Summing.{IsCount}
use Rattle.cred_output.specs.declared.status.Status.{Status}
use Rattle.cred_output.specs.declared.status.Status.TheVariants as status
use Rattle.cred_program.specs.declared.words.Command.{Command}
use Rattle.cred_program.specs.declared.words.Command.TheVariants.{Audit, Gen}

-- how many bytes the input of a command may have
abbrev pub limit_of : Option Command → ℕ
limit_of (Some Audit) = AUDIT_LIMIT
limit_of other = BYTE_LIMIT

-- a script may be made from the number that a command names
abbrev pub HasCount : Command → Type 0
HasCount (Gen n) = IsCount n
HasCount other = ⊤

-- to words that are no command
abbrev pub usage_text : List ℕ
usage_text = codes "usage: credtrace run|lanes|audit|gen N|decode HEX|encode TEXT|capdata HEX\n"

-- The statuses of words that are no command.
abbrev pub IsForNoCommand : Status → Type 0
IsForNoCommand status.Usage = ⊤
IsForNoCommand status.WriteFault = ⊤
IsForNoCommand status.Memory = ⊤
IsForNoCommand other = ⊥

-- What words that are no command leave, and no others: the usage line.
pub record LeavesUsage (answer : Status) (written now : Option (List ℕ)) : Type 0 where
  pub usage : answer ≡ status.Usage → Appends written now usage_text
  pub suits : IsForNoCommand answer
  pub prefix : (now ≡ written) ⊎ AppendsPrefix written now usage_text
