-- What is written of the script that is made from a number.
use Rattle.std.specs.Prelude.{◌≡◌, ◌≤◌, ◌⊎◌, ℕ, List, Ok}
use Rattle.std.specs.declared.option.Option.{Option}
use Rattle.std.specs.Io.KnownBytes.{Appends}
use Rattle.cred_io.specs.Ends.{AppendsPrefix}
use Rattle.cred_event.specs.declared.entry.Entry.{Entry}
use Rattle.cred_model.specs.Script.{Script}
use Rattle.cred_model.specs.Journal.{IsSequence}
use Rattle.cred_grammar.specs.Grammar.{script_of}
use Rattle.cred_generate.specs.Generated.{CALLS, generated, text_of}
use Rattle.cred_generate.specs.Summary.{summary}
use Rattle.cred_generate.specs.declared.summing.Summary.{Summary}
use Rattle.cred_output.specs.Ends.{IsForText}
use Rattle.cred_output.specs.Texts.{summary_text}
use Rattle.cred_output.specs.declared.status.Status.{Status}
use Rattle.cred_output.specs.declared.status.Status.TheVariants as status

-- a script may be made from the number
pub record IsCount (n : ℕ) : Type 0 where
  pub some : 1 ≤ n
  pub few : n ≤ CALLS

-- The summary of the journal in which all lines of the script run whole and in order.
abbrev pub TellsSequence : Script → Summary → Type 0
TellsSequence script told =
    (journal : List Entry) × IsSequence script journal × (told ≡ summary script journal)

-- The text tells the summary of the journal in which the lines of the script that is made from the
-- number run whole and in order.
pub record IsSummary (n : ℕ) (text : List ℕ) : Type 0 where
  pub script : Script
  pub made : script_of (text_of (generated n)) ≡ Ok script
  pub journal : List Entry
  pub run : IsSequence script journal
  pub told : text ≡ summary_text (summary script journal)

-- what is said of that script, with this status
pub record SaysSummary (n : ℕ) (its : Status) (text : List ℕ) : Type 0 where
  pub done : its ≡ status.Done
  pub is : IsSummary n text

-- that text was written
pub record Sums (n : ℕ) (before after : Option (List ℕ)) : Type 0 where
  pub text : List ℕ
  pub is : IsSummary n text
  pub written : Appends before after text

-- a prefix of that text was written
pub record SumsPrefix (n : ℕ) (before after : Option (List ℕ)) : Type 0 where
  pub text : List ℕ
  pub is : IsSummary n text
  pub written : AppendsPrefix before after text

-- What `gen` leaves: the number decides its text.
pub record LeavesSummary (n : ℕ) (answer : Status) (written now : Option (List ℕ)) : Type 0 where
  pub done : answer ≡ status.Done → Sums n written now
  pub suits : IsForText answer
  pub prefix : (now ≡ written) ⊎ SumsPrefix n written now
