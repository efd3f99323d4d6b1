-- A line that is added to what was read.
use Rattle.std.specs.Prelude.{ℕ, List, Some, Result, Ok}
use Rattle.cred_event.specs.declared.content.Content.TheVariants.{One}
use Rattle.cred_model.specs.Script.{NamedFile}
use Rattle.cred_spelling.specs.declared.names.EventName.{EventName}
use Rattle.cred_spelling.specs.declared.reason.Reason.{Reason}
use Rattle.cred_ids.specs.Tests.{◌>>=◌}
use Rattle.cred_grammar.specs.declared.forms.Parsed.{Parsed}
use Rattle.cred_grammar.specs.declared.forms.Parsed.TheVariants.{Holds}
use Rattle.cred_script.specs.Acting.{event_actor}
use Rattle.cred_grammar.specs.Calls.{content_of}
use Rattle.cred_grammar.specs.Forms.{event_of}
use Rattle.cred_grammar.specs.Reading.{Reading, admits, keep}

-- a line, if it may stand after what was read
abbrev pub fitting : Reading → Result Parsed Reason → Result Parsed Reason
fitting reading parsed = do
  line ← parsed
  fits ← admits reading line
  Ok line

-- what is read with the line
abbrev pub adding : Reading → Result Parsed Reason → Result Reading Reason
adding reading parsed = do
  line ← parsed
  Ok (keep reading line)

-- a line that is a call or a question of the task
abbrev pub called : List NamedFile → ℕ → List (List ℕ) → Result Parsed Reason
called files task words = do
  content ← content_of files task words
  Ok (Holds (Some task) content)

-- a line that is an event
abbrev pub event_line : List NamedFile → EventName → List (List ℕ) → Result Parsed Reason
event_line files named words = do
  event ← event_of files named words
  Ok (Holds (event_actor event) (One event))
