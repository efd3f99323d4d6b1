-- What `audit` leaves at its source and its sink, by the status that it answers.
use Rattle.std.specs.Prelude.{◌≡◌, ◌≢◌, ◌≤◌, ◌<◌, ◌⊎◌, ◌+◌, ℕ, List, ◌++◌, length, codes, decimal}
use Rattle.std.specs.Prelude.{Ok, Err, Some, MatchOption, ⊤}
use Rattle.std.specs.declared.option.Option.{Option}
use Rattle.std.specs.Io.KnownBytes.{Appends}
use Rattle.cred_ids.specs.Limits.{AUDIT_LIMIT}
use Rattle.cred_io.specs.Ends.{AppendsPrefix}
use Rattle.cred_model.specs.Script.{Script}
use Rattle.cred_spelling.specs.declared.reason.Reason.{Reason}
use Rattle.cred_spelling.specs.Lines.{lines_of}
use Rattle.cred_grammar.specs.Grammar.{script_of}
use Rattle.cred_fits.specs.Fitting.{IsOneList}
use Rattle.cred_audit.specs.Report.{IsReport, IsFault}
use Rattle.cred_output.specs.declared.status.Status.{Status}
use Rattle.cred_output.specs.declared.status.Status.TheVariants as status
use Rattle.cred_output.specs.Ends.{IsTooLarge, IsWhole, IsWithinLimits, Reads, ReadsTooMuch}
use Rattle.cred_output.specs.Ends.{ReadsWithin}
use Rattle.cred_inspect.specs.Parts.{input_parts, script_part}
use Rattle.cred_output.specs.Texts.{bad_text}

-- An input that has no more bytes than it may have, and of which what is to be a script has no more
-- bytes and no more lines than a script may have.
pub record IsAuditWithin (input : List ℕ) : Type 0 where
  pub bytes : length input ≤ AUDIT_LIMIT
  pub script : IsWithinLimits (script_part input)

-- of a report that is the script's
abbrev pub legal_text : List ℕ
legal_text = codes "legal\n"

-- of a report that goes wrong at this entry, counted from 1
abbrev pub not_legal_text : ℕ → List ℕ
not_legal_text entry = codes "not legal " ++ decimal entry ++ codes "\n"

-- to an input of which no line is `report`: the line that is lacking is the one after its last
abbrev pub no_report_text : List ℕ → List ℕ
no_report_text input = codes "bad " ++ decimal (length (lines_of input) + 1) ++ codes " report\n"

-- The bytes are the text of one of the journals that the script may have, and of no other list of
-- entries that fit the script.
pub record IsOneReport (script : Script) (bytes : List ℕ) : Type 0 where
  pub report : IsReport script bytes
  pub only : IsOneList script report.journal

-- What is said of the bytes of a script and of those of a report, with this status. Done: the
-- first are a script, and the others are its report. NotLegal: they aren't, and it is at this entry
-- that they go wrong. Bad: the first are no script, whatever the others are, and this is its first
-- bad line with the reason.
abbrev pub Judges : List ℕ → List ℕ → Status → List ℕ → Type 0
Judges bytes report status.Done text =
    (script : Script) × (script_of bytes ≡ Ok script)
    × IsOneReport script report × (text ≡ legal_text)
Judges bytes report status.NotLegal text =
    (script : Script) × (entry : ℕ) × (script_of bytes ≡ Ok script)
    × IsFault script report entry × (text ≡ not_legal_text entry)
Judges bytes report status.Bad text =
    (bad : ℕ × Reason) × (script_of bytes ≡ Err bad) × (text ≡ bad_text bad)
Judges bytes report other text = ⊥

-- What is said of an input, with this status. Without a `report` line it is bad, whatever the
-- script is.
abbrev pub SaysVerdict : List ℕ → Status → List ℕ → Type 0
SaysVerdict input answer text =
    MatchOption (input_parts input)
    ((answer ≡ status.Bad) × (text ≡ no_report_text input))
    (λ parts. Judges parts.0 parts.1 answer text)

-- what is said of the input with this status was written
abbrev pub Writes : Status → Option (List ℕ) → Option (List ℕ) → List ℕ → Type 0
Writes answer before after input =
    (text : List ℕ) × SaysVerdict input answer text × Appends before after text

-- a prefix of what is said of the input was written, and nothing else
abbrev pub WritesPrefix : Option (List ℕ) → Option (List ℕ) → List ℕ → Type 0
WritesPrefix before after input =
    (answer : Status) × (text : List ℕ)
    × SaysVerdict input answer text × AppendsPrefix before after text

-- The statuses that an input may have: which of Done, NotLegal, Bad and TooLarge it is, the input
-- alone decides, and nothing but a fault or running out of memory takes their place. Only what is
-- within the limits has a text that can fail to be written.
abbrev pub AuditSuits : List ℕ → Status → Type 0
AuditSuits input status.TooLarge = (AUDIT_LIMIT < length input) ⊎ IsTooLarge (script_part input)
AuditSuits input status.ReadFault = ⊤
AuditSuits input status.WriteFault = IsAuditWithin input
AuditSuits input status.Memory = ⊤
AuditSuits input answer = IsAuditWithin input × ((text : List ℕ) × SaysVerdict input answer text)

-- What `audit` leaves. With a whole text what was left at the source was read and is within the
-- limits, and the text is what is said of it.
pub record LeavesVerdict
    (answer : Status) (before after : Option (List ℕ)) (written now : Option (List ℕ))
    : Type 0 where
  pub whole : IsWhole answer → Reads IsAuditWithin before after (Writes answer written now)
  pub no_usage : answer ≢ status.Usage
  pub too_large : answer ≡ status.TooLarge →
      ReadsTooMuch AUDIT_LIMIT (λ input. IsTooLarge (script_part input)) before after
  pub write_fault : answer ≡ status.WriteFault → ReadsWithin IsAuditWithin before after
  pub suits : (input : List ℕ) → before ≡ Some input → AuditSuits input answer
  pub prefix : (now ≡ written) ⊎ Reads IsAuditWithin before after (WritesPrefix written now)
