-- What a run of the program leaves at its source and its sink, by the status that it answers.
use Rattle.std.specs.Prelude.{◌≡◌, ◌≤◌, ◌<◌, ◌⊎◌, ℕ, length, List, Result, Ok, Err, ⊤}
use Rattle.std.specs.Result.{MatchResult}
use Rattle.std.specs.declared.option.Option.{Option}
use Rattle.std.specs.Io.KnownBytes.{Appends}
use Rattle.cred_ids.specs.Limits.{BYTE_LIMIT, LINE_LIMIT}
use Rattle.cred_io.specs.Ends.{ReadsAll, ReadsMoreThan, AppendsPrefix}
use Rattle.cred_io.specs.declared.sink.SinkRefusal.{SinkRefusal}
use Rattle.cred_io.specs.declared.sink.SinkRefusal.TheVariants as sink
use Rattle.cred_io.specs.declared.source.ReadRefusal.{ReadRefusal}
use Rattle.cred_io.specs.declared.source.ReadRefusal.TheVariants as source
use Rattle.cred_event.specs.declared.entry.Entry.{Entry}
use Rattle.cred_model.specs.Script.{Script}
use Rattle.cred_model.specs.Journal.{IsLegal}
use Rattle.cred_laws.specs.Journals.{IsLawful}
use Rattle.cred_spelling.specs.declared.reason.Reason.{Reason}
use Rattle.cred_spelling.specs.Lines.{lines_of}
use Rattle.cred_grammar.specs.Grammar.{script_of}
use Rattle.cred_report.specs.Text.{text}
use Rattle.cred_fits.specs.Fitting.{IsOneList}
use Rattle.cred_output.specs.declared.status.Status.{Status}
use Rattle.cred_output.specs.declared.status.Status.TheVariants as status
use Rattle.cred_output.specs.Texts.{bad_text}

-- an input that has no more bytes and no more lines than it may have
pub record IsWithinLimits (input : List ℕ) : Type 0 where
  pub bytes : length input ≤ BYTE_LIMIT
  pub lines : length (lines_of input) ≤ LINE_LIMIT

-- an input that has more lines than it may have
abbrev pub HasTooManyLines : List ℕ → Type 0
HasTooManyLines input = LINE_LIMIT < length (lines_of input)

-- an input that has more bytes, or more lines, than it may have
abbrev pub IsTooLarge : List ℕ → Type 0
IsTooLarge input = (BYTE_LIMIT < length input) ⊎ HasTooManyLines input

-- All that was left was read. It is within the limits of a command, and P holds of it.
pub record Reads
    (Within : List ℕ → Type 0) (before after : Option (List ℕ)) (P : List ℕ → Type 0)
    : Type 0 where
  pub input : List ℕ
  pub read : ReadsAll before after input
  pub within : Within input
  pub so : P input

-- All that was left was read, and it is within the limits of a command.
abbrev pub ReadsWithin : (List ℕ → Type 0) → Option (List ℕ) → Option (List ℕ) → Type 0
ReadsWithin Within before after = Reads Within before after (λ input. ⊤)

-- All that was left was read, and it is above a limit of a command that is not one of bytes.
pub record ReadsAbove (Above : List ℕ → Type 0) (before after : Option (List ℕ)) : Type 0 where
  pub input : List ℕ
  pub read : ReadsAll before after input
  pub above : Above input

-- More bytes were read than the input of a command may have, or all was read and it is above
-- another limit.
abbrev pub ReadsTooMuch :
    ℕ → (List ℕ → Type 0) → Option (List ℕ) → Option (List ℕ) → Type 0
ReadsTooMuch limit Above before after =
    ReadsMoreThan limit before after ⊎ ReadsAbove Above before after

-- The input is a script, and the text of a journal of it was written that is one of these: the one
-- in which its lines run whole and in order, or any that it may have. Each of its entries fits the
-- script, and no other list of entries that do has that text. The laws hold of it: no slot in use
-- is rewritten, a hold and an open file keep their credentials, each execve is the manual's, no
-- permitted set grows but by what its entry says was gained, and a call that is completed is every
-- thread's.
pub record Reports
    (These : Script → List Entry → Type 0) (before after : Option (List ℕ)) (input : List ℕ)
    : Type 0 where
  pub script : Script
  pub read : script_of input ≡ Ok script
  pub journal : List Entry
  pub one : These script journal
  pub legal : IsLegal script journal
  pub only : IsOneList script journal
  pub lawful : IsLawful script journal
  pub written : Appends before after (text script journal)

-- The input is no script, and its first bad line was written, with the reason.
pub record Refuses (before after : Option (List ℕ)) (input : List ℕ) : Type 0 where
  pub bad : ℕ × Reason
  pub read : script_of input ≡ Err bad
  pub written : Appends before after (bad_text bad)

-- A prefix of a text that the input has was written, and nothing else. That of a script is the
-- text of one of these journals of it.
abbrev pub BeginsOne :
    (Script → List Entry → Type 0) → Option (List ℕ) → Option (List ℕ) → List ℕ → Type 0
BeginsOne These before after input =
    MatchResult (script_of input)
    (λ script. (journal : List Entry) × These script journal
    × AppendsPrefix before after (text script journal))
    (λ bad. AppendsPrefix before after (bad_text bad))

-- The statuses that an input may have: which of Done, Bad and TooLarge it is, the input alone
-- decides, and nothing but a fault or running out of memory takes their place. Only what is
-- within the limits has a text that can fail to be written.
abbrev pub Suits : List ℕ → Status → Type 0
Suits input status.Done =
    IsWithinLimits input × MatchResult (script_of input) (λ script. ⊤) (λ bad. ⊥)
Suits input status.Bad =
    IsWithinLimits input × MatchResult (script_of input) (λ script. ⊥) (λ bad. ⊤)
Suits input status.TooLarge = IsTooLarge input
Suits input status.Usage = ⊥
Suits input status.ReadFault = ⊤
Suits input status.WriteFault = IsWithinLimits input
Suits input status.Memory = ⊤
Suits input status.NotLegal = ⊥

-- The statuses of a text: nothing but a fault or running out of memory takes its place.
abbrev pub IsForText : Status → Type 0
IsForText status.Done = ⊤
IsForText status.WriteFault = ⊤
IsForText status.Memory = ⊤
IsForText other = ⊥

-- The statuses with which a whole text was written.
abbrev pub IsWhole : Status → Type 0
IsWhole status.Done = ⊤
IsWhole status.Usage = ⊤
IsWhole status.Bad = ⊤
IsWhole status.NotLegal = ⊤
IsWhole other = ⊥

-- the status after a text was written or refused
abbrev pub status_after : Result (Unit {0}) SinkRefusal → Status → Status
status_after (Ok done) answer = answer
status_after (Err sink.Failed) answer = status.WriteFault
status_after (Err sink.Memory) answer = status.Memory

-- the status of a command whose input was not read
abbrev pub status_unread : ReadRefusal → Status
status_unread source.Fault = status.ReadFault
status_unread source.TooLarge = status.TooLarge
status_unread source.Memory = status.Memory

-- the status of a command that ends where it has no value, and may be done where it has one
abbrev pub status_so_far : {T : Type 0} → Result T Status → Status
status_so_far (Ok value) = status.Done
status_so_far (Err answer) = answer
