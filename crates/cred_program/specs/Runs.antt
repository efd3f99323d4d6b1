-- What one run of the program leaves: every clause of the top call, for the process that makes one.
use Rattle.std.specs.Prelude.{◌≡◌, ◌⊎◌, ℕ, Bool, List, Some, None}
use Rattle.std.specs.declared.option.Option.{Option}
use Rattle.cred_model.specs.Journal.{IsLegal, IsSequence}
use Rattle.cred_inspect.specs.Auditing.{LeavesVerdict}
use Rattle.cred_inspect.specs.Decoding.{LeavesAttribute}
use Rattle.cred_inspect.specs.Encoding.{LeavesText}
use Rattle.cred_inspect.specs.Records.{LeavesRecord}
use Rattle.cred_output.specs.Leaves.{IsReading, IsWriting, LeavesReport}
use Rattle.cred_output.specs.Statuses.{code_of}
use Rattle.cred_commands.specs.Summing.{LeavesSummary}
use Rattle.cred_output.specs.declared.status.Status.{Status}
use Rattle.cred_output.specs.declared.status.Status.TheVariants as status
use Rattle.cred_program.specs.Commands.{LeavesUsage, limit_of}
use Rattle.cred_program.specs.Words.{command_of}
use Rattle.cred_program.specs.declared.words.Command.TheVariants as command

-- A source or a sink before and after: the bytes where it reports them, and its count of faults.
pub record Stream : Type 0 where
  pub before : Option (List ℕ)
  pub after : Option (List ℕ)
  pub faults : ℕ
  pub now : ℕ

-- What one run on words that spell these leaves at its two ends, by how it ended.
pub record RunsOnce
    (words : List (List ℕ)) (answer : Status) (source sink : Stream) (handed : Bool)
    (unread unwritten : Type 0)
    : Type 0 where
  pub run : command_of words ≡ Some command.Run
      → LeavesReport IsSequence answer source.before source.after sink.before sink.after
  pub lanes : command_of words ≡ Some command.Lanes
      → LeavesReport IsLegal answer source.before source.after sink.before sink.after
  pub audit : command_of words ≡ Some command.Audit
      → LeavesVerdict answer source.before source.after sink.before sink.after
  pub generate : (n : ℕ) → command_of words ≡ Some (command.Gen n)
      → unread × LeavesSummary n answer sink.before sink.after
  pub decode : (bytes : List ℕ) → command_of words ≡ Some (command.Decode bytes)
      → unread × LeavesAttribute bytes answer sink.before sink.after
  pub encode : (text : List ℕ) → command_of words ≡ Some (command.Encode text)
      → unread × LeavesText text answer sink.before sink.after
  pub capdata : (bytes : List ℕ) → command_of words ≡ Some (command.Capdata bytes)
      → unread × LeavesRecord bytes answer sink.before sink.after
  pub usage : command_of words ≡ None → unread × LeavesUsage answer sink.before sink.after
  pub reading : IsReading (limit_of (command_of words)) answer
      source.before source.after source.faults source.now
  pub writing : IsWriting answer handed sink.faults sink.now
  pub silent : (answer ≡ status.ReadFault) ⊎ (answer ≡ status.TooLarge) → unwritten

-- The process ends with the number of the status that one run had.
pub record EndsWith
    (words : List (List ℕ)) (code : ℕ) (source sink : Stream) (handed : Bool)
    (unread unwritten : Type 0)
    : Type 0 where
  pub answer : Status
  pub code_is : code ≡ code_of answer
  pub once : RunsOnce words answer source sink handed unread unwritten
