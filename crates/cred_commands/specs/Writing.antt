-- Lines that run, and the text of whose entries is written as they are made.
use Rattle.std.specs.Prelude.{◌≡◌, ℕ, Bool, List, [], ◌∷◌, ◌++◌, Some, slice_get}
use Rattle.std.specs.Prelude.{if◌then◌else◌}
use Rattle.std.specs.Option.{option_map}
use Rattle.cred_event.specs.Answers.{is_ok}
use Rattle.cred_event.specs.declared.answer.Answer.{Answer}
use Rattle.cred_event.specs.declared.content.Stage.TheVariants.{Committing}
use Rattle.cred_event.specs.declared.content.Content.{Content}
use Rattle.cred_event.specs.declared.entry.Entry.{Entry}
use Rattle.cred_event.specs.declared.event.Event.{Event}
use Rattle.cred_model.specs.Course.{is_stale}
use Rattle.cred_model.specs.Like.{IsOutcomeLike}
use Rattle.cred_model.specs.Script.{Script, Line}
use Rattle.cred_model.specs.State.{State}
use Rattle.cred_model.specs.Step.{step}
use Rattle.cred_report.specs.Text.{entry_text, text}
use Rattle.cred_commands.specs.Order.{RunsOn}
use Rattle.cred_commands.specs.declared.written.CommitOutcome.{CommitOutcome}
use Rattle.cred_commands.specs.declared.written.CommitOutcome.TheVariants.{Done, Late, Refused}

-- the entry of an event with its answer
abbrev pub entry_with : ℕ → Event → Answer → Entry
entry_with line event answer = record { line = line; event = event; answer = answer }

-- One event of a line was made, with an answer of which `P` holds, and the text of its entry was
-- written after what had been.
pub record WritesEvent
    (P : Answer → Type 0) (script : Script) (line : ℕ) (event : Event)
    (before after : State) (had has : List ℕ)
    : Type 0 where
  pub answer : Answer
  pub holds : P answer
  pub does : IsOutcomeLike (step script before line event) answer after
  pub written : has ≡ had ++ entry_text script (entry_with line event answer)

-- what a commit came to
abbrev pub commit_outcome : Answer → CommitOutcome
commit_outcome answer =
    if is_stale (Some Committing) answer then Late else if is_ok answer then Done else Refused

-- the line after the first `past` ones has this content
abbrev pub HasContent : Script → ℕ → Content → Type 0
HasContent script past content =
    option_map (λ (line : Line). line.content) (slice_get script.lines past) ≡ Some content

-- One line more has run, whatever the journal was before it, and the text of its entries was
-- written after what had been.
pub record WritesLine
    (script : Script) (past : ℕ) (before after : State) (had has : List ℕ)
    : Type 0 where
  pub made : List Entry
  pub runs : RunsOn script past before after [] made
  pub written : has ≡ had ++ text script made
