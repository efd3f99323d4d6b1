-- What is said in place of a report: a short text, with the status if all of it was written.
use Rattle.std.specs.Prelude.{◌≡◌, ◌⊎◌, ℕ, List, Result, Ok, Err}
use Rattle.std.specs.declared.option.Option.{Option}
use Rattle.std.specs.Io.KnownBytes.{Appends}
use Rattle.cred_io.specs.Ends.{AppendsPrefix}
use Rattle.cred_grammar.specs.declared.refusal.ScriptRefusal.{ScriptRefusal}
use Rattle.cred_grammar.specs.declared.refusal.ScriptRefusal.TheVariants as refusal
use Rattle.cred_output.specs.Texts.{bad_text}
use Rattle.cred_output.specs.declared.message.Message.{Message}
use Rattle.cred_output.specs.declared.status.Status.{Status}
use Rattle.cred_output.specs.declared.status.Status.TheVariants as status

-- The statuses of a text that has this one: nothing but a fault or running out of memory takes its
-- place.
abbrev pub EndsAs : Status → Status → Type 0
EndsAs its answer =
    (answer ≡ its) ⊎ ((answer ≡ status.WriteFault) ⊎ (answer ≡ status.Memory))

-- What the writing of a text leaves: all of it with the status that it has, otherwise a prefix.
pub record WritesShortText
    (its : Status) (text : List ℕ) (answer : Status) (written now : Option (List ℕ))
    : Type 0 where
  pub whole : answer ≡ its → Appends written now text
  pub ends : EndsAs its answer
  pub prefix : AppendsPrefix written now text

-- The same of what is said; the sink is untouched where memory ran out before there was a text.
abbrev pub WritesMessage :
    {E : Type 0} → Result Message E → Status → Option (List ℕ) → Option (List ℕ) → Type 0 → Type 0
WritesMessage (Ok message) answer written now untouched =
    WritesShortText message.status message.text.items answer written now
WritesMessage (Err none) answer written now untouched = (answer ≡ status.Memory) × untouched

-- what is said of bytes of which no script was read
abbrev pub SaysRefusal : ScriptRefusal → Status → List ℕ → Type 0
SaysRefusal (refusal.Bad line reason) its text =
    (its ≡ status.Bad) × (text ≡ bad_text (line, reason))
SaysRefusal refusal.Memory its text = ⊥
