use Rattle.std.proofs.Common.{◌≡◌, ◌+◌, Some}
use Rattle.cred_event.specs.declared.content.Stage.TheVariants.{Acting}
use Rattle.cred_course.specs.Cursor.{left_at}
use Rattle.cred_course.specs.Waiting.{waiting}
use Rattle.cred_event.specs.declared.content.Content.TheVariants.{Id}
use Rattle.cred_commands.proofs.Writes.{Writes, at_if}
use Rattle.cred_commands.proofs.straight.id_call.Given as goal

abbrev pub invariant-acts : goal.invariant-acts
invariant-acts l = record {
  line : l.line ≡ l.past + 1;
  words : l.state.words ≡ l.fn.state.words;
  writes : Writes l.script l.past l.fn.state.state l.state.state (Id l.task l.call) (at_if (l.past + 1) Acting 1 l.wait) l.fn.out l.out;
}

abbrev pub decreases-acts : goal.decreases-acts
decreases-acts l = left_at l.script (Some (at_if (l.past + 1) Acting 1 l.wait)) + waiting l.state.state
