use Rattle.std.proofs.Common.{◌≡◌, ◌≤◌, ◌+◌, ◌-◌}
use Rattle.cred_event.specs.declared.content.Content.TheVariants.{Change}
use Rattle.cred_ids.specs.Limits.{TRIES}
use Rattle.cred_model.specs.Course.{hold_label, new_label}
use Rattle.cred_commands.proofs.Writes.{Writes, at_try}
use Rattle.cred_commands.proofs.straight.change_of.Given as goal

abbrev pub invariant-tries : goal.invariant-tries
invariant-tries l = record {
  line : l.line ≡ l.past + 1;
  hold : l.hold ≡ hold_label (l.past + 1);
  label : l.label ≡ new_label (l.past + 1);
  few : l.tries ≤ TRIES + 1;
  words : l.state.words ≡ l.fn.state.words;
  writes : Writes l.script l.past l.fn.state.state l.state.state (Change l.task l.change) (at_try (l.past + 1) l.tries) l.fn.out l.out;
}

abbrev pub decreases-tries : goal.decreases-tries
decreases-tries l = TRIES + 1 - l.tries
