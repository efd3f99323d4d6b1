use Rattle.std.proofs.Common.{sym, ◌∙◌}
use Rattle.cred_model.specs.Moves.{table_full}
use Rattle.cred_machine.specs.Room.{called_alone}
use Rattle.cred_machine.proofs.Alone.{seals_alone}
use Rattle.cred_machine.proofs.Rooms.{in_none}
use Rattle.cred_machine.proofs.Seen.{seen_state}
use Rattle.cred_machine.proofs.state.State.replace_alone.Goals as goal

pub returns-in_default-clause-ok : goal.returns-in_default-clause-ok
returns-in_default-clause-ok c =
    rw (c.table_full.ensures.answer, c.table_full.ensures.state)
    (in_none c.args.self.now table_full (λ r at. called_alone r c.args.task c.args.process c.args.old c.args.cred c.args.ids_changed at)
    (sym c.in_ok-slot.ensures.slot ∙ c.in_default.is))

pub returns-clause-ok : goal.returns-clause-ok
returns-clause-ok c =
    seals_alone c.args.self.now c.args.task c.args.process c.args.old _ c.args.ids_changed c.in-Some.slot c.in_ok-slot.field-0.swept c.in_ok-number.number
    (seen_state c.self.inside) _ (sym c.in_ok-slot.ensures.slot ∙ c.in-Some.is) c.in_ok-slot.ensures.swept
    c.in_ok-number.ensures.number (c.self.view_is ∙ c.in_ok-number.ensures.ok) c.renew.ensures
