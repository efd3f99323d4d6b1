use Rattle.std.proofs.Common.{ap, ◌∙◌}
use Rattle.std.specs.Option.{option_map}
use Rattle.cred_model.specs.State.{Hold}
use Rattle.cred_tables.proofs.ByLabel.{lookup-holds, on_ok, taken}
use Rattle.cred_tables.proofs.holds.Holds.take.Goals as goal

pub push-requires : goal.push-requires
push-requires c =
    lookup-holds c.args.label c.self.inside.numbers ∙ ap (option_map (λ (h : Hold). h.number)) (rw (← c.self.view_is) at c.requires)

pub returns-clause-ok : goal.returns-clause-ok
returns-clause-ok c =
    rw (← c.self.view_is)
    (on_ok c.push.result (taken c.args.label c.args.number c.self.inside.numbers c.push.new.self) c.push.ensures.ok)
