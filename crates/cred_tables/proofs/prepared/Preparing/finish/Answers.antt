use Rattle.std.proofs.Common.{Option, sym, ap, subst, ◌∙◌}
use Rattle.std.specs.Option.{IsSome, option_and_then, option_map}
use Rattle.cred_model.specs.State.{Prepared, Changed}
use Rattle.cred_tables.specs.Prepared.{prepared_as, all_prepared, GivesUp}
use Rattle.cred_tables.proofs.ByLabel.{find-prepared, gave_up}
use Rattle.cred_tables.proofs.Labels.{is_there, is_changed}
use Rattle.cred_tables.proofs.prepared.Preparing.finish.Goals as goal

pub unwrap-preparation-requires : goal.unwrap-preparation-requires
unwrap-preparation-requires c =
    let some = rw (← c.self.view_is) at c.requires in
    let found = find-prepared c.args.label c.self.inside.entries ∙ ap (option_map (prepared_as c.args.label)) (sym c.remove.ensures.value) in
    is_there c.args.label c.remove.result (subst (λ (o : Option Prepared). IsSome (option_and_then (λ p. p.changed) o)) found some)

pub unwrap-requires : goal.unwrap-requires
unwrap-requires c =
    let some = rw (← c.self.view_is) at c.requires in
    let found = find-prepared c.args.label c.self.inside.entries ∙ ap (option_map (prepared_as c.args.label)) (sym c.remove.ensures.value) in
    is_changed c.args.label c.remove.result c.unwrap-preparation.result c.unwrap-preparation.ensures
    (subst (λ (o : Option Prepared). IsSome (option_and_then (λ p. p.changed) o)) found some)

pub returns : goal.returns
returns c =
    let p = c.unwrap-preparation.result in
    let es = c.self.inside.entries in
    let after = c.remove.new.self in
    let gives = gave_up c.args.label p es after (sym c.remove.ensures.value ∙ c.unwrap-preparation.ensures) c.remove.ensures.left in
    rw (← c.self.view_is)
    (record {
      task = p.task;
      gives = subst (λ (changed : Option Changed). GivesUp (all_prepared es) (all_prepared after)
          (record { label = c.args.label; task = p.task; base = p.base; slot = p.slot; changed = changed }))
          c.unwrap.ensures gives;
    })
