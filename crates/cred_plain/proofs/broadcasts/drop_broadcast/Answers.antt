use Rattle.std.proofs.Common.{◌==◌, not, rules, tests}
use Rattle.std.proofs.lemmas.Fn.{filter_same}
use Rattle.cred_model.specs.State.{Broadcast}
use Rattle.cred_plain.proofs.broadcasts.drop_broadcast.Goals as goal

pub returns : goal.returns
returns c =
    filter_same _ (λ (b : Broadcast). not (b.process == c.args.process)) _ (λ x b f' k. search (rules, tests)) _ _ c.retain.ensures.filtered
