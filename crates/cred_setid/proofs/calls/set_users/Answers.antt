use Rattle.std.proofs.Common.{ap, ◌∙◌, Ok}
use Rattle.cred_rules.specs.SetId.{for_users}
use Rattle.cred_setid.specs.Parts.{alike}
use Rattle.cred_setid.proofs.calls.set_users.Goals as goal

pub returns-clause-made : goal.returns-clause-made
returns-clause-made c d =
    ap (for_users (alike d c.args.own.now)) c.in_ok-ids.was ∙ ap Ok (c.set_user_ids.ensures.ids d)
