use Rattle.std.proofs.Common.{refl, rules}
use Rattle.cred_ids.specs.Ordered.{in_order}
use Rattle.cred_rules.specs.SetId.{after_setgroups}
use Rattle.cred_setid.specs.Parts.{alike}
use Rattle.cred_setid.proofs.calls.list_of.Goals as goal

pub returns-in-Err-Memory : goal.returns-in-Err-Memory
unfolding after_setgroups
returns-in-Err-Memory c d =
    ((record (alike d c.args.own.now) { groups = in_order c.args.list.now }, search rules), refl)
