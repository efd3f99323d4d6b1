use Rattle.std.proofs.Common.{sym, ap, subst}
use Rattle.cred_rules.specs.SetId.{set_id}
use Rattle.cred_setid.specs.Parts.{alike, PartsBecome}
use Rattle.cred_setid.proofs.calls.apply_parts.Goals as goal

pub returns-clause-made : goal.returns-clause-made
returns-clause-made c d own =
    subst (λ e. PartsBecome e c.args.own.now c.decide.new.own c.decide.result (set_id e c.args.call.now)) (ap (alike d) (sym own)) (c.decide.ensures.made d)
