use Rattle.cred_captext.specs.Names.{lowercase_name}
use Rattle.cred_captext.proofs.PrefixLemmas.{shares}
use Rattle.cred_captext.proofs.prefix.share.Goals as goal

pub returns-then-count-other : goal.returns-then-count-other
returns-then-count-other c =
    shares (lowercase_name c.args.one)
    (lowercase_name c.args.other) c.capitals-one.result.now c.capitals-other.result.now
    c.args.count c.eq_ignore_ascii_case.result c.capitals-one.ensures c.capitals-other.ensures
    c.eq_ignore_ascii_case.ensures.test
