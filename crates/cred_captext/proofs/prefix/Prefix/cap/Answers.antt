use Rattle.cred_captext.proofs.PrefixLemmas.{whole, part}
use Rattle.cred_captext.proofs.prefix.Prefix.cap.Goals as goal

pub returns-then-self-capitals : goal.returns-then-self-capitals
returns-then-self-capitals c =
    whole c.self.inside.cap c.self.inside.read c.args.self.now c.capitals.result.now
    c.self.invariant.cap c.self.view_is c.capitals.ensures c.if-self-capitals.true

pub returns-else-self-capitals : goal.returns-else-self-capitals
returns-else-self-capitals c =
    part c.self.inside.cap c.self.inside.read c.args.self.now c.capitals.result.now
    c.self.invariant.cap c.self.view_is c.capitals.ensures c.self.invariant.within
    c.if-self-capitals.false
