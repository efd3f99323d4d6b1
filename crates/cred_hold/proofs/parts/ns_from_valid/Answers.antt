use Rattle.std.proofs.Common.{arith}
use Rattle.cred_record.specs.declared.layout.TheConstants.{NAMESPACE}
use Rattle.cred_record.specs.Words.{credential_in}
use Rattle.cred_record.proofs.WordLemmas.{word-facts}
use Rattle.cred_hold.proofs.Slots.{part-at}
use Rattle.cred_hold.proofs.parts.ns_from_valid.Goals as goal

pub overflow_cast-result : goal.overflow_cast-result
overflow_cast-result c =
    let ws = c.requires.0 in
    let at = part-at ws c.args.words 1 NAMESPACE 0 c.requires.2 (omega arith) in
    let fact = (word-facts ws c.requires.1).ns in
    omega arith

pub returns : goal.returns
unfolding credential_in
returns c ws is part = part-at ws c.args.words 1 NAMESPACE 0 part (omega arith)
