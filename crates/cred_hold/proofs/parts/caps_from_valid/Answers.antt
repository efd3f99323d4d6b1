use Rattle.std.proofs.Common.{◌∷◌, [], ◌∙◌, arith}
use Rattle.cred_record.specs.declared.layout.TheConstants.{PERMITTED}
use Rattle.cred_record.specs.Words.{credential_in}
use Rattle.cred_record.proofs.WordLemmas.{word-facts}
use Rattle.cred_hold.proofs.Slots.{part-at}
use Rattle.cred_hold.proofs.parts.caps_from_valid.Goals as goal

pub from_valid-requires : goal.from_valid-requires
from_valid-requires c =
    let ws = c.requires.0 in
    let at = part-at ws c.args.words 5 PERMITTED 0 c.requires.2 (omega arith) in
    let fact = (word-facts ws c.requires.1).perm in
    omega arith

pub from_valid-requires-2 : goal.from_valid-requires-2
from_valid-requires-2 c =
    let ws = c.requires.0 in
    let at = part-at ws c.args.words 5 PERMITTED 1 c.requires.2 (omega arith) in
    let fact = (word-facts ws c.requires.1).inh in
    omega arith

pub from_valid-requires-3 : goal.from_valid-requires-3
from_valid-requires-3 c =
    let ws = c.requires.0 in
    let at = part-at ws c.args.words 5 PERMITTED 2 c.requires.2 (omega arith) in
    let fact = (word-facts ws c.requires.1).eff in
    omega arith

pub from_valid-requires-4 : goal.from_valid-requires-4
from_valid-requires-4 c =
    let ws = c.requires.0 in
    let at = part-at ws c.args.words 5 PERMITTED 3 c.requires.2 (omega arith) in
    let fact = (word-facts ws c.requires.1).bound in
    omega arith

pub from_valid-requires-5 : goal.from_valid-requires-5
from_valid-requires-5 c =
    let ws = c.requires.0 in
    let at = part-at ws c.args.words 5 PERMITTED 4 c.requires.2 (omega arith) in
    let fact = (word-facts ws c.requires.1).amb in
    omega arith

pub returns : goal.returns
unfolding credential_in
returns c ws is part =
    let perm_is = c.from_valid.ensures ∙ part-at ws c.args.words 5 PERMITTED 0 part (omega arith) in
    let inh_is = c.from_valid-2.ensures ∙ part-at ws c.args.words 5 PERMITTED 1 part (omega arith) in
    let eff_is = c.from_valid-3.ensures ∙ part-at ws c.args.words 5 PERMITTED 2 part (omega arith) in
    let bound_is = c.from_valid-4.ensures ∙ part-at ws c.args.words 5 PERMITTED 3 part (omega arith) in
    let amb_is = c.from_valid-5.ensures ∙ part-at ws c.args.words 5 PERMITTED 4 part (omega arith) in
    λ k. perm_is k ∷ inh_is k ∷ eff_is k ∷ bound_is k ∷ amb_is k ∷ []
