use Rattle.std.proofs.Common.{◌∙◌, arith}
use Rattle.cred_record.specs.declared.layout.TheConstants.{USER}
use Rattle.cred_record.specs.Words.{are_ids, ids_of, credential_in}
use Rattle.cred_record.proofs.WordLemmas.{word-facts}
use Rattle.cred_hold.proofs.Slots.{part-at}
use Rattle.cred_hold.proofs.parts.ids_from_valid.Goals as goal

pub ids_from_valid_words-uid-requires : goal.ids_from_valid_words-uid-requires
ids_from_valid_words-uid-requires c =
    let ws = c.requires.0 in
    let part = c.requires.2 in
    let one = part-at ws c.args.words 4 USER 0 part (omega arith) in
    let other = part-at ws c.args.words 4 USER 1 part (omega arith) in
    ((λ k. are_ids (ids_of (one k) (other k))) ∙ (word-facts ws c.requires.1).uid)

pub ids_from_valid_words-gid-requires : goal.ids_from_valid_words-gid-requires
ids_from_valid_words-gid-requires c =
    let ws = c.requires.0 in
    let part = c.requires.2 in
    let one = part-at ws c.args.words 4 USER 2 part (omega arith) in
    let other = part-at ws c.args.words 4 USER 3 part (omega arith) in
    ((λ k. are_ids (ids_of (one k) (other k))) ∙ (word-facts ws c.requires.1).gid)

pub returns : goal.returns
unfolding credential_in
returns c ws is part =
    let user = part-at ws c.args.words 4 USER 0 part (omega arith) in
    let saved_user = part-at ws c.args.words 4 USER 1 part (omega arith) in
    let group = part-at ws c.args.words 4 USER 2 part (omega arith) in
    let saved_group = part-at ws c.args.words 4 USER 3 part (omega arith) in (
      c.ids_from_valid_words-uid.ensures ∙ (λ k. ids_of (user k) (saved_user k)),
      c.ids_from_valid_words-gid.ensures ∙ (λ k. ids_of (group k) (saved_group k)),
    )
