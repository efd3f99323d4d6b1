use Rattle.std.proofs.Common.{◌+◌, slice_index, Some, sym, ap, ◌∙◌, arith}
use Rattle.cred_record.specs.Words.{credential_in, words_of}
use Rattle.cred_record.specs.declared.layout.TheConstants.{GROUPS}
use Rattle.cred_record.proofs.WordLemmas.{at_group}
use Rattle.cred_words.proofs.Opens.{width_is}
use Rattle.cred_setid.specs.Parts.{changed}
use Rattle.cred_hold.proofs.Changed.{group-copied}
use Rattle.cred_hold.proofs.like.word_like.Goals as goal

pub load_word-requires-clause-within : goal.load_word-requires-clause-within
load_word-requires-clause-within c = let w = width_is in let within = c.requires.within in omega arith

pub returns-in-Some-clause-word : goal.returns-in-Some-clause-word
returns-in-Some-clause-word c own =
    let d = credential_in c.args.hold.now.token.words in
    c.group_word.ensures ∙
    sym (at_group (changed d own (Some _)) c.args.i c.requires.within) ∙
    ap (λ o. slice_index (words_of (changed d own o)) (GROUPS + c.args.i)) (sym c.in-Some.is)

pub returns-in-None-clause-word : goal.returns-in-None-clause-word
returns-in-None-clause-word c own =
    let ws = c.args.hold.now.token.words in
    c.load_word.ensures.value ∙
    group-copied ws own c.args.i c.requires.known c.requires.within ∙
    ap (λ o. slice_index (words_of (changed (credential_in ws) own o)) (GROUPS + c.args.i)) (sym c.in-None.is)
