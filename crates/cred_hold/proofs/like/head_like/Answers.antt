use Rattle.std.proofs.Common.{◌∷◌, [], slice_index, sym, ap, ◌∙◌, arith}
use Rattle.cred_record.specs.Words.{credential_in}
use Rattle.cred_record.specs.declared.layout.TheConstants.{BOUNDING, FLAGS, NAMESPACE, ROOT}
use Rattle.cred_record.proofs.WordLemmas.{words-are}
use Rattle.cred_words.proofs.Opens.{width_is}
use Rattle.cred_hold.proofs.Changed.{copied, head-changed}
use Rattle.cred_hold.proofs.like.head_like.Goals as goal

pub load_word-inh-requires-clause-within : goal.load_word-inh-requires-clause-within
load_word-inh-requires-clause-within c = let w = width_is in omega arith

pub load_word-bound-requires-clause-within : goal.load_word-bound-requires-clause-within
load_word-bound-requires-clause-within c = let w = width_is in omega arith

pub load_word-flags-requires-clause-within : goal.load_word-flags-requires-clause-within
load_word-flags-requires-clause-within c = let w = width_is in omega arith

pub load_word-ns-requires-clause-within : goal.load_word-ns-requires-clause-within
load_word-ns-requires-clause-within c = let w = width_is in omega arith

pub load_word-root-requires-clause-within : goal.load_word-root-requires-clause-within
load_word-root-requires-clause-within c = let w = width_is in omega arith

pub flags_like-requires : goal.flags_like-requires
flags_like-requires c =
    let ws = c.args.hold.now.token.words in
    let same = c.load_word-bound.ensures.same ∙ c.load_word-inh.ensures.same in
    let flags = c.load_word-flags.ensures.value ∙ ap (λ h. slice_index h.token.words FLAGS) same ∙ (copied ws c.requires.known).flags in
    (credential_in ws, (words-are ws c.requires.known).0, flags)

pub returns-clause-words : goal.returns-clause-words
returns-clause-words c =
    let ws = c.args.hold.now.token.words in
    let there = copied ws c.requires.known in
    let user = c.id_words-user.ensures in
    let group = c.id_words-group.ensures in
    let two = c.load_word-bound.ensures.same ∙ c.load_word-inh.ensures.same in
    let three = c.load_word-flags.ensures.same ∙ two in
    let four = c.load_word-ns.ensures.same ∙ three in
    let inh = c.load_word-inh.ensures.value ∙ there.inh in
    let bound = c.load_word-bound.ensures.value ∙ ap (λ h. slice_index h.token.words BOUNDING) c.load_word-inh.ensures.same ∙ there.bound in
    let flags = c.load_word-flags.ensures.value ∙ ap (λ h. slice_index h.token.words FLAGS) two ∙ there.flags in
    let ns = c.load_word-ns.ensures.value ∙ ap (λ h. slice_index h.token.words NAMESPACE) three ∙ there.ns in
    let root = c.load_word-root.ensures.value ∙ ap (λ h. slice_index h.token.words ROOT) four ∙ there.root in
    let given = c.flags_like.ensures (credential_in ws) c.args.parts.now (words-are ws c.requires.known).0 flags in
    (λ k. user.0 k ∷ user.1 k ∷ group.0 k ∷ group.1 k ∷ c.bits.ensures.value k ∷ inh k ∷ c.bits-2.ensures.value k ∷ bound k ∷ c.bits-3.ensures.value k ∷ given
    k ∷ ns k ∷ root k ∷ []) ∙
    sym (head-changed (credential_in ws) c.args.parts.now c.args.groups.now)
