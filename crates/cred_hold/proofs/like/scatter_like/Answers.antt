use Rattle.std.proofs.Common.{◌≡◌, ◌+◌, ℕ, List, take, slice_index, sym, ap, ◌∙◌, subst, arith}
use Rattle.std.proofs.lemmas.Grind.{div_ceil_times}
use Rattle.std.proofs.lemmas.List.{get_or-take}
use Rattle.cred_record.specs.Credential.{Credential}
use Rattle.cred_record.specs.Words.{credential_in, words_of, group_count}
use Rattle.cred_record.specs.declared.layout.TheConstants.{GROUPS}
use Rattle.cred_record.proofs.WordLemmas.{length-words_of, groups-few}
use Rattle.cred_record.proofs.Blank.{completed, blank-words_of}
use Rattle.cred_setid.specs.Parts.{changed}
use Rattle.cred_words.specs.Words.{put_words}
use Rattle.cred_words.specs.declared.view.Token.{Token}
use Rattle.cred_words.proofs.Opens.{width_is}
use Rattle.cred_hold.proofs.Changed.{count-changed}
use Rattle.cred_hold.proofs.Whole.{PutTo, put_start, put_more, blank-zeros, length-known, end-blank}
use Rattle.cred_hold.proofs.like.scatter_like.Goals as goal

pub load_own_word-flags-requires-clause-within : goal.load_own_word-flags-requires-clause-within
load_own_word-flags-requires-clause-within c = let w = width_is in omega arith

pub loop-place-init : goal.loop-place-init
loop-place-init c =
    let same = c.load_own_word-flags.ensures.same in
    let d : Credential = changed (credential_in c.args.hold.now.token.words) c.args.parts.now c.args.groups.now in
    (ap (λ w. w.id) same, put_start c.args.writer.now.token _ (words_of d) (ap (λ w. w.token) same) (length-known _ c.requires.known))

pub settle_word-requires-clause-within : goal.settle_word-requires-clause-within
settle_word-requires-clause-within c = let w = width_is in let below = c.loop-place-test.true in omega arith

pub loop-place-preserved : goal.loop-place-preserved
loop-place-preserved c =
    let i = c.loop-place.invariant in
    let n = c.loop-place.place in
    let d : Credential = changed (credential_in c.args.hold.now.token.words) c.args.parts.now c.args.groups.now in
    let ws = words_of d in
    let below = c.loop-place-test.true in
    let e = c.settle_word.ensures in
    let is = ap (λ (xs : List ℕ). slice_index xs n) c.head_like-first.ensures.words ∙ get_or-take GROUPS ws n 0 below in
    (e.0 ∙ i.0, put_more c.args.writer.now.token c.loop-place.writer.token _ ws n _ (omega arith) (length-words_of d) is e.1 i.1)

pub word_like-word-requires-clause-within : goal.word_like-word-requires-clause-within
word_like-word-requires-clause-within c =
    let d : Credential = changed (credential_in c.args.hold.now.token.words) c.args.parts.now c.args.groups.now in
    let below = c.loop-i-test.true in
    let few = count-changed d _ c.requires.made c.head_like-first.ensures.words in
    let count = c.group_count.ensures ∙ few.0 in
    let limit = few.1 in
    let half = div_ceil_times c.group_count.result 2 (omega arith) in
    let end = c.div_ceil-end.ensures in
    omega arith

pub settle_word-requires-in-loop-i-clause-within : goal.settle_word-requires-in-loop-i-clause-within
settle_word-requires-in-loop-i-clause-within c =
    let w = width_is in
    let d : Credential = changed (credential_in c.args.hold.now.token.words) c.args.parts.now c.args.groups.now in
    let below = c.loop-i-test.true in
    let few = count-changed d _ c.requires.made c.head_like-first.ensures.words in
    let count = c.group_count.ensures ∙ few.0 in
    let limit = few.1 in
    let half = div_ceil_times c.group_count.result 2 (omega arith) in
    let end = c.div_ceil-end.ensures in
    omega arith

pub loop-i-preserved : goal.loop-i-preserved
loop-i-preserved c =
    let i = c.loop-i.invariant in
    let n = c.loop-i.i in
    let own = c.args.parts.now in
    let gs = c.args.groups.now in
    let d : Credential = changed (credential_in c.args.hold.now.token.words) own gs in
    let ws = words_of d in
    let below = c.loop-i-test.true in
    let few = count-changed d _ c.requires.made c.head_like-first.ensures.words in
    let count = c.group_count.ensures ∙ few.0 in
    let limit = few.1 in
    let half = div_ceil_times c.group_count.result 2 (omega arith) in
    let end = c.div_ceil-end.ensures in
    let word = c.word_like-word.ensures.word own ∙ ap (λ h. slice_index (words_of (changed (credential_in h.token.words) own gs)) (GROUPS + n)) i.1 in
    let e = c.settle_word-in-loop-i.ensures in
    let t = c.args.writer.now.token in
    let v = c.settle_word-in-loop-i.new.writer.token in
    let more = put_more t c.loop-i.writer.token v ws (GROUPS + n) _ (omega arith) (length-words_of d) word e.1 i.2 in
    let next : GROUPS + n + 1 ≡ GROUPS + (n + 1) = omega arith in
    (e.0 ∙ i.0, c.word_like-word.ensures.same ∙ i.1, subst (λ (m : ℕ). PutTo t v ws m) next more)

pub clear-requires-clause-wide : goal.clear-requires-clause-wide
clear-requires-clause-wide c = c.loop-i.invariant.2.wide ∙ sym width_is

pub clear-requires-clause-within : goal.clear-requires-clause-within
clear-requires-clause-within c =
    let ws = c.args.writer.now.token.words in
    let few = groups-few ws c.requires.known in
    let count = c.group_count-before.ensures ∙ ap group_count c.load_own_word-flags.ensures.value in
    let half = div_ceil_times c.group_count-before.result 2 (omega arith) in
    let end = c.div_ceil.ensures in
    let w = width_is in
    omega arith

pub clear-requires-clause-rest : goal.clear-requires-clause-rest
clear-requires-clause-rest c k from old =
    let ws = c.args.writer.now.token.words in
    let past = c.loop-i-test.false in
    let count = c.group_count-before.ensures ∙ ap group_count c.load_own_word-flags.ensures.value in
    c.loop-i.invariant.2.rest k (omega arith) ∙ end-blank ws c.group_count-before.result c.div_ceil.result c.requires.known count c.div_ceil.ensures k old

pub returns-clause-words : goal.returns-clause-words
returns-clause-words c =
    let i = c.loop-i.invariant in
    let past = c.loop-i-test.false in
    let d : Credential = changed (credential_in c.args.hold.now.token.words) c.args.parts.now c.args.groups.now in
    let ws = words_of d in
    let few = count-changed d _ c.requires.made c.head_like-first.ensures.words in
    let count = c.group_count.ensures ∙ few.0 in
    let half = div_ceil_times c.group_count.result 2 (omega arith) in
    let end_is = c.div_ceil-end.ensures in
    let end = c.div_ceil-end.result in
    let at : GROUPS + c.loop-i.i ≡ GROUPS + end = omega arith in
    let put = subst (λ (m : ℕ). take m c.loop-i.writer.token.words ≡ take m ws) at i.2.same in
    let e = c.clear.ensures.same in
    let w = c.clear.ensures.words in
    let now = c.clear.new.writer.token.words in
    let all : now ≡ ws =
    completed now ws (GROUPS + end) (w.0 ∙ width_is ∙ sym (length-words_of d)) (w.1 ∙ put) (blank-zeros now (GROUPS + end) w.0 w.2)
    (blank-words_of d end (omega arith)) in
    (e.0 ∙ i.0, e.1 ∙ ap (λ (t : Token). put_words t now) i.2.token ∙ ap (put_words c.args.writer.now.token) all)
