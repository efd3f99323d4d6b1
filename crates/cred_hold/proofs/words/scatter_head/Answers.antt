use Rattle.std.proofs.Common.{◌≡◌, ◌+◌, ℕ, length, take, sym, ap, ◌∙◌, subst, arith}
use Rattle.std.proofs.lemmas.Grind.{div_ceil_times}
use Rattle.cred_record.specs.Words.{words_of, group_count}
use Rattle.cred_record.specs.declared.layout.TheConstants.{GROUPS}
use Rattle.cred_record.proofs.WordLemmas.{length-words_of, groups-few}
use Rattle.cred_record.proofs.Blank.{completed, blank-words_of}
use Rattle.cred_words.specs.Words.{put_words}
use Rattle.cred_words.specs.declared.view.Token.{Token}
use Rattle.cred_words.proofs.Opens.{width_is}
use Rattle.cred_hold.proofs.Whole.{put_start, put_more, blank-zeros, length-known, end-blank}
use Rattle.cred_hold.proofs.words.scatter_head.Goals as goal

pub load_own_word-requires-clause-within : goal.load_own_word-requires-clause-within
load_own_word-requires-clause-within c = let w = width_is in omega arith

pub loop-i-init : goal.loop-i-init
loop-i-init c =
    let same = c.load_own_word.ensures.same in
    (ap (λ w. w.id) same, put_start c.args.writer.now.token _ (words_of c.args.head.now) (ap (λ w. w.token) same) (length-known _ c.requires.known))

pub settle_word-requires-clause-within : goal.settle_word-requires-clause-within
settle_word-requires-clause-within c = let w = width_is in let below = c.loop-i-test.true in omega arith

pub loop-i-preserved : goal.loop-i-preserved
loop-i-preserved c =
    let i = c.loop-i.invariant in
    let n = c.loop-i.i in
    let ws = words_of c.args.head.now in
    let below = c.loop-i-test.true in
    let e = c.settle_word.ensures in
    (e.0 ∙ i.0, put_more c.args.writer.now.token c.loop-i.writer.token _ ws n _ (omega arith) (length-words_of c.args.head.now) c.word.ensures e.1 i.1)

pub clear-requires-clause-wide : goal.clear-requires-clause-wide
clear-requires-clause-wide c = c.loop-i.invariant.1.wide ∙ sym width_is

pub clear-requires-clause-within : goal.clear-requires-clause-within
clear-requires-clause-within c =
    let ws = c.args.writer.now.token.words in
    let few = groups-few ws c.requires.known in
    let count = c.group_count-before.ensures ∙ ap group_count c.load_own_word.ensures.value in
    let half = div_ceil_times c.group_count-before.result 2 (omega arith) in
    let end = c.div_ceil.ensures in
    let w = width_is in
    omega arith

pub clear-requires-clause-rest : goal.clear-requires-clause-rest
clear-requires-clause-rest c k from old =
    let ws = c.args.writer.now.token.words in
    let past = c.loop-i-test.false in
    let count = c.group_count-before.ensures ∙ ap group_count c.load_own_word.ensures.value in
    c.loop-i.invariant.1.rest k (omega arith) ∙ end-blank ws c.group_count-before.result c.div_ceil.result c.requires.known count c.div_ceil.ensures k old

pub returns : goal.returns
returns c =
    let i = c.loop-i.invariant in
    let past = c.loop-i-test.false in
    let ws = words_of c.args.head.now in
    let at : c.loop-i.i ≡ GROUPS = omega arith in
    let put = subst (λ (m : ℕ). take m c.loop-i.writer.token.words ≡ take m ws) at i.1.same in
    let e = c.clear.ensures.same in
    let w = c.clear.ensures.words in
    let now = c.clear.new.writer.token.words in
    let none : length c.args.head.now.groups ≡ 0 = ap length c.is_credential.ensures.groups in
    let all : now ≡ ws =
    completed now ws (GROUPS + 0) (w.0 ∙ width_is ∙ sym (length-words_of c.args.head.now)) (w.1 ∙ put) (blank-zeros now GROUPS w.0 w.2)
    (blank-words_of c.args.head.now 0 (omega arith)) in
    (e.0 ∙ i.0, e.1 ∙ ap (λ (t : Token). put_words t now) i.1.token ∙ ap (put_words c.args.writer.now.token) all)
