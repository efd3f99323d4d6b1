use Rattle.std.proofs.Common.{refl, sym, ap, ◌∙◌, arith}
use Rattle.cred_words.specs.declared.view.Token.{Token}
use Rattle.cred_words.proofs.Opens.{width_is}
use Rattle.cred_hold.proofs.Whole.{clear_start, clear_more, cleared}
use Rattle.cred_hold.proofs.words.clear.Goals as goal

pub loop-i-init : goal.loop-i-init
loop-i-init c = (refl, clear_start c.args.writer.now.token c.args.first c.args.last c.requires.wide c.requires.rest)

pub settle_word-requires-clause-slot : goal.settle_word-requires-clause-slot
settle_word-requires-clause-slot c = c.requires.slot ∙ sym (ap (λ (t : Token). t.slot) c.loop-i.invariant.1.token)

pub settle_word-requires-clause-within : goal.settle_word-requires-clause-within
settle_word-requires-clause-within c = let w = width_is in let within = c.requires.within in let below = c.loop-i-test.true in omega arith

pub loop-i-preserved : goal.loop-i-preserved
loop-i-preserved c =
    let i = c.loop-i.invariant in
    let e = c.settle_word.ensures in
    let within = c.requires.within in
    let below = c.loop-i-test.true in
    (e.0 ∙ i.0, clear_more c.args.writer.now.token c.loop-i.writer.token _ c.args.first c.args.last c.loop-i.i (omega arith) e.1 i.1)

pub returns-clause-same : goal.returns-clause-same
returns-clause-same c = let i = c.loop-i.invariant in (i.0, i.1.token)

pub returns-clause-words : goal.returns-clause-words
returns-clause-words c =
    let i = c.loop-i.invariant in
    let past = c.loop-i-test.false in
    (i.1.wide, i.1.same, cleared c.args.writer.now.token c.loop-i.writer.token c.args.first c.args.last c.loop-i.i (omega arith) i.1)
