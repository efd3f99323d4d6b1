use Rattle.std.proofs.Common.{◌≡◌, ◌+◌, ap, ◌∙◌, sym, arith, length, length-set, length-drop, take, drop, slice_index}
use Rattle.std.proofs.lemmas.List.{get_or-drop, get_or-take, length-take-le}
use Rattle.cred_record.proofs.WordLemmas.{filled, whole}
use Rattle.cred_words.proofs.Opens.{width_is}
use Rattle.cred_hold.proofs.words.gather.Goals as goal

pub loop-i-preserved : goal.loop-i-preserved
loop-i-preserved g c =
    let i = c.loop-i.invariant in
    let ws = c.args.hold.now.token.words in
    let n = c.loop-i.i in
    let below = c.loop-i-test.true in
    let wide = c.requires.wide in
    let within = c.requires.within in
    let rest = length-drop c.args.first ws in
    let all : length (take g.row.N (drop c.args.first ws)) ≡ g.row.N = length-take-le g.row.N (drop c.args.first ws) (omega arith) in
    let same = c.load_word.ensures.same ∙ i.0 in
    let is =
    c.load_word.ensures.value ∙ ap (λ h. slice_index h.token.words (c.args.first + n)) i.0 ∙
    sym (get_or-drop c.args.first ws n 0) ∙ sym (get_or-take g.row.N (drop c.args.first ws) n 0 below) in
    (same, length-set _ _ _ ∙ i.1, filled _ _ n _ (omega arith) (omega arith) i.2 is)

pub returns-clause-words : goal.returns-clause-words
returns-clause-words g c =
    let i = c.loop-i.invariant in
    let ws = c.args.hold.now.token.words in
    let wide = c.requires.wide in
    let within = c.requires.within in
    let rest = length-drop c.args.first ws in
    let all : length (take g.row.N (drop c.args.first ws)) ≡ g.row.N = length-take-le g.row.N (drop c.args.first ws) (omega arith) in
    whole _ _ c.loop-i.i (omega arith) (omega arith) i.2

pub overflow_add-first : goal.overflow_add-first
overflow_add-first g c = let w = width_is in let within = c.requires.within in let below = c.loop-i-test.true in omega arith
