use Rattle.std.proofs.Common.{◌++◌, ◌∷◌, [], take, drop, length-drop, sym, ap, ◌∙◌, subst, arith}
use Rattle.std.proofs.lemmas.List.{take_more}
use Rattle.cred_ids.specs.Id.{IsId}
use Rattle.cred_record.specs.declared.layout.TheConstants.{GROUPS}
use Rattle.cred_record.specs.Words.{unpaired}
use Rattle.cred_record.proofs.WordLemmas.{length-unpaired}
use Rattle.cred_record.proofs.HalfWords.{half-at}
use Rattle.cred_packed.proofs.reading.group_ids.Goals as goal

pub returns-in_default-clause-none : goal.returns-in_default-clause-none
returns-in_default-clause-none c =
    (c.loop-place.place, c.loop-place-test.true, λ small. c.in_default.ensures (subst IsId (sym (half-at c.args.words.now c.loop-place.place)) small))

pub loop-place-preserved : goal.loop-place-preserved
loop-place-preserved c =
    let ns = unpaired (drop GROUPS c.args.words.now) in
    let few = c.requires in
    let below = c.loop-place-test.true in
    let wide = length-unpaired (drop GROUPS c.args.words.now) in
    let rest = length-drop GROUPS c.args.words.now in
    let all = c.told-words in
    c.in_ok-push.ensures.items ∙
    ap (λ xs. xs ++ c.in-Some.id ∷ []) c.loop-place.invariant ∙
    ap (λ x. take c.loop-place.place ns ++ x ∷ []) (c.in-Some.ensures.1 ∙ half-at c.args.words.now c.loop-place.place) ∙
    sym (take_more ns c.loop-place.place 0 (omega arith))
