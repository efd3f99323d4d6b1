use Rattle.std.proofs.Common.{◌+◌, ◌++◌, ◌∷◌, [], List, ℕ, sym, ap, ◌∙◌, append_assoc}
use Rattle.cred_generate.specs.Generated as spec
use Rattle.cred_generate.proofs.Accepted.{text_more}
use Rattle.cred_generate.proofs.generating.text_of.Goals as goal

pub loop-before-preserved : goal.loop-before-preserved
loop-before-preserved c =
    let before = c.loop-before.before in
    c.in_ok-append_line-2.ensures
    ∙ append_assoc c.loop-before.text.items c.call.result.now (10 ∷ [])
    ∙ ap (λ (line : List ℕ). c.loop-before.text.items ++ (line ++ 10 ∷ [])) c.call.ensures
    ∙ ap (λ (text : List ℕ). text ++ (spec.call (before + 1) ++ 10 ∷ [])) c.loop-before.invariant
    ∙ sym (text_more before)
