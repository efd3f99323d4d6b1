use Rattle.std.proofs.Common.{◌≡◌, ◌+◌, ◌≤◌, ◌∷◌, ◌∙◌, ℕ, All, List, ap, arith, subst, take}
use Rattle.std.proofs.lemmas.List.{take_all}
use Rattle.cred_model.specs.State.{Task}
use Rattle.cred_plain.proofs.Least.{more_numbers}
use Rattle.cred_plain.proofs.one_task.Task.least.Goals as goal

pub loop-number-preserved : goal.loop-number-preserved
loop-number-preserved c =
    let i = c.loop-number.number-index in
    let first = c.args.self.now.current in
    let same : c.deref-number-items.result.now ≡ c.args.self.now.overrides
    = c.deref-number-items.ensures.value ∙ ap (λ (t : Task). t.overrides) c.self.view_is in
    subst
    (λ (ns : List ℕ). All (λ (n : ℕ). c.loop-number.least ≤ n) (first ∷ take i ns) → All (λ (n : ℕ). c.min-least.result ≤ n) (first ∷ take (i + 1) ns)) same
    (more_numbers c.min-least.result c.loop-number.least first c.deref-number-items.result.now i c.loop-number-test.true
    (omega (arith, c.min-least.ensures)) (omega (arith, c.min-least.ensures)))
    c.loop-number.invariant

pub returns : goal.returns
returns c =
    let i = c.loop-number.number-index in
    let same : c.deref-number-items.result.now ≡ c.args.self.now.overrides
    = c.deref-number-items.ensures.value ∙ ap (λ (t : Task). t.overrides) c.self.view_is in
    let whole : take i c.args.self.now.overrides ≡ c.args.self.now.overrides
    = subst (λ (ns : List ℕ). take i ns ≡ ns) same (take_all i c.deref-number-items.result.now c.loop-number-test.false) in
    subst (λ (ns : List ℕ). All (λ (n : ℕ). c.loop-number.least ≤ n) (c.args.self.now.current ∷ ns)) whole c.loop-number.invariant
