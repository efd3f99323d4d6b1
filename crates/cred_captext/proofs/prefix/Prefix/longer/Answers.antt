use Rattle.std.proofs.Common.{true, Some, sym, ap, ◌∙◌, arith, ◌++◌, ◌∷◌, []}
use Rattle.std.proofs.lemmas.Bool.{cond-true, cond-false}
use Rattle.cred_caps.specs.Caps.{IsCap}
use Rattle.cred_captext.proofs.NameLemmas.{name-short}
use Rattle.cred_captext.proofs.PrefixLemmas.{prefix-size, found, not-found, GoesOn}
use Rattle.cred_captext.proofs.prefix.Prefix.longer.Goals as goal

pub overflow_add-result : goal.overflow_add-result
overflow_add-result c = omega (arith, name-short c.self.inside.cap, c.self.invariant.within)

goes : (c : goal.Then-continues)
    → GoesOn c.in_ok-cap.cap c.self.inside.read (c.args.self.now ++ c.args.byte ∷ [])
goes c =
    let size = prefix-size c.self.inside.cap c.self.inside.read c.args.self.now c.self.view_is
    c.self.invariant.within in
    let cap : IsCap c.in_ok-cap.cap =
    omega (arith, c.in_ok-cap.ensures.cap, c.loop-number-test.true) in
    found c.in_ok-cap.cap c.args.byte c.self.inside.read c.args.self.now cap size
    (sym c.continues.ensures ∙ c.if-continues.true)

pub invariant_of-result : goal.invariant_of-result
invariant_of-result c = record {
  cap = omega (arith, c.in_ok-cap.ensures.cap, c.loop-number-test.true);
  within = (goes c).within;
}

pub returns-then-continues : goal.returns-then-continues
returns-then-continues c =
    let on = goes c in
    ap Some on.prefix ∙ sym (cond-true _ _ _ on.begins)

pub returns : goal.returns
returns c = sym
    (cond-false _ _ _
    (not-found (c.args.self.now ++ c.args.byte ∷ [])
    (λ k lt. c.loop-number.invariant k (omega (arith, c.loop-number-test.false)))))
