use Rattle.std.proofs.Common.{ℕ, sym, subst, true≢false, ◌∙◌}
use Rattle.cred_record.specs.Credential.{AreValidSets}
use Rattle.cred_record.proofs.WordLemmas.{head-facts, none-is}
use Rattle.cred_packed.proofs.reading.sets_in.Goals as goal

pub returns-in_err-of_bits-clause-none : goal.returns-in_err-of_bits-clause-none
returns-in_err-of_bits-clause-none c = none-is _ c.args.head.now (λ is. c.in_err-of_bits.ensures (head-facts c.args.head.now is).perm)

pub returns-in_err-of_bits-2-clause-none : goal.returns-in_err-of_bits-2-clause-none
returns-in_err-of_bits-2-clause-none c = none-is _ c.args.head.now (λ is. c.in_err-of_bits-2.ensures (head-facts c.args.head.now is).inh)

pub returns-in_err-of_bits-3-clause-none : goal.returns-in_err-of_bits-3-clause-none
returns-in_err-of_bits-3-clause-none c = none-is _ c.args.head.now (λ is. c.in_err-of_bits-3.ensures (head-facts c.args.head.now is).eff)

pub returns-in_err-of_bits-4-clause-none : goal.returns-in_err-of_bits-4-clause-none
returns-in_err-of_bits-4-clause-none c = none-is _ c.args.head.now (λ is. c.in_err-of_bits-4.ensures (head-facts c.args.head.now is).bound)

pub returns-in_err-of_bits-5-clause-none : goal.returns-in_err-of_bits-5-clause-none
returns-in_err-of_bits-5-clause-none c = none-is _ c.args.head.now (λ is. c.in_err-of_bits-5.ensures (head-facts c.args.head.now is).amb)

pub returns-else-are_valid-clause-none : goal.returns-else-are_valid-clause-none
returns-else-are_valid-clause-none c is =
    let P : ℕ × ℕ × ℕ × ℕ → Type 0 = λ s. AreValidSets s.0 s.1 s.2 s.3 in
    let valid =
    subst P (λ k. (sym c.in_ok-of_bits.ensures.1 k, sym c.in_ok-of_bits-2.ensures.1 k, sym c.in_ok-of_bits-3.ensures.1 k, sym c.in_ok-of_bits-5.ensures.1 k))
    (head-facts c.args.head.now is).valid in
    true≢false (sym (c.are_valid.ensures.1 valid) ∙ c.if-are_valid.false)
