use Rattle.std.proofs.Common.{List, ℕ, Some, sym, ap, ◌∙◌, subst}
use Rattle.std.specs.Cmp.Lexicographic.{same_text, other_text}
use Rattle.cred_record.specs.Words.{IsCredential, credential_in, words_of}
use Rattle.cred_record.proofs.WordLemmas.{spelled}
use Rattle.cred_record.proofs.HalfWords.{joined, head-is}
use Rattle.cred_packed.proofs.reading.of_words.Goals as goal

pub returns-in_default-clause-each_value : goal.returns-in_default-clause-each_value
returns-in_default-clause-each_value c d is same =
    let none = rw c.in_default.is at c.in_ok-groups.ensures.none in
    absurd (none (spelled _ d is same).0)

pub returns-in_default-cred_in-clause-each_value : goal.returns-in_default-cred_in-clause-each_value
returns-in_default-cred_in-clause-each_value c d is same =
    let head = subst (λ (ws : List ℕ). IsCredential (credential_in ws)) (sym c.head_of.ensures) (head-is c.args.words.now (spelled _ d is same).0) in
    absurd (c.in_default-cred_in.ensures.none head)

pub returns-then-eq-clause-value : goal.returns-then-eq-clause-value
returns-then-eq-clause-value c = (c.is_credential.ensures, sym c.to_words.ensures ∙ same_text _ _ c.if-eq.ensures)

pub returns-then-eq-clause-each_value : goal.returns-then-eq-clause-each_value
returns-then-eq-clause-each_value c d is same =
    let s = spelled _ d is same in
    let groups = rw c.in-Some.is at c.in_ok-groups.ensures.some in
    ap Some (c.in-Some-cred_in.ensures.some ∙ joined c.args.words.now _ _ c.head_of.ensures (groups s.0) ∙ s.1)

pub returns-else-eq-clause-each_value : goal.returns-else-eq-clause-each_value
returns-else-eq-clause-each_value c d is same =
    let s = spelled _ d is same in
    let groups = rw c.in-Some.is at c.in_ok-groups.ensures.some in
    let cred = c.in-Some-cred_in.ensures.some ∙ joined c.args.words.now _ _ c.head_of.ensures (groups s.0) ∙ s.1 in
    absurd (other_text _ _ c.if-eq.ensures (c.to_words.ensures ∙ ap words_of cred ∙ sym same))
