use Rattle.std.proofs.Common.{Some, sym, ap, ◌∙◌}
use Rattle.cred_record.specs.Words.{are_words, credential_in}
use Rattle.cred_record.proofs.WordLemmas.{words-again, words-test}
use Rattle.cred_hold.proofs.tokens.put_head.Goals as goal

pub invariant_of-writer : goal.invariant_of-writer
invariant_of-writer c =
    let i = c.writer.invariant in
    let t = c.scatter_head.ensures.1 in
    let test = ap (λ t. are_words t.words) t ∙ words-test _ c.is_credential.ensures.is in
    (i.0 ∙ sym (ap (λ t. t.slot) t), ap (λ t. t.writes) t ∙ i.1, test)

pub returns : goal.returns
returns c =
    let e = c.scatter_head.ensures in
    let v = c.writer.view_is in
    let again = words-again _ c.is_credential.ensures.is in
    λ k. record {
      id = (e.0 ∙ ap (λ w. w.id) v) k;
      label = (ap (λ t. t.label) e.1 ∙ ap (λ w. w.label) v) k;
      slot = (ap (λ t. t.slot) e.1 ∙ ap (λ w. w.slot) v) k;
      put = Some ((ap (λ t. credential_in t.words) e.1 ∙ again) k);
    }
