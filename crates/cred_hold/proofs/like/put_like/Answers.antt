use Rattle.std.proofs.Common.{Some, sym, ap, ◌∙◌}
use Rattle.cred_record.specs.Words.{are_words, credential_in}
use Rattle.cred_record.proofs.WordLemmas.{words-are, words-again, words-test}
use Rattle.cred_words.specs.Words.{words_at}
use Rattle.cred_hold.proofs.like.put_like.Goals as goal

pub scatter_from-requires-clause-made : goal.scatter_from-requires-clause-made
scatter_from-requires-clause-made c =
    let ws = words_at c.args.master.now.ledger.slots c.args.from in
    c.are_parts.ensures (credential_in ws) (words-are ws c.requires.held).0 c.requires.valid

pub invariant_of-writer : goal.invariant_of-writer
invariant_of-writer c =
    let ws = words_at c.args.master.now.ledger.slots c.args.from in
    let made = c.are_parts.ensures (credential_in ws) (words-are ws c.requires.held).0 c.requires.valid in
    let i = c.writer.invariant in
    let t = c.scatter_from.ensures.words.1 in
    let test = ap (λ t. are_words t.words) t ∙ words-test _ made in
    (i.0 ∙ sym (ap (λ t. t.slot) t), ap (λ t. t.writes) t ∙ i.1, test)

pub returns-clause-put : goal.returns-clause-put
returns-clause-put c =
    let ws = words_at c.args.master.now.ledger.slots c.args.from in
    let made = c.are_parts.ensures (credential_in ws) (words-are ws c.requires.held).0 c.requires.valid in
    let e = c.scatter_from.ensures.words in
    let v = c.writer.view_is in
    let again = words-again _ made in
    λ k. record {
      id = (e.0 ∙ ap (λ w. w.id) v) k;
      label = (ap (λ t. t.label) e.1 ∙ ap (λ w. w.label) v) k;
      slot = (ap (λ t. t.slot) e.1 ∙ ap (λ w. w.slot) v) k;
      put = Some ((ap (λ t. credential_in t.words) e.1 ∙ again) k);
    }
