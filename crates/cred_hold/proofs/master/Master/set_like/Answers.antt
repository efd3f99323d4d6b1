use Rattle.std.proofs.Common.{List, Option, None, set, sym, ap, ◌∙◌, subst}
use Rattle.std.specs.Prelude.{slice_get}
use Rattle.std.proofs.lemmas.List.{set-set}
use Rattle.cred_record.specs.Credential.{Credential}
use Rattle.cred_words.specs.Lists.{IsTaken}
use Rattle.cred_words.proofs.Lists.{get_set_else}
use Rattle.cred_hold.specs.Tokens.{Loan, Mastered, Written, loan}
use Rattle.cred_hold.proofs.Within.{taken_alone}
use Rattle.cred_hold.proofs.master.Master.set_like.Goals as goal

pub put_like-requires-clause-sealed : goal.put_like-requires-clause-sealed
put_like-requires-clause-sealed c =
    let s = c.requires.sealed in
    let there =
    ap (λ (xs : List (Option Credential)). slice_get xs c.args.from) c.lend_writer-writer.ensures.slots ∙ get_set_else c.args.self.now.slots c.args.from
    c.args.slot None c.requires.apart in
    (s.0, there ∙ s.1)

pub put_like-requires-clause-valid : goal.put_like-requires-clause-valid
put_like-requires-clause-valid c d at =
    let there =
    ap (λ (xs : List (Option Credential)). slice_get xs c.args.from) c.lend_writer-writer.ensures.slots ∙ get_set_else c.args.self.now.slots c.args.from
    c.args.slot None c.requires.apart in
    c.requires.valid d (sym there ∙ at)

pub take_back-requires : goal.take_back-requires
take_back-requires c =
    let lent = c.lend_writer-writer.ensures in
    let s = c.requires.sealed in
    let there =
    ap (λ (xs : List (Option Credential)). slice_get xs c.args.from) lent.slots ∙ get_set_else c.args.self.now.slots c.args.from c.args.slot None
    c.requires.apart in
    let putting = c.put_like.ensures.put s.0 (there ∙ s.1) in
    record {
      own = (
        ap (λ (m : Mastered). m.id) c.put_like.ensures.same ∙ lent.same ∙ c.requires.own,
        ap (λ (w : Written). w.id) putting ∙ lent.writer.0 ∙ c.requires.own,
      );
    }

pub returns-clause-made : goal.returns-clause-made
returns-clause-made c d at =
    let lent = c.lend_writer-writer.ensures in
    let there =
    ap (λ (xs : List (Option Credential)). slice_get xs c.args.from) lent.slots ∙ get_set_else c.args.self.now.slots c.args.from c.args.slot None
    c.requires.apart in
    let putting = c.put_like.ensures.put d (there ∙ at) in
    let same = c.put_like.ensures.same in
    let label = ap (λ (w : Written). w.label) putting ∙ lent.writer.1 in
    let slot = ap (λ (w : Written). w.slot) putting ∙ lent.writer.2 in
    let put = ap (λ (w : Written). w.put) putting in
    let back = c.take_back.ensures in
    let P : List Loan × Loan → Type 0 = λ x. IsTaken x.0 x.1 c.take_back.new.self.loans in
    let out = ap (λ (m : Mastered). m.loans) same ∙ lent.loans in
    let slots_are = ap (λ (m : Mastered). m.slots) same ∙ lent.slots in
    let taken = subst P (λ k. (out k, loan (label k) (slot k) None)) back.taken in
    let loans = taken_alone (loan 0 c.args.slot None) c.args.self.now.loans _ c.requires.alone taken in
    let slots = back.slots ∙ (λ k. set (slots_are k) (slot k) (put k)) ∙ set-set _ _ _ _ in
    λ k. record { id = (back.same ∙ ap (λ (m : Mastered). m.id) same ∙ lent.same) k; loans = loans k; slots = slots k }
