use Rattle.std.proofs.Common.{true, sym, ap, ◌∙◌, arith}
use Rattle.cred_words.specs.Size.{word_place}
use Rattle.cred_words.specs.Words.{token_of, put_words}
use Rattle.cred_words.proofs.Steps.{Held}
use Rattle.cred_words.proofs.Seats.{puts_as, was_put, lent_ok}
use Rattle.cred_words.proofs.cells.store_word.Goals as goal

pub store-requires : goal.store-requires
store-requires c =
    let i = c.writer.invariant in
    let words = c.cells.invariant in
    let own = ap (λ m. m.id) c.writer.view_is ∙ c.requires.own ∙ sym c.cells.view_is in
    let at = c.place_of.ensures.value ∙ ap (λ s. word_place s c.args.i) (c.requires.slot ∙ sym (ap (λ m. m.token.slot) c.writer.view_is)) in
    (own, omega arith, puts_as _ _ _ _ c.args.i c.args.word _ i.0 c.requires.within i.1 at)

pub invariant_of-writer : goal.invariant_of-writer
invariant_of-writer c =
    let i = c.writer.invariant in
    let t = token_of c.writer.inside.seat.me.0 in
    let at = c.place_of.ensures.value ∙ ap (λ s. word_place s c.args.i) (c.requires.slot ∙ sym (ap (λ m. m.token.slot) c.writer.view_is)) in
    let e = c.store.ensures.2 in
    let w = was_put _ _ t _ c.args.i c.args.word (ap (λ (m : Held). m.0) i.0) c.requires.within at e.0 in
    lent_ok true _ (put_words t _) (λ k. (w k, (e.1 ∙ ap (λ (m : Held). m.1) i.0) k)) i.1 i.2
