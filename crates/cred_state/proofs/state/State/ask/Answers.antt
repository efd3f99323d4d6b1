use Rattle.std.proofs.Common.{◌≡◌, ◌∷◌, [], None, ap, subst, sym}
use Rattle.std.specs.Prelude.{Contains}
use Rattle.std.proofs.lemmas.List.Elements.{Contains-push}
use Rattle.cred_event.specs.declared.event.Event.TheVariants.{Ask}
use Rattle.cred_hold.specs.Tokens.{Held}
use Rattle.cred_work.specs.declared.pending.Pending.TheVariants.{Asking}
use Rattle.cred_state.specs.TokensOut.{with_lent}
use Rattle.cred_state.proofs.Asking.{were_asked}
use Rattle.cred_state.proofs.Deciding.{back_one, lent_are, lent_sound}
use Rattle.cred_state.proofs.Returns.{holds_apart}
use Rattle.cred_state.proofs.Standing.{held-in_use}
use Rattle.cred_state.proofs.state.State.ask.Goals as goal

pub lend_found-hold-requires-clause-used : goal.lend_found-hold-requires-clause-used
lend_found-hold-requires-clause-used c = held-in_use c.args.self.now.state c.args.label _ (sym c.in-Some.ensures)

pub take_hold_back-requires-clause-apart : goal.take_hold_back-requires-clause-apart
take_hold_back-requires-clause-apart c =
    let s = c.args.self.now in
    let hold = c.lend_found-hold.result in
    let lent = c.lend_found-hold.ensures in
    let were = were_asked s c.args.cells.now c.args.label _ hold (sym c.in-Some.ensures) lent.hold c.requires.sound c.requires.out lent.standing
    c.args.query c.requires.home in
    let now = with_lent s (Asking hold c.args.query None) in
    rw lent.lent (holds_apart now.state now.words.out (lent_sound were) (lent_are were))

pub returns-clause-same : goal.returns-clause-same
returns-clause-same c =
    let lent = c.lend_found-hold.ensures in
    let back = c.take_hold_back.ensures in
    let label = c.args.label in
    let hold = c.lend_found-hold.result in
    let its : hold.label ≡ label = ap (λ (h : Held). h.label) lent.hold in
    back_one c.args.self.now c.lend_found-hold.new.self c.lend_found-hold.new.self c.take_hold_back.new.self hold (Ask label c.args.query) c.requires.home
    (subst (λ n. Contains (label ∷ []) n) (sym its) (Contains-push [] label)) lent.lent
    back.state back.places back.id (rw c.decide-told.ensures.same at back.taken)
