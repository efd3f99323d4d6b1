use Rattle.std.proofs.Common.{◌≡◌, ◌∷◌, [], None, ap, subst, sym, ◌∙◌}
use Rattle.std.specs.Prelude.{Contains}
use Rattle.std.proofs.lemmas.List.Elements.{Contains-push}
use Rattle.std.proofs.lemmas.Result.{err_from_is_err_and}
use Rattle.cred_event.specs.declared.event.Event.TheVariants.{OpenFile}
use Rattle.cred_hold.specs.Tokens.{Held}
use Rattle.cred_work.specs.declared.pending.Pending.TheVariants.{Opening}
use Rattle.cred_tables.specs.Kept.{Standing}
use Rattle.cred_state.specs.TokensOut.{with_lent}
use Rattle.cred_state.proofs.Asking.{were_opened}
use Rattle.cred_state.proofs.Deciding.{back_one, lent_are, lent_sound}
use Rattle.cred_state.proofs.Returns.{holds_apart}
use Rattle.cred_state.proofs.Standing.{held-in_use}
use Rattle.cred_state.proofs.state.State.open.Goals as goal

pub lend_found-hold-requires-clause-used : goal.lend_found-hold-requires-clause-used
lend_found-hold-requires-clause-used c = held-in_use c.args.self.now.state c.args.label _ (sym c.in-Some.ensures)

pub take_hold_back-requires-clause-apart : goal.take_hold_back-requires-clause-apart
take_hold_back-requires-clause-apart c =
    let s = c.args.self.now in
    let hold = c.lend_found-hold.result in
    let lent = c.lend_found-hold.ensures in
    let were = were_opened s c.args.cells.now c.args.label _ hold (sym c.in-Some.ensures) lent.hold c.requires.sound c.requires.out lent.standing
    c.args.file c.args.want c.args.fd c.requires.home in
    let now = with_lent s (Opening hold c.args.file c.args.want c.args.fd None) in
    rw lent.lent (holds_apart now.state now.words.out (lent_sound were) (lent_are were))

pub returns-in_err-may-clause-err : goal.returns-in_err-may-clause-err
returns-in_err-may-clause-err c =
    let lent = c.lend_found-hold.ensures in
    let back = c.take_hold_back.ensures in
    let label = c.args.label in
    let hold = c.lend_found-hold.result in
    let its : hold.label ≡ label = ap (λ (h : Held). h.label) lent.hold in
    let same = back_one c.args.self.now c.lend_found-hold.new.self c.lend_found-hold.new.self c.take_hold_back.new.self hold
    (OpenFile label c.args.file c.args.want c.args.fd) c.requires.home
    (subst (λ n. Contains (label ∷ []) n) (sym its) (Contains-push [] label)) lent.lent
    back.state back.places back.id (rw c.may_open-may.ensures.same at back.taken) in
    let p = err_from_is_err_and c.from_residual.result c.from_residual.ensures.1 in
    rw p.1 same

pub returns-in_err-may-clause-words : goal.returns-in_err-may-clause-words
returns-in_err-may-clause-words c =
    let lent = c.lend_found-hold.ensures in
    let back = c.take_hold_back.ensures in
    let label = c.args.label in
    let hold = c.lend_found-hold.result in
    let its : hold.label ≡ label = ap (λ (h : Held). h.label) lent.hold in
    let same = back_one c.args.self.now c.lend_found-hold.new.self c.lend_found-hold.new.self c.take_hold_back.new.self hold
    (OpenFile label c.args.file c.args.want c.args.fd) c.requires.home
    (subst (λ n. Contains (label ∷ []) n) (sym its) (Contains-push [] label)) lent.lent
    back.state back.places back.id (rw c.may_open-may.ensures.same at back.taken) in
    ap (λ (x : Standing). x.words) same

pub returns-clause-err : goal.returns-clause-err
returns-clause-err c =
    let lent = c.lend_found-hold.ensures in
    let back = c.take_hold_back.ensures in
    let label = c.args.label in
    let hold = c.lend_found-hold.result in
    let its : hold.label ≡ label = ap (λ (h : Held). h.label) lent.hold in
    let same = back_one c.args.self.now c.lend_found-hold.new.self c.lend_found-hold.new.self c.take_hold_back.new.self hold
    (OpenFile label c.args.file c.args.want c.args.fd) c.requires.home
    (subst (λ n. Contains (label ∷ []) n) (sym its) (Contains-push [] label)) lent.lent
    back.state back.places back.id (rw c.may_open-may.ensures.same at back.taken) in
    rw same at c.open_as.ensures.err

pub returns-clause-words : goal.returns-clause-words
returns-clause-words c =
    let lent = c.lend_found-hold.ensures in
    let back = c.take_hold_back.ensures in
    let label = c.args.label in
    let hold = c.lend_found-hold.result in
    let its : hold.label ≡ label = ap (λ (h : Held). h.label) lent.hold in
    let same = back_one c.args.self.now c.lend_found-hold.new.self c.lend_found-hold.new.self c.take_hold_back.new.self hold
    (OpenFile label c.args.file c.args.want c.args.fd) c.requires.home
    (subst (λ n. Contains (label ∷ []) n) (sym its) (Contains-push [] label)) lent.lent
    back.state back.places back.id (rw c.may_open-may.ensures.same at back.taken) in
    c.open_as.ensures.words.0 ∙ ap (λ (x : Standing). x.words) same
