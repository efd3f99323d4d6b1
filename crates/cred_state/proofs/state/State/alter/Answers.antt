use Rattle.std.proofs.Common.{◌≡◌, ◌∷◌, [], List, None, sym, ap, ◌∙◌, subst}
use Rattle.std.proofs.lemmas.List.Elements.{Contains-push}
use Rattle.cred_event.specs.declared.event.Event.TheVariants.{Alter}
use Rattle.cred_model.specs.Slots.{kept}
use Rattle.cred_model.proofs.Likes.{does_like}
use Rattle.cred_sound.specs.Sound.{IsSound}
use Rattle.cred_hold.specs.Tokens.{Loan, Held, Written, loan}
use Rattle.cred_tables.specs.Kept.{Standing}
use Rattle.cred_tables.specs.Out.{AreOut}
use Rattle.cred_state.specs.TokensOut.{AreTaken, hold_loan, with_kept}
use Rattle.cred_state.proofs.Asking.{were_altered}
use Rattle.cred_state.proofs.Deciding.{back_kept, chain_is, lent_are, lent_back, lent_like, lent_sound, put_label, put_slot}
use Rattle.cred_state.proofs.Keeping.{home_is}
use Rattle.cred_state.proofs.Returns.{apart_taken, holds_apart}
use Rattle.cred_state.proofs.state.State.alter.Goals as goal

pub lend_kept-requires-clause-home : goal.lend_kept-requires-clause-home
lend_kept-requires-clause-home c =
    rw c.change_ns-ns.ensures.same
    (home_is (Alter c.args.label c.args.change) c.args.label c.args.self.now.words.out c.requires.home (Contains-push [] c.args.label))

pub enter_alter-requires-clause-sound : goal.enter_alter-requires-clause-sound
enter_alter-requires-clause-sound c =
    let s = c.args.self.now in
    let its = rw c.change_ns-ns.ensures.same at c.in-Some.ensures in
    let were =
    were_altered s c.args.cells.now c.args.label c.args.change c.in-Some.base c.in-Some.writer its.kept c.requires.sound c.requires.out c.requires.home
    its.standing in
    rw its.lent (lent_sound were)

pub enter_alter-requires-clause-out : goal.enter_alter-requires-clause-out
enter_alter-requires-clause-out c =
    let s = c.args.self.now in
    let its = rw c.change_ns-ns.ensures.same at c.in-Some.ensures in
    let were =
    were_altered s c.args.cells.now c.args.label c.args.change c.in-Some.base c.in-Some.writer its.kept c.requires.sound c.requires.out c.requires.home
    its.standing in
    rw its.lent (lent_are were)

pub put_earlier-requires-clause-sound : goal.put_earlier-requires-clause-sound
put_earlier-requires-clause-sound c =
    let s = c.args.self.now in
    let its = rw c.change_ns-ns.ensures.same at c.in-Some.ensures in
    let were =
    were_altered s c.args.cells.now c.args.label c.args.change c.in-Some.base c.in-Some.writer its.kept c.requires.sound c.requires.out c.requires.home
    its.standing in
    rw its.lent (lent_sound were)

pub put_earlier-requires-clause-out : goal.put_earlier-requires-clause-out
put_earlier-requires-clause-out c =
    let s = c.args.self.now in
    let its = rw c.change_ns-ns.ensures.same at c.in-Some.ensures in
    let were =
    were_altered s c.args.cells.now c.args.label c.args.change c.in-Some.base c.in-Some.writer its.kept c.requires.sound c.requires.out c.requires.home
    its.standing in
    rw its.lent (lent_are were)

pub take_hold_back-requires-clause-apart : goal.take_hold_back-requires-clause-apart
take_hold_back-requires-clause-apart c =
    let s = c.args.self.now in
    let its = rw c.change_ns-ns.ensures.same at c.in-Some.ensures in
    let were =
    were_altered s c.args.cells.now c.args.label c.args.change c.in-Some.base c.in-Some.writer its.kept c.requires.sound c.requires.out c.requires.home
    its.standing in
    let mid = c.lend_kept.new.self in
    let sound : IsSound mid.state = rw its.lent (lent_sound were) in
    let out : AreOut mid.state mid.words.out = rw its.lent (lent_are were) in
    rw c.put_earlier.ensures.state
    (apart_taken (kept mid.state) mid.words.out _ c.put_earlier.new.self.words.out (holds_apart mid.state mid.words.out sound out) c.put_earlier.ensures.taken)

pub returns-in-Ok-clause-ok : goal.returns-in-Ok-clause-ok
returns-in-Ok-clause-ok c =
    let s = c.args.self.now in
    let script = c.args.script.now in
    let label = c.args.label in
    let change = c.args.change in
    let base = c.in-Some.base in
    let its = rw c.change_ns-ns.ensures.same at c.in-Some.ensures in
    let were = were_altered s c.args.cells.now label change base c.in-Some.writer its.kept c.requires.sound c.requires.out c.requires.home its.standing in
    let named : base.label ≡ label = ap (λ (h : Held). h.label) its.kept.base_is in
    let chain = chain_is c.args.cells.now script s.state label change base c.in-Some.writer c.change_ns-ns.result its.kept c.change_ns-ns.ensures.ns in
    let made = rw (c.executed_file-file.ensures, c.inodes.ensures, c.chain_of-chain.ensures) at c.in-Ok.ensures.made in
    let ok = rw c.in-Ok.ensures.base at c.enter_alter.ensures.made in
    let ok = rw (its.lent, named) at (ok script _ (chain, made)) in
    does_like script (with_kept s base c.in-Some.writer).state s.state 0 (Alter label change) c.enter_alter.result c.enter_alter.new.self.state (lent_like were)
    ok

pub returns-in-Ok-clause-words : goal.returns-in-Ok-clause-words
returns-in-Ok-clause-words c =
    let s = c.args.self.now in
    let base = c.in-Some.base in
    let writer = c.in-Some.writer in
    let its = rw c.change_ns-ns.ensures.same at c.in-Some.ensures in
    let were = were_altered s c.args.cells.now c.args.label c.args.change base writer its.kept c.requires.sound c.requires.out c.requires.home its.standing in
    let new = c.enter_alter.new.self.words in
    let made = c.in-Ok.made in
    let put = c.in-Ok.ensures.put in
    let label = ap (λ (w : Written). w.label) put ∙ put_label made writer in
    let slot = ap (λ (w : Written). w.slot) put ∙ put_slot made writer in
    let loans : loan c.alter.new.writer.label c.alter.new.writer.slot None ∷ hold_loan c.alter.new.base ∷ []
    ≡ loan writer.label writer.slot None ∷ hold_loan base ∷ []
    = λ k. loan (label k) (slot k) None ∷ hold_loan (c.in-Ok.ensures.base k) ∷ [] in
    let taken = subst (λ (x : Standing). AreTaken (loan writer.label writer.slot None ∷ hold_loan base ∷ []) x.words.out new.out) its.lent
    (subst (λ (es : List Loan). AreTaken es c.lend_kept.new.self.words.out new.out) loans c.enter_alter.ensures.taken) in
    let out = lent_back were new.out taken in
    let id = c.enter_alter.ensures.id ∙ ap (λ (x : Standing). x.words.id) its.lent in
    λ k. record { id = id k; out = out k }

pub returns-in-Err-clause-err : goal.returns-in-Err-clause-err
returns-in-Err-clause-err c =
    let s = c.args.self.now in
    let base = c.in-Some.base in
    let writer = c.in-Some.writer in
    let its = rw c.change_ns-ns.ensures.same at c.in-Some.ensures in
    let were = were_altered s c.args.cells.now c.args.label c.args.change base writer its.kept c.requires.sound c.requires.out c.requires.home its.standing in
    let named : base.label ≡ c.args.label = ap (λ (h : Held). h.label) its.kept.base_is in
    let for : writer.label ≡ base.label = ap (λ (w : Written). w.label) its.kept.writer_is ∙ sym named in
    let out : AreOut c.lend_kept.new.self.state c.lend_kept.new.self.words.out = rw its.lent (lent_are were) in
    let first = rw (c.in-Err.ensures.same, ← named) at c.put_earlier.ensures in
    let second = rw c.in-Err.ensures.base at c.take_hold_back.ensures in
    back_kept s c.lend_kept.new.self c.put_earlier.new.self c.take_hold_back.new.self base writer c.args.change None for were its.lent out
    first.state first.places first.id first.taken second.state second.places second.id second.taken

pub returns-in-Err-clause-words : goal.returns-in-Err-clause-words
returns-in-Err-clause-words c =
    ap (λ (x : Standing). x.words) (returns-in-Err-clause-err c)
