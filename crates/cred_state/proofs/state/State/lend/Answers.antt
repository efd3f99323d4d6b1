use Rattle.std.proofs.Common.{[], refl, sym}
use Rattle.std.proofs.lemmas.List.Elements.{Contains-push}
use Rattle.cred_event.specs.declared.event.Event.TheVariants.{Alter}
use Rattle.cred_state.proofs.Keeping.{home_is}
use Rattle.cred_state.proofs.LentForEvent.{no_hold, some_hold}
use Rattle.cred_state.proofs.Standing.{held-in_use}
use Rattle.cred_state.proofs.state.State.lend.Goals as goal

pub returns-in_err-own-in-Signal-clause-waits : goal.returns-in_err-own-in-Signal-clause-waits
returns-in_err-own-in-Signal-clause-waits c =
    rw (
      c.from_residual-in_err-own-in-Signal.ensures,
      c.in-Signal.is,
      no_hold c.args.self.now.state c.requires.sound c.in-Signal.hold
          (sym c.in_err-own-in-Signal.ensures),
    )
    refl

pub returns-in_err-other-in-Signal-clause-waits : goal.returns-in_err-other-in-Signal-clause-waits
returns-in_err-other-in-Signal-clause-waits c =
    let s = c.args.self.now.state in
    rw (
      c.from_residual-in_err-other-in-Signal.ensures,
      c.in-Signal.is,
      some_hold s c.in-Signal.hold _ (sym c.in_ok-own-in-Signal.ensures),
      no_hold s c.requires.sound c.in-Signal.target (sym c.in_err-other-in-Signal.ensures),
    )
    refl

pub lend_found-requires-clause-used : goal.lend_found-requires-clause-used
lend_found-requires-clause-used c = held-in_use c.args.self.now.state c.in-Signal.hold _ (sym c.in_ok-own-in-Signal.ensures)

pub lend_found-requires-in-Signal-clause-used : goal.lend_found-requires-in-Signal-clause-used
lend_found-requires-in-Signal-clause-used c =
    rw c.lend_found.ensures.lent (held-in_use c.args.self.now.state c.in-Signal.target _ (sym c.in_ok-other-in-Signal.ensures))

pub lend_kept-requires-clause-home : goal.lend_kept-requires-clause-home
lend_kept-requires-clause-home c =
    let home = rw c.in-Alter.is at c.requires.home in
    home_is (Alter c.in-Alter.label c.in-Alter.change) c.in-Alter.label c.args.self.now.words.out home (Contains-push [] c.in-Alter.label)
