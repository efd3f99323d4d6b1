use Rattle.std.proofs.Common.{◌≡◌, refl, sym, ◌∙◌}
use Rattle.std.proofs.lemmas.Option.{same_Some}
use Rattle.cred_tables.specs.Kept.{cred_under}
use Rattle.cred_state.proofs.Seen.{seen_state}
use Rattle.cred_state.proofs.Reading.{found-sealed, found-place}
use Rattle.cred_state.proofs.state.State.lend_found.Goals as goal

pub lend-requires-clause-sealed : goal.lend-requires-clause-sealed
lend-requires-clause-sealed c =
    found-sealed c.self.invariant.0 c.args.found (rw (← c.self.view_is) at c.requires.found) (rw (← c.self.view_is) at c.requires.used)

pub returns-clause-hold : goal.returns-clause-hold
returns-clause-hold c =
    let t = c.self.inside in
    let s = seen_state t in
    let own = rw (← c.self.view_is) at c.requires.own in
    let place = found-place c.self.invariant.0 c.args.found (rw (← c.self.view_is) at c.requires.found) (rw (← c.self.view_is) at c.requires.used) in
    let cred : c.lend.result.cred ≡ cred_under s.creds c.args.found.number = same_Some _ _ (same_Some _ _ (sym c.lend.ensures.cred ∙ place)) in
    let hold = c.lend.ensures.hold in
    rw (← c.self.view_is) (λ k. record { id = (hold.0 ∙ own) k; label = hold.1 k; slot = hold.2 k; cred = cred k })

pub returns-clause-standing : goal.returns-clause-standing
returns-clause-standing c =
    rw (← c.self.view_is) (record { put = c.self.invariant.1; slots = c.self.inside.slots.sealed; creds = refl })
