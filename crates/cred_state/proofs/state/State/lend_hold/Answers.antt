use Rattle.std.proofs.Common.{◌∷◌, [], is_some, sym, ap, ◌∙◌}
use Rattle.cred_hold.specs.Tokens.{Held}
use Rattle.cred_state.specs.TokensOut.{hold_loan}
use Rattle.cred_tables.proofs.TokensOfLabels.{hold_token_is}
use Rattle.cred_state.proofs.LentForEvent.{no_hold, some_hold}
use Rattle.cred_state.proofs.Standing.{held-in_use}
use Rattle.cred_state.proofs.state.State.lend_hold.Goals as goal

pub returns-in_err-found-clause-waits : goal.returns-in_err-found-clause-waits
returns-in_err-found-clause-waits c =
    ap is_some c.from_residual.ensures ∙ sym (ap is_some (no_hold c.args.self.now.state c.requires.sound c.args.label (sym c.in_err-found.ensures)))

pub lend_found-requires-clause-used : goal.lend_found-requires-clause-used
lend_found-requires-clause-used c = held-in_use c.args.self.now.state c.args.label _ (sym c.in_ok-found.ensures)

pub returns-clause-waits : goal.returns-clause-waits
returns-clause-waits c = sym (some_hold c.args.self.now.state c.args.label _ (sym c.in_ok-found.ensures))

pub returns-clause-tokens : goal.returns-clause-tokens
returns-clause-tokens c =
    ap (λ (h : Held). hold_loan h ∷ []) c.lend_found.ensures.hold
    ∙ sym (hold_token_is c.args.self.now.state c.args.label _ (sym c.in_ok-found.ensures))
