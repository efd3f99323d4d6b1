use Rattle.std.proofs.Common.{◌++◌, sym, ap, subst, ◌∙◌}
use Rattle.cred_caps.specs.Caps.{IsCaps}
use Rattle.cred_captext.specs.Pieces.{comma_names, action_with, clause_with}
use Rattle.cred_captext.specs.Printed.{cap_numbers}
use Rattle.cred_captext.proofs.Pieces.{no-members, clause-behind}
use Rattle.cred_captext.proofs.printing.append_clause.Goals as goal

pub returns-then-bits-eq0 : goal.returns-then-bits-eq0
returns-then-bits-eq0 c =
    let none = no-members c.args.set (sym c.bits.ensures.value ∙ c.if-bits-eq0.true) in
    ap (λ ns. clause_with c.args.out.now.items ns c.args.effective c.args.letters.now) (sym none)

pub returns : goal.returns
returns c =
    let caps = subst IsCaps c.bits.ensures.value c.bits.ensures.caps in
    c.in_ok-append_action.ensures
    ∙ ap (λ x. x ++ action_with c.args.effective c.args.letters.now)
    (c.in_ok-append_names.ensures
    ∙ ap (λ x. x ++ comma_names (cap_numbers c.args.set)) c.in_ok-append_space.ensures)
    ∙ clause-behind c.args.out.now.items c.args.set c.args.effective c.args.letters.now caps
    (λ none. c.if-bits-eq0.false (c.bits.ensures.value ∙ none))
