use Rattle.std.proofs.Common.{◌≡◌, Some, length, decimal, ◌==◌, sym, ◌∙◌, rules, tests}
use Rattle.std.proofs.lemmas.Iterator.{YieldsList-from_slice}
use Rattle.std.proofs.lemmas.Iterator.Search.{position_from_yields_List}
use Rattle.cred_audit.proofs.Numbers.{number_end, number_read}
use Rattle.cred_audit.proofs.lane.number_at.Goals as goal

pub returns-in_err-end : goal.returns-in_err-end
returns-in_err-end c =
    let at =
    position_from_yields_List (λ b. b == 32) _ _ c.position.result c.position.ensures.ran (YieldsList-from_slice _ c.iter.ensures.rest)
    (λ x b q k. search (rules, tests)) in
    λ number rest some few is.
    let end = number_end c.args.bytes.now number rest c.position.result few is at in
    let none = c.in_err-end.was in
    cc

pub returns : goal.returns
returns c =
    let at =
    position_from_yields_List (λ b. b == 32) _ _ c.position.result c.position.ensures.ran (YieldsList-from_slice _ c.iter.ensures.rest)
    (λ x b q k. search (rules, tests)) in
    λ number rest some few is.
    let end = number_end c.args.bytes.now number rest c.position.result few is at in
    let found = c.in_ok-end.was in
    let both : Some c.in_ok-end.end ≡ Some (length (decimal number)) = sym found ∙ end in
    let same : c.in_ok-end.end ≡ length (decimal number) = cc in
    c.of.ensures ∙ number_read c.args.bytes.now number rest c.in_ok-end.end some few is (sym same)
