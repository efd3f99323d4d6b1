use Rattle.std.proofs.Common.{◌≡◌, ◌∙◌, true, false, rules}
use Rattle.cred_model.specs.Broadcasts.{is_open}
use Rattle.cred_plain.proofs.Stepped.{left_closed, left_open}
use Rattle.cred_plain.proofs.broadcasts.act.Goals as goal

pub returns-then-not-is_open : goal.returns-then-not-is_open
returns-then-not-is_open c =
    let closed : is_open c.step.new.self ≡ false = search rules in
    c.remove.ensures.items
    ∙ left_closed c.args.broadcasts.now.items c.args.task c.args.place c.index_mut-broadcast.result.now c.requires.broadcasts c.requires.least
    c.index_mut-broadcast.ensures.value c.step.new.self c.step.ensures closed

pub returns-else-not-is_open : goal.returns-else-not-is_open
returns-else-not-is_open c =
    let waits : is_open c.step.new.self ≡ true = search rules in
    left_open c.args.broadcasts.now.items c.args.task c.args.place c.index_mut-broadcast.result.now c.requires.broadcasts c.requires.least
    c.index_mut-broadcast.ensures.value c.step.new.self c.step.ensures waits
