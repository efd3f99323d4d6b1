use Rattle.std.proofs.Common.{length, sym, ◌∙◌}
use Rattle.cred_model.proofs.Likes.{does_same}
use Rattle.cred_model.proofs.Places.{none_by_test}
use Rattle.cred_state.proofs.Seen.{seen_state}
use Rattle.cred_state.proofs.Inits.{few_by_test, init_busy, init_exists, init_many, many_by_test}
use Rattle.cred_state.proofs.state.State.init.Goals as goal

pub start_with-answer-requires-clause-idle : goal.start_with-answer-requires-clause-idle
start_with-answer-requires-clause-idle c = c.in_default.ensures

pub start_with-answer-requires-clause-new : goal.start_with-answer-requires-clause-new
start_with-answer-requires-clause-new c = rw (← c.self.view_is) (none_by_test _ c.alive.result c.alive.ensures c.if-alive.false)

pub start_with-answer-requires-clause-room : goal.start_with-answer-requires-clause-room
start_with-answer-requires-clause-room c =
    rw (← c.self.view_is) (few_by_test (length c.self.inside.tasks) c.full.result c.full.ensures.full c.if-full.false)

pub start_with-answer-requires-clause-flag : goal.start_with-answer-requires-clause-flag
start_with-answer-requires-clause-flag c = c.requires.sound.flags.own c.args.process

pub returns-clause-ok : goal.returns-clause-ok
returns-clause-ok c = c.start_with-answer.ensures.ok c.args.user c.args.group c.args.ns c.args.root c.in_ok-cred.ensures

pub returns-in-Some-clause-ok : goal.returns-in-Some-clause-ok
returns-in-Some-clause-ok c =
    does_same _ _ _
    (init_busy c.args.self.now.state c.args.number c.args.process c.args.user c.args.group c.args.ns c.args.root c.in-Some.broadcast c.in-Some.ensures)

pub returns-then-alive-clause-ok : goal.returns-then-alive-clause-ok
returns-then-alive-clause-ok c =
    let t = c.self.inside in
    let s = seen_state t in
    let idle = rw (← c.self.view_is) at c.in_default.ensures in
    rw (← c.self.view_is)
    (does_same _ _ _ (init_exists s c.args.number c.args.process c.args.user c.args.group c.args.ns c.args.root idle (sym c.alive.ensures ∙ c.if-alive.true)))

pub returns-then-full-clause-ok : goal.returns-then-full-clause-ok
returns-then-full-clause-ok c =
    let t = c.self.inside in
    let s = seen_state t in
    let idle = rw (← c.self.view_is) at c.in_default.ensures in
    let new = none_by_test _ c.alive.result c.alive.ensures c.if-alive.false in
    let many = many_by_test (length t.tasks) c.full.result c.full.ensures.full c.if-full.true in
    rw (← c.self.view_is) (does_same _ _ _ (init_many s c.args.number c.args.process c.args.user c.args.group c.args.ns c.args.root idle new many))
