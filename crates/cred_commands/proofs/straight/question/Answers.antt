use Rattle.cred_commands.proofs.Writes.{ends_at, goes_at, ok_then, question_asked, question_released, question_took, writes_sound}
use Rattle.cred_commands.proofs.straight.question.Goals as goal

pub returns-then-not-branch-clause-runs : goal.returns-then-not-branch-clause-runs
returns-then-not-branch-clause-runs c =
    ends_at _ _ _ _ _ _ _ c.in_ok-take.field-0 _ _
    (question_took c.args.script.now c.args.past c.args.task c.hold_label-label.result c.args.query c.args.state.now.state c.args.out.now c.requires.run c.requires.here
    c.hold_label-label.ensures c.in_ok-take.field-0 c.take.new.state.state c.take.new.out c.in_ok-take.ensures.made) c.if-not-branch.true

pub ask-requires-clause-sound : goal.ask-requires-clause-sound
ask-requires-clause-sound c =
    writes_sound _ _ _ _ _ _ _ _ c.requires.run
    (question_took c.args.script.now c.args.past c.args.task c.hold_label-label.result c.args.query c.args.state.now.state c.args.out.now c.requires.run c.requires.here
    c.hold_label-label.ensures c.in_ok-take.field-0 c.take.new.state.state c.take.new.out c.in_ok-take.ensures.made)

pub returns-clause-runs : goal.returns-clause-runs
returns-clause-runs c =
    let taken =
    question_took c.args.script.now c.args.past c.args.task c.hold_label-label.result c.args.query c.args.state.now.state c.args.out.now c.requires.run c.requires.here
    c.hold_label-label.ensures c.in_ok-take.field-0 c.take.new.state.state c.take.new.out c.in_ok-take.ensures.made in
    let asked =
    question_asked c.args.script.now c.args.past c.args.task c.hold_label-label.result c.args.query c.args.state.now.state c.args.out.now c.requires.run c.requires.here
    c.hold_label-label.ensures _ _ _ _ (goes_at _ _ _ _ _ _ _ c.in_ok-take.field-0 _ _ taken c.if-not-branch.false) c.in_ok-ask.ensures.made in
    ok_then c.release.result c.release.ensures.made (λ makes.
    question_released c.args.script.now c.args.past c.args.task c.hold_label-label.result c.args.query c.args.state.now.state c.args.out.now c.requires.run
    c.requires.here c.hold_label-label.ensures _ _ _ _ asked makes)
