use Rattle.std.proofs.Common.{refl, ◌∙◌}
use Rattle.cred_commands.proofs.Writes.{call_begun, call_followed, ends_at, writes_first, writes_sound}
use Rattle.cred_commands.proofs.straight.id_call.Goals as goal

pub begin-requires-clause-sound : goal.begin-requires-clause-sound
begin-requires-clause-sound c =
    writes_sound c.args.script.now c.args.past c.args.state.now.state _ _ _ c.args.out.now _ c.requires.run
    (writes_first c.args.script.now c.args.past c.args.state.now.state _ c.args.out.now c.requires.here)

pub acts-init : goal.acts-init
acts-init c = record {
  line = refl;
  words = c.in_ok-wait.ensures.words;
  writes =
      call_begun c.args.script.now c.args.past c.args.task c.args.call.now c.args.state.now.state c.args.out.now c.requires.run c.requires.here c.in_ok-wait.wait
      c.begin.new.state.state c.begin.new.out c.in_ok-wait.ensures.made;
}

pub act-requires-clause-sound : goal.act-requires-clause-sound
act-requires-clause-sound c = writes_sound _ _ _ _ _ _ _ _ c.requires.run c.acts.invariant.writes

pub acts-smaller : goal.acts-smaller
acts-smaller c =
    (call_followed c.args.script.now c.args.past c.args.task c.args.call.now c.args.state.now.state c.args.out.now c.requires.run c.requires.here c.acts.wait
    c.in_ok-wait-2.wait c.acts.state.state c.act.new.state.state c.acts.out c.act.new.out c.acts.invariant.writes c.acts-test.true c.in_ok-wait-2.ensures.made).1

pub acts-preserved : goal.acts-preserved
acts-preserved c = record {
  line = refl;
  words = c.in_ok-wait-2.ensures.words ∙ c.acts.invariant.words;
  writes =
      (call_followed c.args.script.now c.args.past c.args.task c.args.call.now c.args.state.now.state c.args.out.now c.requires.run c.requires.here c.acts.wait
      c.in_ok-wait-2.wait c.acts.state.state c.act.new.state.state c.acts.out c.act.new.out c.acts.invariant.writes c.acts-test.true c.in_ok-wait-2.ensures.made).0;
}

pub returns-clause-runs : goal.returns-clause-runs
returns-clause-runs c = ends_at _ _ _ _ _ _ _ c.acts.wait _ _ c.acts.invariant.writes c.acts-test.false
