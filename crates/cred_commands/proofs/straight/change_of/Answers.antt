use Rattle.std.proofs.Common.{◌+◌, ◌≡◌, false, refl, subst, true, ◌∙◌, arith}
use Rattle.cred_commands.proofs.Writes.{Changing, at_commit, change_aborted, change_altered, change_committed, change_prepared, change_released, change_retried}
use Rattle.cred_commands.proofs.Writes.{change_took, either_at, ends_at, goes_at, no_try, ok_then, writes_first, writes_out, writes_sound}
use Rattle.cred_commands.proofs.straight.change_of.Goals as goal

pub tries-init : goal.tries-init
tries-init c =
    record {
      line = refl;
      hold = c.hold_label-hold.ensures;
      label = c.new_label-label.ensures;
      few = omega arith;
      words = refl;
      writes = writes_first c.args.script.now c.args.past c.args.state.now.state _ c.args.out.now c.requires.here;
    }

pub returns-then-not-branch-clause-runs : goal.returns-then-not-branch-clause-runs
returns-then-not-branch-clause-runs c =
    let taken =
    change_took c.args.script.now c.args.past c.args.task c.hold_label-hold.result c.new_label-label.result c.args.change.now c.args.state.now.state
    c.args.out.now c.requires.run c.hold_label-hold.ensures c.new_label-label.ensures c.tries.tries c.in_ok-take.field-0
    c.tries.state.state c.take.new.state.state c.tries.out c.take.new.out c.tries-test.true c.tries.invariant.writes c.in_ok-take.ensures.made in
    ends_at _ _ _ _ _ _ _ c.in_ok-take.field-0 _ _ taken c.if-not-branch.true

pub returns-then-not-branch-2-clause-runs : goal.returns-then-not-branch-2-clause-runs
returns-then-not-branch-2-clause-runs c =
    let taken =
    change_took c.args.script.now c.args.past c.args.task c.hold_label-hold.result c.new_label-label.result c.args.change.now c.args.state.now.state
    c.args.out.now c.requires.run c.hold_label-hold.ensures c.new_label-label.ensures c.tries.tries c.in_ok-take.field-0
    c.tries.state.state c.take.new.state.state c.tries.out c.take.new.out c.tries-test.true c.tries.invariant.writes c.in_ok-take.ensures.made in
    let prepared =
    change_prepared c.args.script.now c.args.past c.args.task c.hold_label-hold.result c.new_label-label.result c.args.change.now c.args.state.now.state
    c.args.out.now c.requires.run c.hold_label-hold.ensures c.new_label-label.ensures c.tries.tries c.in_ok-prepare.field-0
    c.take.new.state.state c.prepare.new.state.state c.take.new.out c.prepare.new.out
    (goes_at _ _ _ _ _ _ _ c.in_ok-take.field-0 _ _ taken c.if-not-branch.false) c.in_ok-prepare.ensures.made in
    ok_then c.release.result c.release.ensures.made (λ makes.
    change_released c.args.script.now c.args.past c.args.task c.hold_label-hold.result c.new_label-label.result c.args.change.now c.args.state.now.state
    c.args.out.now c.requires.run c.hold_label-hold.ensures c.new_label-label.ensures c.tries.tries c.prepare.new.state.state c.release.new.state.state c.prepare.new.out c.release.new.out
    (either_at _ _ _ _ _ _ _ _ c.in_ok-prepare.field-0 false _ _ prepared c.if-not-branch-2.true) makes)

pub alter-requires-clause-sound : goal.alter-requires-clause-sound
alter-requires-clause-sound c =
    let taken =
    change_took c.args.script.now c.args.past c.args.task c.hold_label-hold.result c.new_label-label.result c.args.change.now c.args.state.now.state
    c.args.out.now c.requires.run c.hold_label-hold.ensures c.new_label-label.ensures c.tries.tries c.in_ok-take.field-0
    c.tries.state.state c.take.new.state.state c.tries.out c.take.new.out c.tries-test.true c.tries.invariant.writes c.in_ok-take.ensures.made in
    let prepared =
    change_prepared c.args.script.now c.args.past c.args.task c.hold_label-hold.result c.new_label-label.result c.args.change.now c.args.state.now.state
    c.args.out.now c.requires.run c.hold_label-hold.ensures c.new_label-label.ensures c.tries.tries c.in_ok-prepare.field-0
    c.take.new.state.state c.prepare.new.state.state c.take.new.out c.prepare.new.out
    (goes_at _ _ _ _ _ _ _ c.in_ok-take.field-0 _ _ taken c.if-not-branch.false) c.in_ok-prepare.ensures.made in
    writes_sound _ _ _ _ _ _ _ _ c.requires.run prepared

pub abort-requires : goal.abort-requires
abort-requires c =
    let taken =
    change_took c.args.script.now c.args.past c.args.task c.hold_label-hold.result c.new_label-label.result c.args.change.now c.args.state.now.state
    c.args.out.now c.requires.run c.hold_label-hold.ensures c.new_label-label.ensures c.tries.tries c.in_ok-take.field-0
    c.tries.state.state c.take.new.state.state c.tries.out c.take.new.out c.tries-test.true c.tries.invariant.writes c.in_ok-take.ensures.made in
    let prepared =
    change_prepared c.args.script.now c.args.past c.args.task c.hold_label-hold.result c.new_label-label.result c.args.change.now c.args.state.now.state
    c.args.out.now c.requires.run c.hold_label-hold.ensures c.new_label-label.ensures c.tries.tries c.in_ok-prepare.field-0
    c.take.new.state.state c.prepare.new.state.state c.take.new.out c.prepare.new.out
    (goes_at _ _ _ _ _ _ _ c.in_ok-take.field-0 _ _ taken c.if-not-branch.false) c.in_ok-prepare.ensures.made in
    let altered =
    change_altered c.args.script.now c.args.past c.args.task c.hold_label-hold.result c.new_label-label.result c.args.change.now c.args.state.now.state
    c.args.out.now c.requires.run c.hold_label-hold.ensures c.new_label-label.ensures c.tries.tries c.in_ok-alter.field-0
    c.prepare.new.state.state c.alter.new.state.state c.prepare.new.out c.alter.new.out
    (either_at _ _ _ _ _ _ _ _ c.in_ok-prepare.field-0 true _ _ prepared c.if-not-branch-2.false) c.in_ok-alter.ensures.made in
    writes_sound _ _ _ _ _ _ _ _ c.requires.run altered

pub returns-then-not-branch-3-clause-runs : goal.returns-then-not-branch-3-clause-runs
returns-then-not-branch-3-clause-runs c =
    let taken =
    change_took c.args.script.now c.args.past c.args.task c.hold_label-hold.result c.new_label-label.result c.args.change.now c.args.state.now.state
    c.args.out.now c.requires.run c.hold_label-hold.ensures c.new_label-label.ensures c.tries.tries c.in_ok-take.field-0
    c.tries.state.state c.take.new.state.state c.tries.out c.take.new.out c.tries-test.true c.tries.invariant.writes c.in_ok-take.ensures.made in
    let prepared =
    change_prepared c.args.script.now c.args.past c.args.task c.hold_label-hold.result c.new_label-label.result c.args.change.now c.args.state.now.state
    c.args.out.now c.requires.run c.hold_label-hold.ensures c.new_label-label.ensures c.tries.tries c.in_ok-prepare.field-0
    c.take.new.state.state c.prepare.new.state.state c.take.new.out c.prepare.new.out
    (goes_at _ _ _ _ _ _ _ c.in_ok-take.field-0 _ _ taken c.if-not-branch.false) c.in_ok-prepare.ensures.made in
    let altered =
    change_altered c.args.script.now c.args.past c.args.task c.hold_label-hold.result c.new_label-label.result c.args.change.now c.args.state.now.state
    c.args.out.now c.requires.run c.hold_label-hold.ensures c.new_label-label.ensures c.tries.tries c.in_ok-alter.field-0
    c.prepare.new.state.state c.alter.new.state.state c.prepare.new.out c.alter.new.out
    (either_at _ _ _ _ _ _ _ _ c.in_ok-prepare.field-0 true _ _ prepared c.if-not-branch-2.false) c.in_ok-alter.ensures.made in
    let aborted =
    change_aborted c.args.script.now c.args.past c.args.task c.hold_label-hold.result c.new_label-label.result c.args.change.now c.args.state.now.state
    c.args.out.now c.requires.run c.hold_label-hold.ensures c.new_label-label.ensures c.tries.tries c.alter.new.state.state
    c.abort.new.state.state c.alter.new.out c.abort.new.out (either_at _ _ _ _ _ _ _ _ c.in_ok-alter.field-0 false _ _ altered c.if-not-branch-3.true)
    c.in_ok-abort.ensures.made in
    ok_then c.release-then-not-branch-3.result c.release-then-not-branch-3.ensures.made (λ makes.
    change_released c.args.script.now c.args.past c.args.task c.hold_label-hold.result c.new_label-label.result c.args.change.now c.args.state.now.state
    c.args.out.now c.requires.run c.hold_label-hold.ensures c.new_label-label.ensures c.tries.tries c.abort.new.state.state c.release-then-not-branch-3.new.state.state c.abort.new.out c.release-then-not-branch-3.new.out
    aborted makes)

pub commit-requires-clause-sound : goal.commit-requires-clause-sound
commit-requires-clause-sound c =
    let taken =
    change_took c.args.script.now c.args.past c.args.task c.hold_label-hold.result c.new_label-label.result c.args.change.now c.args.state.now.state
    c.args.out.now c.requires.run c.hold_label-hold.ensures c.new_label-label.ensures c.tries.tries c.in_ok-take.field-0
    c.tries.state.state c.take.new.state.state c.tries.out c.take.new.out c.tries-test.true c.tries.invariant.writes c.in_ok-take.ensures.made in
    let prepared =
    change_prepared c.args.script.now c.args.past c.args.task c.hold_label-hold.result c.new_label-label.result c.args.change.now c.args.state.now.state
    c.args.out.now c.requires.run c.hold_label-hold.ensures c.new_label-label.ensures c.tries.tries c.in_ok-prepare.field-0
    c.take.new.state.state c.prepare.new.state.state c.take.new.out c.prepare.new.out
    (goes_at _ _ _ _ _ _ _ c.in_ok-take.field-0 _ _ taken c.if-not-branch.false) c.in_ok-prepare.ensures.made in
    let altered =
    change_altered c.args.script.now c.args.past c.args.task c.hold_label-hold.result c.new_label-label.result c.args.change.now c.args.state.now.state
    c.args.out.now c.requires.run c.hold_label-hold.ensures c.new_label-label.ensures c.tries.tries c.in_ok-alter.field-0
    c.prepare.new.state.state c.alter.new.state.state c.prepare.new.out c.alter.new.out
    (either_at _ _ _ _ _ _ _ _ c.in_ok-prepare.field-0 true _ _ prepared c.if-not-branch-2.false) c.in_ok-alter.ensures.made in
    writes_sound _ _ _ _ _ _ _ _ c.requires.run altered

pub returns-in-Done-clause-runs : goal.returns-in-Done-clause-runs
returns-in-Done-clause-runs c =
    let taken =
    change_took c.args.script.now c.args.past c.args.task c.hold_label-hold.result c.new_label-label.result c.args.change.now c.args.state.now.state
    c.args.out.now c.requires.run c.hold_label-hold.ensures c.new_label-label.ensures c.tries.tries c.in_ok-take.field-0
    c.tries.state.state c.take.new.state.state c.tries.out c.take.new.out c.tries-test.true c.tries.invariant.writes c.in_ok-take.ensures.made in
    let prepared =
    change_prepared c.args.script.now c.args.past c.args.task c.hold_label-hold.result c.new_label-label.result c.args.change.now c.args.state.now.state
    c.args.out.now c.requires.run c.hold_label-hold.ensures c.new_label-label.ensures c.tries.tries c.in_ok-prepare.field-0
    c.take.new.state.state c.prepare.new.state.state c.take.new.out c.prepare.new.out
    (goes_at _ _ _ _ _ _ _ c.in_ok-take.field-0 _ _ taken c.if-not-branch.false) c.in_ok-prepare.ensures.made in
    let altered =
    change_altered c.args.script.now c.args.past c.args.task c.hold_label-hold.result c.new_label-label.result c.args.change.now c.args.state.now.state
    c.args.out.now c.requires.run c.hold_label-hold.ensures c.new_label-label.ensures c.tries.tries c.in_ok-alter.field-0
    c.prepare.new.state.state c.alter.new.state.state c.prepare.new.out c.alter.new.out
    (either_at _ _ _ _ _ _ _ _ c.in_ok-prepare.field-0 true _ _ prepared c.if-not-branch-2.false) c.in_ok-alter.ensures.made in
    let committed =
    change_committed c.args.script.now c.args.past c.args.task c.hold_label-hold.result c.new_label-label.result c.args.change.now c.args.state.now.state
    c.args.out.now c.requires.run c.hold_label-hold.ensures c.new_label-label.ensures c.tries.tries c.in_ok-commit.field-0
    c.alter.new.state.state c.commit.new.state.state c.alter.new.out c.commit.new.out
    (either_at _ _ _ _ _ _ _ _ c.in_ok-alter.field-0 true _ _ altered c.if-not-branch-3.false) c.in_ok-commit.ensures.made in
    ok_then c.release-in-Done.result c.release-in-Done.ensures.made (λ makes.
    change_released c.args.script.now c.args.past c.args.task c.hold_label-hold.result c.new_label-label.result c.args.change.now c.args.state.now.state
    c.args.out.now c.requires.run c.hold_label-hold.ensures c.new_label-label.ensures c.tries.tries c.commit.new.state.state c.release-in-Done.new.state.state c.commit.new.out c.release-in-Done.new.out
    (subst (λ came. Changing c.args.script.now c.args.past c.args.task c.hold_label-hold.result c.new_label-label.result c.args.change.now c.args.state.now.state
    c.args.out.now c.requires.run c.hold_label-hold.ensures c.new_label-label.ensures c.commit.new.state.state (at_commit (c.args.past + 1) c.tries.tries came) c.commit.new.out) c.in-Done.is committed) makes)

pub abort-requires-in-Refused : goal.abort-requires-in-Refused
abort-requires-in-Refused c =
    let taken =
    change_took c.args.script.now c.args.past c.args.task c.hold_label-hold.result c.new_label-label.result c.args.change.now c.args.state.now.state
    c.args.out.now c.requires.run c.hold_label-hold.ensures c.new_label-label.ensures c.tries.tries c.in_ok-take.field-0
    c.tries.state.state c.take.new.state.state c.tries.out c.take.new.out c.tries-test.true c.tries.invariant.writes c.in_ok-take.ensures.made in
    let prepared =
    change_prepared c.args.script.now c.args.past c.args.task c.hold_label-hold.result c.new_label-label.result c.args.change.now c.args.state.now.state
    c.args.out.now c.requires.run c.hold_label-hold.ensures c.new_label-label.ensures c.tries.tries c.in_ok-prepare.field-0
    c.take.new.state.state c.prepare.new.state.state c.take.new.out c.prepare.new.out
    (goes_at _ _ _ _ _ _ _ c.in_ok-take.field-0 _ _ taken c.if-not-branch.false) c.in_ok-prepare.ensures.made in
    let altered =
    change_altered c.args.script.now c.args.past c.args.task c.hold_label-hold.result c.new_label-label.result c.args.change.now c.args.state.now.state
    c.args.out.now c.requires.run c.hold_label-hold.ensures c.new_label-label.ensures c.tries.tries c.in_ok-alter.field-0
    c.prepare.new.state.state c.alter.new.state.state c.prepare.new.out c.alter.new.out
    (either_at _ _ _ _ _ _ _ _ c.in_ok-prepare.field-0 true _ _ prepared c.if-not-branch-2.false) c.in_ok-alter.ensures.made in
    let committed =
    change_committed c.args.script.now c.args.past c.args.task c.hold_label-hold.result c.new_label-label.result c.args.change.now c.args.state.now.state
    c.args.out.now c.requires.run c.hold_label-hold.ensures c.new_label-label.ensures c.tries.tries c.in_ok-commit.field-0
    c.alter.new.state.state c.commit.new.state.state c.alter.new.out c.commit.new.out
    (either_at _ _ _ _ _ _ _ _ c.in_ok-alter.field-0 true _ _ altered c.if-not-branch-3.false) c.in_ok-commit.ensures.made in
    writes_sound _ _ _ _ _ _ _ _ c.requires.run committed

pub returns-in-Refused-clause-runs : goal.returns-in-Refused-clause-runs
returns-in-Refused-clause-runs c =
    let taken =
    change_took c.args.script.now c.args.past c.args.task c.hold_label-hold.result c.new_label-label.result c.args.change.now c.args.state.now.state
    c.args.out.now c.requires.run c.hold_label-hold.ensures c.new_label-label.ensures c.tries.tries c.in_ok-take.field-0
    c.tries.state.state c.take.new.state.state c.tries.out c.take.new.out c.tries-test.true c.tries.invariant.writes c.in_ok-take.ensures.made in
    let prepared =
    change_prepared c.args.script.now c.args.past c.args.task c.hold_label-hold.result c.new_label-label.result c.args.change.now c.args.state.now.state
    c.args.out.now c.requires.run c.hold_label-hold.ensures c.new_label-label.ensures c.tries.tries c.in_ok-prepare.field-0
    c.take.new.state.state c.prepare.new.state.state c.take.new.out c.prepare.new.out
    (goes_at _ _ _ _ _ _ _ c.in_ok-take.field-0 _ _ taken c.if-not-branch.false) c.in_ok-prepare.ensures.made in
    let altered =
    change_altered c.args.script.now c.args.past c.args.task c.hold_label-hold.result c.new_label-label.result c.args.change.now c.args.state.now.state
    c.args.out.now c.requires.run c.hold_label-hold.ensures c.new_label-label.ensures c.tries.tries c.in_ok-alter.field-0
    c.prepare.new.state.state c.alter.new.state.state c.prepare.new.out c.alter.new.out
    (either_at _ _ _ _ _ _ _ _ c.in_ok-prepare.field-0 true _ _ prepared c.if-not-branch-2.false) c.in_ok-alter.ensures.made in
    let committed =
    change_committed c.args.script.now c.args.past c.args.task c.hold_label-hold.result c.new_label-label.result c.args.change.now c.args.state.now.state
    c.args.out.now c.requires.run c.hold_label-hold.ensures c.new_label-label.ensures c.tries.tries c.in_ok-commit.field-0
    c.alter.new.state.state c.commit.new.state.state c.alter.new.out c.commit.new.out
    (either_at _ _ _ _ _ _ _ _ c.in_ok-alter.field-0 true _ _ altered c.if-not-branch-3.false) c.in_ok-commit.ensures.made in
    let aborted =
    change_aborted c.args.script.now c.args.past c.args.task c.hold_label-hold.result c.new_label-label.result c.args.change.now c.args.state.now.state
    c.args.out.now c.requires.run c.hold_label-hold.ensures c.new_label-label.ensures c.tries.tries c.commit.new.state.state
    c.abort-in-Refused.new.state.state c.commit.new.out c.abort-in-Refused.new.out (subst (λ came. Changing c.args.script.now c.args.past c.args.task c.hold_label-hold.result c.new_label-label.result c.args.change.now c.args.state.now.state
    c.args.out.now c.requires.run c.hold_label-hold.ensures c.new_label-label.ensures c.commit.new.state.state (at_commit (c.args.past + 1) c.tries.tries came) c.commit.new.out) c.in-Refused.is committed)
    c.in_ok-abort-in-Refused.ensures.made in
    ok_then c.release-in-Refused.result c.release-in-Refused.ensures.made (λ makes.
    change_released c.args.script.now c.args.past c.args.task c.hold_label-hold.result c.new_label-label.result c.args.change.now c.args.state.now.state
    c.args.out.now c.requires.run c.hold_label-hold.ensures c.new_label-label.ensures c.tries.tries c.abort-in-Refused.new.state.state c.release-in-Refused.new.state.state c.abort-in-Refused.new.out c.release-in-Refused.new.out
    aborted makes)

pub tries-preserved : goal.tries-preserved
tries-preserved c =
    let taken =
    change_took c.args.script.now c.args.past c.args.task c.hold_label-hold.result c.new_label-label.result c.args.change.now c.args.state.now.state
    c.args.out.now c.requires.run c.hold_label-hold.ensures c.new_label-label.ensures c.tries.tries c.in_ok-take.field-0
    c.tries.state.state c.take.new.state.state c.tries.out c.take.new.out c.tries-test.true c.tries.invariant.writes c.in_ok-take.ensures.made in
    let prepared =
    change_prepared c.args.script.now c.args.past c.args.task c.hold_label-hold.result c.new_label-label.result c.args.change.now c.args.state.now.state
    c.args.out.now c.requires.run c.hold_label-hold.ensures c.new_label-label.ensures c.tries.tries c.in_ok-prepare.field-0
    c.take.new.state.state c.prepare.new.state.state c.take.new.out c.prepare.new.out
    (goes_at _ _ _ _ _ _ _ c.in_ok-take.field-0 _ _ taken c.if-not-branch.false) c.in_ok-prepare.ensures.made in
    let altered =
    change_altered c.args.script.now c.args.past c.args.task c.hold_label-hold.result c.new_label-label.result c.args.change.now c.args.state.now.state
    c.args.out.now c.requires.run c.hold_label-hold.ensures c.new_label-label.ensures c.tries.tries c.in_ok-alter.field-0
    c.prepare.new.state.state c.alter.new.state.state c.prepare.new.out c.alter.new.out
    (either_at _ _ _ _ _ _ _ _ c.in_ok-prepare.field-0 true _ _ prepared c.if-not-branch-2.false) c.in_ok-alter.ensures.made in
    let committed =
    change_committed c.args.script.now c.args.past c.args.task c.hold_label-hold.result c.new_label-label.result c.args.change.now c.args.state.now.state
    c.args.out.now c.requires.run c.hold_label-hold.ensures c.new_label-label.ensures c.tries.tries c.in_ok-commit.field-0
    c.alter.new.state.state c.commit.new.state.state c.alter.new.out c.commit.new.out
    (either_at _ _ _ _ _ _ _ _ c.in_ok-alter.field-0 true _ _ altered c.if-not-branch-3.false) c.in_ok-commit.ensures.made in
    record {
      line = refl;
      hold = c.hold_label-hold.ensures;
      label = c.new_label-label.ensures;
      few = let few = c.tries-test.true in omega (arith, few);
      words = c.in_ok-release-in-Late.ensures.words ∙ c.in_ok-commit.ensures.words ∙ c.in_ok-alter.ensures.words ∙ c.in_ok-prepare.ensures.words
          ∙ c.in_ok-take.ensures.words ∙ c.tries.invariant.words;
      writes =
          change_retried c.args.script.now c.args.past c.args.task c.hold_label-hold.result c.new_label-label.result c.args.change.now c.args.state.now.state
          c.args.out.now c.requires.run c.hold_label-hold.ensures c.new_label-label.ensures c.tries.tries
          c.commit.new.state.state c.release-in-Late.new.state.state c.commit.new.out c.release-in-Late.new.out c.tries-test.true
          (subst (λ came. Changing c.args.script.now c.args.past c.args.task c.hold_label-hold.result c.new_label-label.result c.args.change.now c.args.state.now.state
          c.args.out.now c.requires.run c.hold_label-hold.ensures c.new_label-label.ensures c.commit.new.state.state (at_commit (c.args.past + 1) c.tries.tries came) c.commit.new.out) c.in-Late.is committed) c.in_ok-release-in-Late.ensures.made;
    }
