use Rattle.cred_model.proofs.Likes.{does_same}
use Rattle.cred_model.specs.LabelEvents.{by_take}
use Rattle.cred_state.proofs.Acts.{gives_ok}
use Rattle.cred_state.proofs.state.State.step.Goals as goal

pub ask-requires-clause-home : goal.ask-requires-clause-home
ask-requires-clause-home c = rw c.in-Ask.is at c.requires.home

pub commit-requires-clause-home : goal.commit-requires-clause-home
commit-requires-clause-home c = rw c.in-Commit.is at c.requires.home

pub returns-in-Take-clause-ok : goal.returns-in-Take-clause-ok
returns-in-Take-clause-ok c =
    rw c.in-Take.is
    (gives_ok c.args.self.now.state c.take.new.self.state (by_take c.args.self.now.state c.in-Take.label c.in-Take.task c.in-Take.side) c.take.result
    c.take.ensures.ok)

pub returns-in-Release-clause-ok : goal.returns-in-Release-clause-ok
returns-in-Release-clause-ok c = rw c.in-Release.is (does_same _ _ _ c.release.ensures.made)

pub returns-in-Prepare-clause-ok : goal.returns-in-Prepare-clause-ok
returns-in-Prepare-clause-ok c = rw c.in-Prepare.is c.prepare.ensures.ok

pub returns-in-Commit-clause-ok : goal.returns-in-Commit-clause-ok
returns-in-Commit-clause-ok c = rw c.in-Commit.is c.commit.ensures.ok

pub returns-in-Begin-clause-ok : goal.returns-in-Begin-clause-ok
returns-in-Begin-clause-ok c = rw c.in-Begin.is c.begin.ensures.ok

pub returns-in-Act-clause-ok : goal.returns-in-Act-clause-ok
returns-in-Act-clause-ok c = rw c.in-Act.is c.act.ensures.ok
