use Rattle.std.proofs.Common.{[]}
use Rattle.std.proofs.lemmas.List.Elements.{All-head}
use Rattle.cred_record.specs.File.{IsMode}
use Rattle.cred_rules.specs.Files.{chmod, chown, set_attr}
use Rattle.cred_model.proofs.Likes.{does_same}
use Rattle.cred_model.specs.TaskEvents.{by_exit, by_fork, by_spawn}
use Rattle.cred_model.specs.LabelEvents.{by_take, by_take_file}
use Rattle.cred_model.specs.FileEvents.{by_file}
use Rattle.cred_state.proofs.Acts.{gives_ok}
use Rattle.cred_state.proofs.state.State.step_any.Goals as goal

pub ask-requires-clause-home : goal.ask-requires-clause-home
ask-requires-clause-home c = rw c.in-Ask.is at c.requires.home

pub signal-requires-clause-home : goal.signal-requires-clause-home
signal-requires-clause-home c = rw c.in-Signal.is at c.requires.home

pub alter-requires-clause-home : goal.alter-requires-clause-home
alter-requires-clause-home c = rw c.in-Alter.is at c.requires.home

pub open-requires-clause-home : goal.open-requires-clause-home
open-requires-clause-home c = rw c.in-OpenFile.is at c.requires.home

pub commit-requires-clause-home : goal.commit-requires-clause-home
commit-requires-clause-home c = rw c.in-Commit.is at c.requires.home

pub override_with-requires-clause-home : goal.override_with-requires-clause-home
override_with-requires-clause-home c = rw c.in-Override.is at c.requires.home

pub returns-in-Take-clause-ok : goal.returns-in-Take-clause-ok
returns-in-Take-clause-ok c =
    rw c.in-Take.is
    (gives_ok c.args.self.now.state c.take.new.self.state (by_take c.args.self.now.state c.in-Take.label c.in-Take.task c.in-Take.side) c.take.result
    c.take.ensures.ok)

pub returns-in-Release-clause-ok : goal.returns-in-Release-clause-ok
returns-in-Release-clause-ok c = rw c.in-Release.is (does_same _ _ _ c.release.ensures.made)

pub returns-in-Prepare-clause-ok : goal.returns-in-Prepare-clause-ok
returns-in-Prepare-clause-ok c = rw c.in-Prepare.is c.prepare.ensures.ok

pub returns-in-Commit-clause-ok : goal.returns-in-Commit-clause-ok
returns-in-Commit-clause-ok c = rw c.in-Commit.is c.commit.ensures.ok

pub returns-in-Begin-clause-ok : goal.returns-in-Begin-clause-ok
returns-in-Begin-clause-ok c = rw c.in-Begin.is c.begin.ensures.ok

pub returns-in-Act-clause-ok : goal.returns-in-Act-clause-ok
returns-in-Act-clause-ok c = rw c.in-Act.is c.act.ensures.ok

pub returns-in-Spawn-clause-ok : goal.returns-in-Spawn-clause-ok
returns-in-Spawn-clause-ok c =
    rw c.in-Spawn.is
    (gives_ok c.args.self.now.state c.spawn.new.self.state (by_spawn c.args.self.now.state c.in-Spawn.task c.in-Spawn.child) c.spawn.result c.spawn.ensures.ok)

pub returns-in-Fork-clause-ok : goal.returns-in-Fork-clause-ok
returns-in-Fork-clause-ok c =
    rw c.in-Fork.is
    (gives_ok c.args.self.now.state c.fork.new.self.state (by_fork c.args.self.now.state c.in-Fork.task c.in-Fork.child c.in-Fork.process) c.fork.result
    c.fork.ensures.ok)

pub returns-in-Exit-clause-ok : goal.returns-in-Exit-clause-ok
returns-in-Exit-clause-ok c =
    rw c.in-Exit.is (gives_ok c.args.self.now.state c.exit.new.self.state (by_exit c.args.self.now.state c.in-Exit.task) c.exit.result c.exit.ensures.ok)

pub returns-in-TakeFile-clause-ok : goal.returns-in-TakeFile-clause-ok
returns-in-TakeFile-clause-ok c =
    rw c.in-TakeFile.is
    (gives_ok c.args.self.now.state c.take_file.new.self.state (by_take_file c.args.self.now.state c.in-TakeFile.label c.in-TakeFile.fd) c.take_file.result
    c.take_file.ensures.ok)

pub returns-in-Abort-clause-ok : goal.returns-in-Abort-clause-ok
returns-in-Abort-clause-ok c = rw c.in-Abort.is (does_same _ _ _ c.abort.ensures.made)

pub returns-in-Override-clause-ok : goal.returns-in-Override-clause-ok
returns-in-Override-clause-ok c = rw c.in-Override.is c.override_with.ensures.ok

pub returns-in-Revert-clause-ok : goal.returns-in-Revert-clause-ok
returns-in-Revert-clause-ok c = rw c.in-Revert.is (does_same _ _ _ c.revert.ensures.made)

pub returns-in-CloseFile-clause-ok : goal.returns-in-CloseFile-clause-ok
returns-in-CloseFile-clause-ok c = rw c.in-CloseFile.is (does_same _ _ _ c.close_file.ensures.made)

pub returns-in-Sweep-clause-ok : goal.returns-in-Sweep-clause-ok
returns-in-Sweep-clause-ok c = rw c.in-Sweep.is (does_same _ _ _ (c.sweep.ensures.made c.args.script.now c.args.line))

pub returns-in-Dumpable-clause-ok : goal.returns-in-Dumpable-clause-ok
returns-in-Dumpable-clause-ok c =
    rw c.in-Dumpable.is (does_same _ _ _ c.set_dumpable.ensures.made)

pub returns-in-Dumped-clause-ok : goal.returns-in-Dumped-clause-ok
returns-in-Dumped-clause-ok c = rw c.in-Dumped.is (does_same _ _ _ c.dumped.ensures)

pub returns-in-Ptrace-clause-ok : goal.returns-in-Ptrace-clause-ok
returns-in-Ptrace-clause-ok c = rw c.in-Ptrace.is (does_same _ _ _ c.trace.ensures.made)

pub chmod-requires-clause-mode : goal.chmod-requires-clause-mode
chmod-requires-clause-mode c =
    All-head IsMode c.in-Chmod.mode [] (rw c.in-Chmod.is at c.requires.kind).modes

pub returns-in-Chown-clause-ok : goal.returns-in-Chown-clause-ok
returns-in-Chown-clause-ok c =
    let s = c.args.self.now.state in
    let to = c.in-Chown in
    rw c.in-Chown.is
    (gives_ok s c.chown.new.self.state
    (by_file s to.hold to.file (λ cred file. chown cred file to.owner to.group)) c.chown.result
    c.chown.ensures.ok)

pub returns-in-Chmod-clause-ok : goal.returns-in-Chmod-clause-ok
returns-in-Chmod-clause-ok c =
    let s = c.args.self.now.state in
    let to = c.in-Chmod in
    rw c.in-Chmod.is
    (gives_ok s c.chmod.new.self.state
    (by_file s to.hold to.file (λ cred file. chmod cred file to.mode)) c.chmod.result
    c.chmod.ensures.ok)

pub returns-in-SetAttr-clause-ok : goal.returns-in-SetAttr-clause-ok
returns-in-SetAttr-clause-ok c =
    let s = c.args.self.now.state in
    let to = c.in-SetAttr in
    rw c.in-SetAttr.is
    (gives_ok s c.set_attr.new.self.state
    (by_file s to.hold to.file (λ cred file. set_attr cred file to.attr)) c.set_attr.result
    c.set_attr.ensures.ok)

pub returns-in-Stat-clause-ok : goal.returns-in-Stat-clause-ok
returns-in-Stat-clause-ok c = rw c.in-Stat.is (does_same _ _ _ c.stat.ensures)

pub returns-in-Raw-clause-ok : goal.returns-in-Raw-clause-ok
returns-in-Raw-clause-ok c = rw c.in-Raw.is c.raw.ensures.ok
