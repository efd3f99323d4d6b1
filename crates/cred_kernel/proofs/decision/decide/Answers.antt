use Rattle.cred_kernel.proofs.Deciding.{work_stays}
use Rattle.cred_kernel.proofs.decision.decide.Goals as goal

pub returns-clause-decided : goal.returns-clause-decided
returns-clause-decided g c = record {
  line = c.perform.ensures.stays.line;
  work_is = work_stays g.K.Name.script g.K.Name.inodes g.K.Name.cells c.args.work.now c.perform.new.work c.requires.work c.perform.ensures.stays;
  right = c.in_ok-perform.ensures.decided;
}
