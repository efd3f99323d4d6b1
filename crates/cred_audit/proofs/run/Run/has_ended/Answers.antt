use Rattle.cred_audit.proofs.Runs.{ended_by}
use Rattle.cred_audit.proofs.run.Run.has_ended.Goals as goal

pub returns : goal.returns
returns c = ended_by c.args.self.now c.has_ended.result c.has_ended.ensures
