use Rattle.cred_commands.proofs.Kept.{none_begins}
use Rattle.cred_commands.proofs.ordered.write_in_order.Goals as goal

pub returns-in_default-clause-err : goal.returns-in_default-clause-err
returns-in_default-clause-err g c = none_begins c.args.script.now (g.K.Sink.written c.args.sink.now)
