use Rattle.cred_output.proofs.Prefixes.{flushed}
use Rattle.cred_commands.proofs.ordered.write_last.Goals as goal

pub returns-clause-err : goal.returns-clause-err
returns-clause-err g c = flushed _ _ _ c.args.out.now c.flush.result (rw c.items.ensures at c.in_ok-write_all.ensures.ok) c.flush.ensures.bytes
