use Rattle.std.proofs.Common.{rules}
use Rattle.cred_io.proofs.standard.StdSinkSink.write.Goals as goal

pub returns-in-Ok-eq0-clause-kept_back : goal.returns-in-Ok-eq0-clause-kept_back
returns-in-Ok-eq0-clause-kept_back g c = search rules

pub returns-in-Ok-clause-some : goal.returns-in-Ok-clause-some
returns-in-Ok-clause-some g c = search rules

pub returns-in-Ok-clause-kept_back : goal.returns-in-Ok-clause-kept_back
returns-in-Ok-clause-kept_back g c = search rules

pub returns-in-Err-clause-kept_back : goal.returns-in-Err-clause-kept_back
returns-in-Err-clause-kept_back g c = search rules
