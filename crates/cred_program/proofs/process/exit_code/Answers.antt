use Rattle.cred_program.proofs.Once.{ends}
use Rattle.cred_program.proofs.process.exit_code.Goals as goal

pub returns-in-Ok-clause-once : goal.returns-in-Ok-clause-once
returns-in-Ok-clause-once g c =
    let told = c.credtrace.ensures in
    rw (c.in-Ok.is, ← c.deref.ensures.value) (ends _ c.credtrace.result _ _ _ _ _ _ c.code.ensures record {
      run = told.run;
      lanes = told.lanes;
      audit = told.audit;
      generate = told.generate;
      decode = told.decode;
      encode = told.encode;
      capdata = told.capdata;
      usage = told.usage;
      reading = told.reading;
      writing = told.writing;
      silent = told.silent;
    })
