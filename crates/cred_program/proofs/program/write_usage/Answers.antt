use Rattle.std.proofs.Common.{inr}
use Rattle.cred_output.specs.declared.status.Status.TheVariants.{Usage}
use Rattle.cred_output.proofs.Messages.{by_end}
use Rattle.cred_program.specs.Commands.{IsForNoCommand}
use Rattle.cred_program.proofs.program.write_usage.Goals as goal

pub returns-clause-usage : goal.returns-clause-usage
returns-clause-usage g c =
    let told = rw c.as_bytes.ensures.value at c.write_short_text.ensures.told in
    record {
      usage = told.whole;
      suits = by_end IsForNoCommand Usage c.write_short_text.result told.ends tt tt tt;
      prefix = inr told.prefix;
    }
