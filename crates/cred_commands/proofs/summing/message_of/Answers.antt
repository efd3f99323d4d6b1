use Rattle.std.proofs.Common.{refl, ap, ◌∙◌}
use Rattle.cred_output.specs.Texts as spec
use Rattle.cred_commands.proofs.summing.message_of.Goals as goal

pub returns : goal.returns
returns c =
    let told = c.in_ok-summary.ensures in
    rw (c.of.ensures.status, c.of.ensures.text) (record {
      done = refl;
      is = record {
        script = c.in_ok-script.script;
        made = c.in_ok-script.ensures.script;
        journal = told.0;
        run = told.1;
        told = c.in_ok-summary_text.ensures ∙ ap spec.summary_text told.2;
      };
    })
