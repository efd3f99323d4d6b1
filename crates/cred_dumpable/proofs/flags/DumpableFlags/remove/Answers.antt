use Rattle.std.proofs.Common.{◌==◌, not, rules, tests}
use Rattle.std.proofs.lemmas.Fn.{filter_same}
use Rattle.cred_model.specs.State.{ProcessFlag}
use Rattle.cred_dumpable.proofs.flags.DumpableFlags.remove.Goals as goal

pub returns : goal.returns
returns c =
    rw (← c.self.view_is)
    (filter_same _ (λ (f : ProcessFlag). not (f.process == c.args.process)) _ (λ x b f' k. search (rules, tests)) _ _ c.retain.ensures.filtered)
