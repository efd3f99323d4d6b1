use Rattle.std.proofs.Common.{ℕ, ◌==◌, not, rules}
use Rattle.std.proofs.lemmas.Fn.{filter_same}
use Rattle.cred_procs.proofs.processes.take_off.Goals as goal

pub returns : goal.returns
returns c = filter_same _ (λ (n : ℕ). not (n == c.args.task)) _ (λ x b f' k. search rules) _ _ c.retain.ensures.filtered
