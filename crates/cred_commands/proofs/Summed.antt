-- What is said of the script that is made from a number, and what that leaves.
use Rattle.std.proofs.Common.{◌≡◌, ℕ, List, Option, sym, subst}
use Rattle.cred_output.specs.Ends.{IsForText, IsWhole}
use Rattle.cred_commands.specs.Summing.{LeavesSummary, SaysSummary}
use Rattle.cred_output.specs.declared.status.Status.{Status}
use Rattle.cred_output.proofs.Messages.{WroteOne, by_ends, same_or_so}

pub leaves_summary : (n : ℕ) (answer : Status) (a b : Option (List ℕ)) (untouched : Type 0) → (untouched → b ≡ a)
    → WroteOne (SaysSummary n) answer a b untouched → LeavesSummary n answer a b
leaves_summary n answer a b untouched same said = record {
  done = λ done. let all = said.whole (subst IsWhole (sym done) tt) in record { text = all.0; is = all.1.is; written = all.2 };
  suits = by_ends IsForText answer said.ends (λ one. subst IsForText (sym one.1.done) tt) tt tt;
  prefix = same_or_so same (λ one. record { text = one.1; is = one.2.is; written = one.3 }) said.prefix;
}
