-- A source that is left as it was.
use Rattle.std.proofs.Common.{◌≡◌, ℕ, List, [], Option, refl, arith}
use Rattle.std.proofs.KnownBytes.{Consumes-nil}
use Rattle.cred_output.specs.Leaves.{IsReading}
use Rattle.cred_output.specs.declared.status.Status.{Status}
use Rattle.cred_output.specs.declared.status.Status.TheVariants as status

pub unread : (limit : ℕ) (answer : Status) (left : Option (List ℕ)) (faults : ℕ) → (answer ≡ status.ReadFault → ⊥)
    → IsReading limit answer left left faults faults
unread limit answer left faults other = record {
  cause = record { rose = λ fault. absurd (other fault); stayed = λ none. refl; later = omega arith };
  fault = λ fault. absurd (other fault);
  no_more = record { bytes = []; taken = Consumes-nil left; within = omega arith };
}
