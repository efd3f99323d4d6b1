-- What an open broadcast refuses.
use Rattle.std.proofs.Common.{◌≡◌, ℕ, Option, None, Some, Result, Ok, Err, refl, ap}
use Rattle.std.specs.Option.{MatchOption, option_map}
use Rattle.cred_event.specs.declared.answer.Answer.{Answer}
use Rattle.cred_event.specs.declared.answer.Answer.TheVariants.{Busy}
use Rattle.cred_model.specs.State.{Broadcast}
use Rattle.cred_model.specs.Broadcasts.{not_busy}

-- the number of the broadcast that was found, if one was
pub busy_by : (found : Option Broadcast) (number : Option ℕ) → number ≡ option_map (λ b. b.number) found
    → MatchOption number (not_busy found ≡ Ok tt) (λ n. not_busy found ≡ Err (Busy n))
busy_by None None is = refl
busy_by None (Some n) is = cc
busy_by (Some b) None is = cc
busy_by (Some b) (Some n) is =
    let refused : ℕ → Result (Unit {0}) Answer = λ k. Err (Busy k) in
    let same : b.number ≡ n = cc in
    ap refused same
