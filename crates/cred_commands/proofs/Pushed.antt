-- What was added last stands in its place.
use Rattle.std.proofs.Common.{◌≡◌, ℕ, List, [], ◌∷◌, ◌++◌, length, get_or, ◌∙◌}
use Rattle.std.proofs.Math.Seq.{get_or-append_seam}

pub pushed_there : {A : Type 0} (old new : List A) (x got : A) (place : ℕ) → new ≡ old ++ x ∷ [] → place ≡ length old → got ≡ get_or new place got → got ≡ x
pushed_there old new x got place pushed at is = is ∙ (λ k. get_or (pushed k) (at k) got) ∙ get_or-append_seam old x [] got
