use Rattle.std.proofs.Common.{◌≡◌, ℕ, ◌<◌, ◌++◌, ◌∷◌, [], false}
use Rattle.cred_captext.specs.Names.{lowercase_name, begins_with}
use Rattle.cred_captext.proofs.prefix.Prefix.longer.Given as goal

abbrev pub invariant-loop-number : goal.invariant-loop-number
invariant-loop-number l =
    (k : ℕ) → k < l.number → begins_with (lowercase_name k) (l.self ++ l.byte ∷ []) ≡ false
