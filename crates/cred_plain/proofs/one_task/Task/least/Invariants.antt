use Rattle.std.proofs.Common.{◌≤◌, ◌∷◌, ℕ, All, take}
use Rattle.cred_plain.proofs.one_task.Task.least.Given as goal

abbrev pub invariant-loop-number : goal.invariant-loop-number
invariant-loop-number l = All (λ (n : ℕ). l.least ≤ n) (l.self.current ∷ take l.number-index l.self.overrides)
