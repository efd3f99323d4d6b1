use Rattle.std.proofs.Common.{◌≡◌, ℕ, ◌*◌, ◌<◌, true}
use Rattle.cred_slots.specs.Flags.{flag_at}
use Rattle.cred_slots.proofs.flags.Flags.first_unset.Given as goal

abbrev pub invariant-loop-index : goal.invariant-loop-index
invariant-loop-index l = (k : ℕ) → k < l.index * 64 → flag_at l.self-inside.words k ≡ true
