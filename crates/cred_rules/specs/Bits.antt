-- The bits of a number.
use Rattle.std.specs.Prelude.{ℕ, ◌==◌, Bool}
use Rattle.std.specs.Int.{bit_at}

-- bit n, where bit 0 is the lowest, is set
abbrev pub has_bit : ℕ → ℕ → Bool
has_bit number n = bit_at number n == 1
