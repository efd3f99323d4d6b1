-- Hexadecimal digits that were read, before those that are still to be read.
use Rattle.std.proofs.Common.{ℕ, ◌+◌, ◌*◌, ◌^◌, ◌<◌, ◌≤◌, List, Option, Some, None, cond, arith}
use Rattle.std.specs.List.{list_all}
use Rattle.std.specs.Char.{is_digit}
use Rattle.std.specs.Str.Parse.{digits_value_after}
use Rattle.std.proofs.Math.Nat.{pow-le-pow_right}

-- what digits write that follow those of a number
abbrev pub hexadecimal_after : ℕ → List ℕ → Option ℕ
hexadecimal_after number rest =
    cond (list_all (λ byte. is_digit byte 16) rest) (Some (digits_value_after 16 number rest)) None

-- sixteen digits fit
pub fits : (n i : ℕ) → n < 16 ^ i → i < 16 → n * 16 + 15 < 2 ^ 64
fits n i small few =
    let le : 16 ^ i ≤ 16 ^ 15 = pow-le-pow_right {n = 16} (omega arith) {i = i} {j = 15} (omega arith) in
    omega arith
