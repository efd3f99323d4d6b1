-- A word of four octal digits spells a mode.
use Rattle.std.proofs.Common.{◌≡◌, ℕ, ◌+◌, ◌-◌, ◌*◌, ◌≤◌, Bool, true, false, ◌&&◌, nat_le, cond, List, [], ◌∷◌, Option, Some, None, refl, arith}
use Rattle.std.specs.Option.{IfSome, option_map, option_and_then}
use Rattle.std.proofs.lemmas.Bool.Decides.{nat_tests}
use Rattle.cred_record.specs.File.{IsMode}
use Rattle.cred_spelling.specs.Spellings.{octal_of, mode_of}

octal_small : (byte : ℕ) (a b : Bool) → nat_le 48 byte ≡ a → nat_le byte 55 ≡ b → IfSome (cond (a && b) (Some (byte - 48)) None) (λ digit. digit ≤ 7)
octal_small byte false b low high = tt
octal_small byte true false low high = tt
octal_small byte true true low high = grind (arith, nat_tests)

octal_digit : (byte : ℕ) → IfSome (octal_of byte) (λ digit. digit ≤ 7)
octal_digit byte = octal_small byte (nat_le 48 byte) (nat_le byte 55) refl refl

mode_small : (a b c d : Option ℕ) → IfSome a (λ digit. digit ≤ 7) → IfSome b (λ digit. digit ≤ 7) → IfSome c (λ digit. digit ≤ 7)
    → IfSome d (λ digit. digit ≤ 7)
    → IfSome
    (option_and_then
    (λ first. option_and_then (λ second. option_and_then (λ third. option_map (λ fourth. 512 * first + 64 * second + 8 * third + fourth) d) c) b) a)
    (λ mode. IsMode mode)
mode_small None b c d one two three four = tt
mode_small (Some w) None c d one two three four = tt
mode_small (Some w) (Some x) None d one two three four = tt
mode_small (Some w) (Some x) (Some y) None one two three four = tt
mode_small (Some w) (Some x) (Some y) (Some z) one two three four = omega (arith, one, two, three, four)

pub mode_is : (word : List ℕ) → IfSome (mode_of word) (λ mode. IsMode mode)
mode_is [] = tt
mode_is (a ∷ []) = tt
mode_is (a ∷ b ∷ []) = tt
mode_is (a ∷ b ∷ c ∷ []) = tt
mode_is (a ∷ b ∷ c ∷ d ∷ []) = mode_small (octal_of a) (octal_of b) (octal_of c) (octal_of d) (octal_digit a) (octal_digit b) (octal_digit c) (octal_digit d)
mode_is (a ∷ b ∷ c ∷ d ∷ e ∷ word) = tt
