-- How many lines a text has.
use Rattle.std.proofs.Common.{◌≡◌, ◌≢◌, ℕ, ◌+◌, ◌-◌, ◌<◌, ◌≤◌, Bool, true, false, cond, ◌==◌, List, [], ◌∷◌, ◌++◌, length, get_or, refl, arith}
use Rattle.std.specs.List.{onto_first}
use Rattle.std.proofs.lemmas.Bool.Decides.{nat_tests}
use Rattle.cred_spelling.specs.Lines.{lines_of, line_ends}

-- one byte before lines of which there is one
one_more : (b : Bool) (byte : ℕ) (lines : List (List ℕ)) → 1 ≤ length lines
    → length (let l : List (List ℕ) = cond b ([] ∷ lines) (onto_first byte lines) in l) ≡ cond b (1 + length lines) (length lines)
one_more true byte lines some = omega arith
one_more false byte [] some = absurd (omega arith)
one_more false byte (line ∷ lines) some = refl

some_line : (b : Bool) (byte : ℕ) (lines : List (List ℕ)) → 1 ≤ length (let l : List (List ℕ) = cond b ([] ∷ lines) (onto_first byte lines) in l)
some_line true byte lines = omega arith
some_line false byte [] = omega arith
some_line false byte (line ∷ lines) = omega arith

sum_of : (b : Bool) (m n last : ℕ) → m ≡ n + last → cond b (1 + m) m ≡ cond b (1 + n) n + last
sum_of true m n last e = omega arith
sum_of false m n last e = e

-- A text that doesn't end with LF has one line more than it has LF.
lines_counted : (byte : ℕ) (bytes : List ℕ)
    → length (lines_of (byte ∷ bytes)) ≡ line_ends (byte ∷ bytes) + cond (get_or (byte ∷ bytes) (length bytes) 0 == 10) 0 1
lines_counted byte [] = alone (byte == 10)
  where
    alone : (b : Bool) → length (let l : List (List ℕ) = cond b ([] ∷ []) ((byte ∷ []) ∷ []) in l) ≡ cond b (1 + 0) 0 + cond b 0 1
    alone true = refl
    alone false = refl
lines_counted byte (next ∷ bytes) =
    rw (one_more (byte == 10) byte (lines_of (next ∷ bytes)) (some_line (next == 10) next (lines_of bytes)))
    (sum_of (byte == 10) _ _ _ (lines_counted next bytes))

pub lines_ended : (bytes : List ℕ) → 0 < length bytes → get_or bytes (length bytes - 1) 0 ≡ 10 → length (lines_of bytes) ≡ line_ends bytes
lines_ended [] some last = absurd (omega arith)
lines_ended (byte ∷ bytes) some last =
    let test : (get_or (byte ∷ bytes) (length bytes) 0 == 10) ≡ true = grind (arith, nat_tests) in
    rw (lines_counted byte bytes) (rw test (omega arith))

pub lines_open : (bytes : List ℕ) → 0 < length bytes → get_or bytes (length bytes - 1) 0 ≢ 10 → length (lines_of bytes) ≡ line_ends bytes + 1
lines_open [] some last = absurd (omega arith)
lines_open (byte ∷ bytes) some last =
    let test : (get_or (byte ∷ bytes) (length bytes) 0 == 10) ≡ false = grind (arith, nat_tests) in
    rw (lines_counted byte bytes) (rw test refl)

pub ends-append : (some more : List ℕ) → line_ends (some ++ more) ≡ line_ends some + line_ends more
ends-append [] more = omega arith
ends-append (byte ∷ some) more = either (byte == 10) (line_ends (some ++ more)) (ends-append some more)
  where
    either : (b : Bool) (all : ℕ) → all ≡ line_ends some + line_ends more → cond b (1 + all) all ≡ cond b (1 + line_ends some) (line_ends some) + line_ends more
    either true all is = omega arith
    either false all is = is
