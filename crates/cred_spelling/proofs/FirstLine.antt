-- The first line ends at the first LF, or is all.
use Rattle.std.proofs.Common.{◌≡◌, ◌≢◌, ℕ, zero, suc, ◌+◌, ◌-◌, ◌<◌, ◌≤◌, List, [], ◌∷◌, length, take, drop, get_or, true, false, ◌==◌, refl, add-one, arith}
use Rattle.std.proofs.lemmas.Bool.Decides.{nat_tests}
use Rattle.std.proofs.lemmas.List.{take_rest, drop_all}
use Rattle.std.proofs.Math.Seq.{take-length}
use Rattle.cred_spelling.specs.Lines.{lines_of, is_printable_byte, is_printable}

-- the first line ends at the first LF
pub lines_of_at : (bytes : List ℕ) (end : ℕ) → end < length bytes → ((k : ℕ) → k < end → get_or bytes k 0 ≢ 10) → get_or bytes end 0 ≡ 10
    → lines_of bytes ≡ take end bytes ∷ lines_of (drop (suc end) bytes)
lines_of_at [] end lt before found = absurd (omega arith)
lines_of_at (b ∷ bs) zero lt before found =
    let test : (b == 10) ≡ true = grind (arith, nat_tests) in rw test refl
lines_of_at (b ∷ bs) (suc end) lt before found =
    let not_here : b ≢ 10 = before 0 (omega arith) in
    let test : (b == 10) ≡ false = grind (arith, nat_tests) in
    rw (test, lines_of_at bs end (omega arith) (λ k l. before (suc k) (omega arith)) found) refl

-- with no LF, all is one line
pub lines_of_none : (bytes : List ℕ) → 0 < length bytes → ((k : ℕ) → k < length bytes → get_or bytes k 0 ≢ 10) → lines_of bytes ≡ bytes ∷ []
lines_of_none [] some none = absurd (omega arith)
lines_of_none (b ∷ []) some none =
    let not_here : b ≢ 10 = none 0 (omega arith) in
    let test : (b == 10) ≡ false = grind (arith, nat_tests) in rw test refl
lines_of_none (b ∷ c ∷ bs) some none =
    let not_here : b ≢ 10 = none 0 (omega arith) in
    let test : (b == 10) ≡ false = grind (arith, nat_tests) in
    rw (test, lines_of_none (c ∷ bs) (omega arith) (λ k l. none (suc k) (omega arith))) refl

pub first_line_at : (bytes : List ℕ) (end : ℕ) → end < length bytes → ((k : ℕ) → k < end → get_or bytes k 0 ≢ 10) → get_or bytes end 0 ≡ 10
    → lines_of bytes ≡ take end bytes ∷ lines_of (take (length bytes - (end + 1)) (drop (end + 1) bytes))
first_line_at bytes end lt before found = rw (take_rest bytes (end + 1)) (rw add-one (lines_of_at bytes end lt before found))

pub first_line_all : (bytes : List ℕ) (end : ℕ) → 0 < length bytes → length bytes ≤ end → ((k : ℕ) → k < end → get_or bytes k 0 ≢ 10)
    → lines_of bytes ≡ bytes ∷ lines_of (take (length bytes - end) (drop end bytes))
first_line_all bytes end some le none =
    rw (take_rest bytes end) (rw (drop_all end bytes le) (lines_of_none bytes some (λ k lt. none k (omega arith))))

-- a printable byte is no LF
not_end : (byte : ℕ) → is_printable_byte byte ≡ true → byte ≢ 10
not_end byte is = grind (arith, nat_tests)

-- what is printable up to a place is printable
pub printable_before : (bytes : List ℕ) (end : ℕ) → end ≤ length bytes → ((k : ℕ) → k < end → is_printable_byte (get_or bytes k 0) ≡ true)
    → is_printable (take end bytes) ≡ true
printable_before bytes zero le good = refl
printable_before [] (suc end) le good = absurd (omega arith)
printable_before (b ∷ bs) (suc end) le good =
    rw (good 0 (omega arith)) (printable_before bs end (omega arith) (λ k lt. good (suc k) (omega arith)))

pub printable_all : (bytes : List ℕ) (end : ℕ) → end ≡ length bytes → ((k : ℕ) → k < end → is_printable_byte (get_or bytes k 0) ≡ true)
    → is_printable bytes ≡ true
printable_all bytes end all good = rw (← take-length bytes) (rw (← all) (printable_before bytes end (omega arith) good))

pub no_end_before : (bytes : List ℕ) (end : ℕ) → ((k : ℕ) → k < end → is_printable_byte (get_or bytes k 0) ≡ true) → (k : ℕ) → k < end → get_or bytes k 0 ≢ 10
no_end_before bytes end good k lt = not_end (get_or bytes k 0) (good k lt)
