-- Sets that were printed, read back.
use Rattle.std.proofs.Common.{◌≡◌, ℕ, zero, suc, ◌+◌, ◌-◌, ◌/◌, ◌%◌, ◌^◌, ◌<◌, ◌≤◌, Bool, true, false, ◌==◌, nat_lt, nat_le, cond, Some, List, [], ◌∷◌, length}
use Rattle.std.proofs.Common.{refl, ap, inl, inr, eq-zero-or-pos, arith}
use Rattle.std.specs.List.{list_all}
use Rattle.std.specs.Char.{is_digit, digit_value}
use Rattle.std.specs.Fmt.{digits, digits_onto, digit_glyph}
use Rattle.std.specs.Str.Parse.{AllDigits}
use Rattle.std.proofs.lemmas.Fmt.{digits_is_IsNumeral}
use Rattle.std.proofs.lemmas.Grind.{pow_more}
use Rattle.std.proofs.Math.Nat.{pow-le-pow_right}
use Rattle.std.proofs.lemmas.Bool.Decides.{nat_tests}
use Rattle.cred_caps.specs.Caps.{IsCaps}
use Rattle.cred_report.specs.Numbers.{hexadecimal}
use Rattle.cred_spelling.specs.Spellings.{set_of}
use Rattle.cred_reader.proofs.Words.{is_inner, is_plain}

by_test : (t : Bool) (x y : List ℕ) (most : ℕ) → (t ≡ true → length x ≤ most) → (t ≡ false → length y ≤ most) → length (cond t x y) ≤ most
by_test true x y most if_true if_false = if_true refl
by_test false x y most if_true if_false = if_false refl

-- a number of more than one digit has a digit less without its last
fewer : (n more : ℕ) → n < 16 ^ (more + 1) → 16 ≤ n → (0 < more) × (n / 16 < 16 ^ (more - 1 + 1))
fewer n more fits large =
    let power = pow_more 16 more in
    let less : n / 16 < 16 ^ more = omega arith in
    elim (eq-zero-or-pos more) [
      | inl z ↦ let one : 16 ^ more ≡ 1 = ap (λ k. 16 ^ k) z in absurd (omega arith)
      | inr some ↦ let e : more - 1 + 1 ≡ more = omega arith in (some, rw e less)
    ]

few_digits : (k n : ℕ) (after : List ℕ) (more : ℕ) → n < 16 ^ (more + 1) → length (digits_onto k 16 false n after) ≤ more + 1 + length after
few_digits zero n after more h = omega arith
few_digits (suc k) n after more h =
    by_test (n / 16 == 0) _ _ (more + 1 + length after)
    (λ one. omega arith)
    (λ other.
    let large : 16 ≤ n = grind (arith, nat_tests) in
    let less = fewer n more h large in
    let rest = few_digits k (n / 16) (digit_glyph false (n % 16) ∷ after) (more - 1) less.1 in
    let some = less.0 in
    omega arith)

long_set : (n : ℕ) → IsCaps n → n < 16 ^ (15 + 1)
long_set n h = omega arith

wide_set : (n : ℕ) → IsCaps n → n < 16 ^ 64
wide_set n h =
    let le : 16 ^ 16 ≤ 16 ^ 64 = pow-le-pow_right {n = 16} (omega arith) {i = 16} {j = 64} (omega arith) in
    omega arith

sixteen : (n : ℕ) → IsCaps n → length (hexadecimal n) ≤ 16
unfolding digits
sixteen n h = few_digits 64 n [] 15 (long_set n h)

hex_digit : (b : ℕ) → digit_value b < 16 → is_digit b 16 ≡ true
hex_digit b h = grind (arith, nat_tests)

hex_inner : (b : ℕ) → digit_value b < 16 → is_inner b ≡ true
hex_inner b h = grind (arith, nat_tests)

all_hex : (bs : List ℕ) → AllDigits 16 bs → list_all (λ b. is_digit b 16) bs ≡ true
all_hex [] h = refl
all_hex (b ∷ bs) h = rw (hex_digit b h.0, all_hex bs h.1) refl

all_inner : (bs : List ℕ) → AllDigits 16 bs → list_all is_inner bs ≡ true
all_inner [] h = refl
all_inner (b ∷ bs) h = rw (hex_inner b h.0, all_inner bs h.1) refl

no_dash : (b : ℕ) → digit_value b < 16 → (b == 45) ≡ false
no_dash b h = grind (arith, nat_tests)

hex_plain : (bs : List ℕ) → AllDigits 16 bs → 0 < length bs → is_plain bs ≡ true
hex_plain [] h some = absurd (omega arith)
hex_plain (b ∷ bs) h some = rw (hex_inner b h.0, all_inner bs h.1, no_dash b h.0) refl

pub set_plain : (n : ℕ) → IsCaps n → is_plain (hexadecimal n) ≡ true
set_plain n h =
    let numeral = (digits_is_IsNumeral 16 false (omega arith) (omega arith) n (wide_set n h)).0 in
    hex_plain (hexadecimal n) numeral.1 numeral.0

pub set_back : (n : ℕ) → IsCaps n → set_of (hexadecimal n) ≡ Some n
set_back n h =
    let numeral = digits_is_IsNumeral 16 false (omega arith) (omega arith) n (wide_set n h) in
    let some : nat_le 1 (length (hexadecimal n)) ≡ true = let less = numeral.0.0 in grind (arith, nat_tests) in
    let few : nat_le (length (hexadecimal n)) 16 ≡ true = let less = sixteen n h in grind (arith, nat_tests) in
    let caps : nat_lt n (2 ^ 41) ≡ true = grind (arith, nat_tests) in
    rw (some, few, all_hex (hexadecimal n) numeral.0.1, numeral.1, caps) refl
