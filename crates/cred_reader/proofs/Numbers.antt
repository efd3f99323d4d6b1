-- Numbers that were printed, read back.
use Rattle.std.proofs.Common.{◌≡◌, ℕ, ◌^◌, ◌<◌, true, false, ◌&&◌, ◌==◌, nat_lt, nat_le, Some, List, [], ◌∷◌, length, get_or, refl, inl, inr, eq-zero-or-pos}
use Rattle.std.proofs.Common.{decimal, arith}
use Rattle.std.specs.List.{list_all}
use Rattle.std.specs.Str.{all_ascii_digits}
use Rattle.std.specs.Str.Parse.{digits_value}
use Rattle.std.proofs.lemmas.Str.Parse.{IsNumeralModel, numerals_by_value, tells_all_ascii_digits}
use Rattle.std.proofs.lemmas.Fmt.{digits_decimal, digits_value-decimal, decimal_nonempty, decimal_digit, first_decimal}
use Rattle.std.proofs.lemmas.Bool.Decides.{nat_tests}
use Rattle.cred_ids.specs.Id.{IsId, NO_ID}
use Rattle.cred_spelling.specs.Spellings.{is_numeral, number_of, long_of, id_of}
use Rattle.cred_reader.specs.Fits.{IsNumber, IsLong}
use Rattle.cred_reader.proofs.Words.{is_inner, is_plain, both}

own : IsNumeralModel (λ ds. all_ascii_digits ds ≡ true) (digits_value 10)
own = numerals_by_value _ tells_all_ascii_digits

-- a number of 32 bits is one of 64
pub long_number : (n : ℕ) → IsNumber n → IsLong n
long_number n h = omega arith

numeral_of : (bs : List ℕ) → all_ascii_digits bs ≡ true → 48 < get_or bs 0 0 → is_numeral bs ≡ true
numeral_of [] h low = absurd (omega arith)
numeral_of (d ∷ ds) h low =
    let test : (d == 48) ≡ false = grind (arith, nat_tests) in
    rw test h

numeral : (n : ℕ) → IsLong n → is_numeral (decimal n) ≡ true
numeral n h =
    elim (eq-zero-or-pos n) [
      | inl z ↦ rw (z, decimal_digit 0 (omega arith)) refl
      | inr some ↦ numeral_of (decimal n) (digits_decimal own n h) (first_decimal n some h)
    ]

pub number_back : (n : ℕ) → IsNumber n → number_of (decimal n) ≡ Some n
number_back n h =
    let long = long_number n h in
    let test : nat_lt n (2 ^ 32) ≡ true = grind (arith, nat_tests) in
    rw (numeral n long, digits_value-decimal own n long, test) refl

pub long_back : (n : ℕ) → IsLong n → long_of (decimal n) ≡ Some n
long_back n h =
    let test : nat_lt n (2 ^ 64) ≡ true = grind (arith, nat_tests) in
    rw (numeral n h, digits_value-decimal own n h, test) refl

pub id_number : (n : ℕ) → IsId n → IsNumber n
id_number n h = omega arith

pub id_back : (n : ℕ) → IsId n → id_of (decimal n) ≡ Some n
id_back n h =
    let test : (n == NO_ID) ≡ false = grind (arith, nat_tests) in
    rw (number_back n (id_number n h), test) refl

digit_inner : (b : ℕ) → (nat_le 48 b && nat_le b 57) ≡ true → is_inner b ≡ true
digit_inner b h = grind (arith, nat_tests)

digits_inner : (bs : List ℕ) → all_ascii_digits bs ≡ true → list_all is_inner bs ≡ true
digits_inner [] h = refl
digits_inner (b ∷ bs) h =
    let parts = both _ (all_ascii_digits bs) h in
    rw (digit_inner b parts.0, digits_inner bs parts.1) refl

pub decimal_digits : (n : ℕ) → IsLong n → all_ascii_digits (decimal n) ≡ true
decimal_digits n h = digits_decimal own n h

pub decimal_inner : (n : ℕ) → IsLong n → list_all is_inner (decimal n) ≡ true
decimal_inner n h = digits_inner (decimal n) (digits_decimal own n h)

digits_plain : (bs : List ℕ) → all_ascii_digits bs ≡ true → 0 < length bs → is_plain bs ≡ true
digits_plain [] h some = absurd (omega arith)
digits_plain (b ∷ bs) h some =
    let parts = both (nat_le 48 b && nat_le b 57) (all_ascii_digits bs) h in
    let test : (b == 45) ≡ false = grind (arith, nat_tests) in
    rw (digit_inner b parts.0, digits_inner bs parts.1, test) refl

pub decimal_plain : (n : ℕ) → IsLong n → is_plain (decimal n) ≡ true
decimal_plain n h = digits_plain (decimal n) (digits_decimal own n h) (decimal_nonempty n h)
