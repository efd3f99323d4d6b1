-- A mode and the bytes of an attribute that were printed, read back.
use Rattle.std.proofs.Common.{◌≡◌, ℕ, zero, suc, ◌+◌, ◌-◌, ◌*◌, ◌/◌, ◌%◌, ◌<◌, ◌≤◌, Bool, true, false, ◌==◌, nat_le, List, [], ◌∷◌, length, slice_index, Some}
use Rattle.std.proofs.Common.{Ok, refl, arith}
use Rattle.std.specs.List.{All, list_all}
use Rattle.std.proofs.lemmas.Bool.Decides.{nat_tests}
use Rattle.std.proofs.lemmas.List.Elements.{All-head, All-tail}
use Rattle.hex.specs.Hex.{IsBytes, decode_of, encode_lower, hex_digit_value, lower_digits}
use Rattle.hex.specs.Hex as hex
use Rattle.hex.proofs.HexLemmas.{IsDigits-lower_digits, length-encode_with, decode_of-encode_lower}
use Rattle.cred_record.specs.File.{IsMode}
use Rattle.cred_spelling.specs.Spellings.{octal_of, mode_of, without_0x, bytes_of}
use Rattle.cred_report.specs.Told.{octal, mode_text}
use Rattle.cred_reader.specs.Fits.{AreBytes}
use Rattle.cred_reader.proofs.Words.{is_inner, is_plain}

-- ---- a mode

-- a mode as a word
abbrev pub mode_word : ℕ → List ℕ
mode_word mode = octal (mode / 512 % 8) ∷ octal (mode / 64 % 8) ∷ octal (mode / 8 % 8) ∷ octal (mode % 8) ∷ []

-- a mode after a space
pub mode_spaced : (mode : ℕ) → mode_text mode ≡ 32 ∷ mode_word mode
unfolding mode_text
mode_spaced mode = refl

octal_back : (digit : ℕ) → digit < 8 → octal_of (octal digit) ≡ Some digit
octal_back digit h =
    let low : nat_le 48 (48 + digit) ≡ true = grind (arith, nat_tests) in
    let high : nat_le (48 + digit) 55 ≡ true = grind (arith, nat_tests) in
    let same : 48 + digit - 48 ≡ digit = omega arith in
    rw (low, high, same) refl

octal_inner : (digit : ℕ) → is_inner (octal digit) ≡ true
octal_inner digit = grind (arith, nat_tests)

octal_no_dash : (digit : ℕ) → (octal digit == 45) ≡ false
octal_no_dash digit = grind (arith, nat_tests)

-- its four digits
mode_digits : (mode : ℕ) → IsMode mode → 512 * (mode / 512 % 8) + 64 * (mode / 64 % 8) + 8 * (mode / 8 % 8) + mode % 8 ≡ mode
mode_digits mode h =
    let last : mode ≡ 8 * (mode / 8) + mode % 8 = omega arith in
    let third : mode / 8 ≡ 8 * (mode / 64) + mode / 8 % 8 = omega arith in
    let second : mode / 64 ≡ 8 * (mode / 512) + mode / 64 % 8 = omega arith in
    let first : mode / 512 % 8 ≡ mode / 512 = omega arith in
    omega (arith, last, third, second, first)

four_back : (a b c d mode : ℕ) → a < 8 → b < 8 → c < 8 → d < 8 → 512 * a + 64 * b + 8 * c + d ≡ mode
    → mode_of (octal a ∷ octal b ∷ octal c ∷ octal d ∷ []) ≡ Some mode
four_back a b c d mode ha hb hc hd is = rw (octal_back a ha, octal_back b hb, octal_back c hc, octal_back d hd, is) refl

pub mode_back : (mode : ℕ) → IsMode mode → mode_of (mode_word mode) ≡ Some mode
mode_back mode h =
    four_back (mode / 512 % 8) (mode / 64 % 8) (mode / 8 % 8) (mode % 8) mode
    (omega arith) (omega arith) (omega arith) (omega arith) (mode_digits mode h)

four_plain : (a b c d : ℕ) → is_plain (octal a ∷ octal b ∷ octal c ∷ octal d ∷ []) ≡ true
four_plain a b c d = rw (octal_inner a, octal_inner b, octal_inner c, octal_inner d, octal_no_dash a) refl

pub mode_plain : (mode : ℕ) → is_plain (mode_word mode) ≡ true
mode_plain mode = four_plain (mode / 512 % 8) (mode / 64 % 8) (mode / 8 % 8) (mode % 8)

-- ---- the bytes of an attribute

-- a byte that a hexadecimal digit may be
record IsHexByte (byte : ℕ) : Type 0 where
  least : 48 ≤ byte
  most : byte ≤ 102

value_least : (byte value : ℕ) → hex_digit_value byte ≡ Some value → 48 ≤ byte
value_least byte value h = grind (arith, nat_tests)

value_most : (byte value : ℕ) → hex_digit_value byte ≡ Some value → byte ≤ 102
value_most byte value h = grind (arith, nat_tests)

lower_digit : (digit : ℕ) → digit < 16 → IsHexByte (slice_index lower_digits digit)
lower_digit digit h =
    let value = IsDigits-lower_digits digit h in
    record { least = value_least (slice_index lower_digits digit) digit value; most = value_most (slice_index lower_digits digit) digit value }

hex_inner : (byte : ℕ) → IsHexByte byte → is_inner byte ≡ true
hex_inner byte h = let least = h.least in grind (arith, nat_tests)

hex_no_dash : (byte : ℕ) → IsHexByte byte → (byte == 45) ≡ false
hex_no_dash byte h = let least = h.least in grind (arith, nat_tests)

no_letter_x : (byte : ℕ) → IsHexByte byte → (byte == 120) ≡ false
no_letter_x byte h = let most = h.most in grind (arith, nat_tests)

two_inner : (high low : ℕ) (more : List ℕ) → IsHexByte high → IsHexByte low → list_all is_inner more ≡ true → list_all is_inner (high ∷ low ∷ more) ≡ true
two_inner high low more h l m = rw (hex_inner high h, hex_inner low l, m) refl

two_plain : (high low : ℕ) (more : List ℕ) → IsHexByte high → IsHexByte low → list_all is_inner more ≡ true → is_plain (high ∷ low ∷ more) ≡ true
two_plain high low more h l m = rw (hex_inner high h, hex_inner low l, m, hex_no_dash high h) refl

no_0x : (t : Bool) (high low : ℕ) (more : List ℕ) → (high == 48) ≡ t → (low == 120) ≡ false → without_0x (high ∷ low ∷ more) ≡ high ∷ low ∷ more
no_0x true high low more first second = rw (first, second) refl
no_0x false high low more first second = rw first refl

are_bytes : (bytes : List ℕ) → All (λ byte. byte < 256) bytes → IsBytes bytes
are_bytes [] h k = omega arith
are_bytes (b ∷ bytes) h zero = All-head (λ byte. byte < 256) b bytes h
are_bytes (b ∷ bytes) h (suc k) = are_bytes bytes (All-tail (λ byte. byte < 256) b bytes h) k

-- the two digits of a byte
abbrev high_digit : ℕ → ℕ
high_digit byte = slice_index lower_digits (byte / 16)

abbrev low_digit : ℕ → ℕ
low_digit byte = slice_index lower_digits (byte % 16)

high_is : (byte : ℕ) → byte < 256 → IsHexByte (high_digit byte)
high_is byte h = lower_digit (byte / 16) (omega arith)

low_is : (byte : ℕ) → IsHexByte (low_digit byte)
low_is byte = lower_digit (byte % 16) (omega arith)

digits_inner : (bytes : List ℕ) → IsBytes bytes → list_all is_inner (encode_lower bytes) ≡ true
unfolding hex.encode_with
digits_inner [] h = refl
digits_inner (b ∷ bytes) h =
    two_inner (high_digit b) (low_digit b) (encode_lower bytes) (high_is b (h 0)) (low_is b) (digits_inner bytes (λ k. h (suc k)))

digits_plain : (bytes : List ℕ) → IsBytes bytes → 1 ≤ length bytes → is_plain (encode_lower bytes) ≡ true
unfolding hex.encode_with
digits_plain [] h some = absurd (omega arith)
digits_plain (b ∷ bytes) h some =
    two_plain (high_digit b) (low_digit b) (encode_lower bytes) (high_is b (h 0)) (low_is b) (digits_inner bytes (λ k. h (suc k)))

digits_no_0x : (bytes : List ℕ) → IsBytes bytes → without_0x (encode_lower bytes) ≡ encode_lower bytes
unfolding hex.encode_with
digits_no_0x [] h = refl
digits_no_0x (b ∷ bytes) h =
    no_0x (high_digit b == 48) (high_digit b) (low_digit b) (encode_lower bytes) refl (no_letter_x (low_digit b) (low_is b))

from_digits : (word bytes : List ℕ) → without_0x word ≡ word → nat_le 2 (length word) ≡ true → nat_le (length word) 128 ≡ true → decode_of word ≡ Ok bytes
    → bytes_of word ≡ Some bytes
from_digits word bytes same least most read = rw (same, least, most, read) refl

pub attr_plain : (bytes : List ℕ) → AreBytes bytes → is_plain (encode_lower bytes) ≡ true
attr_plain bytes h = digits_plain bytes (are_bytes bytes h.each) h.some

pub attr_back : (bytes : List ℕ) → AreBytes bytes → bytes_of (encode_lower bytes) ≡ Some bytes
attr_back bytes h =
    let each = are_bytes bytes h.each in
    let some = h.some in
    let few = h.few in
    let twice : length (encode_lower bytes) ≡ 2 * length bytes = length-encode_with lower_digits bytes in
    let least : nat_le 2 (length (encode_lower bytes)) ≡ true = grind (arith, nat_tests) in
    let most : nat_le (length (encode_lower bytes)) 128 ≡ true = grind (arith, nat_tests) in
    from_digits (encode_lower bytes) bytes (digits_no_0x bytes each) least most (decode_of-encode_lower bytes each)
