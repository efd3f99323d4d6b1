-- A number's hexadecimal digits, written from the last to the first.
use Rattle.std.proofs.Common.{◌≡◌, ℕ, ◌+◌, ◌-◌, ◌/◌, ◌%◌, ◌^◌, ◌<◌, ◌≤◌, false, List, length, drop, set, sym, ap, inl, inr, eq-zero-or-pos, arith}
use Rattle.std.proofs.lemmas.Grind.{pow_more}
use Rattle.std.proofs.lemmas.List.{drop-set}
use Rattle.std.proofs.DigitsParse.{digits_onto_last, digits_onto_step}
use Rattle.std.specs.Fmt.{digits_onto, digit_glyph}

-- a number of more than one digit has a digit less without its last
pub fewer : (n place : ℕ) → n < 16 ^ (place + 1) → 16 ≤ n → (0 < place) × (n / 16 < 16 ^ (place - 1 + 1))
fewer n place fits more =
    let power = pow_more 16 place in
    let less : n / 16 < 16 ^ place = omega arith in
    elim (eq-zero-or-pos place) [
      | inl z ↦ let one : 16 ^ place ≡ 1 = ap (λ k. 16 ^ k) z in absurd (omega arith)
      | inr some ↦ let e : place - 1 + 1 ≡ place = omega arith in (some, rw e less)
    ]

-- the last digit of more than one, put at its place
pub last_of_more : (n place digit : ℕ) (out : List ℕ) → length out ≡ 16 → place < 16 → n < 16 ^ (place + 1) → 16 ≤ n → digit ≡ digit_glyph false (n % 16)
    → digits_onto (place - 1 + 49) 16 false (n / 16) (drop (place - 1 + 1) (set out place digit)) ≡ digits_onto (place + 49) 16 false n (drop (place + 1) out)
last_of_more n place digit out size within fits more e =
    let some = (fewer n place fits more).0 in
    let a : place - 1 + 1 ≡ place = omega arith in
    let b : place - 1 + 49 ≡ place + 49 - 1 = omega arith in
    rw (a, b, drop-set out place digit (omega arith), e)
    (sym (digits_onto_step 16 false n (drop (place + 1) out) (place + 49) (omega arith) (λ z. omega arith)))

-- the first digit, put at its place
pub first_digit : (n place digit : ℕ) (out : List ℕ) → length out ≡ 16 → place < 16 → n < 16 → digit ≡ digit_glyph false n
    → drop place (set out place digit) ≡ digits_onto (place + 49) 16 false n (drop (place + 1) out)
first_digit n place digit out size within small e =
    let same : n % 16 ≡ n = omega arith in
    let last = digits_onto_last 16 false n (drop (place + 1) out) (place + 49) (omega arith) (omega arith) in
    rw (drop-set out place digit (omega arith), e) (sym (rw same at last))
