-- The library's parsing of numbers reads exactly the numerals.
use Rattle.std.proofs.Common.{◌≡◌, ◌≢◌, ℕ, ◌^◌, ◌≤◌, ◌<◌, ◌+◌, ◌*◌, Option, IfSome, subst, List, [], ◌∷◌, get_or, length, Some, None, Result, Ok, Err, Bool}
use Rattle.std.proofs.Common.{true, false, cond, ◌==◌, nat_lt, ◌&&◌, refl, ap, arith}
use Rattle.std.specs.Result.{OkIff, result_ok}
use Rattle.std.specs.Str.{all_ascii_digits, IsUtf8}
use Rattle.std.specs.Str.Parse.{digits_value, digits_value_after, ParsesUnsigned}
use Rattle.std.proofs.lemmas.Str.Parse.{IsNumeralModel, numerals_by_value, tells_all_ascii_digits, parse_plain}
use Rattle.std.proofs.lemmas.Str.{IsUtf8-from_ascii}
use Rattle.std.proofs.lemmas.Fmt.{IsAscii-from_digits}
use Rattle.std.proofs.lemmas.Bool.Decides.{nat_tests}
use Rattle.std.proofs.Math.Nat.{pow-le-pow_right}
use Rattle.cred_spelling.specs.Spellings.{is_numeral, number_of, long_of, decimal_of}

own : IsNumeralModel (λ ds. all_ascii_digits ds ≡ true) (digits_value 10)
own = numerals_by_value _ tells_all_ascii_digits

-- a word whose first byte is a digit from 1 to 9
plain_numeral : (d : ℕ) (ds : List ℕ) → d ≢ 48 → is_numeral (d ∷ ds) ≡ all_ascii_digits (d ∷ ds)
plain_numeral d ds other = let test : (d == 48) ≡ false = grind (arith, nat_tests) in rw test refl

parsed : {E : Type 0} (bs : List ℕ) (a b : Bool) (r : Result ℕ E) (v : ℕ) (P : Type 0) → OkIff r P v → (P → (a ≡ true) × (b ≡ true))
    → ((a ≡ true) → (b ≡ true) → P) → result_ok r ≡ cond (a && b) (Some v) None
parsed bs true true (Ok x) v P h to from = ap Some h.1
parsed bs true true (Err e) v P h to from = absurd (h (from refl refl))
parsed bs true false (Ok x) v P h to from = absurd (let e = (to h.0).1 in cc)
parsed bs true false (Err e) v P h to from = refl
parsed bs false b (Ok x) v P h to from = absurd (let e = (to h.0).0 in cc)
parsed bs false b (Err e) v P h to from = refl

none_if : (a b : Bool) (v : ℕ) → (a ≡ true → ⊥) → cond (a && b) (Some v) None ≡ None
none_if true b v no_a = absurd (no_a refl)
none_if false b v no_a = refl

-- the number that a word writes, if it is below a power of two
abbrev below : ℕ → List ℕ → Option ℕ
below bits word = cond (is_numeral word && nat_lt (digits_value 10 word) (2 ^ bits)) (Some (digits_value 10 word)) None

below_parsed : {E : Type 0} (bits : ℕ) (bs : List ℕ) (r : Result ℕ E) → ParsesUnsigned bits 10 bs r → 1 ≤ length bs → 49 ≤ get_or bs 0 0
    → result_ok r ≡ below bits bs
below_parsed bits [] r h some low = absurd (omega arith)
below_parsed bits (d ∷ ds) r h some low =
    let other : d ≢ 48 = λ e. omega arith in
    let plus : d ≢ 43 = λ e. omega arith in
    let plain = parse_plain own bits (d ∷ ds) r h plus in
    rw (plain_numeral d ds other)
    (parsed (d ∷ ds) (all_ascii_digits (d ∷ ds)) (nat_lt (digits_value 10 (d ∷ ds)) (2 ^ bits)) r (digits_value 10 (d ∷ ds)) _ plain
    (λ h. (h.0, (let small = h.2 in grind (arith, nat_tests)))) (λ a b. (a, omega arith, (let small = b in grind (arith, nat_tests)))))

below_no_text : (bits : ℕ) (bs : List ℕ) → (IsUtf8 bs → ⊥) → 1 ≤ length bs → 49 ≤ get_or bs 0 0 → below bits bs ≡ None
below_no_text bits [] bad some low = absurd (omega arith)
below_no_text bits (d ∷ ds) bad some low =
    let other : d ≢ 48 = λ e. omega arith in
    rw (plain_numeral d ds other)
    (none_if (all_ascii_digits (d ∷ ds)) _ _ (λ e. bad (IsUtf8-from_ascii (d ∷ ds) (IsAscii-from_digits (d ∷ ds) (own.to (d ∷ ds) e)))))

pub number_of_parsed : {E : Type 0} (bs : List ℕ) (r : Result ℕ E) → ParsesUnsigned 32 10 bs r → 1 ≤ length bs → 49 ≤ get_or bs 0 0 → result_ok r ≡ number_of bs
number_of_parsed bs r h some low = below_parsed 32 bs r h some low

pub number_of_no_text : (bs : List ℕ) → (IsUtf8 bs → ⊥) → 1 ≤ length bs → 49 ≤ get_or bs 0 0 → number_of bs ≡ None
number_of_no_text bs bad some low = below_no_text 32 bs bad some low

pub long_of_parsed : {E : Type 0} (bs : List ℕ) (r : Result ℕ E) → ParsesUnsigned 64 10 bs r → 1 ≤ length bs → 49 ≤ get_or bs 0 0 → result_ok r ≡ long_of bs
long_of_parsed bs r h some low = below_parsed 64 bs r h some low

pub long_of_no_text : (bs : List ℕ) → (IsUtf8 bs → ⊥) → 1 ≤ length bs → 49 ≤ get_or bs 0 0 → long_of bs ≡ None
long_of_no_text bs bad some low = below_no_text 64 bs bad some low

-- what digits write that follow those of a number
abbrev pub decimal_after : ℕ → List ℕ → Option ℕ
decimal_after number rest = cond (all_ascii_digits rest) (Some (digits_value_after 10 number rest)) None

-- nine digits fit
pub nine_fit : (n i : ℕ) → n < 10 ^ i → i < 9 → n * 10 + 9 < 2 ^ 32
nine_fit n i small few =
    let le : 10 ^ i ≤ 10 ^ 8 = pow-le-pow_right {n = 10} (omega arith) {i = i} {j = 8} (omega arith) in
    omega arith

small_of : (a : Bool) (v : ℕ) (r : Option ℕ) → r ≡ cond a (Some v) None → IfSome r (λ n. n < 2 ^ 32) → r ≡ cond (a && nat_lt v (2 ^ 32)) (Some v) None
small_of true v r e small =
    let less : v < 2 ^ 32 = subst (λ o. IfSome o (λ n. n < 2 ^ 32)) e small in
    let test : nat_lt v (2 ^ 32) ≡ true = grind (arith, nat_tests) in
    rw test e
small_of false v r e small = e

pub number_of_short : (bs : List ℕ) (r : Option ℕ) → r ≡ decimal_of bs → IfSome r (λ n. n < 2 ^ 32) → 1 ≤ length bs → 49 ≤ get_or bs 0 0 → r ≡ number_of bs
number_of_short [] r e small some low = absurd (omega arith)
number_of_short (d ∷ ds) r e small some low =
    let other : d ≢ 48 = λ e. omega arith in
    rw (plain_numeral d ds other) (small_of (all_ascii_digits (d ∷ ds)) (digits_value 10 (d ∷ ds)) r e small)
