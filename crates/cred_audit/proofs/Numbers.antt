-- The number of a line, with which an entry's text begins.
use Rattle.std.proofs.Common.{◌≡◌, ℕ, suc, ◌+◌, ◌-◌, ◌<◌, ◌≤◌, ◌^◌, ◌==◌, ◌&&◌, nat_le, cond, Bool, true, false, List, [], ◌∷◌, ◌++◌, length, take, slice_get}
use Rattle.std.proofs.Common.{get_or, nat_lt, codes, decimal, Option, Some, None, refl, sym, ap, ◌∙◌, append_assoc, arith}
use Rattle.std.specs.Option.{option_map}
use Rattle.std.specs.List.{position_or_len}
use Rattle.std.specs.Str.{all_ascii_digits}
use Rattle.std.specs.Str.Parse.{digits_value}
use Rattle.std.proofs.lemmas.Str.Parse.{IsNumeralModel, numerals_by_value, tells_all_ascii_digits}
use Rattle.std.proofs.lemmas.Fmt.{digits_decimal, digits_value-decimal, first_decimal, decimal_injective}
use Rattle.std.proofs.lemmas.List.{take_at, length-append}
use Rattle.std.proofs.lemmas.Option.{slice_get_within}
use Rattle.std.proofs.lemmas.Bool.Decides.{nat_tests}
use Rattle.cred_ids.specs.Limits.{LINE_LIMIT}
use Rattle.cred_event.specs.declared.entry.Entry.{Entry}
use Rattle.cred_model.specs.Script.{Script, Line}
use Rattle.cred_model.specs.Journal.{lane_of}
use Rattle.cred_report.specs.Text.{entry_text}
use Rattle.cred_report.specs.Events.{event_text}
use Rattle.cred_report.specs.Answers.{answer_text}
use Rattle.cred_spelling.specs.Spellings.{is_numeral, line_number_of}
use Rattle.cred_script.specs.Lines.{line_at}

-- ---- digits up to a blank

pub own : IsNumeralModel (λ ds. all_ascii_digits ds ≡ true) (digits_value 10)
own = numerals_by_value _ tells_all_ascii_digits

both : (a b : Bool) → (a && b) ≡ true → (a ≡ true) × (b ≡ true)
both true b h = (refl, h)
both false b h = absurd (cc)

pub no_blank : (d : ℕ) → (nat_le 48 d && nat_le d 57) ≡ true → d ≡ 32 → ⊥
no_blank d digit is =
    let low = (both (nat_le 48 d) (nat_le d 57) digit).0 in
    absurd (let le : 48 ≤ d = grind (arith, nat_tests) in omega (arith, le, is))

pub first_digit : (d : ℕ) (ds : List ℕ) → all_ascii_digits (d ∷ ds) ≡ true
    → ((nat_le 48 d && nat_le d 57) ≡ true) × (all_ascii_digits ds ≡ true)
first_digit d ds h = both (nat_le 48 d && nat_le d 57) (all_ascii_digits ds) h

digits_end : (a b p q : List ℕ) → all_ascii_digits a ≡ true → all_ascii_digits b ≡ true → a ++ 32 ∷ p ≡ b ++ 32 ∷ q → a ≡ b
digits_end [] [] p q h k is = refl
digits_end [] (d ∷ b) p q h k is = let here : d ≡ 32 = cc in absurd (no_blank d (first_digit d b k).0 here)
digits_end (d ∷ a) [] p q h k is = let here : d ≡ 32 = cc in absurd (no_blank d (first_digit d a h).0 here)
digits_end (d ∷ a) (c ∷ b) p q h k is =
    let here : d ≡ c = cc in
    let behind : a ++ 32 ∷ p ≡ b ++ 32 ∷ q = cc in
    let rest = digits_end a b p q (first_digit d a h).1 (first_digit c b k).1 behind in
    ap (λ x. x ∷ a) here ∙ ap (λ xs. c ∷ xs) rest

-- ---- the line of a number

-- a line's lane is that of the line that stands there
pub lane_of-line : (script : Script) (number : ℕ) → lane_of script number ≡ option_map (λ (l : Line). l.lane) (line_at script number)
lane_of-line script number = by (number == 0)
  where
    by : (b : Bool) → cond b None (option_map (λ (l : Line). l.lane) (slice_get script.lines (number - 1)))
        ≡ option_map (λ (l : Line). l.lane) (cond b None (slice_get script.lines (number - 1)))
    by true = refl
    by false = refl

-- a line that has a lane is one of the script's
pub is_line : (script : Script) (number lane : ℕ) → lane_of script number ≡ Some lane → (0 < number) × (number ≤ length script.lines)
is_line script number lane is = by (number == 0) refl is
  where
    there : (found : Option Line) → slice_get script.lines (number - 1) ≡ found → option_map (λ (l : Line). l.lane) found ≡ Some lane
        → number - 1 < length script.lines
    there None at is = absurd (cc)
    there (Some line) at is = slice_get_within script.lines (number - 1) line at

    by : (b : Bool) → (number == 0) ≡ b → cond b None (option_map (λ (l : Line). l.lane) (slice_get script.lines (number - 1))) ≡ Some lane
        → (0 < number) × (number ≤ length script.lines)
    by true test is = absurd (cc)
    by false test is =
        let some : 0 < number = grind (arith, nat_tests) in
        let within = there (slice_get script.lines (number - 1)) refl is in
        (some, omega (arith, some, within))

-- ---- the start of an entry's text

-- what follows the number and the blank
abbrev pub behind_number : Script → Entry → List ℕ → List ℕ
behind_number script entry rest =
    (event_text script entry.event ++ codes " -> " ++ answer_text entry.answer ++ codes "\n") ++ rest

pub starts : (script : Script) (entry : Entry) (rest : List ℕ)
    → entry_text script entry ++ rest ≡ decimal entry.line ++ 32 ∷ behind_number script entry rest
starts script entry rest = simp append_assoc

-- two entries whose texts stand at one place are of one line
pub same_line : (script : Script) (e f : Entry) (m n : ℕ) (p q : List ℕ) → length script.lines ≤ LINE_LIMIT
    → lane_of script e.line ≡ Some m → lane_of script f.line ≡ Some n
    → entry_text script e ++ p ≡ entry_text script f ++ q → e.line ≡ f.line
same_line script e f m n p q few h k is =
    let small : e.line < 2 ^ 64 = let within = (is_line script e.line m h).1 in omega (arith, within, few) in
    let other : f.line < 2 ^ 64 = let within = (is_line script f.line n k).1 in omega (arith, within, few) in
    let both : decimal e.line ++ 32 ∷ behind_number script e p ≡ decimal f.line ++ 32 ∷ behind_number script f q
    = sym (starts script e p) ∙ is ∙ starts script f q in
    decimal_injective e.line f.line small other
    (digits_end (decimal e.line) (decimal f.line) (behind_number script e p) (behind_number script f q)
    (digits_decimal own e.line small) (digits_decimal own f.line other) both)

-- ---- the number, read

-- the first blank after digits
blank_behind : (ds rest : List ℕ) → all_ascii_digits ds ≡ true → position_or_len (λ b. b == 32) (ds ++ 32 ∷ rest) ≡ length ds
blank_behind [] rest h = refl
blank_behind (d ∷ ds) rest h =
    let parts = first_digit d ds h in
    let differ : d ≡ 32 → ⊥ = no_blank d parts.0 in
    let other : (d == 32) ≡ false = grind (arith, nat_tests) in
    let more = blank_behind ds rest parts.1 in
    rw (other, more) (omega arith)

numeral_of : (bs : List ℕ) → all_ascii_digits bs ≡ true → 48 < get_or bs 0 0 → is_numeral bs ≡ true
numeral_of [] h low = absurd (omega arith)
numeral_of (d ∷ ds) h low =
    let test : (d == 48) ≡ false = grind (arith, nat_tests) in
    rw test h

-- the number of a line is read as it is written
line_number_back : (n : ℕ) → 1 ≤ n → n ≤ LINE_LIMIT → line_number_of (decimal n) ≡ Some n
line_number_back n some few =
    let small : n < 2 ^ 64 = omega arith in
    let numeral = numeral_of (decimal n) (digits_decimal own n small) (first_decimal n (omega arith) small) in
    let short : nat_lt n (2 ^ 32) ≡ true = grind (arith, nat_tests) in
    let low : nat_le 1 n ≡ true = grind (arith, nat_tests) in
    let high : nat_le n LINE_LIMIT ≡ true = grind (arith, nat_tests) in
    rw (numeral, digits_value-decimal own n small, short, low, high) refl

-- where the number and a blank begin the bytes, its digits end at the first blank
pub number_end : (bytes : List ℕ) (n : ℕ) (rest : List ℕ) (found : Option ℕ) → n ≤ LINE_LIMIT → bytes ≡ decimal n ++ 32 ∷ rest
    → found ≡ cond (nat_lt (position_or_len (λ b. b == 32) bytes) (length bytes)) (Some (position_or_len (λ b. b == 32) bytes)) None
    → found ≡ Some (length (decimal n))
number_end bytes n rest found few is at =
    let place : position_or_len (λ b. b == 32) bytes ≡ length (decimal n)
    = ap (position_or_len (λ b. b == 32)) is ∙ blank_behind (decimal n) rest (digits_decimal own n (omega arith)) in
    let long : length bytes ≡ length (decimal n) + suc (length rest) = ap length is ∙ length-append (decimal n) (32 ∷ rest) in
    let within : nat_lt (length (decimal n)) (length bytes) ≡ true = grind (arith, nat_tests) in
    at ∙ rw (place, within) refl

-- and the bytes before it are read as the number
pub number_read : (bytes : List ℕ) (n : ℕ) (rest : List ℕ) (end : ℕ) → 1 ≤ n → n ≤ LINE_LIMIT → bytes ≡ decimal n ++ 32 ∷ rest
    → length (decimal n) ≡ end → line_number_of (take end bytes) ≡ Some n
number_read bytes n rest end some few is at =
    ap (λ bs. line_number_of (take end bs)) is
    ∙ ap line_number_of (take_at (decimal n) (32 ∷ rest) end at)
    ∙ line_number_back n some few

-- where an entry's text begins the bytes, the number that is read is its line's
pub line_read : (script : Script) (bytes : List ℕ) (entry : Entry) (rest : List ℕ) (lane : ℕ) (found : Option ℕ) → length script.lines ≤ LINE_LIMIT
    → lane_of script entry.line ≡ Some lane → bytes ≡ entry_text script entry ++ rest
    → ((number : ℕ) (behind : List ℕ) → 1 ≤ number → number ≤ LINE_LIMIT → bytes ≡ decimal number ++ 32 ∷ behind → found ≡ Some number)
    → found ≡ Some entry.line
line_read script bytes entry rest lane found few own is reads =
    let line = is_line script entry.line lane own in
    reads entry.line (behind_number script entry rest) (omega (arith, line)) (omega (arith, line, few)) (is ∙ starts script entry rest)

-- and the line that stands at this number has the entry's lane
pub lane_read : (script : Script) (number line lane : ℕ) (found : Option Line) → Some number ≡ Some line → lane_of script line ≡ Some lane
    → found ≡ line_at script number → option_map (λ (l : Line). l.lane) found ≡ Some lane
lane_read script number line lane found is own at =
    let same : number ≡ line = cc in
    ap (option_map (λ (l : Line). l.lane)) at ∙ sym (lane_of-line script number) ∙ ap (lane_of script) same ∙ own
