-- Other words that were printed, read back.
use Rattle.std.proofs.Common.{◌≡◌, ℕ, ◌≤◌, ◌<◌, Bool, true, false, ◌||◌, ◌==◌, nat_le, Some, List, [], ◌∷◌, ◌++◌, length, Ok, codes, refl, decimal, arith}
use Rattle.std.specs.List.{list_all}
use Rattle.std.specs.Str.{bytes_eq, all_ascii_digits}
use Rattle.std.proofs.lemmas.Fmt.{decimal_nonempty}
use Rattle.std.proofs.lemmas.Bool.Decides.{nat_tests}
use Rattle.cred_ids.specs.Limits.{LAST_NAMESPACE}
use Rattle.cred_ids.specs.declared.arg.Arg.{Arg}
use Rattle.cred_ids.specs.declared.arg.Arg.TheVariants.{Keep, Set}
use Rattle.cred_caps.specs.Secure.{LAST_BITS}
use Rattle.cred_record.specs.declared.want.Want.{Want}
use Rattle.cred_model.specs.Script.{Script}
use Rattle.cred_spelling.specs.Spellings as spelling
use Rattle.cred_grammar.specs.Files.{file_at}
use Rattle.cred_report.specs.Numbers.{arg_text}
use Rattle.cred_report.specs.Questions.{file_text, want_text}
use Rattle.cred_reader.specs.Fits.{IsArg, IsWant, IsFile, IsNamespace, IsNumber}
use Rattle.cred_reader.specs.Kinds as kinds
use Rattle.cred_reader.proofs.Words.{is_inner, is_plain, both}
use Rattle.cred_reader.proofs.Numbers.{long_number, number_back, id_number, id_back, decimal_digits, decimal_plain}

-- an argument as a word
abbrev pub arg_word : Arg → List ℕ
arg_word Keep = 45 ∷ 49 ∷ []
arg_word (Set id) = decimal id

pub arg_plain : (arg : Arg) → IsArg arg → is_plain (arg_word arg) ≡ true
arg_plain Keep h = refl
arg_plain (Set id) h = decimal_plain id (long_number id (id_number id h))

-- an argument after a space
pub arg_spaced : (arg : Arg) → arg_text arg ≡ 32 ∷ arg_word arg
arg_spaced Keep = refl
arg_spaced (Set id) = refl

abbrev is_dash : List ℕ → Bool
is_dash word = bytes_eq word (codes "-1")

digits_no_dash : (bs : List ℕ) → all_ascii_digits bs ≡ true → 0 < length bs → is_dash bs ≡ false
digits_no_dash [] h some = absurd (omega arith)
digits_no_dash (b ∷ bs) h some =
    let parts = both _ (all_ascii_digits bs) h in
    let test : (b == 45) ≡ false = grind (arith, nat_tests) in
    rw test refl

id_arg : (bs : List ℕ) (id : ℕ) → is_dash bs ≡ false → spelling.id_of bs ≡ Some id → spelling.arg_of bs ≡ Some (Set id)
id_arg bs id other h = rw (other, h) refl

pub arg_back : (arg : Arg) → IsArg arg → spelling.arg_of (arg_word arg) ≡ Some arg
arg_back Keep h = refl
arg_back (Set id) h =
    let long = long_number id (id_number id h) in
    id_arg (decimal id) id (digits_no_dash (decimal id) (decimal_digits id long) (decimal_nonempty id long)) (id_back id h)

want_parts : (r w x : Bool) → (r || w || x) ≡ true
    → (spelling.want_of (want_text (record { r = r; w = w; x = x })) ≡ Some (record { r = r; w = w; x = x }))
    × (is_plain (want_text (record { r = r; w = w; x = x })) ≡ true)
unfolding spelling.wants
want_parts true true true h = (refl, refl)
want_parts true true false h = (refl, refl)
want_parts true false true h = (refl, refl)
want_parts true false false h = (refl, refl)
want_parts false true true h = (refl, refl)
want_parts false true false h = (refl, refl)
want_parts false false true h = (refl, refl)
want_parts false false false h = absurd (cc)

pub want_back : (want : Want) → IsWant want → spelling.want_of (want_text want) ≡ Some want
want_back want h = (want_parts want.r want.w want.x h).0

pub want_plain : (want : Want) → IsWant want → is_plain (want_text want) ≡ true
want_plain want h = (want_parts want.r want.w want.x h).1

letter_inner : (b : ℕ) → spelling.is_letter b ≡ true → is_inner b ≡ true
letter_inner b h = grind (arith, nat_tests)

letter_no_dash : (b : ℕ) → spelling.is_letter b ≡ true → (b == 45) ≡ false
letter_no_dash b h = grind (arith, nat_tests)

name_byte_inner : (b : ℕ) → spelling.is_name_byte b ≡ true → is_inner b ≡ true
name_byte_inner b h = grind (arith, nat_tests)

name_bytes_inner : (bs : List ℕ) → list_all spelling.is_name_byte bs ≡ true → list_all is_inner bs ≡ true
name_bytes_inner [] h = refl
name_bytes_inner (b ∷ bs) h =
    let parts = both (spelling.is_name_byte b) _ h in
    rw (name_byte_inner b parts.0, name_bytes_inner bs parts.1) refl

name_plain : (name : List ℕ) → spelling.is_name name ≡ true → is_plain name ≡ true
name_plain [] h = absurd (cc)
name_plain (b ∷ bs) h =
    let outer = both _ _ h in
    let parts = both (spelling.is_letter b) _ outer.0 in
    rw (letter_inner b parts.0, name_bytes_inner bs parts.1, letter_no_dash b parts.0) refl

pub file_plain : (script : Script) (place : ℕ) → IsFile script place → is_plain (file_text script place) ≡ true
file_plain script place h = name_plain (file_text script place) h.name

pub file_back : (script : Script) (place : ℕ) → IsFile script place → file_at script.files (file_text script place) ≡ Ok place
file_back script place h = rw (h.name, h.own) refl

pub ns_number : (ns : ℕ) → IsNamespace ns → IsNumber ns
ns_number ns h = omega arith

pub namespace_back : (ns : ℕ) → IsNamespace ns → spelling.namespace_of (codes "n" ++ decimal ns) ≡ Some ns
namespace_back ns h =
    let number : IsNumber ns = omega arith in
    let low : nat_le 0 ns ≡ true = grind (arith, nat_tests) in
    let high : nat_le ns LAST_NAMESPACE ≡ true = grind (arith, nat_tests) in
    rw (number_back ns number, low, high) refl

pub bits_back : (bits : ℕ) → bits ≤ LAST_BITS → kinds.bits_of (decimal bits) ≡ Some bits
bits_back bits h =
    let number : IsNumber bits = omega arith in
    let test : nat_le bits LAST_BITS ≡ true = grind (arith, nat_tests) in
    rw (number_back bits number, test) refl
