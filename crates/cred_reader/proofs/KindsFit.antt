-- What the words of each kind spell fits.
use Rattle.std.proofs.Common.{◌≡◌, ℕ, ◌^◌, ◌<◌, ◌≤◌, Bool, true, false, ◌==◌, nat_lt, nat_le, cond, Option, Some, None, All, List, [], ◌∷◌, refl, arith}
use Rattle.std.specs.Option.{option_and_then, option_map}
use Rattle.std.specs.Str.{bytes_eq}
use Rattle.std.specs.Str.Parse.{digits_value}
use Rattle.std.proofs.lemmas.List.Elements.{All-cons}
use Rattle.std.proofs.lemmas.Bool.Decides.{nat_tests}
use Rattle.cred_ids.specs.Limits.{LAST_NAMESPACE}
use Rattle.cred_ids.specs.declared.arg.Arg.TheVariants.{Keep, Set}
use Rattle.cred_ids.specs.Id.{IsId}
use Rattle.cred_caps.specs.Caps.{IsCaps}
use Rattle.cred_caps.specs.Secure.{LAST_BITS}
use Rattle.cred_spelling.specs.Spellings as spelling
use Rattle.cred_spelling.specs.Table.{named}
use Rattle.cred_spelling.specs.Words.{word_of}
use Rattle.cred_grammar.specs.IdCalls.{ids}
use Rattle.cred_reader.specs.Fits.{IsNumber, IsLong, IsArg, IsNamespace, IsWant}
use Rattle.cred_reader.specs.Kinds as kinds
use Rattle.cred_reader.proofs.Spelled.{Holds, HoldsSome, OfAll, then_holds, word_holds}
use Rattle.cred_reader.proofs.Words.{both}

pub if_holds : {A : Type 0} (P : A → Type 0) (t : Bool) (v : A) → (t ≡ true → P v) → HoldsSome P (cond t (Some v) None)
if_holds P true v h = h refl
if_holds P false v h = tt

pub then_some : {A B : Type 0} (P : A → Type 0) (Q : B → Type 0) (o : Option A) (f : A → Option B) → HoldsSome P o → ((x : A) → P x → HoldsSome Q (f x))
    → HoldsSome Q (option_and_then f o)
then_some P Q (Some x) f h next = next x h
then_some P Q None f h next = tt

pub map_some : {A B : Type 0} (P : A → Type 0) (Q : B → Type 0) (o : Option A) (f : A → B) → HoldsSome P o → ((x : A) → P x → Q (f x))
    → HoldsSome Q (option_map f o)
map_some P Q (Some x) f h next = next x h
map_some P Q None f h next = tt

pub either_holds : {A : Type 0} (P : A → Type 0) (t : Bool) (a b : Option A) → HoldsSome P a → HoldsSome P b → HoldsSome P (cond t a b)
either_holds P true a b ha hb = ha
either_holds P false a b ha hb = hb

below : (v bound : ℕ) → nat_lt v bound ≡ true → v < bound
below v bound h = grind (arith, nat_tests)

up_to : (v most : ℕ) → nat_le v most ≡ true → v ≤ most
up_to v most h = grind (arith, nat_tests)

pub number_fits : OfAll IsNumber spelling.number_of
number_fits word = if_holds IsNumber _ (digits_value 10 word) (λ t. below _ (2 ^ 32) (both (spelling.is_numeral word) _ t).1)

pub long_fits : OfAll IsLong spelling.long_of
long_fits word = if_holds IsLong _ (digits_value 10 word) (λ t. below _ (2 ^ 64) (both (spelling.is_numeral word) _ t).1)

no_id : (number : ℕ) → IsNumber number → (number == 4294967295) ≡ false → IsId number
no_id number h test = grind (arith, nat_tests)

id_fits_at : (t : Bool) (number : ℕ) → (number == 4294967295) ≡ t → IsNumber number → HoldsSome IsId (cond t None (Some number))
id_fits_at true number e h = tt
id_fits_at false number e h = no_id number h e

pub id_fits : OfAll IsId spelling.id_of
id_fits word = then_some IsNumber IsId (spelling.number_of word) _ (number_fits word) (λ number h. id_fits_at (number == 4294967295) number refl h)

pub arg_fits : OfAll IsArg spelling.arg_of
arg_fits word = either_holds IsArg _ (Some Keep) _ tt (map_some IsId IsArg (spelling.id_of word) Set (id_fits word) (λ id h. h))

pub set_fits : OfAll IsCaps spelling.set_of
set_fits word =
    either_holds IsCaps _ _ None
    (then_some (λ bits. Unit {0}) IsCaps (spelling.hexadecimal_number word) spelling.set_with (any_some (spelling.hexadecimal_number word))
    (λ bits h. if_holds IsCaps _ bits (λ t. below _ (2 ^ 41) t)))
    tt
  where
    any_some : (o : Option ℕ) → HoldsSome (λ bits. Unit {0}) o
    any_some (Some x) = tt
    any_some None = tt

pub number_after_fits : (P : ℕ → Type 0) (letter : ℕ) (spelled : List ℕ → Option ℕ) → OfAll P spelled → OfAll P (kinds.number_after letter spelled)
number_after_fits P letter spelled all [] = tt
number_after_fits P letter spelled all (first ∷ digits) = either_holds P (first == letter) _ None (all digits) tt

pub task_fits : OfAll IsNumber kinds.task_word
task_fits word = number_after_fits IsNumber 116 spelling.number_of number_fits word

pub process_fits : OfAll IsNumber kinds.process_word
process_fits word = number_after_fits IsNumber 112 spelling.number_of number_fits word

pub label_fits : OfAll IsNumber kinds.label_word
label_fits word = number_after_fits IsNumber 104 spelling.number_of number_fits word

pub fd_fits : OfAll IsNumber kinds.fd_of
fd_fits word = number_after_fits IsNumber 102 spelling.number_of number_fits word

pub slot_fits : OfAll IsNumber kinds.slot_word
slot_fits word = number_after_fits IsNumber 115 spelling.number_of number_fits word

pub cred_fits : OfAll IsLong kinds.cred_of
cred_fits word = number_after_fits IsLong 99 spelling.long_of long_fits word

within_fits : OfAll IsNamespace (spelling.number_within 0 LAST_NAMESPACE)
within_fits word =
    then_some IsNumber IsNamespace (spelling.number_of word) (spelling.within 0 LAST_NAMESPACE) (number_fits word)
    (λ number h. if_holds IsNamespace _ number (λ t. up_to _ LAST_NAMESPACE (both (nat_le 0 number) _ t).1))

pub namespace_fits : OfAll IsNamespace spelling.namespace_of
namespace_fits [] = tt
namespace_fits (first ∷ digits) = either_holds IsNamespace (first == 110) _ None (within_fits digits) tt

pub bits_fits : OfAll (λ bits. bits ≤ LAST_BITS) kinds.bits_of
bits_fits word =
    then_some IsNumber (λ bits. bits ≤ LAST_BITS) (spelling.number_of word) _ (number_fits word)
    (λ number h. if_holds (λ bits. bits ≤ LAST_BITS) _ number (up_to number LAST_BITS))

-- it holds of each value of a table
abbrev pub RowsHold : {A : Type 0} → (A → Type 0) → List (List ℕ × A) → Type 0
RowsHold P [] = Unit {0}
RowsHold P (row ∷ rows) = P row.1 × RowsHold P rows

pub named_fits : {A : Type 0} (P : A → Type 0) (rows : List (List ℕ × A)) → RowsHold P rows → OfAll P (named rows)
named_fits P [] h word = tt
named_fits P (row ∷ rows) h word = either_holds P (bytes_eq word row.0) (Some row.1) _ h.0 (named_fits P rows h.1 word)

wants_hold : RowsHold IsWant spelling.wants
unfolding spelling.wants
wants_hold = (refl, (refl, (refl, (refl, (refl, (refl, (refl, tt)))))))

pub want_fits : OfAll IsWant spelling.want_of
want_fits word = named_fits IsWant spelling.wants wants_hold word

pub flag_fits : OfAll (λ flag. Unit {0}) kinds.flag_of
flag_fits word = any_some (kinds.flag_of word)
  where
    any_some : (o : Option Bool) → HoldsSome (λ flag. Unit {0}) o
    any_some (Some x) = tt
    any_some None = tt

no_ids : All IsId []
no_ids k d inside = absurd (omega arith)

pub ids_fit : (words : List (List ℕ)) → Holds (All IsId) (ids words)
ids_fit [] = no_ids
ids_fit (word ∷ words) =
    then_holds IsId (All IsId) (word_of spelling.id_of word) _ (word_holds IsId spelling.id_of id_fits word) (λ id h.
    then_holds (All IsId) (All IsId) (ids words) _ (ids_fit words) (λ more hs. All-cons IsId id more h hs))
