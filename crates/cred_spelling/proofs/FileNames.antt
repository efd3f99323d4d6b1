-- The names of files are text.
use Rattle.std.proofs.Common.{◌≡◌, ℕ, ◌<◌, List, [], ◌∷◌, get_or, Bool, true, false, ◌&&◌, refl, arith}
use Rattle.std.specs.Str.{IsUtf8}
use Rattle.std.proofs.lemmas.List.Elements.{All-cons}
use Rattle.std.proofs.lemmas.List.Sums.{AllPass-from_list_all}
use Rattle.std.proofs.lemmas.Str.{IsUtf8-from_ascii}
use Rattle.std.proofs.lemmas.Str.Ascii.{IsAscii-from_all}
use Rattle.std.proofs.lemmas.Bool.Decides.{nat_tests}
use Rattle.cred_spelling.specs.Spellings.{is_letter, is_name_byte, is_name}

both : (a b : Bool) → (a && b) ≡ true → (a ≡ true) × (b ≡ true)
both true b h = (refl, h)
both false b h = absurd (cc)

letter_small : (byte : ℕ) → is_letter byte ≡ true → byte < 128
letter_small byte is = grind (arith, nat_tests)

name_byte_small : (byte : ℕ) → is_name_byte byte ≡ true → byte < 128
name_byte_small byte is = grind (arith, nat_tests)

name_is_text : (word : List ℕ) → is_name word ≡ true → IsUtf8 word
name_is_text [] is = absurd (cc)
name_is_text (first ∷ rest) is =
    let outer = both _ _ is in
    let parts = both (is_letter first) _ outer.0 in
    IsUtf8-from_ascii (first ∷ rest)
    (IsAscii-from_all (first ∷ rest)
    (All-cons (λ byte. byte < 128) first rest (letter_small first parts.0)
    (λ j d inside. name_byte_small (get_or rest j d) (AllPass-from_list_all is_name_byte rest parts.1 j d inside))))

by_test : (word : List ℕ) (test : Bool) → is_name word ≡ test → (IsUtf8 word → ⊥) → is_name word ≡ false
by_test word true is bad = absurd (bad (name_is_text word is))
by_test word false is bad = is

-- what is no text is no name
pub no_text : (word : List ℕ) → (IsUtf8 word → ⊥) → is_name word ≡ false
no_text word bad = by_test word (is_name word) refl bad
