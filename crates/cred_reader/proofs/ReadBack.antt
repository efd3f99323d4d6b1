-- What it is that a text is read back.
use Rattle.std.proofs.Common.{◌≡◌, ℕ, true, List, [], ◌∷◌, ◌++◌, All, Result, Ok, refl}
use Rattle.std.specs.List.{list_all}
use Rattle.std.proofs.lemmas.List.{append-nil}
use Rattle.std.proofs.lemmas.List.Elements.{All-head}
use Rattle.cred_spelling.specs.declared.reason.Reason.{Reason}
use Rattle.cred_reader.proofs.Words.{is_plain, spaced}

-- The text is these words, joined by spaces, and they are read as the value.
pub record IsBack {A : Type 0} (text : List ℕ) (reads : List ℕ → List (List ℕ) → Result A Reason)
    (value : A) : Type 0 where
  pub first : List ℕ
  pub rest : List (List ℕ)
  pub spaced : 32 ∷ text ≡ spaced (first ∷ rest)
  pub plain : list_all is_plain (first ∷ rest) ≡ true
  pub read : reads first rest ≡ Ok value

-- a word alone
pub bare : {A : Type 0} {reads : List ℕ → List (List ℕ) → Result A Reason} {value : A} (name : List ℕ)
    → is_plain name ≡ true → reads name [] ≡ Ok value → IsBack name reads value
bare name is read = record { first = name; rest = []; spaced = rw append-nil refl; plain = rw is refl; read = read }

-- a word, and one after it
pub with_word : {A : Type 0} {reads : List ℕ → List (List ℕ) → Result A Reason} {value : A} (name a : List ℕ)
    → is_plain name ≡ true → is_plain a ≡ true → reads name (a ∷ []) ≡ Ok value → IsBack (name ++ 32 ∷ a) reads value
with_word name a is own read = record {
  first = name;
  rest = a ∷ [];
  spaced = rw append-nil refl;
  plain = rw (is, own) refl;
  read = read;
}

-- a word, and two after it
pub with_two : {A : Type 0} {text : List ℕ} {reads : List ℕ → List (List ℕ) → Result A Reason} {value : A} (name a b : List ℕ)
    → 32 ∷ text ≡ spaced (name ∷ a ∷ b ∷ []) → is_plain name ≡ true → is_plain a ≡ true → is_plain b ≡ true
    → reads name (a ∷ b ∷ []) ≡ Ok value → IsBack text reads value
with_two name a b parts is first second read = record {
  first = name;
  rest = a ∷ b ∷ [];
  spaced = parts;
  plain = rw (is, first, second) refl;
  read = read;
}

-- a word, and three after it
pub with_three : {A : Type 0} {text : List ℕ} {reads : List ℕ → List (List ℕ) → Result A Reason} {value : A} (name a b c : List ℕ)
    → 32 ∷ text ≡ spaced (name ∷ a ∷ b ∷ c ∷ []) → is_plain name ≡ true → is_plain a ≡ true → is_plain b ≡ true → is_plain c ≡ true
    → reads name (a ∷ b ∷ c ∷ []) ≡ Ok value → IsBack text reads value
with_three name a b c parts is first second third read = record {
  first = name;
  rest = a ∷ b ∷ c ∷ [];
  spaced = parts;
  plain = rw (is, first, second, third) refl;
  read = read;
}

-- what holds of the only one
pub alone : {A : Type 0} (P : A → Type 0) (x : A) → All P (x ∷ []) → P x
alone P x h = All-head P x [] h
