-- The names of the capabilities are texts, and no two are one.
use Rattle.std.proofs.Common.{◌≡◌, ℕ, zero, suc, ◌<◌, Bool, true, false, not, ◌&&◌, nat_lt, Option, Some, None, List, [], ◌∷◌, length, get_or, slice_get}
use Rattle.std.proofs.Common.{Contains, refl, sym, subst, arith}
use Rattle.std.specs.List.{list_any, list_all, position_or_len}
use Rattle.std.specs.Str.{IsUtf8, bytes_eq}
use Rattle.std.proofs.lemmas.Option.{slice_get_within}
use Rattle.std.proofs.lemmas.List.Sums.{AllPass-from_list_all}
use Rattle.std.proofs.lemmas.List.Quantifiers.{position-Some}
use Rattle.std.proofs.lemmas.Slice.Eq.{bytes_eq-Decides}
use Rattle.std.proofs.lemmas.Str.{IsUtf8-from_ascii}
use Rattle.std.proofs.lemmas.Str.Ascii.{IsAscii-from_all}
use Rattle.std.proofs.lemmas.Bool.Decides.{nat_tests}
use Rattle.cred_caps.specs.Names.{cap_names}
use Rattle.cred_spelling.specs.Spellings.{cap_named}

-- no two of the words are one
abbrev differ : List (List ℕ) → Bool
differ [] = true
differ (x ∷ xs) = not (list_any (λ y. bytes_eq y x) xs) && differ xs

names_differ : differ cap_names ≡ true
unfolding cap_names
names_differ = refl

-- each byte is below 128
abbrev is_text : List ℕ → Bool
is_text word = list_all (λ byte. nat_lt byte 128) word

names_are_texts : list_all is_text cap_names ≡ true
unfolding cap_names
names_are_texts = refl

-- the parts of a test that holds
split : (a b : Bool) → (not a && b) ≡ true → (a ≡ false) × (b ≡ true)
split true b h = absurd (cc)
split false b h = (refl, h)

-- A word that stands nowhere in a list differs from each that does.
another : (x w : List ℕ) (xs : List (List ℕ)) (k : ℕ) → list_any (λ y. bytes_eq y x) xs ≡ false → slice_get xs k ≡ Some w → bytes_eq w x ≡ false
another x w [] k none h = absurd (cc)
another x w (y ∷ ys) zero none h = grind arith
another x w (y ∷ ys) (suc k) none h = grind (arith, another x w ys k)

-- A look-up finds a word where it stands.
place : (words : List (List ℕ)) (k : ℕ) (w : List ℕ) → differ words ≡ true → slice_get words k ≡ Some w → position_or_len (bytes_eq w) words ≡ k
place [] k w d h = absurd (cc)
place (x ∷ xs) zero w d h =
    let same : x ≡ w = cc in
    let test : bytes_eq w x ≡ true = (bytes_eq-Decides w x).1 (sym same) in
    rw test refl
place (x ∷ xs) (suc k) w d h =
    let parts = split _ _ d in
    let test : bytes_eq w x ≡ false = another x w xs k parts.0 h in
    let after : position_or_len (bytes_eq w) xs ≡ k = place xs k w parts.1 h in
    rw test (rw after (omega arith))

-- what the library finds by a name is what the definition says
pub named : (w : List ℕ) (k : ℕ) → slice_get cap_names k ≡ Some w → cap_named w ≡ Some k
named w k h =
    let test : nat_lt k (length cap_names) ≡ true = let inside = slice_get_within cap_names k w h in grind (arith, nat_tests) in
    rw (place cap_names k w names_differ h) (rw test refl)

-- what is no number is none
none_if : (o : Option ℕ) → ((k : ℕ) → o ≡ Some k → ⊥) → o ≡ None
none_if None never = refl
none_if (Some k) never = absurd (never k refl)

-- a name stands where the look-up finds it
name_at : (w : List ℕ) (k : ℕ) → cap_named w ≡ Some k → (k < length cap_names) × (get_or cap_names k w ≡ w)
name_at w k h =
    let at = position-Some (bytes_eq w) cap_names k w h in
    (at.0, sym ((bytes_eq-Decides w (get_or cap_names k w)).0 at.1))

-- a word that is no name has no number
pub unnamed : (w : List ℕ) → (Contains cap_names w → ⊥) → cap_named w ≡ None
unnamed w never = none_if (cap_named w) (λ k h. let at = name_at w k h in never (k, at.0, at.1))

-- nor has a word that is no text
pub no_text : (w : List ℕ) → (IsUtf8 w → ⊥) → cap_named w ≡ None
no_text w bad = none_if (cap_named w) (λ k h.
    let at = name_at w k h in
    let text : is_text w ≡ true = subst (λ (name : List ℕ). is_text name ≡ true) at.1 (AllPass-from_list_all is_text cap_names names_are_texts k w at.0) in
    let below = AllPass-from_list_all (λ byte. nat_lt byte 128) w text in
    bad (IsUtf8-from_ascii w (IsAscii-from_all w (λ j d inside. let test = below j d inside in grind (arith, nat_tests)))))
