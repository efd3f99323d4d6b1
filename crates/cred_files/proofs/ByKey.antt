-- A map from numbers, as the list of things that have its keys: what is found among them, where it
-- stands, and what is left when one is taken away.
use Rattle.std.proofs.Common.{◌≡◌, ℕ, ◌==◌, ◌+◌, Bool, true, false, not, cond, nat_lt, List, [], ◌∷◌, ◌++◌, map, find, position, remove, slice_get, Option}
use Rattle.std.proofs.Common.{None, Some, is_some, nat_eq, refl, sym, ap, ◌∙◌, arith}
use Rattle.std.specs.List.{position_or_len}
use Rattle.std.specs.Map.{keys_of, lookup, remove_entry}
use Rattle.std.specs.Option.{option_map}
use Rattle.std.proofs.lemmas.Bool.{eqb-true}
use Rattle.std.proofs.lemmas.Bool.Decides.{nat_tests}
use Rattle.std.proofs.lemmas.List.{length-map, map-append}
use Rattle.std.proofs.lemmas.List.Folds.{find_at}
use Rattle.indexmap.proofs.MapLemmas.{Found-position, Missing-position, remove_entry-first, some_index}
use Rattle.indexmap.proofs.SetLemmas.{map-remove}

test_sym : (a b : ℕ) → nat_eq a b ≡ nat_eq b a
test_sym a b = grind (arith, nat_tests)

none_is : {X : Type 0} (o : Option X) → is_some o ≡ false → o ≡ None
none_is None none = refl
none_is (Some x) none = cc

-- Elements that pass a test stand where their images that pass the other stand.
module _ {X Z : Type 0} (p : X → Bool) (q : Z → Bool) (f : X → Z) (same : (x : X) → p x ≡ q (f x)) where
  position_or_len-map : (xs : List X) → position_or_len p xs ≡ position_or_len q (map f xs)
  position_or_len-map [] = refl
  position_or_len-map (x ∷ xs) = λ i. cond (not (same x i)) (1 + position_or_len-map xs i) 0

  position-map : (xs : List X) → position p xs ≡ position q (map f xs)
  position-map xs = λ i. cond (nat_lt (position_or_len-map xs i) (sym (length-map xs f) i)) (Some (position_or_len-map xs i)) None

-- `of` is the thing that a key and a value make, and `key_of` its key
module _ {X Y : Type 0} (of : ℕ → X → Y) (key_of : Y → ℕ) (own : (key : ℕ) (x : X) → key_of (of key x) ≡ key) where
  abbrev things : List (ℕ × X) → List Y
  things es = map (λ e. of e.0 e.1) es

  pub keys-things : (es : List (ℕ × X)) → map key_of (things es) ≡ keys_of es
  keys-things [] = refl
  keys-things (e ∷ es) = λ i. own e.0 e.1 i ∷ keys-things es i

  -- a new key goes last
  pub added : (key : ℕ) (x : X) (es after : List (ℕ × X)) → after ≡ es ++ (key, x) ∷ [] → things after ≡ things es ++ of key x ∷ []
  added key x es after is = ap things is ∙ map-append (λ (e : ℕ × X). of e.0 e.1) es ((key, x) ∷ [])

  module _ (key : ℕ) where
    test_own : (e : ℕ × X) → (key_of (of e.0 e.1) == key) ≡ nat_eq key e.0
    test_own e = ap (λ (k : ℕ). k == key) (own e.0 e.1) ∙ test_sym e.0 key

    found_at : (e : ℕ × X) (rest : Option X) (others : Option Y) (test : Bool) → nat_eq key e.0 ≡ test → others ≡ option_map (of key) rest
        → cond test (Some (of e.0 e.1)) others ≡ option_map (of key) (cond test (Some e.1) rest)
    found_at e rest others true is same = ap (λ (k : ℕ). Some (of k e.1)) (sym (eqb-true key e.0 is))
    found_at e rest others false is same = same

    -- what is found among the things is what the map has
    pub find-things : (es : List (ℕ × X)) → find (λ y. key_of y == key) (things es) ≡ option_map (of key) (lookup (nat_eq key) es)
    find-things [] = refl
    find-things (e ∷ es) =
        ap (λ (b : Bool). cond b (Some (of e.0 e.1)) (find (λ y. key_of y == key) (things es))) (test_own e)
        ∙ found_at e (lookup (nat_eq key) es) _ (nat_eq key e.0) refl (find-things es)

    absent_from : (found : Option X) → option_map (of key) found ≡ None → found ≡ None
    absent_from None none = refl
    absent_from (Some x) none = cc

    pub not_there : (es : List (ℕ × X)) → find (λ y. key_of y == key) (things es) ≡ None → lookup (nat_eq key) es ≡ None
    not_there es none = absent_from (lookup (nat_eq key) es) (sym (find-things es) ∙ none)

    place_or_len : (es : List (ℕ × X)) → position_or_len (λ y. key_of y == key) (things es) ≡ position_or_len (nat_eq key) (keys_of es)
    place_or_len es =
        sym (position_or_len-map (λ (e : ℕ × X). nat_eq key e.0) (λ y. key_of y == key) (λ e. of e.0 e.1) (λ e. sym (test_own e)) es)
        ∙ position_or_len-map (λ (e : ℕ × X). nat_eq key e.0) (nat_eq key) (λ e. e.0) (λ e. refl) es

    place-things : (es : List (ℕ × X)) → position (λ y. key_of y == key) (things es) ≡ position (nat_eq key) (keys_of es)
    place-things es =
        sym (position-map (λ (e : ℕ × X). nat_eq key e.0) (λ y. key_of y == key) (λ e. of e.0 e.1) (λ e. sym (test_own e)) es)
        ∙ position-map (λ (e : ℕ × X). nat_eq key e.0) (nat_eq key) (λ e. e.0) (λ e. refl) es

    pub no_place : (es : List (ℕ × X)) → lookup (nat_eq key) es ≡ None → position (λ y. key_of y == key) (things es) ≡ None
    no_place es none = place-things es ∙ none_is _ (some_index (nat_eq key) es ∙ ap is_some none)

    -- The key was taken away with its value, and the others stay in their order.
    pub record Takes (before after : List Y) (x : X) : Type 0 where
      pub place : ℕ
      pub found : position (λ y. key_of y == key) before ≡ Some place
      pub there : slice_get before place ≡ Some (of key x)
      pub left : after ≡ remove before place

    pub taken : (x : X) (es after : List (ℕ × X)) → lookup (nat_eq key) es ≡ Some x → after ≡ remove_entry (nat_eq key) es
        → Takes (things es) (things after) x
    taken x es after was is = by (position (nat_eq key) (keys_of es)) refl
      where
        by : (place : Option ℕ) → position (nat_eq key) (keys_of es) ≡ place → Takes (things es) (things after) x
        by None none = let gone = (Missing-position (nat_eq key) es none).value in cc
        by (Some i) at =
            let here = Found-position (nat_eq key) es i at in
            record {
              place = i;
              found = place-things es ∙ at;
              there =
                  ap (slice_get (things es)) (sym (place_or_len es ∙ here.or_len))
                  ∙ sym (find_at (λ y. key_of y == key) (things es))
                  ∙ find-things es ∙ ap (option_map (of key)) was;
              left = ap things (is ∙ remove_entry-first (nat_eq key) es i here.first) ∙ map-remove (λ (e : ℕ × X). of e.0 e.1) es i;
            }
