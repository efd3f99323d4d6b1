-- Those of the first elements of a list that pass a test, with one element more.
use Rattle.std.proofs.Common.{◌≡◌, ℕ, ◌+◌, ◌<◌, Bool, true, false, cond, List, [], ◌∷◌, ◌++◌, length, get_or, map, take, sym, ap, ◌∙◌, append_assoc, append-nil}
use Rattle.std.specs.List.{filter, flat_map}
use Rattle.std.proofs.lemmas.List.{flat_map_more, map-append}
use Rattle.std.proofs.lemmas.List.Elements.{filter_more}

module _ {X : Type 0} (p : X → Bool) (xs : List X) (i : ℕ) (x : X) (within : i < length xs) (is : x ≡ get_or xs i x) where
  by_test : (passes : Bool) → p x ≡ passes → filter p (take (i + 1) xs) ≡ filter p (take i xs) ++ cond passes (x ∷ []) []
  by_test passes test =
      filter_more p xs i x within
      ∙ ap (λ y. filter p (take i xs) ++ cond (p y) (y ∷ []) []) (sym is)
      ∙ ap (λ b. filter p (take i xs) ++ cond b (x ∷ []) []) test

  pub fails : p x ≡ false → filter p (take (i + 1) xs) ≡ filter p (take i xs)
  fails test = by_test false test ∙ append-nil (filter p (take i xs))

  -- what was appended of each that passes
  pub more_each : {Y : Type 0} (f : X → List Y) (out before now : List Y) → p x ≡ true → now ≡ before ++ f x
      → before ≡ out ++ flat_map f (filter p (take i xs)) → now ≡ out ++ flat_map f (filter p (take (i + 1) xs))
  more_each f out before now test is' known =
      is' ∙ ap (λ ys. ys ++ f x) known ∙ flat_map_more f out (filter p (take i xs)) x
      ∙ ap (λ ys. out ++ flat_map f ys) (sym (by_test true test))

  pub more_one : {Y : Type 0} (f : X → Y) (out before now : List Y) → p x ≡ true → now ≡ before ++ f x ∷ []
      → before ≡ out ++ map f (filter p (take i xs)) → now ≡ out ++ map f (filter p (take (i + 1) xs))
  more_one f out before now test is' known =
      is' ∙ ap (λ ys. ys ++ f x ∷ []) known ∙ append_assoc out (map f (filter p (take i xs))) (f x ∷ [])
      ∙ ap (λ ys. out ++ ys) (sym (map-append f (filter p (take i xs)) (x ∷ []))) ∙ ap (λ ys. out ++ map f ys) (sym (by_test true test))
