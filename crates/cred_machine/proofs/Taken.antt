-- What was appended of the first elements of a list, with one element more, and of all.
use Rattle.std.proofs.Common.{◌≡◌, ℕ, ◌+◌, ◌<◌, List, [], ◌∷◌, ◌++◌, length, get_or, map, take, sym, ap, ◌∙◌, append_assoc}
use Rattle.std.specs.List.{flat_map}
use Rattle.std.proofs.lemmas.List.{flat_map_more, map-append, take_more}

module _ {X : Type 0} (xs : List X) (i : ℕ) (x : X) (within : i < length xs) (is : x ≡ get_or xs i x) where
  more : take (i + 1) xs ≡ take i xs ++ x ∷ []
  more = take_more xs i x within ∙ ap (λ y. take i xs ++ y ∷ []) (sym is)

  pub more_one : {Y : Type 0} (f : X → Y) (out before now : List Y) → now ≡ before ++ f x ∷ []
      → before ≡ out ++ map f (take i xs) → now ≡ out ++ map f (take (i + 1) xs)
  more_one f out before now is' known =
      is' ∙ ap (λ ys. ys ++ f x ∷ []) known ∙ append_assoc out (map f (take i xs)) (f x ∷ [])
      ∙ ap (λ ys. out ++ ys) (sym (map-append f (take i xs) (x ∷ []))) ∙ ap (λ ys. out ++ map f ys) (sym more)

  pub more_each : {Y : Type 0} (f : X → List Y) (out before now : List Y) → now ≡ before ++ f x
      → before ≡ out ++ flat_map f (take i xs) → now ≡ out ++ flat_map f (take (i + 1) xs)
  more_each f out before now is' known =
      is' ∙ ap (λ ys. ys ++ f x) known ∙ flat_map_more f out (take i xs) x ∙ ap (λ ys. out ++ flat_map f ys) (sym more)
