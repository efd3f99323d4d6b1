-- Lists of what is lent: what is in one, and one without one of its elements.
use Rattle.std.specs.Prelude.{◌≡◌, ◌⊎◌, List, [], ◌∷◌, ◌++◌}

-- x is in the list
abbrev pub Has : {A : Type 0} → List A → A → Type 0
Has [] x = ⊥
Has (e ∷ es) x = (e ≡ x) ⊎ Has es x

-- the new list is the old one less one x
abbrev pub IsTaken : {A : Type 0} → List A → A → List A → Type 0
IsTaken {A} old x new =
    (before : List A) × (after : List A) × (old ≡ before ++ x ∷ after) × (new ≡ before ++ after)
