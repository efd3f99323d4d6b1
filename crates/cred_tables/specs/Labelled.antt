-- Values under labels, the newest of which stands apart.
use Rattle.std.specs.Prelude.{◌≡◌, ℕ, List, ◌++◌, IfSome, None, nat_eq}
use Rattle.std.specs.declared.option.Option.{Option}
use Rattle.std.specs.List.{IsDistinct}
use Rattle.std.specs.Map.{keys_of, lookup}
use Rattle.std.specs.Option.{option_to_list}

-- the older labels with their values, and then the newest
abbrev pub with_newest : {X : Type 0} → List (ℕ × X) → Option (ℕ × X) → List (ℕ × X)
with_newest older newest = older ++ option_to_list newest

-- no older label is there twice, and the newest is none of them
abbrev pub IsOnce : {X : Type 0} → List (ℕ × X) → Option (ℕ × X) → Type 0
IsOnce older newest =
    IsDistinct nat_eq (keys_of older)
    × IfSome newest (λ entry. lookup (nat_eq entry.0) older ≡ None)
