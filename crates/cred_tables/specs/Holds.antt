-- The holds, as values under labels.
use Rattle.std.specs.Prelude.{◌≡◌, ℕ, ◌==◌, List, map, position, remove, slice_get, Some}
use Rattle.std.specs.declared.option.Option.{Option}
use Rattle.cred_model.specs.State.{Hold}

-- a label with a number, as a hold
abbrev pub hold_as : ℕ × ℕ → Hold
hold_as entry = record { label = entry.0; number = entry.1 }

abbrev pub holds_of : List (ℕ × ℕ) → List Hold
holds_of entries = map hold_as entries

-- where a label stands among the holds
abbrev pub hold_place : List Hold → ℕ → Option ℕ
hold_place holds label = position (λ h. h.label == label) holds

-- The label dropped this number, and the other holds stay in their order.
pub record Releases (before after : List Hold) (label number : ℕ) : Type 0 where
  pub place : ℕ
  pub found : hold_place before label ≡ Some place
  pub held : slice_get before place ≡ Some (record { label = label; number = number })
  pub left : after ≡ remove before place
