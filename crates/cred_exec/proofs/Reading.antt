-- The attribute that counts, by what `decode` answers.
use Rattle.std.proofs.Common.{◌≡◌, ℕ, List, Option, Some, None, Ok, Err, if◌then◌else◌, refl, sym, ap, ◌∙◌}
use Rattle.cred_rules.specs.Attribute.{Attribute, Spells, attribute_of, counts}
use Rattle.cred_rules.specs.Exec.{SpellsNothing, read_by}
use Rattle.cred_filecap.proofs.AttributeOf.{attribute_of_is_spelled}

-- bytes that spell an attribute
pub read_by-spelled :
    (chain bytes : List ℕ) (a : Attribute) (o : Option Attribute) → Spells bytes a
    → o ≡ (if counts a chain then Some a else None) → read_by chain (attribute_of bytes) ≡ Ok o
read_by-spelled chain bytes a o spells is =
    ap (read_by chain) ((attribute_of_is_spelled bytes a).1 spells) ∙ ap Ok (sym is)

-- bytes that spell none
not-spelled :
    (chain : List ℕ) (o : Option Attribute) → ((a : Attribute) → o ≡ Some a → ⊥)
    → read_by chain o ≡ Err SpellsNothing
not-spelled chain (Some a) none = absurd (none a refl)
not-spelled chain None none = refl

pub read_by-not_spelled :
    (chain bytes : List ℕ) → ((a : Attribute) → Spells bytes a → ⊥)
    → read_by chain (attribute_of bytes) ≡ Err SpellsNothing
read_by-not_spelled chain bytes none =
    not-spelled chain (attribute_of bytes) (λ a is. none a ((attribute_of_is_spelled bytes a).0 is))
