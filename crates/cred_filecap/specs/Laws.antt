-- Laws of the capability attribute of a file (capabilities(7), "File capabilities").
use Rattle.std.specs.Prelude.{◌≡◌, ◌↔◌, ℕ, false, List, All, Some}
use Rattle.cred_ids.specs.Id.{NO_ID, IsId}
use Rattle.cred_rules.specs.Attribute.{Attribute, Spells, attribute_of, counts}

-- no bytes spell two attributes
abbrev pub NoBytesSpellTwo : Type 0
NoBytesSpellTwo = (bytes : List ℕ) (a b : Attribute) → Spells bytes a → Spells bytes b → a ≡ b

-- a version 3 attribute whose root id is the number that is no id counts for no task
abbrev pub NoIdCountsNowhere : Type 0
NoIdCountsNowhere =
    (a : Attribute) (chain : List ℕ) → All IsId chain → a.version ≡ 3 → a.root ≡ NO_ID
    → counts a chain ≡ false

-- `attribute_of` gives an attribute exactly where the bytes spell it
abbrev pub AttributeOfIsSpelled : Type 0
AttributeOfIsSpelled =
    (bytes : List ℕ) (a : Attribute) → (attribute_of bytes ≡ Some a) ↔ Spells bytes a
