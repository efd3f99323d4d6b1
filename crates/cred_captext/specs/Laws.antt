-- A law of texts: what one says of a file is one attribute.
use Rattle.std.specs.Prelude.{◌≡◌, ℕ, List}
use Rattle.cred_rules.specs.Attribute.{Attribute}
use Rattle.cred_captext.specs.Reading.{TextSays}

-- no text says two things of a file
abbrev pub NoTextSaysTwo : Type 0
NoTextSaysTwo = (bytes : List ℕ) (a b : Attribute) → TextSays bytes a → TextSays bytes b → a ≡ b
