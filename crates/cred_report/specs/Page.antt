-- What contracts see of a text that is written from its end to its start.
use Rattle.std.specs.Prelude.{ℕ, List}

-- the bytes of the text, and how many more fit before them
pub record Page : Type 0 where
  pub text : List ℕ
  pub room : ℕ
