-- What contracts see of a text that is written from its start to its end.
use Rattle.std.specs.Prelude.{ℕ, List}

-- the bytes of the text, and how many more fit after them
pub record Sheet : Type 0 where
  pub text : List ℕ
  pub room : ℕ
