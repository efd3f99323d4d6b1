-- Tables of words.
use Rattle.std.specs.Prelude.{ℕ, List, [], ◌∷◌, map, Some, None, if◌then◌else◌}
use Rattle.std.specs.declared.option.Option.{Option}
use Rattle.std.specs.Borrow.{Bor}
use Rattle.std.specs.Str.{bytes_eq}

-- what a word names in a table
abbrev pub named : {A : Type 0} → List (List ℕ × A) → List ℕ → Option A
named [] word = None
named (row ∷ rows) word = if bytes_eq word row.0 then Some row.1 else named rows word

-- the rows as values, where their words are borrowed
abbrev pub rows : {A : Type 0} → List (Bor (List ℕ) × A) → List (List ℕ × A)
rows table = map (λ row. (row.0.now, row.1)) table
