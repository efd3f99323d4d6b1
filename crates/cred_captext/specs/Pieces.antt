-- The pieces of a text, as they are written one after another.
use Rattle.std.specs.Prelude.{ℕ, Bool, true, false, List, [], ◌∷◌, ◌++◌, codes}
use Rattle.std.specs.List.{flat_map}
use Rattle.cred_caps.specs.Caps.{Caps}
use Rattle.cred_captext.specs.Names.{lowercase_name}
use Rattle.cred_captext.specs.Printed.{cap_numbers}

-- names with a comma between two
abbrev pub comma_names : List ℕ → List ℕ
comma_names [] = []
comma_names (n ∷ ns) = lowercase_name n ++ flat_map (λ m. codes "," ++ lowercase_name m) ns

-- the names of the capabilities of a set
abbrev pub names_text : Caps → List ℕ
names_text set = comma_names (cap_numbers set)

-- a space after what stands there
abbrev pub spaced : List ℕ → List ℕ
spaced [] = []
spaced (byte ∷ bytes) = (byte ∷ bytes) ++ codes " "

-- there is one
abbrev pub are_some : List ℕ → Bool
are_some [] = false
are_some (n ∷ ns) = true

-- a comma, where a name stands before
abbrev pub comma_text : Bool → List ℕ
comma_text true = codes ","
comma_text false = []

-- `=` and letters, and `e` before them where the flag is set
abbrev pub action_with : Bool → List ℕ → List ℕ
action_with true letters = codes "=e" ++ letters
action_with false letters = codes "=" ++ letters

-- a text and the clause of these capabilities after it, if there are any
abbrev pub clause_with : List ℕ → List ℕ → Bool → List ℕ → List ℕ
clause_with before [] effective letters = before
clause_with before (n ∷ ns) effective letters =
    (spaced before ++ comma_names (n ∷ ns)) ++ action_with effective letters

-- a text and the clause of a set after it, if the set has one
abbrev pub with_clause : List ℕ → Caps → Bool → List ℕ → List ℕ
with_clause before set effective letters = clause_with before (cap_numbers set) effective letters

-- `=` where nothing stands there
abbrev pub or_none : List ℕ → List ℕ
or_none [] = codes "="
or_none (byte ∷ bytes) = byte ∷ bytes
