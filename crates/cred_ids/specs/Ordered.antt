-- A list of numbers put in order. It is a function, and not only 'sorted and a permutation', so
-- that a definition over a whole run can compute the new groups.
use Rattle.std.specs.Prelude.{ℕ, List, [], ◌∷◌, nat_le, if◌then◌else◌}

-- the list with n put before its first number that is not smaller
unfoldable pub placed : ℕ → List ℕ → List ℕ
placed n [] = n ∷ []
placed n (x ∷ xs) = if nat_le n x then n ∷ x ∷ xs else x ∷ placed n xs

-- the same numbers, each as often as before, none smaller than the one before it
unfoldable pub in_order : List ℕ → List ℕ
in_order [] = []
in_order (x ∷ xs) = placed x (in_order xs)
