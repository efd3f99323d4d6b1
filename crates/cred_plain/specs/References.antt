-- What refers to credentials by their numbers.
use Rattle.std.specs.Prelude.{◌≡◌, ℕ, ◌≤◌, ◌==◌, ◌||◌, Bool, true, List}
use Rattle.std.specs.List.{list_any}
use Rattle.cred_plain.specs.declared.references.References.{References}

-- the number is one of these
abbrev pub is_among : List ℕ → ℕ → Bool
is_among numbers n = list_any (λ m. m == n) numbers

-- a task refers to the number, by its current credential or by an override
abbrev pub is_used : References → ℕ → Bool
is_used r n =
    list_any (λ t. t.current == n) r.tasks.now
    || list_any (λ t. is_among t.overrides n) r.tasks.now

-- No task refers to a number below this one.
abbrev pub UsesNoneBelow : References → ℕ → Type 0
UsesNoneBelow r least = (n : ℕ) → is_used r n ≡ true → least ≤ n

-- an open file, a hold or a prepared label refers to it
abbrev pub is_named : References → ℕ → Bool
is_named r n =
    list_any (λ f. f.opener == n) r.files.now
    || (list_any (λ h. h.number == n) r.holds.now
    || list_any (λ p. p.base == n) r.prepared.now)

-- Something refers to the number, or did until it was given up, and there was no sweep since.
abbrev pub refer_to : References → ℕ → Bool
refer_to r n = is_used r n || (is_named r n || is_among r.deferred.now n)
