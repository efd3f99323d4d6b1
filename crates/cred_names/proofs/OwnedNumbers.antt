-- Which lane has a number, after a line that names it.
use Rattle.std.proofs.Common.{◌≡◌, ℕ, ◌==◌, ◌&&◌, Bool, true, false, cond, List, [], ◌∷◌, ◌++◌, Option, Some, None, is_some, nat_eq, refl, ap, ◌∙◌, arith}
use Rattle.std.specs.Option.{option_map_or}
use Rattle.std.specs.Map.{lookup}
use Rattle.std.proofs.lemmas.Bool.Decides.{nat_tests}
use Rattle.std.proofs.lemmas.List.Elements.{All-nil, All-cons}
use Rattle.cred_names.specs.Owners.{Owners, KeepsOwners, HasAll, owner_of, is_free, are_free, with_owner, with_owners}

both : (a b : Bool) → (a && b) ≡ true → (a ≡ true) × (b ≡ true)
both true b h = (refl, h)
both false b h = absurd (cc)

-- what is found is found with an entry more
found_on : (b : Bool) (one lane : ℕ) (rest more : Option ℕ) → (rest ≡ Some lane → more ≡ Some lane) → cond b (Some one) rest ≡ Some lane
    → cond b (Some one) more ≡ Some lane
found_on true one lane rest more later is = is
found_on false one lane rest more later is = later is

found_still : (test : ℕ → Bool) (es : Owners) (e : ℕ × ℕ) (lane : ℕ) → lookup test es ≡ Some lane → lookup test (es ++ e ∷ []) ≡ Some lane
found_still test [] e lane is = absurd (cc)
found_still test (d ∷ es) e lane is = found_on (test d.0) d.1 lane (lookup test es) _ (found_still test es e lane) is

-- and the entry more where nothing was
last_on : (b : Bool) (one lane : ℕ) (rest more : Option ℕ) → (rest ≡ None → more ≡ Some lane) → cond b (Some one) rest ≡ None
    → cond b (Some one) more ≡ Some lane
last_on true one lane rest more later none = absurd (cc)
last_on false one lane rest more later none = later none

found_last : (test : ℕ → Bool) (es : Owners) (e : ℕ × ℕ) → test e.0 ≡ true → lookup test es ≡ None → lookup test (es ++ e ∷ []) ≡ Some e.1
found_last test [] e passes none = rw passes refl
found_last test (d ∷ es) e passes none = last_on (test d.0) d.1 e.1 (lookup test es) _ (found_last test es e passes) none

pub keeps_added : (owners : Owners) (number lane : ℕ) → KeepsOwners owners (owners ++ (number, lane) ∷ [])
keeps_added owners number lane other owner is = found_still (nat_eq other) owners (number, lane) owner is

keeps_one : (owners : Owners) (lane number : ℕ) → KeepsOwners owners (with_owner owners lane number)
keeps_one owners lane number = by (is_some (owner_of owners number))
  where
    by : (b : Bool) → KeepsOwners owners (cond b owners (owners ++ (number, lane) ∷ []))
    by true = λ other owner is. is
    by false = keeps_added owners number lane

keeps_all : (numbers : List ℕ) (owners : Owners) (lane : ℕ) → KeepsOwners owners (with_owners owners lane numbers)
keeps_all [] owners lane other owner is = is
keeps_all (number ∷ numbers) owners lane other owner is =
    keeps_all numbers (with_owner owners lane number) lane other owner (keeps_one owners lane number other owner is)

-- a number that no other lane has is the lane's once it is named
has_one : (owners : Owners) (lane number : ℕ) → is_free owners lane number ≡ true → owner_of (with_owner owners lane number) number ≡ Some lane
has_one owners lane number free = by (owner_of owners number) refl free
  where
    by : (found : Option ℕ) → owner_of owners number ≡ found → option_map_or (λ owner. owner == lane) found true ≡ true
        → owner_of (cond (is_some found) owners (owners ++ (number, lane) ∷ [])) number ≡ Some lane
    by (Some owner) is own = let same : owner ≡ lane = grind (arith, nat_tests) in is ∙ ap (λ (n : ℕ). Some n) same
    by None is own = found_last (nat_eq number) owners (number, lane) (grind (arith, nat_tests)) is

-- where nothing was, the entry more is found or nothing
own_or_none : (b : Bool) (lane : ℕ) → option_map_or (λ owner. owner == lane) (cond b (Some lane) None) true ≡ true
own_or_none true lane = grind (arith, nat_tests)
own_or_none false lane = refl

free_on : (b : Bool) (one lane : ℕ) (rest more : Option ℕ) → (rest ≡ None → option_map_or (λ owner. owner == lane) more true ≡ true)
    → cond b (Some one) rest ≡ None
    → option_map_or (λ owner. owner == lane) (cond b (Some one) more) true ≡ true
free_on true one lane rest more later none = absurd (cc)
free_on false one lane rest more later none = later none

free_last : (owners : Owners) (lane number other : ℕ) → owner_of owners other ≡ None → is_free (owners ++ (number, lane) ∷ []) lane other ≡ true
free_last [] lane number other none = own_or_none (nat_eq other number) lane
free_last (d ∷ es) lane number other none = free_on (nat_eq other d.0) d.1 lane (owner_of es other) _ (free_last es lane number other) none

-- what is free stays so when a line of the lane names another number
free_still : (owners : Owners) (lane number other : ℕ) → is_free owners lane other ≡ true → is_free (with_owner owners lane number) lane other ≡ true
free_still owners lane number other free = by (owner_of owners other) refl free
  where
    added : (b : Bool) → owner_of owners other ≡ None → is_free (cond b owners (owners ++ (number, lane) ∷ [])) lane other ≡ true
    added true none = free
    added false none = free_last owners lane number other none

    by : (found : Option ℕ) → owner_of owners other ≡ found → option_map_or (λ owner. owner == lane) found true ≡ true
        → is_free (with_owner owners lane number) lane other ≡ true
    by (Some owner) is own = rw (keeps_one owners lane number other owner is) own
    by None is own = added (is_some (owner_of owners number)) is

all_free_still : (numbers : List ℕ) (owners : Owners) (lane number : ℕ) → are_free owners lane numbers ≡ true
    → are_free (with_owner owners lane number) lane numbers ≡ true
all_free_still [] owners lane number free = refl
all_free_still (other ∷ numbers) owners lane number free =
    let parts = both (is_free owners lane other) (are_free owners lane numbers) free in
    rw (free_still owners lane number other parts.0, all_free_still numbers owners lane number parts.1) refl

-- numbers that no other lane has are the lane's once they are named
pub has_all : (numbers : List ℕ) (owners : Owners) (lane : ℕ) → are_free owners lane numbers ≡ true → HasAll (with_owners owners lane numbers) lane numbers
has_all [] owners lane free = All-nil _
has_all (number ∷ numbers) owners lane free =
    let parts = both (is_free owners lane number) (are_free owners lane numbers) free in
    let after = with_owner owners lane number in
    All-cons (λ n. owner_of (with_owners after lane numbers) n ≡ Some lane) number numbers
    (keeps_all numbers after lane number lane (has_one owners lane number parts.0))
    (has_all numbers after lane (all_free_still numbers owners lane number parts.1))
