-- The sealed credentials, by those that are stored.
use Rattle.std.proofs.Common.{◌≡◌, ◌≢◌, All, ℕ, zero, suc, ◌+◌, ◌<◌, ◌≤◌, ◌==◌, Bool, true, false, List, [], ◌∷◌, ◌++◌, length, find, slice_get, Option, Some}
use Rattle.std.proofs.Common.{None, cond, refl, sym, ap, ◌∙◌, subst, arith, get_or}
use Rattle.std.specs.List.{filter}
use Rattle.std.specs.Option.{IfSome, option_map, option_map_or}
use Rattle.std.proofs.lemmas.Bool.Decides.{nat_tests}
use Rattle.cred_record.specs.Credential.{Credential}
use Rattle.cred_model.specs.State.{SealedCred, numbered}
use Rattle.cred_plain.specs.Creds.{IsStored, StoredCred, gone, sealed_at, sealed_from, sealed_of, slots_of, under}
use Rattle.cred_plain.proofs.Rising.{tests_below, tests_same}

-- the first that is found is kept where all that could be found are
find_kept : {X : Type 0} (p q : X → Bool) (xs : List X) → ((x : X) → p x ≡ true → q x ≡ true) → find p (filter q xs) ≡ find p xs
find_kept p q [] stays = refl
find_kept p q (y ∷ ys) stays =
    elim (p y) as (λ b. p y ≡ b → find p (cond (q y) (y ∷ filter q ys) (filter q ys)) ≡ cond b (Some y) (find p ys)) [
      | true ↦ λ test. rw (stays y test) (rw test refl)
      | false ↦ λ test. elim (q y) as (λ b. find p (cond b (y ∷ filter q ys) (filter q ys)) ≡ find p ys) [
        | true ↦ rw test (find_kept p q ys stays)
        | false ↦ find_kept p q ys stays
      ]
    ] refl

-- one more that fails the test changes nothing
find_others : {X : Type 0} (test : X → Bool) (xs : List X) (y : X) → test y ≡ false → find test (xs ++ y ∷ []) ≡ find test xs
find_others test [] y fails = rw fails refl
find_others test (x ∷ xs) y fails = ap (λ o. cond (test x) (Some x) o) (find_others test xs y fails)

-- the last is found where it alone passes
find_last : {X : Type 0} (test : X → Bool) (xs : List X) (y : X) → test y ≡ true → ((k : ℕ) (d : X) → k < length xs → test (get_or xs k d) ≡ false)
    → find test (xs ++ y ∷ []) ≡ Some y
find_last test [] y passes fail = rw passes refl
find_last test (x ∷ xs) y passes fail = rw (fail 0 x (omega arith)) (find_last test xs y passes (λ k d h. fail (suc k) d (omega arith)))

module _ (forgotten : Credential) where
  same_slots : (stored : List StoredCred) (n : ℕ) (o : Option ℕ)
      → option_map (λ (sealed : SealedCred). sealed.slot) (option_map (sealed_at forgotten stored n) o) ≡ o
  same_slots stored n None = refl
  same_slots stored n (Some slot) = refl

  -- the one of a number is in its slot
  pub get-sealed : (stored : List StoredCred) (first : ℕ) (slots : List ℕ) (i n : ℕ) → first + i ≡ n
      → slice_get (sealed_from forgotten stored first slots) i ≡ option_map (sealed_at forgotten stored n) (slice_get slots i)
  unfolding sealed_from
  get-sealed stored first [] i n is = refl
  get-sealed stored first (slot ∷ slots) zero n is =
      let same : first ≡ n = omega arith in
      ap (λ m. Some (sealed_at forgotten stored m slot)) same
  get-sealed stored first (slot ∷ slots) (suc i) n is = get-sealed stored (first + 1) slots i n (omega arith)

  pub none-sealed : (stored : List StoredCred) (first : ℕ) → sealed_from forgotten stored first [] ≡ []
  unfolding sealed_from
  none-sealed stored first = refl

  pub slots-sealed : (stored : List StoredCred) (first : ℕ) (slots : List ℕ) → slots_of (sealed_from forgotten stored first slots) ≡ slots
  unfolding sealed_from
  slots-sealed stored first [] = refl
  slots-sealed stored first (slot ∷ slots) = ap (λ ns. slot ∷ ns) (slots-sealed stored (first + 1) slots)

  pub length-sealed : (stored : List StoredCred) (first : ℕ) (slots : List ℕ) → length (sealed_from forgotten stored first slots) ≡ length slots
  unfolding sealed_from
  length-sealed stored first [] = refl
  length-sealed stored first (slot ∷ slots) = ap suc (length-sealed stored (first + 1) slots)

  -- the next number's slot
  pub sealed-push : (stored : List StoredCred) (first : ℕ) (slots : List ℕ) (slot n : ℕ) → first + length slots ≡ n
      → sealed_from forgotten stored first (slots ++ slot ∷ []) ≡ sealed_from forgotten stored first slots ++ sealed_at forgotten stored n slot ∷ []
  unfolding sealed_from
  sealed-push stored first [] slot n is =
      let same : first ≡ n = omega arith in
      ap (λ m. sealed_at forgotten stored m slot ∷ []) same
  sealed-push stored first (other ∷ slots) slot n is =
      ap (λ cs. sealed_at forgotten stored first other ∷ cs) (sealed-push stored (first + 1) slots slot n (omega arith))

  -- another number's credential
  under-other : (stored : List StoredCred) (v : StoredCred) (n : ℕ) → v.number ≢ n → under forgotten (stored ++ v ∷ []) n ≡ under forgotten stored n
  under-other stored v n other =
      ap (λ (o : Option StoredCred). option_map_or (λ s. s.cred) o forgotten) (find_others (λ (s : StoredCred). s.number == n) stored v test)
    where
      test : (v.number == n) ≡ false
      test = elim (v.number == n) as (λ b. (v.number == n) ≡ b → b ≡ false) [
        | true ↦ λ is. let same : v.number ≡ n = grind (arith, nat_tests) in absurd (other same)
        | false ↦ λ is. refl
      ] refl

  -- what is stored under a later number
  pub sealed-later : (stored : List StoredCred) (v : StoredCred) (first : ℕ) (slots : List ℕ) → first + length slots ≤ v.number
      → sealed_from forgotten (stored ++ v ∷ []) first slots ≡ sealed_from forgotten stored first slots
  unfolding sealed_from
  sealed-later stored v first [] past = refl
  sealed-later stored v first (slot ∷ slots) past =
      ap (λ c. c ∷ sealed_from forgotten (stored ++ v ∷ []) (first + 1) slots)
      (ap (λ (c : Credential). record { cred = c; slot = slot }) (under-other stored v first (omega arith)))
      ∙ ap (λ cs. sealed_at forgotten stored first slot ∷ cs) (sealed-later stored v (first + 1) slots (omega arith))

  -- the one that is stored last, under a greater number than all others
  under-last : (stored : List StoredCred) (v : StoredCred) (n : ℕ) → All (λ (s : StoredCred). s.number < n) stored → v.number ≡ n
      → under forgotten (stored ++ v ∷ []) n ≡ v.cred
  under-last stored v n below same =
      ap (λ (o : Option StoredCred). option_map_or (λ s. s.cred) o forgotten)
      (find_last (λ (s : StoredCred). s.number == n) stored v (tests_same v.number n same) (λ k d h. tests_below _ n (below k d h)))

  -- one more is sealed
  pub seals : (stored : List StoredCred) (slots : List ℕ) (c : Credential) (slot n : ℕ) → IsStored stored (length slots) → n ≡ length slots
      → sealed_of forgotten (stored ++ record { number = n; cred = c } ∷ []) (slots ++ slot ∷ [])
      ≡ sealed_of forgotten stored slots ++ record { cred = c; slot = slot } ∷ []
  seals stored slots c slot n known is =
      let v : StoredCred = record { number = n; cred = c } in
      let below : All (λ (s : StoredCred). s.number < n) stored = λ k d h. let lt = known.sealed k d h in omega (arith, lt, is) in
      sealed-push (stored ++ v ∷ []) 0 slots slot n (omega (arith, is))
      ∙ ap (λ cs. cs ++ sealed_at forgotten (stored ++ v ∷ []) n slot ∷ []) (sealed-later stored v 0 slots (omega (arith, is)))
      ∙ ap (λ (d : Credential). sealed_of forgotten stored slots ++ record { cred = d; slot = slot } ∷ []) (under-last stored v n below refl)

  -- what is kept of those that are stored
  under-kept : (keep : ℕ → Bool) (stored : List StoredCred) (n : ℕ) → keep n ≡ true
      → under forgotten (filter (λ s. keep s.number) stored) n ≡ under forgotten stored n
  under-kept keep stored n kept =
      ap (λ (o : Option StoredCred). option_map_or (λ s. s.cred) o forgotten)
      (find_kept (λ (s : StoredCred). s.number == n) (λ (s : StoredCred). keep s.number) stored
      (λ s test. let same : s.number ≡ n = grind (arith, nat_tests) in ap keep same ∙ kept))

  pub sealed-kept : (keep : ℕ → Bool) (stored : List StoredCred) (slots : List ℕ) (n : ℕ) → keep n ≡ true
      → slice_get (sealed_of forgotten (filter (λ s. keep s.number) stored) slots) n ≡ slice_get (sealed_of forgotten stored slots) n
  sealed-kept keep stored slots n kept =
      get-sealed (filter (λ s. keep s.number) stored) 0 slots n n (omega arith)
      ∙ ap (λ (c : Credential). option_map (λ slot. record { cred = c; slot = slot }) (slice_get slots n)) (under-kept keep stored n kept)
      ∙ sym (get-sealed stored 0 slots n n (omega arith))

  -- what is kept of those that are stored has none of this number
  none-kept : (keep : ℕ → Bool) (stored : List StoredCred) (n : ℕ) → keep n ≡ false
      → find (λ s. s.number == n) (filter (λ s. keep s.number) stored) ≡ None
  none-kept keep [] n none = refl
  none-kept keep (s ∷ ss) n none =
      elim (keep s.number) as
      (λ b. keep s.number ≡ b → find (λ t. t.number == n) (cond b (s ∷ filter (λ t. keep t.number) ss) (filter (λ t. keep t.number) ss)) ≡ None) [
        | true ↦ λ kept.
            let other : (s.number == n) ≡ false = differs s.number n (keep_differs s.number n kept none) in
            rw other (none-kept keep ss n none)
        | false ↦ λ dropped. none-kept keep ss n none
      ] refl
    where
      keep_differs : (m n : ℕ) → keep m ≡ true → keep n ≡ false → m ≢ n
      keep_differs m n stays goes same = let never : true ≡ false = sym stays ∙ (ap keep same ∙ goes) in cc

      differs : (m n : ℕ) → m ≢ n → (m == n) ≡ false
      differs m n other = grind (arith, nat_tests)

  pub gone-sealed : (keep : ℕ → Bool) (stored : List StoredCred) (slots : List ℕ) (n : ℕ) → keep n ≡ false → forgotten ≡ gone
      → IfSome (slice_get (sealed_of forgotten (filter (λ s. keep s.number) stored) slots) n) (λ sealed. sealed.cred ≡ gone)
  gone-sealed keep stored slots n dropped is =
      subst (λ (o : Option SealedCred). IfSome o (λ sealed. sealed.cred ≡ gone))
      (sym (get-sealed (filter (λ s. keep s.number) stored) 0 slots n n (omega arith)))
      (by (slice_get slots n))
    where
      by : (o : Option ℕ) → IfSome (option_map (sealed_at forgotten (filter (λ s. keep s.number) stored) n) o) (λ sealed. sealed.cred ≡ gone)
      by None = tt
      by (Some slot) = ap (λ (f : Option StoredCred). option_map_or (λ s. s.cred) f forgotten) (none-kept keep stored n dropped) ∙ is

  -- a sealed credential with its number
  pub numbered-sealed : (stored : List StoredCred) (slots : List ℕ) (n slot : ℕ) → slice_get slots n ≡ Some slot
      → numbered (sealed_of forgotten stored slots) n ≡ Some (record { number = n; cred = under forgotten stored n; slot = slot })
  numbered-sealed stored slots n slot is =
      ap (option_map (λ (sealed : SealedCred). record { number = n; cred = sealed.cred; slot = sealed.slot }))
      (get-sealed stored 0 slots n n (omega arith) ∙ ap (option_map (sealed_at forgotten stored n)) is)

  -- by their slots alone
  pub slot-sealed : (stored : List StoredCred) (slots : List ℕ) (n : ℕ)
      → option_map (λ sealed. sealed.slot) (slice_get (sealed_of forgotten stored slots) n) ≡ slice_get slots n
  slot-sealed stored slots n =
      ap (option_map (λ (sealed : SealedCred). sealed.slot)) (get-sealed stored 0 slots n n (omega arith))
      ∙ same_slots stored n (slice_get slots n)
