-- Slots that are free.
use Rattle.std.proofs.Common.{◌≡◌, ℕ, zero, suc, ◌+◌, ◌<◌, ◌≤◌, ◌==◌, ◌||◌, ◌++◌, Bool, true, false, not, cond, List, [], ◌∷◌, map, find, is_some, Option, Some}
use Rattle.std.proofs.Common.{refl, sym, ap, ◌∙◌, arith}
use Rattle.std.specs.List.{list_any, range_with_len}
use Rattle.std.proofs.lemmas.List.Folds.{list_any-append}
use Rattle.cred_ids.specs.Limits.{SLOTS, slots}
use Rattle.cred_model.specs.State.{State, SealedCred, Prepared}
use Rattle.cred_model.specs.Slots.{stands_in, least_free, free, swept}
use Rattle.cred_machine.specs.Slots.{is_live_by}

same_found : (p q : ℕ → Bool) (a n : ℕ) → ((k : ℕ) → a ≤ k → k < a + n → p k ≡ q k) → find p (range_with_len a n) ≡ find q (range_with_len a n)
same_found p q a zero same = refl
same_found p q a (suc n) same =
    ap (λ b. cond b (Some a) (find p (range_with_len (a + 1) n))) (same a (omega arith) (omega arith))
    ∙ ap (λ o. cond (q a) (Some a) o) (same_found p q (a + 1) n (λ k l h. same k (omega arith) (omega arith)))

-- tests that agree on all slots find the same one
pub same_slot : (p q : ℕ → Bool) → ((k : ℕ) → k < SLOTS → p k ≡ q k) → find p slots ≡ find q slots
unfolding slots
same_slot p q same = same_found p q 0 SLOTS (λ k l h. same k h)

pub any-map : {X Y : Type 0} (p : Y → Bool) (f : X → Y) (xs : List X) → list_any p (map f xs) ≡ list_any (λ x. p (f x)) xs
any-map p f [] = refl
any-map p f (x ∷ xs) = ap (λ b. p (f x) || b) (any-map p f xs)

-- a slot's mark, after all were put
pub marked : (creds : List SealedCred) (used late : List ℕ) (prepared : List Prepared) (k : ℕ) (m0 m1 m2 m3 : Bool) → m0 ≡ false
    → m1 ≡ (m0 || list_any (stands_in creds k) used) → m2 ≡ (m1 || list_any (stands_in creds k) late)
    → m3 ≡ (m2 || list_any (λ p. p.slot == k) prepared)
    → m3 ≡ is_live_by creds (used ++ late) (map (λ p. p.slot) prepared) k
marked creds used late prepared k m0 m1 m2 m3 none one two three =
    three
    ∙ ap (λ b. b || list_any (λ p. p.slot == k) prepared)
    (two
    ∙ ap (λ b. b || list_any (stands_in creds k) late) (one ∙ ap (λ b. b || list_any (stands_in creds k) used) none)
    ∙ sym (list_any-append (stands_in creds k) used late))
    ∙ ap (λ b. list_any (stands_in creds k) (used ++ late) || b) (sym (any-map (λ s. s == k) (λ p. p.slot) prepared))

module _ (s : State) (slot : Option ℕ) (is : slot ≡ least_free s) where
  tests : (b : Bool) → is_some slot ≡ b → is_some (least_free s) ≡ b
  tests b there = ap (λ (o : Option ℕ). is_some o) (sym is) ∙ there

  -- a slot is free without a sweep
  pub free_now : is_some slot ≡ true → slot ≡ free s
  free_now there = is ∙ ap (λ b. least_free (cond b s (swept s))) (sym (tests true there))

  pub no_sweep : is_some slot ≡ true → false ≡ not (is_some (least_free s))
  no_sweep there = ap not (sym (tests true there))

  -- or only with one
  pub free_swept : (late : Option ℕ) → is_some slot ≡ false → late ≡ least_free (swept s) → late ≡ free s
  free_swept late none after = after ∙ ap (λ b. least_free (cond b s (swept s))) (sym (tests false none))

  pub needs_sweep : is_some slot ≡ false → true ≡ not (is_some (least_free s))
  needs_sweep none = ap not (sym (tests false none))
