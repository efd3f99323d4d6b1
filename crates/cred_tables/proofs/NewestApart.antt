-- A list of entries whose last one stands apart.
use Rattle.std.proofs.Common.{◌≡◌, ◌≢◌, ℕ, Bool, true, false, cond, List, [], ◌∷◌, ◌++◌, Option, None, Some, IfSome, nat_eq, refl, sym, ap, subst, ◌∙◌, arith}
use Rattle.std.specs.Cmp.{nat_eq_equiv}
use Rattle.std.specs.List.{IsDistinct, list_any}
use Rattle.std.specs.Map.{keys_of, lookup, remove_entry, set_value}
use Rattle.std.proofs.lemmas.Bool.{eq-eqb}
use Rattle.std.proofs.lemmas.Bool.Decides.{nat_tests}
use Rattle.std.proofs.lemmas.List.{append-nil, map-append}
use Rattle.std.proofs.lemmas.Map.Keys.{IsDistinct-push}
use Rattle.cred_tables.specs.Labelled.{with_newest, IsOnce}

module _ {X : Type 0} where
  -- no key passes: what is looked up past the head, too
  none_by : (b : Bool) (x : X) (rest : Option X) → cond b (Some x) rest ≡ None → (b ≡ false) × (rest ≡ None)
  none_by true x rest none = cc
  none_by false x rest none = (refl, none)

  module _ (test : ℕ → Bool) where
    pub lookup-last : (es : List (ℕ × X)) (n : ℕ × X) → lookup test es ≡ None → lookup test (es ++ n ∷ []) ≡ cond (test n.0) (Some n.1) None
    lookup-last [] n none = refl
    lookup-last (e ∷ es) n none =
        let first = none_by (test e.0) e.1 (lookup test es) none in
        ap (λ b. cond b (Some e.1) (lookup test (es ++ n ∷ []))) first.0 ∙ lookup-last es n first.1

    pub lookup-before : (es : List (ℕ × X)) (n : ℕ × X) → test n.0 ≡ false → lookup test (es ++ n ∷ []) ≡ lookup test es
    lookup-before [] n other = ap (λ b. cond b (Some n.1) None) other
    lookup-before (e ∷ es) n other = ap (cond (test e.0) (Some e.1)) (lookup-before es n other)

    pub remove-last : (es : List (ℕ × X)) (n : ℕ × X) → lookup test es ≡ None → test n.0 ≡ true → remove_entry test (es ++ n ∷ []) ≡ es
    remove-last [] n none own = ap (λ b. cond b [] (n ∷ [])) own
    remove-last (e ∷ es) n none own =
        let first = none_by (test e.0) e.1 (lookup test es) none in
        ap (λ b. cond b (es ++ n ∷ []) (e ∷ remove_entry test (es ++ n ∷ []))) first.0
        ∙ ap (λ (l : List (ℕ × X)). e ∷ l) (remove-last es n first.1 own)

    removed_by : (b : Bool) (e n : ℕ × X) (es : List (ℕ × X)) → remove_entry test (es ++ n ∷ []) ≡ remove_entry test es ++ n ∷ []
        → cond b (es ++ n ∷ []) (e ∷ remove_entry test (es ++ n ∷ [])) ≡ cond b es (e ∷ remove_entry test es) ++ n ∷ []
    removed_by true e n es rest = refl
    removed_by false e n es rest = ap (λ (l : List (ℕ × X)). e ∷ l) rest

    pub remove-before : (es : List (ℕ × X)) (n : ℕ × X) → test n.0 ≡ false → remove_entry test (es ++ n ∷ []) ≡ remove_entry test es ++ n ∷ []
    remove-before [] n other = ap (λ b. cond b [] (n ∷ [])) other
    remove-before (e ∷ es) n other = removed_by (test e.0) e n es (remove-before es n other)

    pub set-last : (es : List (ℕ × X)) (n : ℕ × X) (w : X) → lookup test es ≡ None → test n.0 ≡ true → set_value test (es ++ n ∷ []) w ≡ es ++ (n.0, w) ∷ []
    set-last [] n w none own = ap (λ b. cond b ((n.0, w) ∷ []) (n ∷ [])) own
    set-last (e ∷ es) n w none own =
        let first = none_by (test e.0) e.1 (lookup test es) none in
        ap (λ b. cond b ((e.0, w) ∷ es ++ n ∷ []) (e ∷ set_value test (es ++ n ∷ []) w)) first.0
        ∙ ap (λ (l : List (ℕ × X)). e ∷ l) (set-last es n w first.1 own)

    set_by : (b : Bool) (e n : ℕ × X) (es : List (ℕ × X)) (w : X) → set_value test (es ++ n ∷ []) w ≡ set_value test es w ++ n ∷ []
        → cond b ((e.0, w) ∷ es ++ n ∷ []) (e ∷ set_value test (es ++ n ∷ []) w) ≡ cond b ((e.0, w) ∷ es) (e ∷ set_value test es w) ++ n ∷ []
    set_by true e n es w rest = refl
    set_by false e n es w rest = ap (λ (l : List (ℕ × X)). e ∷ l) rest

    pub set-before : (es : List (ℕ × X)) (n : ℕ × X) (w : X) → test n.0 ≡ false → set_value test (es ++ n ∷ []) w ≡ set_value test es w ++ n ∷ []
    set-before [] n w other = ap (λ b. cond b ((n.0, w) ∷ []) (n ∷ [])) other
    set-before (e ∷ es) n w other = set_by (test e.0) e n es w (set-before es n w other)

    -- where no key passes, nothing is removed and nothing set
    pub remove-none : (es : List (ℕ × X)) → lookup test es ≡ None → remove_entry test es ≡ es
    remove-none [] none = refl
    remove-none (e ∷ es) none =
        let first = none_by (test e.0) e.1 (lookup test es) none in
        ap (λ b. cond b es (e ∷ remove_entry test es)) first.0 ∙ ap (λ (l : List (ℕ × X)). e ∷ l) (remove-none es first.1)

    pub set-none : (es : List (ℕ × X)) (w : X) → lookup test es ≡ None → set_value test es w ≡ es
    set-none [] w none = refl
    set-none (e ∷ es) w none =
        let first = none_by (test e.0) e.1 (lookup test es) none in
        ap (λ b. cond b ((e.0, w) ∷ es) (e ∷ set_value test es w)) first.0 ∙ ap (λ (l : List (ℕ × X)). e ∷ l) (set-none es w first.1)

other : (a b : ℕ) → a ≢ b → nat_eq a b ≡ false
other a b ne = grind (arith, nat_tests)

-- ---- what is found and changed where the newest entry stands apart

-- the newest key is none of the older ones
pub newest_new : {X : Type 0} (older : List (ℕ × X)) (newest : Option (ℕ × X)) (own : ℕ) (v : X) → newest ≡ Some (own, v) → IsOnce older newest
    → lookup (nat_eq own) older ≡ None
newest_new older newest own v is once = subst (λ (m : Option (ℕ × _)). IfSome m (λ e. lookup (nat_eq e.0) older ≡ None)) is once.1

module _ {X : Type 0} (label : ℕ) (older : List (ℕ × X)) where
  abbrev pub IsOther : Option (ℕ × X) → Type 0
  IsOther newest = IfSome newest (λ n. nat_eq label n.0 ≡ false)

  pub other-some : (newest : Option (ℕ × X)) (own : ℕ) (v : X) → newest ≡ Some (own, v) → own ≢ label → IsOther newest
  other-some newest own v is ne = subst IsOther (sym is) (other label own (λ same. ne (sym same)))

  pub other-none : (newest : Option (ℕ × X)) → newest ≡ None → IsOther newest
  other-none newest is = subst IsOther (sym is) tt

  module _ (newest : Option (ℕ × X)) (other_is : IsOther newest) where
    pub lookup-other : lookup (nat_eq label) (with_newest older newest) ≡ lookup (nat_eq label) older
    lookup-other = by newest other_is
      where
        by : (m : Option (ℕ × X)) → IsOther m → lookup (nat_eq label) (with_newest older m) ≡ lookup (nat_eq label) older
        by None is = ap (lookup (nat_eq label)) (append-nil older)
        by (Some n) is = lookup-before (nat_eq label) older n is

    pub remove-other : remove_entry (nat_eq label) (with_newest older newest) ≡ with_newest (remove_entry (nat_eq label) older) newest
    remove-other = by newest other_is
      where
        by : (m : Option (ℕ × X)) → IsOther m → remove_entry (nat_eq label) (with_newest older m) ≡ with_newest (remove_entry (nat_eq label) older) m
        by None is = ap (remove_entry (nat_eq label)) (append-nil older) ∙ sym (append-nil (remove_entry (nat_eq label) older))
        by (Some n) is = remove-before (nat_eq label) older n is

    pub set-other : (w : X) → set_value (nat_eq label) (with_newest older newest) w ≡ with_newest (set_value (nat_eq label) older w) newest
    set-other w = by newest other_is
      where
        by : (m : Option (ℕ × X)) → IsOther m → set_value (nat_eq label) (with_newest older m) w ≡ with_newest (set_value (nat_eq label) older w) m
        by None is = ap (λ es. set_value (nat_eq label) es w) (append-nil older) ∙ sym (append-nil (set_value (nat_eq label) older w))
        by (Some n) is = set-before (nat_eq label) older n w is

  module _ (newest : Option (ℕ × X)) (own : ℕ) (v : X) (is : newest ≡ Some (own, v)) (same : own ≡ label) (once : IsOnce older newest) where
    none_older : lookup (nat_eq label) older ≡ None
    none_older = subst (λ (l : ℕ). lookup (nat_eq l) older ≡ None) same (newest_new older newest own v is once)

    passes : nat_eq label own ≡ true
    passes = eq-eqb label own (sym same)

    pub lookup-own : lookup (nat_eq label) (with_newest older newest) ≡ Some v
    lookup-own =
        ap (λ (m : Option (ℕ × X)). lookup (nat_eq label) (with_newest older m)) is
        ∙ lookup-last (nat_eq label) older (own, v) none_older
        ∙ ap (λ b. cond b (Some v) None) passes

    pub remove-own : remove_entry (nat_eq label) (with_newest older newest) ≡ with_newest older None
    remove-own =
        ap (λ (m : Option (ℕ × X)). remove_entry (nat_eq label) (with_newest older m)) is
        ∙ remove-last (nat_eq label) older (own, v) none_older passes
        ∙ sym (append-nil older)

    pub set-own : (w : X) → set_value (nat_eq label) (with_newest older newest) w ≡ with_newest older (Some (own, w))
    set-own w =
        ap (λ (m : Option (ℕ × X)). set_value (nat_eq label) (with_newest older m) w) is
        ∙ set-last (nat_eq label) older (own, v) w none_older passes

-- a key that isn't found is none of the keys
none_of : {X : Type 0} (key : ℕ) (es : List (ℕ × X)) → lookup (nat_eq key) es ≡ None → list_any (nat_eq key) (keys_of es) ≡ false
none_of key [] none = refl
none_of key (e ∷ es) none =
    let first = none_by (nat_eq key e.0) e.1 (lookup (nat_eq key) es) none in
    grind (arith, none_of key es first.1, first.0)

pub distinct : {X : Type 0} (older : List (ℕ × X)) (newest : Option (ℕ × X)) → IsOnce older newest → IsDistinct nat_eq (keys_of (with_newest older newest))
distinct older None once = subst (λ es. IsDistinct nat_eq (keys_of es)) (sym (append-nil older)) once.0
distinct older (Some n) once =
    subst (IsDistinct nat_eq) (sym (map-append (λ (e : ℕ × _). e.0) older (n ∷ [])))
    (IsDistinct-push nat_eq_equiv (keys_of older) n.0 once.0 (none_of n.0 older once.1))
