-- What values under labels give and leave, as a list of things that have their labels.
use Rattle.std.proofs.Common.{◌≡◌, ℕ, suc, ◌+◌, ◌==◌, Bool, true, false, not, cond, nat_lt, List, [], ◌∷◌, ◌++◌, length, map, find, position, remove, slice_get}
use Rattle.std.proofs.Common.{Option, None, Some, MatchOption, Result, Ok, Err, OnOk, nat_eq, refl, sym, ap, ◌∙◌, arith}
use Rattle.std.specs.List.{All, position_or_len, prefix_len}
use Rattle.std.specs.Map.{lookup, remove_entry}
use Rattle.std.specs.Option.{option_map}
use Rattle.std.proofs.lemmas.Bool.{eqb-true}
use Rattle.std.proofs.lemmas.Bool.Decides.{nat_tests}
use Rattle.std.proofs.lemmas.List.{map-append}
use Rattle.std.proofs.lemmas.List.Sums.{position_or_len_is}
use Rattle.cred_model.proofs.Lists.{found_none}
use Rattle.cred_model.specs.State.{Hold}
use Rattle.cred_tables.specs.declared.prepared.Preparation.{Preparation}
use Rattle.cred_tables.specs.Holds.{hold_as, holds_of, Releases}
use Rattle.cred_tables.specs.Holds as held
use Rattle.cred_tables.specs.Prepared.{prepared_as, all_prepared, GivesUp}
use Rattle.cred_tables.specs.Prepared as prepared
use Rattle.cred_tables.proofs.NewestApart.{remove-none}
use Rattle.cred_model.proofs.Places.{place-of_found}

pub test_sym : (a b : ℕ) → nat_eq a b ≡ nat_eq b a
test_sym a b = grind (arith, nat_tests)

pub on_ok : {X E : Type 0} {P Q : Type 0} (result : Result X E) → (P → Q) → OnOk result P → OnOk result Q
on_ok (Ok x) then is = then is
on_ok (Err e) then is = is

not_less : (n : ℕ) → nat_lt n n ≡ false
not_less n = grind (arith, nat_tests)

some_is : (b : Bool) (n i : ℕ) → cond b (Some n) None ≡ Some i → n ≡ i
some_is true n i is = cc
some_is false n i is = cc

-- where no element passes, none has a place
place-none : {X : Type 0} (test : X → Bool) (xs : List X) → All (λ x. test x ≡ false) xs → position test xs ≡ None
place-none test [] each = refl
place-none test (x ∷ xs) each =
    let n : position_or_len test (x ∷ xs) ≡ length (x ∷ xs)
    = position_or_len_is test (x ∷ xs) (length (x ∷ xs)) x (omega arith) (λ k lt. each k x lt) (λ lt. absurd (omega arith)) in
    ap (λ (k : ℕ). cond (nat_lt k (length (x ∷ xs))) (Some k) None) n
    ∙ ap (λ (b : Bool). cond b (Some (length (x ∷ xs))) None) (not_less (length (x ∷ xs)))

-- `of` is the thing that a label and a value make, and `label_of` its label
module _ {X Y : Type 0} (of : ℕ → X → Y) (label_of : Y → ℕ) (own : (label : ℕ) (x : X) → label_of (of label x) ≡ label) where
  abbrev state_of : List (ℕ × X) → List Y
  state_of es = map (λ e. of e.0 e.1) es

  test_own : (label : ℕ) (e : ℕ × X) → (label_of (of e.0 e.1) == label) ≡ (e.0 == label)
  test_own label e = ap (λ (l : ℕ). l == label) (own e.0 e.1)

  found_at : (label : ℕ) (e : ℕ × X) (rest : Option X) (others : Option Y) (test : Bool) → (e.0 == label) ≡ test → others ≡ option_map (of label) rest
      → cond test (Some (of e.0 e.1)) others ≡ option_map (of label) (cond test (Some e.1) rest)
  found_at label e rest others true is same = ap (λ (l : ℕ). Some (of l e.1)) (eqb-true e.0 label is)
  found_at label e rest others false is same = same

  pub find-state_of : (label : ℕ) (es : List (ℕ × X)) → find (λ y. label_of y == label) (state_of es) ≡ option_map (of label) (lookup (nat_eq label) es)
  find-state_of label [] = refl
  find-state_of label (e ∷ es) =
      ap (λ (b : Bool). cond b (Some (of e.0 e.1)) (find (λ y. label_of y == label) (state_of es))) (test_own label e)
      ∙ found_at label e (lookup (nat_eq label) es) _ (e.0 == label) refl (find-state_of label es)
      ∙ ap (λ (b : Bool). option_map (of label) (cond b (Some e.1) (lookup (nat_eq label) es))) (test_sym e.0 label)

  -- a label that isn't there
  pub absent : (label : ℕ) (es : List (ℕ × X)) → lookup (nat_eq label) es ≡ None → position (λ y. label_of y == label) (state_of es) ≡ None
  absent label es none =
      place-none (λ y. label_of y == label) (state_of es)
      (found_none (λ y. label_of y == label) (state_of es) (find-state_of label es ∙ ap (option_map (of label)) none))

  -- how many stand before the first with the label
  abbrev before : ℕ → List (ℕ × X) → ℕ
  before label es = prefix_len (λ y. not (label_of y == label)) (state_of es)

  left_by : (label : ℕ) (x : X) (e : ℕ × X) (es : List (ℕ × X)) (test : Bool) → cond test (Some e.1) (lookup (nat_eq label) es) ≡ Some x
      → (lookup (nat_eq label) es ≡ Some x → state_of (remove_entry (nat_eq label) es) ≡ remove (state_of es) (before label es))
      → state_of (cond test es (e ∷ remove_entry (nat_eq label) es)) ≡ remove (state_of (e ∷ es)) (cond (not test) (1 + before label es) 0)
  left_by label x e es true found rest = refl
  left_by label x e es false found rest =
      let next : suc (before label es) ≡ 1 + before label es = omega arith in
      ap (λ (ys : List Y). of e.0 e.1 ∷ ys) (rest found) ∙ ap (remove (state_of (e ∷ es))) next

  left_at : (label : ℕ) (x : X) (es : List (ℕ × X)) → lookup (nat_eq label) es ≡ Some x
      → state_of (remove_entry (nat_eq label) es) ≡ remove (state_of es) (before label es)
  left_at label x [] found = cc
  left_at label x (e ∷ es) found =
      left_by label x e es (nat_eq label e.0) found (left_at label x es)
      ∙ ap (λ (b : Bool). remove (state_of (e ∷ es)) (cond (not b) (1 + before label es) 0)) (test_sym label e.0 ∙ sym (test_own label e))

  -- what a removed value was, and where it stood
  pub removed : (label : ℕ) (x : X) (es after : List (ℕ × X)) → lookup (nat_eq label) es ≡ Some x → after ≡ remove_entry (nat_eq label) es
      → (place : ℕ) × (position (λ y. label_of y == label) (state_of es) ≡ Some place) × (slice_get (state_of es) place ≡ Some (of label x))
      × (state_of after ≡ remove (state_of es) place)
  removed label x es after found left =
      let here = find-state_of label es ∙ ap (option_map (of label)) found in
      let at = place-of_found (λ y. label_of y == label) (state_of es) (of label x) here in
      let first : before label es ≡ at.0 = some_is _ _ _ at.1 in
      (at.0, at.1, at.2, ap state_of left ∙ left_at label x es found ∙ ap (remove (state_of es)) first)

  -- a new label goes last
  pub added : (label : ℕ) (x : X) (es after : List (ℕ × X)) → after ≡ es ++ (label, x) ∷ [] → state_of after ≡ state_of es ++ of label x ∷ []
  added label x es after is = ap state_of is ∙ map-append (λ (e : ℕ × X). of e.0 e.1) es ((label, x) ∷ [])

-- ---- holds

number_is : (label : ℕ) (found : Option ℕ) → found ≡ option_map (λ h. h.number) (option_map (λ n. hold_as (label, n)) found)
number_is label None = refl
number_is label (Some n) = refl

pub lookup-holds : (label : ℕ) (es : List (ℕ × ℕ))
    → lookup (nat_eq label) es ≡ option_map (λ h. h.number) (find (λ h. h.label == label) (holds_of es))
lookup-holds label es =
    number_is label (lookup (nat_eq label) es)
    ∙ ap (option_map (λ (h : Hold). h.number)) (sym (find-state_of (λ l n. hold_as (l, n)) (λ h. h.label) (λ l n. refl) label es))

no_hold : (label : ℕ) (es : List (ℕ × ℕ)) → lookup (nat_eq label) es ≡ None → held.hold_place (holds_of es) label ≡ None
no_hold label es none = absent (λ l n. hold_as (l, n)) (λ h. h.label) (λ l n. refl) label es none

released : (label number : ℕ) (es after : List (ℕ × ℕ)) → lookup (nat_eq label) es ≡ Some number → after ≡ remove_entry (nat_eq label) es
    → Releases (holds_of es) (holds_of after) label number
released label number es after found left =
    let was = removed (λ l n. hold_as (l, n)) (λ h. h.label) (λ l n. refl) label number es after found left in
    record { place = was.0; found = was.1; held = was.2; left = was.3 }

pub release_of : (label : ℕ) (es after : List (ℕ × ℕ)) (found : Option ℕ) → found ≡ lookup (nat_eq label) es → after ≡ remove_entry (nat_eq label) es
    → MatchOption found ((held.hold_place (holds_of es) label ≡ None) × (holds_of after ≡ holds_of es))
    (λ number. Releases (holds_of es) (holds_of after) label number)
release_of label es after None is left = (no_hold label es (sym is), ap holds_of (left ∙ remove-none (nat_eq label) es (sym is)))
release_of label es after (Some number) is left = released label number es after (sym is) left

pub taken : (label number : ℕ) (es after : List (ℕ × ℕ)) → after ≡ es ++ (label, number) ∷ []
    → holds_of after ≡ holds_of es ++ record { label = label; number = number } ∷ []
taken label number es after is = added (λ l n. hold_as (l, n)) (λ h. h.label) (λ l n. refl) label number es after is

-- ---- prepared labels

pub find-prepared : (label : ℕ) (es : List (ℕ × Preparation))
    → find (λ p. p.label == label) (all_prepared es) ≡ option_map (prepared_as label) (lookup (nat_eq label) es)
find-prepared label es = find-state_of prepared_as (λ p. p.label) (λ l x. refl) label es

not_prepared : (label : ℕ) (es : List (ℕ × Preparation)) → lookup (nat_eq label) es ≡ None → prepared.prepared_place (all_prepared es) label ≡ None
not_prepared label es none = absent prepared_as (λ p. p.label) (λ l x. refl) label es none

pub gave_up : (label : ℕ) (p : Preparation) (es after : List (ℕ × Preparation)) → lookup (nat_eq label) es ≡ Some p → after ≡ remove_entry (nat_eq label) es
    → GivesUp (all_prepared es) (all_prepared after) (prepared_as label p)
gave_up label p es after found left =
    let was = removed prepared_as (λ q. q.label) (λ l x. refl) label p es after found left in
    record { place = was.0; found = was.1; there = was.2; left = was.3 }

pub begun : (label : ℕ) (p : Preparation) (es after : List (ℕ × Preparation)) → after ≡ es ++ (label, p) ∷ []
    → all_prepared after ≡ all_prepared es ++ prepared_as label p ∷ []
begun label p es after is = added prepared_as (λ q. q.label) (λ l x. refl) label p es after is

new_by : (label : ℕ) (found : Option Preparation) → option_map (prepared_as label) found ≡ None → found ≡ None
new_by label None none = refl
new_by label (Some p) none = cc

pub not_given : (label : ℕ) (es after : List (ℕ × Preparation)) → lookup (nat_eq label) es ≡ None → after ≡ remove_entry (nat_eq label) es
    → (prepared.prepared_place (all_prepared es) label ≡ None) × (all_prepared after ≡ all_prepared es)
not_given label es after none left = (not_prepared label es none, ap all_prepared (left ∙ remove-none (nat_eq label) es none))

pub is_new : (label : ℕ) (es : List (ℕ × Preparation)) → find (λ p. p.label == label) (all_prepared es) ≡ None → lookup (nat_eq label) es ≡ None
is_new label es none = new_by label (lookup (nat_eq label) es) (sym (find-prepared label es) ∙ none)
