-- What is found and changed among prepared labels.
use Rattle.std.proofs.Common.{◌≡◌, ℕ, ◌==◌, Bool, true, false, cond, List, [], ◌∷◌, find, Option, None, Some, nat_eq, refl, sym, ap, ◌∙◌, subst}
use Rattle.std.specs.Cmp.{nat_eq_equiv}
use Rattle.std.specs.List.{IsDistinct}
use Rattle.std.specs.Map.{keys_of, lookup, set_value}
use Rattle.std.specs.Option.{option_and_then, option_map, IsSome}
use Rattle.std.proofs.lemmas.Map.{lookup-none}
use Rattle.std.proofs.lemmas.Map.Entries.{none_past_head}
use Rattle.cred_event.specs.declared.event.Change.{Change}
use Rattle.cred_model.specs.State.{Prepared, Changed}
use Rattle.cred_model.specs.Moves.{altered_at, with_change}
use Rattle.cred_model.specs.LabelEvents.{is_access}
use Rattle.cred_tables.specs.declared.prepared.Preparation.{Preparation}
use Rattle.cred_tables.specs.Prepared.{prepared_as, all_prepared, IsReady, GivesUpChanged}
use Rattle.cred_tables.proofs.ByLabel.{test_sym}
use Rattle.cred_model.proofs.Places.{find-at}

-- ---- a label that was changed

pub is_there : (label : ℕ) (found : Option Preparation) → IsSome (option_and_then (λ p. p.changed) (option_map (prepared_as label) found)) → IsSome found
is_there label None some = some
is_there label (Some p) some = refl

pub is_changed : (label : ℕ) (found : Option Preparation) (p : Preparation) → found ≡ Some p
    → IsSome (option_and_then (λ q. q.changed) (option_map (prepared_as label) found)) → IsSome p.changed
is_changed label found p is some = subst (λ (o : Option Preparation). IsSome (option_and_then (λ q. q.changed) (option_map (prepared_as label) o))) is some

-- What a changed label gave up is what it was found with.
pub same_label : (before after : List Prepared) (label task base b slot : ℕ) (change : Change) (last : Changed) → IsReady before label task base change
    → (gives : GivesUpChanged before after label b slot last) → (gives.task ≡ task) × (b ≡ base) × (last.change ≡ change)
same_label before after label task base b slot change last ready gives =
    let here = find-at (λ r. r.label == label) before gives.gives.place _ gives.gives.found gives.gives.there in
    let there = ready.found in
    let same : record { label = label; task = gives.task; base = b; slot = slot; changed = Some last }
    ≡ record { label = label; task = task; base = base; slot = ready.slot; changed = Some ready.last }
    = cc in
    let some : Some last ≡ Some ready.last = ap (λ (p : Prepared). p.changed) same in
    let own : last ≡ ready.last = cc in
    (ap (λ (p : Prepared). p.task) same, ap (λ (p : Prepared). p.base) same, ap (λ (c : Changed). c.change) own ∙ ready.by)

-- a label that was found with a change, which was not for access(2)
pub readies : (prepared : List Prepared) (label : ℕ) (p : Preparation) (last : Changed) → find (λ q. q.label == label) prepared ≡ Some (prepared_as label p)
    → p.changed ≡ Some last → is_access last.change ≡ false → IsReady prepared label p.task p.base last.change
readies prepared label p last found is own = record {
  for_task = own;
  slot = p.slot;
  last = last;
  by = refl;
  found = found ∙ ap (λ (altered_at : Option Changed). Some (record { label = label; task = p.task; base = p.base; slot = p.slot; changed = altered_at })) is;
}

-- ---- a change

module _ (label : ℕ) (to : Changed) where
  abbrev pub altered : Preparation → Preparation
  altered p = record p { changed = Some to }

  leaves_other : (p : Prepared) (test : Bool) → (p.label == label) ≡ test → test ≡ false → altered_at label to p ≡ p
  leaves_other p test is other = ap (λ (b : Bool). cond b (record p { changed = Some to }) p) (is ∙ other)

  none_after : (test : Bool) (x : Preparation) (rest : Option Preparation) → cond test (Some x) rest ≡ None → (test ≡ false) × (rest ≡ None)
  none_after true x rest none = cc
  none_after false x rest none = (refl, none)

  pub with_change-none : (es : List (ℕ × Preparation)) → lookup (nat_eq label) es ≡ None → with_change (all_prepared es) label to ≡ all_prepared es
  with_change-none [] none = refl
  with_change-none (e ∷ es) none =
      let first = none_after (nat_eq label e.0) e.1 (lookup (nat_eq label) es) none in
      let head : altered_at label to (prepared_as e.0 e.1) ≡ prepared_as e.0 e.1
      = leaves_other (prepared_as e.0 e.1) (nat_eq label e.0) (test_sym e.0 label) first.0 in
      ap (λ (p : Prepared). p ∷ with_change (all_prepared es) label to) head
      ∙ ap (λ (ps : List Prepared). prepared_as e.0 e.1 ∷ ps) (with_change-none es first.1)

  changed_at : (e : ℕ × Preparation) (v : Preparation) (es : List (ℕ × Preparation)) (test : Bool) → nat_eq label e.0 ≡ test
      → cond test (Some e.1) (lookup (nat_eq label) es) ≡ Some v
      → (test ≡ true → lookup (nat_eq label) es ≡ None)
      → (lookup (nat_eq label) es ≡ Some v → all_prepared (set_value (nat_eq label) es (altered v)) ≡ with_change (all_prepared es) label to)
      → all_prepared (cond test ((e.0, altered v) ∷ es) (e ∷ set_value (nat_eq label) es (altered v)))
      ≡ cond test (prepared_as e.0 (altered e.1)) (prepared_as e.0 e.1) ∷ with_change (all_prepared es) label to
  changed_at e v es true is found last rest =
      let same : v ≡ e.1 = cc in
      ap (λ (x : Preparation). prepared_as e.0 (altered x) ∷ all_prepared es) same
      ∙ ap (λ (ps : List Prepared). prepared_as e.0 (altered e.1) ∷ ps) (sym (with_change-none es (last refl)))
  changed_at e v es false is found last rest = ap (λ (ps : List Prepared). prepared_as e.0 e.1 ∷ ps) (rest found)

  -- Only one label is this one, so that each of its kind was changed.
  pub with_change-set : (v : Preparation) (es : List (ℕ × Preparation)) → IsDistinct nat_eq (keys_of es) → lookup (nat_eq label) es ≡ Some v
      → all_prepared (set_value (nat_eq label) es (altered v)) ≡ with_change (all_prepared es) label to
  unfolding IsDistinct
  with_change-set v [] distinct found = cc
  with_change-set v (e ∷ es) distinct found =
      changed_at e v es (nat_eq label e.0) refl found
      (λ same. lookup-none (nat_eq label) es (none_past_head nat_eq_equiv label e es distinct same))
      (λ there. with_change-set v es distinct.1 there)
      ∙ ap (λ (b : Bool). cond b (prepared_as e.0 (altered e.1)) (prepared_as e.0 e.1) ∷ with_change (all_prepared es) label to) (test_sym label e.0)
