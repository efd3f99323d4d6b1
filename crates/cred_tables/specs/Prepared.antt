-- The prepared labels, as values under labels.
use Rattle.std.specs.Prelude.{◌≡◌, ℕ, ◌==◌, List, find, map, position, remove, slice_get, false}
use Rattle.std.specs.Prelude.{Some}
use Rattle.std.specs.declared.option.Option.{Option}
use Rattle.std.specs.Option.{option_and_then}
use Rattle.cred_event.specs.declared.event.Change.{Change}
use Rattle.cred_model.specs.State.{Prepared, Changed}
use Rattle.cred_model.specs.LabelEvents.{is_access}
use Rattle.cred_tables.specs.declared.prepared.Preparation.{Preparation}

-- what is prepared under the label
abbrev pub prepared_as : ℕ → Preparation → Prepared
prepared_as label p = record {
  label = label;
  task = p.task;
  base = p.base;
  slot = p.slot;
  changed = p.changed;
}

-- what is prepared under all labels
abbrev pub all_prepared : List (ℕ × Preparation) → List Prepared
all_prepared entries = map (λ entry. prepared_as entry.0 entry.1) entries

-- where a label stands among those that are prepared
abbrev pub prepared_place : List Prepared → ℕ → Option ℕ
prepared_place prepared label = position (λ p. p.label == label) prepared

-- what the base of a label has become, if the label is prepared and was changed
abbrev pub changed_of : List Prepared → ℕ → Option Changed
changed_of prepared label = option_and_then (λ p. p.changed) (find (λ p. p.label == label) prepared)

-- The label is prepared for the task, on the base, and this was its last change, which was not for
-- access(2).
pub record IsReady (prepared : List Prepared) (label task base : ℕ) (change : Change) : Type 0 where
  pub for_task : is_access change ≡ false
  pub slot : ℕ
  pub last : Changed
  pub by : last.change ≡ change
  pub found :
      find (λ p. p.label == label) prepared
      ≡ Some (record { label = label; task = task; base = base; slot = slot; changed = Some last })

-- This label gave up what it prepared, and the others stay in their order.
pub record GivesUp (before after : List Prepared) (p : Prepared) : Type 0 where
  pub place : ℕ
  pub found : prepared_place before p.label ≡ Some place
  pub there : slice_get before place ≡ Some p
  pub left : after ≡ remove before place

-- This label gave up what it prepared on this base, and the slot that it kept.
pub record EndsLabel (before after : List Prepared) (label base slot : ℕ) : Type 0 where
  pub task : ℕ
  pub changed : Option Changed
  pub gives :
      GivesUp before after
      (record { label = label; task = task; base = base; slot = slot; changed = changed })

-- This label gave up what it prepared on this base, of which this was the last change, and the slot
-- that it kept.
pub record GivesUpChanged
    (before after : List Prepared) (label base slot : ℕ) (last : Changed)
    : Type 0 where
  pub task : ℕ
  pub gives :
      GivesUp before after
      (record { label = label; task = task; base = base; slot = slot; changed = Some last })
