-- The references of a state, and the slots that are free.
use Rattle.std.proofs.Common.{◌≡◌, ◌≢◌, ◌==◌, not, ℕ, ◌<◌, slice_get, Option, Some, None, Bool, true, false, refl, sym, ◌∙◌, subst, arith}
use Rattle.std.specs.List.{All, Contains}
use Rattle.std.specs.Option.{IfSome, option_map, option_map_or}
use Rattle.std.proofs.lemmas.List.Elements.{All-contains_itself, All-weaker}
use Rattle.std.proofs.lemmas.List.FromFn.{get_or-range_with_len, length-range_with_len}
use Rattle.std.proofs.lemmas.Bool.{eqb-false}
use Rattle.std.proofs.lemmas.Option.{slice_get-map}
use Rattle.cred_ids.specs.Limits.{SLOTS, slots}
use Rattle.cred_event.specs.declared.event.Side.{Side}
use Rattle.cred_model.specs.State.{State, SealedCred, Task, OpenFile, Hold, Prepared, Numbered, task_of, current_of, credential_of, opener_of, hold_of, held_by}
use Rattle.cred_model.specs.Slots.{refs, kept, stands_in, is_live, is_kept, least_free}
use Rattle.cred_model.proofs.Referred.{EachRef, each_ref}
use Rattle.cred_model.proofs.LikeReads.{current_by, credential_by, opener_by, held_by_each}
use Rattle.cred_model.proofs.Lists.{All-at, find_each, or_left, or_right, none_passes, found}
use Rattle.cred_sound.specs.SlotUse.{IsClear, slot_use}

-- ---- what refers

-- each thing that refers refers to one of the references
pub own_refs : (s : State) → EachRef (Contains (refs s)) s
own_refs s = each_ref (Contains (refs s)) s (All-contains_itself (refs s))

-- what holds of whatever is found
if_found : {X : Type 0} (P : X → Type 0) (o : Option X) (x : X) → o ≡ Some x → IfSome o P → P x
if_found P o x is each = subst (λ o. IfSome o P) is each

abbrev Stands : State → Numbered → Type 0
Stands s c = Contains (refs s) c.number

pub current_stands : (s : State) (task : ℕ) (c : Numbered) → current_of s task ≡ Some c → Contains (refs s) c.number
current_stands s task c is = if_found (Stands s) (current_of s task) c is (current_by s (Contains (refs s)) task (own_refs s))

pub credential_stands : (s : State) (task : ℕ) (side : Side) (c : Numbered) → credential_of s task side ≡ Some c
    → Contains (refs s) c.number
credential_stands s task side c is =
    if_found (Stands s) (credential_of s task side) c is (credential_by s (Contains (refs s)) task side (own_refs s))

pub opener_stands : (s : State) (fd : ℕ) (c : Numbered) → opener_of s fd ≡ Some c → Contains (refs s) c.number
opener_stands s fd c is = if_found (Stands s) (opener_of s fd) c is (opener_by s (Contains (refs s)) fd (own_refs s))

pub held_by_stands : (s : State) (label : ℕ) (c : Numbered) → held_by s label ≡ Some c → Contains (refs s) c.number
held_by_stands s label c is = if_found (Stands s) (held_by s label) c is (held_by_each s (Contains (refs s)) label (own_refs s))

pub owner_stands : (s : State) (task : ℕ) (owner : Task) → task_of s task ≡ Some owner → Contains (refs s) owner.current
owner_stands s task owner is =
    if_found (λ (t : Task). Contains (refs s) t.current) (task_of s task) owner is
    (find_each (λ t. Contains (refs s) t.current) (λ (t : Task). t.number == task) s.tasks (own_refs s).currents)

pub overrides_stand : (s : State) (task : ℕ) (owner : Task) → task_of s task ≡ Some owner → All (Contains (refs s)) owner.overrides
overrides_stand s task owner is =
    if_found (λ (t : Task). All (Contains (refs s)) t.overrides) (task_of s task) owner is
    (find_each (λ t. All (Contains (refs s)) t.overrides) (λ (t : Task). t.number == task) s.tasks (own_refs s).overrides)

pub found_stands : (s : State) (label : ℕ) (hold : Hold) → hold_of s label ≡ Some hold → Contains (refs s) hold.number
found_stands s label hold is =
    if_found (λ (h : Hold). Contains (refs s) h.number) (hold_of s label) hold is
    (find_each (λ h. Contains (refs s) h.number) (λ (h : Hold). h.label == label) s.holds (own_refs s).holds)

pub file_stands : (s : State) (place : ℕ) (file : OpenFile) → slice_get s.files place ≡ Some file → Contains (refs s) file.opener
file_stands s place file is = All-at (λ f. Contains (refs s) f.opener) s.files place file is (own_refs s).openers

pub held_stands : (s : State) (place : ℕ) (hold : Hold) → slice_get s.holds place ≡ Some hold → Contains (refs s) hold.number
held_stands s place hold is = All-at (λ h. Contains (refs s) h.number) s.holds place hold is (own_refs s).holds

pub base_stands : (s : State) (place : ℕ) (p : Prepared) → slice_get s.prepared place ≡ Some p → Contains (refs s) p.base
base_stands s place p is = All-at (λ p. Contains (refs s) p.base) s.prepared place p is (own_refs s).bases

-- ---- a free slot

slots_below : All (λ slot. slot < SLOTS) slots
unfolding slots
slots_below k d lt =
    let within : k < SLOTS = omega (arith, length-range_with_len 0 SLOTS) in
    omega (arith, get_or-range_with_len 0 SLOTS k d within)

not_true : (b : Bool) → not b ≡ true → b ≡ false
not_true true is = cc
not_true false is = refl

other_slot : (o : Option SealedCred) (slot : ℕ) → option_map_or (λ (x : SealedCred). x.slot == slot) o false ≡ false
    → option_map (λ (x : SealedCred). x.slot) o ≢ Some slot
other_slot None slot fails is = cc
other_slot (Some x) slot fails is = eqb-false x.slot slot fails (let same : x.slot ≡ slot = cc in same)

pub clear_of : (s : State) (slot n : ℕ) → stands_in s.creds slot n ≡ false → slice_get (slot_use s).slots n ≢ Some slot
clear_of s slot n fails is =
    other_slot (slice_get s.creds n) slot fails (sym (slice_get-map (λ (x : SealedCred). x.slot) s.creds n) ∙ is)

-- nothing that is referred to stands in the slot, and it isn't kept
pub record IsFree (s : State) (slot : ℕ) : Type 0 where
  pub below : slot < SLOTS
  pub clear : IsClear (slot_use s).slots slot (refs s)
  pub unkept : All (λ k. k ≢ slot) (kept s)

pub free_slot : (s : State) (slot : ℕ) → least_free s ≡ Some slot → IsFree s slot
free_slot s slot is =
    let at = found (λ slot. slot < SLOTS) (λ slot. not (is_live s slot)) slots slot is slots_below in
    let dead = not_true (is_live s slot) at.1 in
    record {
      below = at.0;
      clear = All-weaker (λ n. stands_in s.creds slot n ≡ false) (λ n. slice_get (slot_use s).slots n ≢ Some slot) (clear_of s slot) (refs s)
          (none_passes (λ n. stands_in s.creds slot n) (refs s) (or_left _ (is_kept s slot) dead));
      unkept = All-weaker (λ k. (k == slot) ≡ false) (λ k. k ≢ slot) (λ k. eqb-false k slot) (kept s)
          (none_passes (λ k. k == slot) (kept s) (or_right _ (is_kept s slot) dead));
    }
