-- A task acts with another credential than its current one, and goes back.
use Rattle.std.proofs.Common.{◌≡◌, ◌≢◌, ℕ, ◌<◌, Bool, true, false, cond, ◌&&◌, ◌==◌, nat_lt, List, [], ◌∷◌, ◌++◌, drop, find, position, remove, length}
use Rattle.std.proofs.Common.{slice_get, slice_set, count_by, is_some, Option, None, Some, refl, sym, ap, ◌∙◌, subst, arith}
use Rattle.std.specs.List.{AllPairs}
use Rattle.std.specs.Option.{IsSome, option_and_then, option_map_or}
use Rattle.cred_ids.specs.Limits.{DEPTH}
use Rattle.std.proofs.lemmas.Option.{slice_get_within}
use Rattle.cred_record.specs.Credential.{Credential}
use Rattle.cred_event.specs.declared.answer.Answer.TheVariants.{Done, NoHold, Sealed, TooDeep}
use Rattle.cred_model.specs.State.{State, Task, Prepared, Changed, Numbered, task_of, prepared_of, held_by}
use Rattle.cred_model.specs.Slots.{in_use, kept}
use Rattle.cred_model.specs.Like.{IsLike, IsOutcomeLike}
use Rattle.cred_model.specs.Moves.{with_overrides, with_override, overridden}
use Rattle.cred_model.specs.LabelEvents.{by_override, by_revert, for_access, is_access}
use Rattle.cred_model.specs.Step.{outcome}
use Rattle.cred_model.proofs.Likes.{does_same}
use Rattle.cred_model.proofs.Numbers.{owner_number}
use Rattle.cred_slots.specs.Table.{Table, IsSameBag, references_to}
use Rattle.cred_procs.specs.Tasks.{task_in, overrides_of}
use Rattle.cred_tables.specs.Prepared.{changed_of}
use Rattle.cred_tables.specs.Kept.{StateLists, creds_in, state_of, IsKept, SealsKept}
use Rattle.cred_slots.proofs.Counting.{count-cons}
use Rattle.cred_tables.proofs.Returned.{set_same}
use Rattle.cred_tables.proofs.Bags.{one_if, bag-has, bag-at}
use Rattle.cred_model.proofs.Places.{find-at, place-of_found}
use Rattle.cred_tables.proofs.Sealing.{Drops, keeps_same, kept_less, kept_more, over_later}
use Rattle.cred_tables.proofs.Filled.{NoMore}
use Rattle.cred_tables.proofs.InUse.{Differ}
use Rattle.cred_state.proofs.OverrideCounts.{in_use-lent, in_use-reverted}
use Rattle.cred_tables.proofs.Stored.{does_made, length-creds_in}
use Rattle.cred_state.proofs.Finishing.{finish_kept, finish_like}

-- ---- what the table of tasks answers

-- The task took on one override more.
pub record Lends (tasks after : List Task) (task number : ℕ) : Type 0 where
  pub owner : Task
  pub lives : find (λ t. t.number == task) tasks ≡ Some owner
  pub few : nat_lt (length owner.overrides) DEPTH ≡ true
  pub gives : after ≡ with_overrides tasks task (number ∷ owner.overrides)

-- The task has as many as it may, and nothing changed.
pub record IsDeep (tasks after : List Task) (task : ℕ) : Type 0 where
  pub owner : Task
  pub lives : find (λ t. t.number == task) tasks ≡ Some owner
  pub many : nat_lt (length owner.overrides) DEPTH ≡ false
  pub same : after ≡ tasks

-- The task went back to what it acted with before this override.
pub record Reverts (tasks after : List Task) (task newest : ℕ) : Type 0 where
  pub owner : Task
  pub lives : find (λ t. t.number == task) tasks ≡ Some owner
  pub there : slice_get owner.overrides 0 ≡ Some newest
  pub gives : after ≡ with_overrides tasks task (drop 1 owner.overrides)

pub alive_is : (tasks : List Task) (task : ℕ) → IsSome (task_in tasks task) → (owner : Task) × (find (λ t. t.number == task) tasks ≡ Some owner)
alive_is tasks task alive = by (task_in tasks task) refl alive
  where
    by : (found : Option Task) → task_in tasks task ≡ found → IsSome found → (owner : Task) × (find (λ t. t.number == task) tasks ≡ Some owner)
    by None is some = cc
    by (Some owner) is some = (owner, is)

overrides_are : (tasks : List Task) (task : ℕ) (owner : Task) → find (λ t. t.number == task) tasks ≡ Some owner → overrides_of tasks task ≡ owner.overrides
overrides_are tasks task owner lives = ap (λ (o : Option Task). option_map_or (λ t. t.overrides) o []) lives

module _ (tasks after : List Task) (task : ℕ) (alive : IsSome (task_in tasks task)) where
  pub lends : (number : ℕ) (pushed : Bool) → pushed ≡ nat_lt (length (overrides_of tasks task)) DEPTH
      → after ≡ cond pushed (with_overrides tasks task (number ∷ overrides_of tasks task)) tasks → pushed ≡ true → Lends tasks after task number
  lends number pushed few makes room =
      let own = alive_is tasks task alive in
      let same = overrides_are tasks task own.0 own.1 in
      record {
        owner = own.0;
        lives = own.1;
        few = sym (ap (λ (ns : List ℕ). nat_lt (length ns) DEPTH) same) ∙ sym few ∙ room;
        gives = makes ∙ ap (λ (b : Bool). cond b (with_overrides tasks task (number ∷ overrides_of tasks task)) tasks) room
            ∙ ap (λ (ns : List ℕ). with_overrides tasks task (number ∷ ns)) same;
      }

  pub is_deep : (number : ℕ) (pushed : Bool) → pushed ≡ nat_lt (length (overrides_of tasks task)) DEPTH
      → after ≡ cond pushed (with_overrides tasks task (number ∷ overrides_of tasks task)) tasks → pushed ≡ false → IsDeep tasks after task
  is_deep number pushed few makes full =
      let own = alive_is tasks task alive in
      let same = overrides_are tasks task own.0 own.1 in
      record {
        owner = own.0;
        lives = own.1;
        many = sym (ap (λ (ns : List ℕ). nat_lt (length ns) DEPTH) same) ∙ sym few ∙ full;
        same = makes ∙ ap (λ (b : Bool). cond b (with_overrides tasks task (number ∷ overrides_of tasks task)) tasks) full;
      }

  pub reverts : (newest : ℕ) → Some newest ≡ slice_get (overrides_of tasks task) 0 → after ≡ with_overrides tasks task (drop 1 (overrides_of tasks task))
      → Reverts tasks after task newest
  reverts newest is makes =
      let own = alive_is tasks task alive in
      let same = overrides_are tasks task own.0 own.1 in
      record {
        owner = own.0;
        lives = own.1;
        there = sym (is ∙ ap (λ (ns : List ℕ). slice_get ns 0) same);
        gives = makes ∙ ap (λ (ns : List ℕ). with_overrides tasks task (drop 1 ns)) same;
      }

-- ---- what the tests lead to

module _ (s : State) (task label : ℕ) (owner : Task) (lives : task_of s task ≡ Some owner) where
  module _ (held : Numbered) (has : held_by s label ≡ Some held) where
    pub held_tests : nat_lt (length owner.overrides) DEPTH ≡ true
        → outcome s (by_override s task label) ≡ (Sealed held.number held.slot, with_override s owner held.number)
    held_tests few = rw (lives, has, few) refl

  module _ (none : held_by s label ≡ None) where
    prepared_tests : (place : ℕ) (p : Prepared) (last : Changed) → position (λ q. q.label == label) s.prepared ≡ Some place
        → slice_get s.prepared place ≡ Some p → for_access owner.number p ≡ Some last → nat_lt (length owner.overrides) DEPTH ≡ true
        → outcome s (by_override s task label) ≡ (Sealed (length s.creds) p.slot, overridden s place p owner last.cred)
    prepared_tests place p last at there for few = rw (lives, none, at, there, for, few) refl

    prepared_deep : (place : ℕ) (p : Prepared) (last : Changed) → position (λ q. q.label == label) s.prepared ≡ Some place
        → slice_get s.prepared place ≡ Some p → for_access owner.number p ≡ Some last → nat_lt (length owner.overrides) DEPTH ≡ false
        → outcome s (by_override s task label) ≡ (TooDeep, s)
    prepared_deep place p last at there for many = rw (lives, none, at, there, for, many) refl

-- ---- what a label prepared for access(2)

chosen : (test : Bool) (last : Changed) → is_some (cond test (Some last) None) ≡ true → cond test (Some last) None ≡ Some last
chosen true last some = refl
chosen false last some = cc

changed_some : (task : ℕ) (p : Prepared) (changed : Option Changed) → p.changed ≡ changed → is_some (for_access task p) ≡ true
    → (last : Changed) × (p.changed ≡ Some last)
changed_some task p None is some =
    let none : for_access task p ≡ None = ap (option_and_then (λ (last : Changed). cond (p.task == task && is_access last.change) (Some last) None)) is in
    let false_is : is_some (for_access task p) ≡ false = ap is_some none in
    cc
changed_some task p (Some last) is some = (last, is)

changed_is : (task : ℕ) (p : Prepared) (last : Changed) → p.changed ≡ Some last → is_some (for_access task p) ≡ true → for_access task p ≡ Some last
changed_is task p last is some =
    let test : Bool = p.task == task && is_access last.change in
    let at : for_access task p ≡ cond test (Some last) None
    = ap (option_and_then (λ (last : Changed). cond (p.task == task && is_access last.change) (Some last) None)) is in
    at ∙ chosen test last (sym (ap is_some at) ∙ some)

module _ (prepared : List Prepared) (task label : ℕ) where
  abbrev pub IsForAccess : Bool → Type 0
  IsForAccess test = test ≡ is_some (option_and_then (for_access task) (find (λ p. p.label == label) prepared))

  found_for : (found : Option Prepared) → is_some (option_and_then (for_access task) found) ≡ true → IsSome (option_and_then (λ p. p.changed) found)
  found_for None some = cc
  found_for (Some p) some =
      let at = changed_some task p p.changed refl some in
      ap is_some at.1

  -- it was changed
  pub access_changed : (test : Bool) → IsForAccess test → test ≡ true → IsSome (changed_of prepared label)
  access_changed test is passed = found_for (find (λ p. p.label == label) prepared) (sym is ∙ passed)

  pub access_last : (test : Bool) → IsForAccess test → test ≡ true → (place : ℕ) (p : Prepared) (last : Changed)
      → position (λ q. q.label == label) prepared ≡ Some place → slice_get prepared place ≡ Some p → p.changed ≡ Some last → for_access task p ≡ Some last
  access_last test is passed place p last at there changed =
      let found = find-at (λ q. q.label == label) prepared place p at there in
      changed_is task p last changed (sym (ap (λ (o : Option Prepared). is_some (option_and_then (for_access task) o)) found) ∙ sym is ∙ passed)

  none_for : (found : Option Changed) → is_some found ≡ false → found ≡ None
  none_for None none = refl
  none_for (Some last) none = cc

  access_none : (test : Bool) → IsForAccess test → test ≡ false → (place : ℕ) (p : Prepared)
      → position (λ q. q.label == label) prepared ≡ Some place → slice_get prepared place ≡ Some p → for_access task p ≡ None
  access_none test is fails place p at there =
      let found = find-at (λ q. q.label == label) prepared place p at there in
      none_for (for_access task p) (sym (ap (λ (o : Option Prepared). is_some (option_and_then (for_access task) o)) found) ∙ sym is ∙ fails)

-- a task with as many overrides as it may have
pub access_deep : (s : State) (task label : ℕ) (owner : Task) → task_of s task ≡ Some owner → held_by s label ≡ None
    → (test : Bool) → IsForAccess s.prepared task label test → test ≡ true → nat_lt (length owner.overrides) DEPTH ≡ false
    → outcome s (by_override s task label) ≡ (TooDeep, s)
access_deep s task label owner lives none test is passed many = by (prepared_of s label) refl (sym is ∙ passed)
  where
    by : (found : Option Prepared) → prepared_of s label ≡ found → is_some (option_and_then (for_access task) found) ≡ true
        → outcome s (by_override s task label) ≡ (TooDeep, s)
    by None at some = cc
    by (Some p) at some =
        let place = place-of_found (λ q. q.label == label) s.prepared p at in
        let last = changed_some task p p.changed refl some in
        let for = ap (λ (n : ℕ). for_access n p) (owner_number s task owner lives) ∙ changed_is task p last.0 last.1 some in
        prepared_deep s task label owner lives none place.0 p last.0 place.1 place.2 for many

-- a label that neither holds nor is prepared by the task for access(2)
pub unprepared : (s : State) (task label : ℕ) (owner : Task) → task_of s task ≡ Some owner → held_by s label ≡ None
    → (test : Bool) → IsForAccess s.prepared task label test → test ≡ false → outcome s (by_override s task label) ≡ (NoHold label, s)
unprepared s task label owner lives none test is fails = by_place (position (λ p. p.label == label) s.prepared) refl
  where
    by_prepared : (place : ℕ) → position (λ p. p.label == label) s.prepared ≡ Some place → (found : Option Prepared) → slice_get s.prepared place ≡ found
        → outcome s (by_override s task label) ≡ (NoHold label, s)
    by_prepared place at None there = rw (lives, none, at, there) refl
    by_prepared place at (Some p) there =
        let other : for_access owner.number p ≡ None
        = ap (λ (n : ℕ). for_access n p) (owner_number s task owner lives) ∙ access_none s.prepared task label test is fails place p at there in
        rw (lives, none, at, there, other) refl

    by_place : (found : Option ℕ) → position (λ p. p.label == label) s.prepared ≡ found → outcome s (by_override s task label) ≡ (NoHold label, s)
    by_place None at = rw (lives, none, at) refl
    by_place (Some place) at = by_prepared place at (slice_get s.prepared place) refl

-- ---- the state

module _ {parts : StateLists} {store : List (Option Credential)} {t : Table} (is : IsKept parts store t) where
  abbrev s : State
  s = state_of parts store t

  module _ (task : ℕ) (tasks : List Task) (distinct : Differ parts.tasks) where
    -- ---- a held credential

    module _ (number : ℕ) (lent_to : Lends parts.tasks tasks task number) (r after : Table) {m k : ℕ} (spared : r ≡ record t { spare = m })
        (adds : IsSameBag after.held (number ∷ r.held)) (made : after ≡ record r { held = after.held; spare = k }) where
      pub lent_kept : 0 < count_by (λ m. m == number) t.held → IsKept (record parts { tasks = tasks }) store after
      lent_kept has =
          subst (λ (ts : List Task). IsKept (record parts { tasks = ts }) store after) (sym lent_to.gives)
          (kept_more is spared adds made (in_use-lent s task lent_to.owner distinct lent_to.lives number) refl has)

      pub lent_done : (label : ℕ) (c : Numbered) → held_by s label ≡ Some c → c.number ≡ number
          → IsOutcomeLike (outcome s (by_override s task label)) (Sealed number c.slot) (state_of (record parts { tasks = tasks }) store after)
      lent_done label c has same =
          let owner = lent_to.owner in
          let sealed = ap (λ (x : Table). x.sealed) made ∙ ap (λ (x : Table). x.sealed) spared in
          let deferred = ap (λ (x : Table). x.deferred) made ∙ ap (λ (x : Table). x.deferred) spared in
          does_same _ _ _
          (held_tests s task label owner lent_to.lives c has lent_to.few
          ∙ ap (λ (n : ℕ). (Sealed c.number c.slot, record s { tasks = with_overrides parts.tasks n (c.number ∷ owner.overrides) }))
          (owner_number s task owner lent_to.lives)
          ∙ ap (λ (n : ℕ). (Sealed n c.slot, record s { tasks = with_overrides parts.tasks task (n ∷ owner.overrides) })) same
          ∙ ap (λ (ts : List Task). (Sealed number c.slot, record s { tasks = ts })) (sym lent_to.gives)
          ∙ ap (λ (r : State). (Sealed number c.slot, r)) (over_later (record parts { tasks = tasks }) store t after sealed deferred))

    -- ---- a prepared credential

    module _ {mid : Table} (after : Table) {next number : ℕ} (lent_to : Lends parts.tasks tasks task next) (label place : ℕ) (p : Prepared)
        (there : slice_get parts.prepared place ≡ Some p) (slots : AllPairs (λ a b. a ≢ b) (kept s)) (last : Changed)
        {m : ℕ} (spared : mid ≡ record t { spare = m })
        (words : slice_get store p.slot ≡ Some (Some last.cred)) (seals : SealsKept mid after number p.base p.slot) (count : next ≡ length mid.sealed) where
      same_number : next ≡ number
      same_number = count ∙ sym seals.counted

      abbrev end : StateLists
      end = record parts { tasks = tasks; prepared = remove parts.prepared place }

      abbrev put : List (Option Credential)
      put = slice_set store p.slot (Some last.cred)

      refer : IsSameBag (number ∷ mid.held) (in_use (record s { tasks = tasks }))
      refer = record {
        counts = λ test.
            let lent_bag = in_use-lent s task lent_to.owner distinct lent_to.lives next in
            let lent_now =
            ap (λ (ts : List Task). count_by test (in_use (record s { tasks = ts }))) lent_to.gives ∙ lent_bag.counts test ∙ count-cons test next (in_use s) in
            let more = ap (λ (x : Table). count_by test (number ∷ x.held)) spared ∙ count-cons test number t.held in
            let one : one_if (test next) ≡ one_if (test number) = ap (λ (n : ℕ). one_if (test n)) same_number in
            omega (arith, lent_now, more, one, is.counted.counts.counts test);
      }

      fewer : NoMore t mid
      fewer n some = subst (λ (x : Table). 0 < references_to x n) spared some

      -- what was prepared is in the words already
      put_same : put ≡ store
      put_same = set_same store p.slot (Some last.cred) words

      pub prepared_kept : IsKept end store after
      prepared_kept =
          subst (λ (words : List (Option Credential)). IsKept end words after) put_same
          (finish_kept is place p there slots tasks after number (ap (λ (x : Table). x.sealed) spared) (ap (λ (x : Table). x.kept) spared) fewer refer
          (slice_get_within store p.slot _ words) seals last.cred)

      abbrev made : List Task → State
      made ts = record (overridden s place p lent_to.owner last.cred) { tasks = ts }

      prepared_like : IsLike (state_of end put after) (made tasks)
      prepared_like =
          finish_like is place p there slots tasks after number (ap (λ (x : Table). x.sealed) spared) (ap (λ (x : Table). x.kept) spared) fewer refer
          (slice_get_within store p.slot _ words) seals last.cred (made tasks) refl
          (ap (λ (x : Table). x.deferred ++ p.base ∷ []) spared) refl

      pub prepared_done : position (λ q. q.label == label) parts.prepared ≡ Some place → for_access task p ≡ Some last → held_by s label ≡ None
          → IsOutcomeLike (outcome s (by_override s task label)) (Sealed number p.slot) (state_of end store after)
      prepared_done at for none =
          let owner = lent_to.owner in
          let named = owner_number s task owner lent_to.lives in
          let counted : length (creds_in store t.sealed) ≡ number
          = length-creds_in store t.sealed ∙ ap (λ (x : Table). length x.sealed) (sym spared) ∙ sym seals.counted in
          subst (λ (words : List (Option Credential)). IsOutcomeLike (outcome s (by_override s task label)) (Sealed number p.slot) (state_of end words after))
          put_same
          (does_made
          (prepared_tests s task label owner lent_to.lives none place p last at there (ap (λ (n : ℕ). for_access n p) named ∙ for) lent_to.few
          ∙ ap (λ (n : ℕ). (Sealed (length s.creds) p.slot, made (with_overrides parts.tasks n (length s.creds ∷ owner.overrides)))) named
          ∙ ap (λ (n : ℕ). (Sealed n p.slot, made (with_overrides parts.tasks task (n ∷ owner.overrides)))) counted
          ∙ ap (λ (n : ℕ). (Sealed number p.slot, made (with_overrides parts.tasks task (n ∷ owner.overrides)))) (sym same_number)
          ∙ ap (λ (ts : List Task). (Sealed number p.slot, made ts)) (sym lent_to.gives))
          prepared_like)

    -- ---- as it was before

    module _ (newest : ℕ) (back : Reverts parts.tasks tasks task newest) where
      -- the newest override is held
      pub newest-held : 0 < count_by (λ m. m == newest) t.held
      newest-held = bag-at newest is.counted.counts (bag-has (in_use-reverted s task back.owner distinct back.lives newest back.there))

      module _ (after : Table) (less : Drops t after newest) where
        pub revert_kept : IsKept (record parts { tasks = tasks }) store after
        revert_kept =
            subst (λ (ts : List Task). IsKept (record parts { tasks = ts }) store after) (sym back.gives)
            (kept_less is less (in_use-reverted s task back.owner distinct back.lives newest back.there) (keeps_same t after _ is.counted.keeps less.kept))

        pub revert_done : outcome s (by_revert s task) ≡ (Done, state_of (record parts { tasks = tasks }) store after)
        revert_done =
            let found : outcome s (by_revert s task)
            ≡ (Done, record s { tasks = with_overrides parts.tasks task (drop 1 back.owner.overrides); deferred = t.deferred ++ newest ∷ [] })
            = rw (back.lives, back.there) refl in
            found
            ∙ ap (λ (ts : List Task). (Done, record s { tasks = ts; deferred = t.deferred ++ newest ∷ [] })) (sym back.gives)
            ∙ ap (λ (r : State). (Done, r)) (over_later (record parts { tasks = tasks }) store t after less.sealed less.deferred)
