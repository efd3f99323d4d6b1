-- What holds of each reference, by the kinds of things that refer.
use Rattle.std.proofs.Common.{◌≡◌, refl, ap, ℕ, ◌==◌, not, Bool, List, [], Some, true, false, cond, slice_get, ◌∷◌}
use Rattle.std.specs.List.{All, AllByRecursion, concat, filter}
use Rattle.std.specs.Option.{unwrap_or}
use Rattle.std.proofs.lemmas.List.Elements.{All-append, All-cons, All-filter, All-head, All-map, All-nil}
use Rattle.cred_record.specs.File.{File}
use Rattle.cred_event.specs.declared.event.Side.{Side}
use Rattle.cred_event.specs.declared.event.Side.TheVariants.{Subjective, Objective}
use Rattle.cred_model.specs.State.{State, number_on, Task, Broadcast, OpenFile, Hold, Prepared, Changed, ProcessFlag}
use Rattle.cred_model.specs.Slots.{places, in_use, refs}
use Rattle.cred_model.specs.Ends.{numbers_of, survivors, left_by, ended}
use Rattle.cred_model.specs.Moves.{updated, with_current, overriding, with_overrides, altered_at, with_change}
use Rattle.cred_model.proofs.Lists.{All-kept, All-left, All-right, All-unmap, All-flat_map, All-unflat_map}
use Rattle.cred_model.proofs.Numbers.{updated_as, overriding_as}

pub record EachRef (P : ℕ → Type 0) (s : State) : Type 0 where
  pub currents : All (λ t. P t.current) s.tasks
  pub overrides : All (λ t. All P t.overrides) s.tasks
  pub openers : All (λ f. P f.opener) s.files
  pub holds : All (λ h. P h.number) s.holds
  pub bases : All (λ p. P p.base) s.prepared
  pub deferred : All P s.deferred

-- lists that are joined, by each of them
concat_each : (P : ℕ → Type 0) (lists : List (List ℕ)) → AllByRecursion (All P) lists → All P (concat lists)
concat_each P [] each = All-nil P
concat_each P (xs ∷ lists) each = All-append P xs (concat lists) each.0 (concat_each P lists each.1)

each_concat : (P : ℕ → Type 0) (lists : List (List ℕ)) → All P (concat lists) → AllByRecursion (All P) lists
each_concat P [] each = tt
each_concat P (xs ∷ lists) each =
    (All-left P xs (concat lists) each, each_concat P lists (All-right P xs (concat lists) each))

pub refs_each : (P : ℕ → Type 0) (s : State) → EachRef P s → All P (refs s)
refs_each P s each =
    let currents = All-map P (λ (t : Task). t.current) s.tasks each.currents in
    let overrides = All-flat_map P (λ (t : Task). t.overrides) s.tasks each.overrides in
    let openers = All-map P (λ (f : OpenFile). f.opener) s.files each.openers in
    let holds = All-map P (λ (h : Hold). h.number) s.holds each.holds in
    let bases = All-map P (λ (p : Prepared). p.base) s.prepared each.bases in
    All-append P (in_use s) s.deferred
    (concat_each P (places s) (currents, (overrides, (openers, (holds, (bases, tt)))))) each.deferred

pub each_ref : (P : ℕ → Type 0) (s : State) → All P (refs s) → EachRef P s
each_ref P s each =
    let at = each_concat P (places s) (All-left P (in_use s) s.deferred each) in
    record {
      currents = All-unmap P (λ (t : Task). t.current) s.tasks at.0;
      overrides = All-unflat_map P (λ (t : Task). t.overrides) s.tasks at.1.0;
      openers = All-unmap P (λ (f : OpenFile). f.opener) s.files at.1.1.0;
      holds = All-unmap P (λ (h : Hold). h.number) s.holds at.1.1.1.0;
      bases = All-unmap P (λ (p : Prepared). p.base) s.prepared at.1.1.1.1.0;
      deferred = All-right P (in_use s) s.deferred each;
    }

-- what a task acts with, where P holds of all that it refers to
acting_by : (P : ℕ → Type 0) (numbers : List ℕ) (current : ℕ) → P current → All P numbers
    → P (unwrap_or (slice_get numbers 0) current)
acting_by P [] current now each = now
acting_by P (n ∷ numbers) current now each = All-head P n numbers each

-- the numbers of the tasks' credentials, those they act with or those they are acted on by
pub each_side : {P : ℕ → Type 0} {s : State} (side : Side) → EachRef P s → All (λ t. P (number_on side t)) s.tasks
each_side {P} Subjective each = λ k d lt. acting_by P _ _ (each.currents k d lt) (each.overrides k d lt)
each_side Objective each = each.currents

-- ---- a state that differs in one kind

pub each_tasks : {P : ℕ → Type 0} {s : State} → EachRef P s → (ts : List Task) → All (λ t. P t.current) ts
    → All (λ t. All P t.overrides) ts → EachRef P (record s { tasks = ts })
each_tasks each ts currents overrides =
    record {
      currents = currents;
      overrides = overrides;
      openers = each.openers;
      holds = each.holds;
      bases = each.bases;
      deferred = each.deferred;
    }

-- the task has another current credential
pub each_updated : {P : ℕ → Type 0} {s : State} → EachRef P s → (task n : ℕ) → P n
    → EachRef P (record s { tasks = with_current s.tasks task n })
each_updated {P} {s} each task n new =
    each_tasks each (with_current s.tasks task n)
    (All-kept (λ (t : Task). P t.current) (updated task n) s.tasks (λ t. updated_as (λ r. P r.current) task n t new) each.currents)
    (All-kept (λ (t : Task). All P t.overrides) (updated task n) s.tasks (λ t old. updated_as (λ r. All P r.overrides) task n t old old) each.overrides)

-- the task acts with these credentials
pub each_overriding : {P : ℕ → Type 0} {s : State} → EachRef P s → (task : ℕ) (numbers : List ℕ) → All P numbers
    → EachRef P (record s { tasks = with_overrides s.tasks task numbers })
each_overriding {P} {s} each task numbers new =
    each_tasks each (with_overrides s.tasks task numbers)
    (All-kept (λ (t : Task). P t.current) (overriding task numbers) s.tasks
    (λ t old. overriding_as (λ r. P r.current) task numbers t old old) each.currents)
    (All-kept (λ (t : Task). All P t.overrides) (overriding task numbers) s.tasks
    (λ t old. overriding_as (λ r. All P r.overrides) task numbers t new old) each.overrides)

pub each_files : {P : ℕ → Type 0} {s : State} → EachRef P s → (fs : List OpenFile) → All (λ f. P f.opener) fs
    → EachRef P (record s { files = fs })
each_files each fs openers =
    record {
      currents = each.currents;
      overrides = each.overrides;
      openers = openers;
      holds = each.holds;
      bases = each.bases;
      deferred = each.deferred;
    }

-- broadcasts refer to nothing
pub each_broadcasts : {P : ℕ → Type 0} {s : State} → EachRef P s → (broadcasts : List Broadcast) → EachRef P (record s { broadcasts = broadcasts })
each_broadcasts each broadcasts =
    record {
      currents = each.currents;
      overrides = each.overrides;
      openers = each.openers;
      holds = each.holds;
      bases = each.bases;
      deferred = each.deferred;
    }

-- nor do the files
pub each_inodes : {P : ℕ → Type 0} {s : State} → EachRef P s → (inodes : List File) → EachRef P (record s { inodes = inodes })
each_inodes each inodes =
    record {
      currents = each.currents;
      overrides = each.overrides;
      openers = each.openers;
      holds = each.holds;
      bases = each.bases;
      deferred = each.deferred;
    }

-- nor does what is dumpable
pub each_flags : {P : ℕ → Type 0} {s : State} → EachRef P s → (flags : List ProcessFlag) → EachRef P (record s { dumpable = flags })
each_flags each flags =
    record {
      currents = each.currents;
      overrides = each.overrides;
      openers = each.openers;
      holds = each.holds;
      bases = each.bases;
      deferred = each.deferred;
    }

pub each_holds : {P : ℕ → Type 0} {s : State} → EachRef P s → (hs : List Hold) → All (λ h. P h.number) hs
    → EachRef P (record s { holds = hs })
each_holds each hs holds =
    record {
      currents = each.currents;
      overrides = each.overrides;
      openers = each.openers;
      holds = holds;
      bases = each.bases;
      deferred = each.deferred;
    }

pub each_prepared : {P : ℕ → Type 0} {s : State} → EachRef P s → (ps : List Prepared) → All (λ p. P p.base) ps
    → EachRef P (record s { prepared = ps })
each_prepared each ps bases =
    record {
      currents = each.currents;
      overrides = each.overrides;
      openers = each.openers;
      holds = each.holds;
      bases = bases;
      deferred = each.deferred;
    }

-- the label has another change
pub each_changed : {P : ℕ → Type 0} {s : State} → EachRef P s → (label : ℕ) (to : Changed)
    → EachRef P (record s { prepared = with_change s.prepared label to })
each_changed {P} {s} each label to =
    each_prepared each (with_change s.prepared label to)
    (All-kept (λ (p : Prepared). P p.base) (altered_at label to) s.prepared
    (λ p old. elim (p.label == label) as (λ b. P (cond b (record p { changed = Some to }) p).base) [ true ↦ old | false ↦ old ]) each.bases)

pub each_deferred : {P : ℕ → Type 0} {s : State} → EachRef P s → (numbers : List ℕ) → All P numbers
    → EachRef P (record s { deferred = numbers })
each_deferred each numbers deferred =
    record {
      currents = each.currents;
      overrides = each.overrides;
      openers = each.openers;
      holds = each.holds;
      bases = each.bases;
      deferred = deferred;
    }

-- ---- tasks that end

-- where none ends, all go on
pub all_survive : (tasks : List Task) → survivors (λ t. false) tasks ≡ tasks
all_survive [] = refl
all_survive (t ∷ tasks) = ap (λ ts. t ∷ ts) (all_survive tasks)

-- what holds of all that a task refers to
abbrev OfTask : (ℕ → Type 0) → Task → Type 0
OfTask P t = All P (numbers_of t)

pub each_ended : {P : ℕ → Type 0} {s : State} → EachRef P s → (ends : Task → Bool) → EachRef P (ended ends s)
each_ended {P} {s} each ends =
    let go_on : Task → Bool = λ t. not (ends t) in
    let left = All-filter ends (OfTask P) s.tasks
    (λ k d lt. All-cons P _ _ (each.currents k d lt) (each.overrides k d lt)) in
    each_deferred
    (each_tasks each (survivors ends s.tasks)
    (All-filter go_on (λ (t : Task). P t.current) s.tasks each.currents)
    (All-filter go_on (λ (t : Task). All P t.overrides) s.tasks each.overrides)) _
    (All-append P s.deferred (left_by ends s.tasks) each.deferred (All-flat_map P numbers_of (filter ends s.tasks) left))
