-- What a label prepared is committed.
use Rattle.std.proofs.Common.{◌≡◌, ◌≢◌, ℕ, ◌<◌, true, false, not, ◌==◌, List, [], ◌∷◌, ◌++◌, append_assoc, find, position, remove, length, slice_get, slice_set}
use Rattle.std.proofs.Common.{slice_index_or, count_by, Bool, ◌+◌, Option, None, Some, Ok, Err, refl, sym, ap, ◌∙◌, subst, arith}
use Rattle.std.specs.List.{AllPairs}
use Rattle.std.specs.Option.{option_and_then, option_map}
use Rattle.std.proofs.lemmas.Bool.{eq-eqb}
use Rattle.std.proofs.lemmas.Bool.Decides.{nat_tests}
use Rattle.std.proofs.lemmas.List.Kept.{AllPairs-filter}
use Rattle.std.proofs.lemmas.Option.{slice_get_within}
use Rattle.cred_record.specs.Credential.{Credential}
use Rattle.cred_event.specs.declared.answer.Answer.{Answer}
use Rattle.cred_event.specs.declared.answer.Answer.TheVariants.{Busy, NoTask, NoPrepared, Overridden, Stale}
use Rattle.cred_event.specs.declared.event.Change.{Change}
use Rattle.cred_event.specs.declared.event.Change.TheVariants.{Exec}
use Rattle.cred_model.specs.State.{State, Task, Prepared, Changed, Broadcast, ProcessFlag, task_of, begun_by, prepared_of}
use Rattle.cred_model.specs.Broadcasts.{not_busy, broadcasts_left}
use Rattle.cred_model.specs.Dumpable.{flags_committed}
use Rattle.cred_model.specs.Slots.{in_use, kept}
use Rattle.cred_model.specs.Ends.{survivors, ended}
use Rattle.cred_model.specs.Like.{IsLike, IsOutcomeLike}
use Rattle.cred_model.specs.Moves.{not_overridden, with_current, given_up, committed}
use Rattle.cred_model.specs.LabelEvents.{by_abort, by_commit, try_commit, commit_answer, committed_by, broadcasts_after, ends_with, for_task, is_access}
use Rattle.cred_model.specs.Step.{outcome}
use Rattle.cred_model.proofs.Likes.{does_same}
use Rattle.cred_slots.specs.Table.{Table, IsSameBag, is_kept_in}
use Rattle.cred_slots.proofs.Counting.{count-cons}
use Rattle.cred_sound.proofs.Survivors.{find_goes_on}
use Rattle.cred_tables.specs.Prepared.{changed_of}
use Rattle.cred_tables.specs.Kept.{StateLists, creds_in, state_of, IsKept, SealsKept}
use Rattle.cred_tables.proofs.Returned.{set_same}
use Rattle.cred_tables.proofs.Bags.{bag-at, counts_itself}
use Rattle.cred_state.proofs.Broadcasts.{kept_beside, like_beside}
use Rattle.cred_model.proofs.Places.{find-at, place-of_found}
use Rattle.cred_state.proofs.Labelling.{abort_tests, slot-kept}
use Rattle.cred_tables.proofs.Sealing.{Drops}
use Rattle.cred_tables.proofs.Owners.{no_number}
use Rattle.cred_tables.proofs.Filled.{NoMore, no_more_dropped}
use Rattle.cred_tables.proofs.InUse.{Differ, in_use-updated, current-stands, base-stands_twice}
use Rattle.cred_tables.proofs.Ending.{EndsWith, ended_kept, ended_is}
use Rattle.cred_tables.proofs.Stored.{does_made, length-creds_in}
use Rattle.cred_state.proofs.Finishing.{finish_kept, finish_like}

-- ---- what the tests lead to

-- a change that was not for access(2) is a task's
for_a_task : (p : Prepared) (last : Changed) → p.changed ≡ Some last → is_access last.change ≡ false → option_and_then for_task p.changed ≡ Some last
for_a_task p last changed own = ap (option_and_then for_task) changed ∙ rw own refl

commit_tests : (s : State) (label place : ℕ) (p : Prepared) (last : Changed) (owner : Task)
    → position (λ q. q.label == label) s.prepared ≡ Some place → slice_get s.prepared place ≡ Some p
    → p.changed ≡ Some last → is_access last.change ≡ false → task_of s p.task ≡ Some owner → not_busy (begun_by s p.task) ≡ Ok tt
    → not_overridden owner ≡ Ok tt → outcome s (by_commit s label) ≡ try_commit s place p owner last
commit_tests s label place p last owner at there changed for lives idle own = rw (at, there, for_a_task p last changed for, lives, idle, own) refl

-- where the label isn't prepared, was never changed, or was changed last for access(2)
pub commit_none : (s : State) (label : ℕ) → option_and_then for_task (changed_of s.prepared label) ≡ None
    → IsOutcomeLike (outcome s (by_commit s label)) (NoPrepared label) s
commit_none s label none = does_same _ _ _ (by_place (position (λ p. p.label == label) s.prepared) refl)
  where
    by_prepared : (place : ℕ) → position (λ p. p.label == label) s.prepared ≡ Some place → (found : Option Prepared) → slice_get s.prepared place ≡ found
        → outcome s (by_commit s label) ≡ (NoPrepared label, s)
    by_prepared place at None there = rw (at, there) refl
    by_prepared place at (Some p) there =
        let unchanged : option_and_then for_task p.changed ≡ None
        = sym (ap (λ (o : Option Prepared). option_and_then for_task (option_and_then (λ (q : Prepared). q.changed) o))
        (find-at (λ q. q.label == label) s.prepared place p at there)) ∙ none in
        rw (at, there, unchanged) refl

    by_place : (found : Option ℕ) → position (λ p. p.label == label) s.prepared ≡ found → outcome s (by_commit s label) ≡ (NoPrepared label, s)
    by_place None at = rw at refl
    by_place (Some place) at = by_prepared place at (slice_get s.prepared place) refl

try_commit_stale : (s : State) (place : ℕ) (p : Prepared) (owner : Task) (last : Changed) → (owner.current == p.base) ≡ false
    → try_commit s place p owner last ≡ (Stale p.base owner.current, given_up s place p)
try_commit_stale s place p owner last other = rw other refl

try_commit_current : (s : State) (place : ℕ) (p : Prepared) (owner : Task) (last : Changed) → (owner.current == p.base) ≡ true
    → try_commit s place p owner last
    ≡ (
      commit_answer last (length s.creds) p.slot (count_by (ends_with last.change owner) s.tasks),
      record
          (broadcasts_after last.change owner
          (committed (ended (ends_with last.change owner) s) place p owner.current last.cred))
          { dumpable = flags_committed s owner last },
    )
try_commit_current s place p owner last same = rw same refl

module _ (s : State) (label : ℕ) (p : Prepared) (last : Changed) (found : prepared_of s label ≡ Some p) (changed : p.changed ≡ Some last)
    (for : is_access last.change ≡ false) where
  untasked : (place : ℕ) → position (λ q. q.label == label) s.prepared ≡ Some place → slice_get s.prepared place ≡ Some p → task_of s p.task ≡ None
      → outcome s (by_commit s label) ≡ (NoTask p.task, s)
  untasked place at there none = rw (at, there, for_a_task p last changed for, none) refl

  pub commit_no_task : None ≡ option_map (λ t. t.current) (task_of s p.task) → IsOutcomeLike (outcome s (by_commit s label)) (NoTask p.task) s
  commit_no_task none =
      let at = place-of_found (λ q. q.label == label) s.prepared p found in
      does_same _ _ _ (untasked at.0 at.1 at.2 (no_number (task_of s p.task) none))

  refused_at : (place depth : ℕ) (owner : Task) → position (λ q. q.label == label) s.prepared ≡ Some place → slice_get s.prepared place ≡ Some p
      → task_of s p.task ≡ Some owner → not_busy (begun_by s p.task) ≡ Ok tt → not_overridden owner ≡ Err (Overridden depth)
      → outcome s (by_commit s label) ≡ (Overridden depth, s)
  refused_at place depth owner at there lives idle over = rw (at, there, for_a_task p last changed for, lives, idle, over) refl

  busy_at : (place number : ℕ) (owner : Task) → position (λ q. q.label == label) s.prepared ≡ Some place → slice_get s.prepared place ≡ Some p
      → task_of s p.task ≡ Some owner → not_busy (begun_by s p.task) ≡ Err (Busy number) → outcome s (by_commit s label) ≡ (Busy number, s)
  busy_at place number owner at there lives busy = rw (at, there, for_a_task p last changed for, lives, busy) refl

  pub commit_busy : (number : ℕ) (owner : Task) → task_of s p.task ≡ Some owner → not_busy (begun_by s p.task) ≡ Err (Busy number)
      → IsOutcomeLike (outcome s (by_commit s label)) (Busy number) s
  commit_busy number owner lives busy =
      let at = place-of_found (λ q. q.label == label) s.prepared p found in
      does_same _ _ _ (busy_at at.0 number owner at.1 at.2 lives busy)

  pub commit_overridden : (depth : ℕ) (owner : Task) → task_of s p.task ≡ Some owner → not_busy (begun_by s p.task) ≡ Ok tt
      → not_overridden owner ≡ Err (Overridden depth)
      → IsOutcomeLike (outcome s (by_commit s label)) (Overridden depth) s
  commit_overridden depth owner lives idle over =
      let at = place-of_found (λ q. q.label == label) s.prepared p found in
      does_same _ _ _ (refused_at at.0 depth owner at.1 at.2 lives idle over)

  -- A stale label is given up as an abort does.
  pub commit_stale : (after : State) (answer : Answer) (now : ℕ) (owner : Task) → task_of s p.task ≡ Some owner → owner.current ≡ now
      → not_busy (begun_by s p.task) ≡ Ok tt → not_overridden owner ≡ Ok tt → (now ≡ p.base → ⊥) → outcome s (by_abort s label) ≡ (answer, after)
      → IsOutcomeLike (outcome s (by_commit s label)) (Stale p.base now) after
  commit_stale after answer now owner lives current idle own other aborts =
      let at = place-of_found (λ q. q.label == label) s.prepared p found in
      let differs : (owner.current == p.base) ≡ false = grind (arith, nat_tests, current) in
      let left : given_up s at.0 p ≡ after
      = ap (λ (r : Answer × State). r.1) (sym (abort_tests s label at.0 p at.1 at.2) ∙ aborts) in
      does_same _ _ _
      (commit_tests s label at.0 p last owner at.1 at.2 changed for lives idle own
      ∙ try_commit_stale s at.0 p owner last differs
      ∙ ap (λ (n : ℕ). (Stale p.base n, given_up s at.0 p)) current
      ∙ ap (λ (r : State). (Stale p.base now, r)) left)

-- an execve drops its process's broadcast
broadcasts_are_left : (change : Change) (owner : Task) (s : State)
    → broadcasts_after change owner s ≡ record s { broadcasts = broadcasts_left change owner.process s.broadcasts }
broadcasts_are_left (Exec file) owner s = refl
broadcasts_are_left change owner s = refl

-- ---- who goes on

-- The task that commits doesn't end with it.
own_goes_on : (change : Change) (owner : Task) → ends_with change owner owner ≡ false
own_goes_on (Exec file) owner = rw (eq-eqb owner.process owner.process refl, eq-eqb owner.number owner.number refl) refl
own_goes_on change owner = refl

pub goes_on : {change : Change} {tasks after : List Task} {t t' : Table} {task now : ℕ} {ended_tasks : List ℕ}
    (e : EndsWith change tasks after t t' task now ended_tasks)
    → find (λ u. u.number == task) after ≡ Some e.owner
goes_on {change = change} {tasks = tasks} {task = task} e =
    ap (λ (ts : List Task). find (λ u. u.number == task) ts) e.on
    ∙ (find_goes_on (ends_with change e.owner) tasks task e.owner e.lives (own_goes_on change e.owner)).0

-- ---- a commit

-- The tasks that the commit ends have ended, and what they referred to was given up in the table
-- `t'`.
module _ {parts : StateLists} {after : List Task} {store : List (Option Credential)} {t t' : Table} (is : IsKept parts store t)
    (change : Change) (now task : ℕ) {ended_tasks : List ℕ} (e : EndsWith change parts.tasks after t t' task now ended_tasks) where
  kept_on : IsKept (record parts { tasks = after }) store t'
  kept_on =
      subst (λ (ts : List Task). IsKept (record parts { tasks = ts }) store t') (sym e.on)
      (ended_kept is (ends_with change e.owner) t' e.all)

  differ_on : Differ parts.tasks → Differ after
  differ_on differ =
      subst Differ (sym e.on)
      (AllPairs-filter (λ (a b : Task). a.number ≢ b.number) (λ t. not (ends_with change e.owner t)) parts.tasks differ)

  -- the task's current credential is held
  pub owner-held : 0 < count_by (λ m. m == now) t'.held
  owner-held =
      subst (λ (n : ℕ). 0 < count_by (λ m. m == n) t'.held) e.current
      (bag-at e.owner.current kept_on.counted.counts (current-stands (state_of (record parts { tasks = after }) store t') task e.owner (goes_on e)))

module _ {parts : StateLists} {after : List Task} {store : List (Option Credential)} {t t' : Table} (is : IsKept parts store t)
    (place : ℕ) (p : Prepared) (there : slice_get parts.prepared place ≡ Some p)
    (change : Change) (now : ℕ) {ended_tasks : List ℕ} (e : EndsWith change parts.tasks after t t' p.task now ended_tasks) where
  abbrev before : State
  before = state_of parts store t

  abbrev on : StateLists
  on = record parts { tasks = after }

  lives_on : find (λ u. u.number == p.task) after ≡ Some e.owner
  lives_on = goes_on e

  on_is : IsKept on store t'
  on_is = kept_on is change now p.task e

  -- Then the task's current credential was given up in the table `mid`.
  module _ {mid : Table} (drops : Drops t' mid now) where
    -- The base is still held, which the current credential was too.
    pub base-held_still : now ≡ p.base → 0 < count_by (λ m. m == p.base) mid.held
    base-held_still base =
        let twice = base-stands_twice (state_of on store t') place p e.owner there lives_on (e.current ∙ base) in
        let same = on_is.counted.counts.counts (λ m. m == p.base) in
        let less = drops.held.counts (λ m. m == p.base) ∙ count-cons (λ m. m == p.base) now mid.held in
        let one : count_by (λ m. m == p.base) (now ∷ mid.held) ≡ 1 + count_by (λ m. m == p.base) mid.held
        = ap (λ (n : ℕ). count_by (λ m. m == p.base) (n ∷ mid.held)) base ∙ count-cons (λ m. m == p.base) p.base mid.held
        ∙ ap (λ (n : ℕ). n + count_by (λ m. m == p.base) mid.held) (counts_itself p.base) in
        omega (arith, twice, same, drops.held.counts (λ m. m == p.base), one)

    pub slot-kept_still : is_kept_in mid p.slot ≡ true
    slot-kept_still = ap (λ ks. slice_index_or ks p.slot false) drops.kept ∙ slot-kept on_is place p there

    module _ (last_table : Table) {number : ℕ} (last : Changed) (words : slice_get store p.slot ≡ Some (Some last.cred))
        (seals : SealsKept mid last_table number p.base p.slot)
        (distinct : Differ parts.tasks) (own : AllPairs (λ a b. a ≢ b) (kept before)) where
      abbrev updated : List Task
      updated = with_current after p.task number

      abbrev flags : List ProcessFlag
      flags = flags_committed before e.owner last

      abbrev end : StateLists
      end = record parts {
        tasks = updated;
        broadcasts = broadcasts_left change e.owner.process parts.broadcasts;
        prepared = remove parts.prepared place;
        dumpable = flags;
      }

      abbrev put : List (Option Credential)
      put = slice_set store p.slot (Some last.cred)

      refer : IsSameBag (number ∷ mid.held) (in_use (record (state_of on store t') { tasks = updated }))
      refer = record {
        counts = λ test.
            let new = record (state_of on store t') { tasks = updated } in
            let change = subst (λ (n : ℕ). IsSameBag (n ∷ in_use new) (number ∷ in_use (state_of on store t'))) e.current
            (in_use-updated (state_of on store t') p.task number e.owner (differ_on is change now p.task e distinct) lives_on) in
            let both = sym (count-cons test now (in_use new)) ∙ change.counts test ∙ count-cons test number (in_use (state_of on store t')) in
            let less = drops.held.counts test ∙ count-cons test now mid.held in
            let more = count-cons test number mid.held in
            omega (arith, both, less, more, on_is.counted.counts.counts test);
      }

      fewer : NoMore t' mid
      fewer = no_more_dropped t' mid (now ∷ []) drops.held drops.deferred

      on_kept : IsKept (record end { broadcasts = parts.broadcasts; dumpable = parts.dumpable }) put last_table
      on_kept =
          finish_kept on_is place p there own updated last_table number drops.sealed drops.kept fewer refer (slice_get_within store p.slot _ words) seals
          last.cred

      -- what was prepared is in the words already
      put_same : put ≡ store
      put_same = set_same store p.slot (Some last.cred) words

      pub commit_kept : IsKept end store last_table
      commit_kept =
          subst (λ (words : List (Option Credential)). IsKept end words last_table) put_same
          (kept_beside on_kept (broadcasts_left change e.owner.process parts.broadcasts) flags)

      -- the state that the commit leads to, if the tasks that end leave these, in this state
      abbrev made : List Task → State → State
      made ts gone = record (committed gone place p e.owner.current last.cred) {
        tasks = with_current ts p.task number;
        broadcasts = broadcasts_left change e.owner.process parts.broadcasts;
        dumpable = flags;
      }

      commit_like : IsLike (state_of end put last_table) (made after (state_of on store t'))
      commit_like =
          like_beside
          (finish_like on_is place p there own updated last_table number drops.sealed drops.kept fewer refer (slice_get_within store p.slot _ words) seals
          last.cred
          (record (made after (state_of on store t')) {
            broadcasts = parts.broadcasts;
            dumpable = parts.dumpable;
          }) refl
          (ap (λ (ds : List ℕ). ds ++ p.base ∷ []) drops.deferred ∙ append_assoc t'.deferred (now ∷ []) (p.base ∷ [])
          ∙ ap (λ (n : ℕ). t'.deferred ++ n ∷ p.base ∷ []) (sym e.current)) refl)
          (broadcasts_left change e.owner.process parts.broadcasts) flags

      pub commit_done : (label count : ℕ) → position (λ q. q.label == label) parts.prepared ≡ Some place → p.changed ≡ Some last → is_access last.change ≡ false
          → not_busy (begun_by before p.task) ≡ Ok tt → not_overridden e.owner ≡ Ok tt → last.change ≡ change → now ≡ p.base → count ≡ length ended_tasks
          → IsOutcomeLike (outcome before (by_commit before label)) (committed_by change last.gains number p.slot count) (state_of end store last_table)
      commit_done label count at changed for idle allowed by base many =
          let counted : length (creds_in store t.sealed) ≡ number
          = length-creds_in store t.sealed ∙ ap (λ (ss : List ℕ). length ss) (sym (drops.sealed ∙ e.all.sealed)) ∙ sym seals.counted in
          let ends : Task → Bool = ends_with change e.owner in
          let left : List Task = survivors ends parts.tasks in
          let broadcasts : List Broadcast = broadcasts_left change e.owner.process parts.broadcasts in
          let numbered : ℕ → State
          = λ n. record (committed (ended ends before) place p e.owner.current last.cred) {
            tasks = with_current left p.task n;
            broadcasts = broadcasts;
            dumpable = flags;
          } in
          subst
          (λ (words : List (Option Credential)). IsOutcomeLike (outcome before (by_commit before label)) (committed_by change last.gains number p.slot count)
          (state_of end words last_table))
          put_same
          (does_made
          (commit_tests before label place p last e.owner at there changed for e.lives idle allowed
          ∙ try_commit_current before place p e.owner last (eq-eqb e.owner.current p.base (e.current ∙ base))
          ∙ ap (λ (c : Change). (
            committed_by c last.gains (length (creds_in store t.sealed)) p.slot (count_by (ends_with c e.owner) parts.tasks),
            record
                (broadcasts_after c e.owner
                (committed (ended (ends_with c e.owner) before) place p e.owner.current last.cred))
                { dumpable = flags },
          )) by
          ∙ ap (λ (r : State). (
            committed_by change last.gains (length (creds_in store t.sealed)) p.slot
                (count_by ends parts.tasks),
            record r { dumpable = flags },
          ))
          (broadcasts_are_left change e.owner (committed (ended ends before) place p e.owner.current last.cred))
          ∙ ap (λ (n : ℕ). (committed_by change last.gains n p.slot (count_by ends parts.tasks), numbered n)) counted
          ∙ ap (λ (k : ℕ). (committed_by change last.gains number p.slot k, numbered number)) (sym (many ∙ e.many))
          ∙ ap (λ (gone : State). (committed_by change last.gains number p.slot count, made left gone)) (ended_is is ends t' e.all)
          ∙ ap (λ (ts : List Task). (committed_by change last.gains number p.slot count, made ts (state_of (record parts { tasks = ts }) store t'))) (sym e.on))
          commit_like)
