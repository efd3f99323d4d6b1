-- What a commit leads to, by the parts of the state after it, or how it is refused.
use Rattle.std.proofs.Common.{◌≡◌, ◌≢◌, ℕ, ◌<◌, ◌==◌, is_some, true, false, Bool, List, [], ◌∷◌, ◌++◌, count_by, get_or, length, position, remove, slice_get}
use Rattle.std.proofs.Common.{Option, Some, None, Result, Ok, Err, refl, sym, ap, ◌∙◌, subst}
use Rattle.std.specs.Option.{option_and_then, option_map, option_map_or}
use Rattle.std.specs.Result.{IfOk}
use Rattle.std.proofs.lemmas.Result.{IfOk-weaker}
use Rattle.std.proofs.lemmas.Option.{slice_get-get_or, slice_get_within}
use Rattle.cred_record.specs.Credential.{Credential}
use Rattle.cred_event.specs.declared.answer.Answer.{Answer}
use Rattle.cred_event.specs.declared.answer.Answer.TheVariants.{Stale}
use Rattle.cred_model.specs.State.{State, Broadcast, Changed, Prepared, ProcessFlag, SealedCred, Task, begun_by, numbered, task_of}
use Rattle.cred_model.specs.Dumpable.{differs, flags_by, flags_committed}
use Rattle.cred_model.specs.Broadcasts.{not_busy, broadcasts_left}
use Rattle.cred_model.specs.Ends.{left_by, survivors}
use Rattle.cred_model.specs.Moves.{given_up, not_overridden, with_current}
use Rattle.cred_model.specs.LabelEvents.{by_commit, committed_by, for_task, try_commit}
use Rattle.cred_model.specs.Step.{outcome}
use Rattle.cred_model.proofs.Numbers.{owner_number}
use Rattle.cred_machine.specs.Labels.{CanCommit, Commits, IsChanged, IsOnCurrent}
use Rattle.cred_plain.specs.Tasks.{ending_of, ends_by}
use Rattle.cred_plain.specs.declared.one_task.Ending.{Ending}
use Rattle.cred_sound.proofs.Events.{changed_for_task}
use Rattle.cred_machine.proofs.Commits.{settled, stale}
use Rattle.cred_machine.proofs.Events.{commit_tests}
use Rattle.cred_machine.proofs.Seen.{placed}

some_same : {X : Type 0} (x y : X) → Some x ≡ Some y → x ≡ y
some_same x y is = cc

-- what was found there is one
pub some_by : {X Y : Type 0} (f : X → Y) (found : Option X) (there : Option Y) (y : Y) → option_map f found ≡ there → there ≡ Some y → is_some found ≡ true
some_by f None there y at is = let never : None ≡ Some y = at ∙ is in cc
some_by f (Some x) there y at is = refl

-- ---- the label at a place

pub is_within : (s : State) (place : ℕ) → CanCommit s place → place < length s.prepared
is_within s place can = slice_get_within s.prepared place can.p can.is.there

-- what is read there
pub own_is : (s : State) (place : ℕ) (can : CanCommit s place) (own : Prepared) → own ≡ get_or s.prepared place own
    → IsChanged s place own can.owner can.last
own_is s place can own is =
    let there : slice_get s.prepared place ≡ Some own = slice_get-get_or s.prepared place own (is_within s place can) ∙ ap Some (sym is) in
    subst (λ (p : Prepared). IsChanged s place p can.owner can.last) (some_same can.p own (sym can.is.there ∙ there)) can.is

-- by what was read there, and of its task
pub read_is : (s : State) (place : ℕ) (can : CanCommit s place) (p seen : Prepared) (owner whose : Task) → p ≡ seen → seen ≡ get_or s.prepared place seen
    → owner ≡ whose → task_of s p.task ≡ Some whose → IsChanged s place p owner can.last
read_is s place can p seen owner whose read is own lives =
    let at = own_is s place can p (subst (λ (q : Prepared). q ≡ get_or s.prepared place q) (sym read) is) in
    record { there = at.there; changed = at.changed; lives = lives ∙ ap Some (sym own) }

module _ (s : State) (place : ℕ) (p : Prepared) (owner : Task) (last : Changed) (is : IsChanged s place p owner last) where
  -- There is one such label, task and change alone.
  only_label : (q : Prepared) → slice_get s.prepared place ≡ Some q → q ≡ p
  only_label q there = some_same q p (sym there ∙ is.there)

  only_owner : (t : Task) → task_of s p.task ≡ Some t → t ≡ owner
  only_owner t lives = some_same t owner (sym lives ∙ is.lives)

  only_change : (c : Changed) → p.changed ≡ Some c → c ≡ last
  only_change c changed = some_same c last (sym changed ∙ is.changed)

  pub commits_by : (answer : Answer) (after : State) → try_commit s place p owner last ≡ (answer, after) → Commits s place answer after
  commits_by answer after gives = λ q t c at.
      let label = only_label q at.there in
      let task = only_owner t (sym (ap (λ (r : Prepared). task_of s r.task) label) ∙ at.lives) in
      let change = only_change c (sym (ap (λ (r : Prepared). r.changed) label) ∙ at.changed) in
      ap (λ (r : Prepared). try_commit s place r t c) label
      ∙ ap (λ (u : Task). try_commit s place p u c) task
      ∙ ap (λ (d : Changed). try_commit s place p owner d) change
      ∙ gives

  pub on_current : owner.current ≡ p.base → IsOnCurrent s place
  on_current same = λ q t c at.
      let label = only_label q at.there in
      let task = only_owner t (sym (ap (λ (r : Prepared). task_of s r.task) label) ∙ at.lives) in
      ap (λ (u : Task). u.current) task ∙ same ∙ sym (ap (λ (r : Prepared). r.base) label)

  pub commits_stale : (after : State) → owner.current ≢ p.base → after ≡ given_up s place p → Commits s place (Stale p.base owner.current) after
  commits_stale after differs gone =
      commits_by (Stale p.base owner.current) after
      (stale s place p owner last differs ∙ ap (λ (r : State). (Stale p.base owner.current, r)) (sym gone))

  -- ---- a label whose base is its task's current credential

  -- the state with these parts
  with_parts : List Task → List Broadcast → List Prepared → List ℕ → List ProcessFlag → List SealedCred → State
  with_parts tasks broadcasts prepared late flags creds =
      record s { tasks = tasks; broadcasts = broadcasts; prepared = prepared; deferred = late; dumpable = flags; creds = creds }

  same_parts : {ts us : List Task} {cs ds : List Broadcast} {ps qs : List Prepared} {ms ns : List ℕ} {gs hs : List ProcessFlag} {es fs : List SealedCred}
      → ts ≡ us → cs ≡ ds → ps ≡ qs → ms ≡ ns → gs ≡ hs → es ≡ fs → with_parts ts cs ps ms gs es ≡ with_parts us ds qs ns hs fs
  same_parts tasks broadcasts prepared late flags creds = rw (tasks, broadcasts, prepared, late, flags, creds) refl

  pub commits : (ending : Ending) (answer : Answer) (number ended : ℕ) (cred : Credential) (tasks goes_on : List Task) (broadcasts : List Broadcast)
      (prepared : List Prepared)
      (numbers late : List ℕ) (flags : List ProcessFlag) (other : Bool) (old creds : List SealedCred) → IsOnCurrent s place
      → ending ≡ ending_of last.change owner.process p.task
      → number ≡ length old → old ≡ s.creds → ended ≡ count_by (ends_by ending) s.tasks
      → answer ≡ committed_by last.change last.gains number p.slot ended
      → tasks ≡ with_current goes_on p.task number → goes_on ≡ survivors (ends_by ending) s.tasks
      → broadcasts ≡ broadcasts_left last.change owner.process s.broadcasts
      → prepared ≡ remove s.prepared place → numbers ≡ left_by (ends_by ending) s.tasks ++ owner.current ∷ p.base ∷ []
      → late ≡ s.deferred ++ numbers → flags ≡ flags_by last.change last.gains s.dumpable owner.process other
      → other ≡ option_map_or (λ old. differs old.cred last.cred) (numbered s.creds owner.current) false → cred ≡ last.cred
      → creds ≡ old ++ record { cred = cred; slot = p.slot } ∷ []
      → Commits s place answer (record s { tasks = tasks; broadcasts = broadcasts; prepared = prepared; deferred = late; dumpable = flags; creds = creds })
  unfolding with_parts
  commits ending answer number ended cred tasks goes_on broadcasts prepared numbers late flags other
      old creds current ends many same count answers ts goes cs ps left ls fs ids copied es =
      let now = ending_of last.change owner.process p.task in
      let own = owner_number s p.task owner is.lives in
      let next : number ≡ length s.creds = many ∙ ap length same in
      let by_ending : Ending → List Task = λ e. with_current (survivors (ends_by e) s.tasks) p.task (length s.creds) in
      let late_by : Ending → List ℕ = λ e. s.deferred ++ (left_by (ends_by e) s.tasks ++ owner.current ∷ p.base ∷ []) in
      let parts : with_parts tasks broadcasts prepared late flags creds
      ≡ with_parts (by_ending now) (broadcasts_left last.change owner.process s.broadcasts) (remove s.prepared place) (late_by now)
      (flags_committed s owner last)
      (s.creds ++ record { cred = last.cred; slot = p.slot } ∷ [])
      = same_parts
      (ts ∙ ap (λ (us : List Task). with_current us p.task number) goes
      ∙ ap (λ (n : ℕ). with_current (survivors (ends_by ending) s.tasks) p.task n) next ∙ ap by_ending ends)
      cs ps (ls ∙ ap (λ (ms : List ℕ). s.deferred ++ ms) left ∙ ap late_by ends)
      (fs ∙ ap (flags_by last.change last.gains s.dumpable owner.process) ids)
      (es ∙ ap (λ (c : Credential). old ++ record { cred = c; slot = p.slot } ∷ []) copied
      ∙ ap (λ (ds : List SealedCred). ds ++ record { cred = last.cred; slot = p.slot } ∷ []) same) in
      let said : answer ≡ committed_by last.change last.gains (length s.creds) p.slot (count_by (ends_by now) s.tasks)
      = answers
      ∙ ap (λ (n : ℕ). committed_by last.change last.gains n p.slot ended) next
      ∙ ap (λ (n : ℕ). committed_by last.change last.gains (length s.creds) p.slot n) (count ∙ ap (λ (e : Ending). count_by (ends_by e) s.tasks) ends) in
      commits_by answer (with_parts tasks broadcasts prepared late flags creds)
      (settled s place p owner last (current p owner last is) own
      ∙ ap (λ (r : State). (committed_by last.change last.gains (length s.creds) p.slot (count_by (ends_by now) s.tasks), r)) (sym parts)
      ∙ ap (λ (a : Answer). (a, with_parts tasks broadcasts prepared late flags creds)) (sym said))

-- ---- the tests of a commit

-- What they find: the label, its last change, and its task.
pub record Finds (s : State) (label place : ℕ) (p : Prepared) (last : Changed) (owner : Task) : Type 0 where
  pub at : position (λ p. p.label == label) s.prepared ≡ Some place
  pub there : slice_get s.prepared place ≡ Some p
  pub changed : option_and_then for_task p.changed ≡ Some last
  pub lives : task_of s p.task ≡ Some owner

-- by what was read of them
pub finds : (s : State) (label place : ℕ) (looked : List Prepared) (p seen : Prepared) (last : Changed) (owner : Task)
    → looked ≡ s.prepared → Some place ≡ position (λ p. p.label == label) looked → p ≡ seen → seen ≡ get_or s.prepared place seen
    → Some last ≡ option_and_then for_task seen.changed → Some owner ≡ task_of s p.task → Finds s label place p last owner
finds s label place looked p seen last owner same found read is changed lives =
    let at = placed (λ (q : Prepared). q.label == label) s.prepared looked place seen same found is in
    record {
      at = at.0;
      there = at.1 ∙ ap Some (sym read);
      changed = ap (λ (q : Prepared). option_and_then for_task q.changed) read ∙ sym changed;
      lives = sym lives;
    }

module _ (s : State) (label place : ℕ) (p : Prepared) (last : Changed) (owner : Task) (found : Finds s label place p last owner) where
  pub commit_busy : (answer : Answer) → not_busy (begun_by s p.task) ≡ Err answer → outcome s (by_commit s label) ≡ (answer, s)
  commit_busy answer busy = rw (found.at, found.there, found.changed, found.lives, busy) refl

  pub commit_overridden : (answer : Answer) → not_busy (begun_by s p.task) ≡ Ok tt → not_overridden owner ≡ Err answer
      → outcome s (by_commit s label) ≡ (answer, s)
  commit_overridden answer idle own = rw (found.at, found.there, found.changed, found.lives, idle, own) refl

  is_changed : IsChanged s place p owner last
  is_changed = record { there = found.there; changed = changed_for_task p.changed last found.changed; lives = found.lives }

  pub can_commit : CanCommit s place
  can_commit = record { p = p; owner = owner; last = last; is = is_changed }

  pub commit_does : {E : Type 0} (result : Result Answer E) (after : State) → not_busy (begun_by s p.task) ≡ Ok tt → not_overridden owner ≡ Ok tt
      → IfOk result (λ answer. Commits s place answer after) → IfOk result (λ answer. outcome s (by_commit s label) ≡ (answer, after))
  commit_does result after idle own =
      IfOk-weaker result (λ answer. Commits s place answer after) (λ answer. outcome s (by_commit s label) ≡ (answer, after))
      (λ answer does. commit_tests s label place p owner last found.at found.there found.changed found.lives idle own ∙ does p owner last is_changed)
