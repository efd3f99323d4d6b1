-- The numbers of answers are in range, in every state that a run comes to.
use Rattle.std.proofs.Common.{◌≡◌, ℕ, ◌<◌, ◌≤◌, ◌==◌, not, nat_lt, Bool, true, false, cond, List, [], ◌∷◌, ◌++◌, length, slice_get, slice_set, Option, Some}
use Rattle.std.proofs.Common.{None, Result, Ok, Err, subst, arith}
use Rattle.std.specs.List.{All, Contains, position, remove, count_by}
use Rattle.std.specs.Option.{IfSome, option_and_then}
use Rattle.std.proofs.lemmas.List.{length-map}
use Rattle.std.proofs.lemmas.List.Elements.{All-push, All-contains}
use Rattle.std.proofs.lemmas.List.Sums.{count_by-le-length}
use Rattle.cred_ids.specs.Ordered.{in_order}
use Rattle.cred_ids.specs.Limits.{TASKS, HOLDS, PREPARED, DEPTH, SLOTS}
use Rattle.cred_ids.specs.Tests.{◌>>=◌}
use Rattle.cred_record.specs.Credential.{Credential, first_credential}
use Rattle.cred_record.specs.File.{File}
use Rattle.cred_record.specs.declared.gains.Gains.{Gains}
use Rattle.cred_record.specs.declared.refusal.Denial.{Denial}
use Rattle.cred_record.specs.declared.refusal.Denial.TheVariants.{Perm, Invalid}
use Rattle.cred_record.specs.declared.want.Want.{Want}
use Rattle.cred_rules.specs.Access.{may}
use Rattle.cred_rules.specs.Adjust.{read_in}
use Rattle.cred_event.specs.declared.answer.Answer.{Answer}
use Rattle.cred_event.specs.declared.answer.Answer.TheVariants as answer
use Rattle.cred_event.specs.declared.event.Change.{Change}
use Rattle.cred_event.specs.declared.event.Change.TheVariants as change
use Rattle.cred_event.specs.declared.event.Event.TheVariants as event
use Rattle.cred_record.specs.declared.mode.PtraceMode.{PtraceMode}
use Rattle.cred_event.specs.declared.event.Query.{Query}
use Rattle.cred_event.specs.declared.event.Query.TheVariants as query
use Rattle.cred_event.specs.declared.event.Side.{Side}
use Rattle.cred_model.specs.Answers.{flag, checked, reply}
use Rattle.cred_model.specs.Broadcasts.{waits_no_more, joined, with_child, without_waiter, dropped, is_open, waits_in}
use Rattle.cred_model.specs.Change.{Made, by_rule}
use Rattle.cred_model.specs.Dumpable.{flags_begun, flags_committed, flag_of_value}
use Rattle.cred_model.specs.Ends.{ended, survivors}
use Rattle.cred_model.specs.Moves.{table_full, first_task, created, preparing, altered, committed, given_up, with_current, updated, with_overrides}
use Rattle.cred_model.specs.Moves.{overriding, with_change, altered_at}
use Rattle.cred_model.specs.Named.{query_files, change_files}
use Rattle.cred_model.specs.Script.{Script, chain_of}
use Rattle.cred_model.specs.Slots.{refs}
use Rattle.cred_model.specs.State.{State, SealedCred, Task, Numbered, Prepared, Changed, Broadcast, numbered, number_on, task_of, broadcast_in, begun_by}
use Rattle.cred_model.specs.State.{open_of}
use Rattle.cred_model.specs.State.{hold_of, prepared_of, credential_of, opener_of, held_by, info_of}
use Rattle.cred_model.specs.TaskEvents.{by_init, by_signal, by_dumpable, by_dumped, by_ptrace}
use Rattle.cred_model.specs.LabelEvents.{take_hold, by_take, by_take_file, by_release, by_ask, by_prepare, by_alter, is_access, for_task, try_commit, ends_with}
use Rattle.cred_model.specs.LabelEvents.{broadcasts_after, committed_by, commit_answer, by_commit}
use Rattle.cred_model.specs.FileEvents.{by_file, by_stat}
use Rattle.cred_model.proofs.Lists.{All-at, All-kept, All-remove, find_each, get_each}
use Rattle.cred_model.proofs.Numbers.{updated_as, overriding_as, changed_as}
use Rattle.cred_model.proofs.Rising.{All-in_order, All-passed}
use Rattle.cred_laws.proofs.Cases.{some_case, none_case, test_case}
use Rattle.cred_sound.specs.SlotUse.{slot_use}
use Rattle.cred_sound.specs.Sound.{IsSound}
use Rattle.cred_sound.proofs.References.{owner_stands, base_stands}
use Rattle.cred_sound.proofs.Tests.{in_slots}
use Rattle.cred_reader.specs.Fits.{IsNumber, IsLong, FitsChange, FitsEvent, FitsGains, FitsAnswer}
use Rattle.cred_fits.specs.Content.{FitsFile}
use Rattle.cred_fits.proofs.CredFits.{FitsCred}
use Rattle.cred_fits.proofs.ChangeFits.{FitsMade, first_fits, change_made_fits}
use Rattle.cred_fits.proofs.Ranges.{FitsSealed, FitsTask, FitsBroadcast, FitsChanged, FitsPrepared, AreInRange, IsInRange, Good, Gives, some_fits, IsFound}
use Rattle.cred_fits.proofs.Ranges.{is_found}
use Rattle.cred_fits.proofs.Ranges.{found_by, idle, own}

-- what is known of a state before an event
pub record IsKnown (s : State) : Type 0 where
  pub sound : IsSound s
  pub range : IsInRange s
  pub creds : IsLong (length s.creds)
  pub tasks : length s.tasks ≤ TASKS
  pub inodes : All FitsFile s.inodes

-- ---- parts

pub slot_number : (slot : ℕ) → slot < SLOTS → IsNumber slot
slot_number slot small = omega (arith, small)

-- one credential more is sealed
pub with_cred : (creds : List SealedCred) (c : Credential) (slot : ℕ) → All FitsSealed creds → FitsCred c → slot < SLOTS
    → All FitsSealed (creds ++ record { cred = c; slot = slot } ∷ [])
with_cred creds c slot all fits small = All-push FitsSealed creds _ all (fits, small)

pub current_fits : (tasks : List Task) (task n : ℕ) → All FitsTask tasks → All FitsTask (with_current tasks task n)
current_fits tasks task n all = All-kept FitsTask (updated task n) tasks (λ t h. updated_as FitsTask task n t h h) all

pub overrides_fit : (tasks : List Task) (task : ℕ) (numbers : List ℕ) → length numbers ≤ DEPTH → All FitsTask tasks
    → All FitsTask (with_overrides tasks task numbers)
overrides_fit tasks task numbers few all =
    All-kept FitsTask (overriding task numbers) tasks (λ t h. overriding_as FitsTask task numbers t (h.0, few) h) all

pub survivors_fit : (ends : Task → Bool) (tasks : List Task) → All FitsTask tasks → All FitsTask (survivors ends tasks)
survivors_fit ends tasks all = All-passed (λ t. not (ends t)) FitsTask FitsTask tasks (λ t test h. h) all

pub dropped_fit : (process : ℕ) (broadcasts : List Broadcast) → All FitsBroadcast broadcasts → All FitsBroadcast (dropped process broadcasts)
dropped_fit process broadcasts all =
    All-passed (λ (broadcast : Broadcast). not (broadcast.process == process)) FitsBroadcast FitsBroadcast broadcasts (λ b test h. h) all

without_fits : (task : ℕ) (broadcast : Broadcast) → FitsBroadcast broadcast → FitsBroadcast (without_waiter task broadcast)
without_fits task broadcast fits = (fits.0, fits.1, All-passed (λ n. not (n == task)) IsNumber IsNumber broadcast.waiting (λ n test h. h) fits.2)

pub left_fit : (task : ℕ) (broadcasts : List Broadcast) → All FitsBroadcast broadcasts → All FitsBroadcast (waits_no_more task broadcasts)
left_fit task broadcasts all =
    All-passed is_open FitsBroadcast FitsBroadcast _ (λ b test h. h) (All-kept FitsBroadcast (without_waiter task) broadcasts (without_fits task) all)

child_fits : (parent child : ℕ) (broadcast : Broadcast) → IsNumber child → FitsBroadcast broadcast → FitsBroadcast (with_child parent child broadcast)
child_fits parent child broadcast small fits = by (waits_in parent broadcast)
  where
    by : (b : Bool) → FitsBroadcast (cond b (record broadcast { waiting = in_order (broadcast.waiting ++ child ∷ []) }) broadcast)
    by true = (fits.0, fits.1, All-in_order IsNumber _ (All-push IsNumber broadcast.waiting child fits.2 small))
    by false = fits

pub joined_fit : (parent child : ℕ) (broadcasts : List Broadcast) → IsNumber child → All FitsBroadcast broadcasts
    → All FitsBroadcast (joined parent child broadcasts)
joined_fit parent child broadcasts small all = All-kept FitsBroadcast (with_child parent child) broadcasts (λ b h. child_fits parent child b small h) all

pub prepared_at : (s : State) (place : ℕ) (p : Prepared) → IsInRange s → slice_get s.prepared place ≡ Some p → FitsPrepared p
prepared_at s place p range is = All-at FitsPrepared s.prepared place p is range.prepared

pub owner_fits : (s : State) (task : ℕ) (t : Task) → IsInRange s → task_of s task ≡ Some t → FitsTask t
owner_fits s task t range is = some_fits FitsTask (task_of s task) t (find_each FitsTask (λ u. u.number == task) s.tasks range.tasks) is

-- ---- the events

pub of_init : (s : State) (task process user group ns root : ℕ) → IsKnown s → FitsEvent (event.Init task process user group ns)
    → Gives s (by_init s task process user group ns root)
of_init s task process user group ns root known fits =
    let range = known.range in
    idle s (broadcast_in s process) _ (find_each FitsBroadcast (λ b. b.process == process) s.broadcasts range.broadcasts) range
    (none_case (Gives s) (task_of s task) _ _ (fits.0, range) (λ new.
    test_case (Gives s) (nat_lt (length s.tasks) TASKS) _ _ (tt, range)
    (in_slots Good s table_full
    (λ t slot. (
      answer.Sealed (length t.creds) slot,
      record (created t (first_task task process (length t.creds)) (first_credential user group ns root) slot) { dumpable = flags_begun t process },
    ))
    (λ left less. (tt, range))
    (λ left slot less free. (
      (known.creds, slot_number slot free.below),
      record {
        creds = with_cred s.creds _ slot range.creds (first_fits user group ns root fits.2 fits.3) free.below;
        tasks = All-push FitsTask s.tasks _ range.tasks (fits.0, omega arith);
        broadcasts = range.broadcasts;
        prepared = range.prepared;
      },
    )))))

-- a number of a sealed credential, and its slot
pub found_answer : (s : State) (c : Numbered) → IsKnown s → IsFound s c → IsLong c.number × IsNumber c.slot
found_answer s c known found =
    let lt = found.number in let creds = known.creds in (omega (arith, lt, creds), slot_number c.slot found.slot)

of_hold : (s : State) (label : ℕ) (taken : Numbered) → IsKnown s → IsNumber label → IsFound s taken → Gives s (take_hold s label taken)
of_hold s label taken known small found =
    let range = known.range in
    none_case (Gives s) (hold_of s label) _ _ (small, range) (λ new.
    none_case (Gives s) (prepared_of s label) _ _ (small, range) (λ unprepared.
    test_case (Gives s) (nat_lt (length s.holds) HOLDS) _ _ (tt, range) (found_answer s taken known found, range)))

pub of_take : (s : State) (label task : ℕ) (side : Side) → IsKnown s → IsNumber label → IsNumber task → Gives s (by_take s label task side)
of_take s label task side known l t =
    some_case (Gives s) (credential_of s task side) _ _ (t, known.range) (λ taken is.
    of_hold s label taken known l (found_by s (number_on side) (task_of s task) taken known.range.creds is))

pub of_take_file : (s : State) (label fd : ℕ) → IsKnown s → IsNumber label → Gives s (by_take_file s label fd)
of_take_file s label fd known l =
    some_case (Gives s) (opener_of s fd) _ _ (tt, known.range) (λ taken is.
    of_hold s label taken known l (found_by s (λ f. f.opener) (open_of s fd) taken known.range.creds is))

pub of_release : (s : State) (label : ℕ) → IsKnown s → IsNumber label → Gives s (by_release s label)
of_release s label known l =
    some_case (Gives s) (position (λ h. h.label == label) s.holds) _ _ (l, known.range) (λ place at.
    some_case (Gives s) (slice_get s.holds place) _ _ (l, known.range) (λ hold is. (tt, known.range)))

of_flag : (o : Option Bool) → FitsAnswer (flag o)
of_flag None = tt
of_flag (Some is) = tt

pub of_check : (c : Credential) (file : Option File) (asked : Want) → FitsAnswer (checked c file asked)
of_check c None asked = tt
of_check c (Some file) asked =
    elim (may c file asked) as (λ b. FitsAnswer (cond b answer.Done answer.Eacces)) [
      | true ↦ tt
      | false ↦ tt
    ]

of_reply : (file : Option File) (c : Credential) (q : Query) → FitsCred c → FitsAnswer (reply file c q)
of_reply file c query.Ids h = (h.uid, h.gid)
of_reply file c query.Caps h = (h.perm, h.inh, h.eff, h.bound, h.amb)
of_reply file c query.Groups h = h.groups
of_reply file c query.Bits h = h.bits
of_reply file c (query.Capable n) h = of_flag (read_in c.eff n)
of_reply file c (query.Bset n) h = of_flag (read_in c.bound n)
of_reply file c (query.AmbIs n) h = of_flag (read_in c.amb n)
of_reply file c (query.Check place asked) h = of_check c file asked

pub of_ask : (s : State) (label : ℕ) (q : Query) → IsKnown s → IsNumber label → Gives s (by_ask s label q)
of_ask s label q known l =
    some_case (Gives s) (held_by s label) _ _ (l, known.range) (λ held is.
    let found = found_by s (λ h. h.number) (hold_of s label) held known.range.creds is in
    (of_reply (info_of s.inodes (query_files q)) held.cred q found.cred, known.range))

signalled : (s : State) (b : Bool) → IsKnown s → Gives s (cond b (Ok (answer.Done, s)) (Err answer.Eperm))
signalled s true known = (tt, known.range)
signalled s false known = (tt, known.range)

pub of_signal : (s : State) (from hold to target : ℕ) → IsKnown s → FitsEvent (event.Signal from hold to target) → Gives s (by_signal s from hold to target)
of_signal s from hold to target known fits =
    some_case (Gives s) (task_of s from) _ _ (fits.0, known.range) (λ sender is.
    some_case (Gives s) (task_of s to) _ _ (fits.2, known.range) (λ receiver is.
    some_case (Gives s) (held_by s hold) _ _ (fits.1, known.range) (λ own is.
    some_case (Gives s) (held_by s target) _ _ (fits.3, known.range) (λ other is. signalled s _ known))))

pub of_ptrace : (script : Script) (s : State) (from hold to target : ℕ) (mode : PtraceMode) → IsKnown s
    → FitsEvent (event.Ptrace from hold to target mode) → Gives s (by_ptrace script s from hold to target mode)
of_ptrace script s from hold to target mode known fits =
    some_case (Gives s) (task_of s from) _ _ (fits.0, known.range) (λ sender is.
    some_case (Gives s) (task_of s to) _ _ (fits.2, known.range) (λ receiver is.
    some_case (Gives s) (held_by s hold) _ _ (fits.1, known.range) (λ own is.
    some_case (Gives s) (held_by s target) _ _ (fits.3, known.range) (λ other is. signalled s _ known))))

pub of_dumpable : (s : State) (task value : ℕ) → IsKnown s → IsNumber task → Gives s (by_dumpable s task value)
of_dumpable s task value known t =
    some_case (Gives s) (task_of s task) _ _ (t, known.range) (λ owner is.
    some_case (Gives s) (flag_of_value value) _ _ (tt, known.range) (λ flag is. (tt, known.range)))

pub of_dumped : (s : State) (task : ℕ) → IsKnown s → IsNumber task → Gives s (by_dumped s task)
of_dumped s task known t = some_case (Gives s) (task_of s task) _ _ (t, known.range) (λ owner is. (tt, known.range))

pub of_prepare : (s : State) (label task hold : ℕ) → IsKnown s → FitsEvent (event.Prepare label task hold) → Gives s (by_prepare s label task hold)
of_prepare s label task hold known fits =
    let range = known.range in
    some_case (Gives s) (task_of s task) _ _ (fits.1, range) (λ owner is.
    idle s (begun_by s task) _ (find_each FitsBroadcast (λ b. b.caller == task) s.broadcasts range.broadcasts) range
    (some_case (Gives s) (hold_of s hold) _ _ (fits.2, range) (λ base is.
    none_case (Gives s) (hold_of s label) _ _ (fits.0, range) (λ new.
    none_case (Gives s) (prepared_of s label) _ _ (fits.0, range) (λ unprepared.
    test_case (Gives s) (nat_lt (length s.prepared) PREPARED) _ _ (tt, range)
    (in_slots Good s table_full
    (λ t slot. (answer.Kept slot, preparing t (record { label = label; task = task; base = base.number; slot = slot; changed = None })))
    (λ left less. (tt, range))
    (λ left slot less free. (
      slot_number slot free.below,
      record {
        creds = range.creds;
        tasks = range.tasks;
        broadcasts = range.broadcasts;
        prepared = All-push FitsPrepared s.prepared _ range.prepared (fits.1, free.below, tt);
      },
    ))))))))

changed_fits : (s : State) (label : ℕ) (to : Changed) → IsInRange s → FitsChanged to → All FitsPrepared (with_change s.prepared label to)
changed_fits s label to range fits =
    All-kept FitsPrepared (altered_at label to) s.prepared (λ p h. changed_as FitsPrepared label to p (λ test. (h.0, h.1, fits)) h) range.prepared

of_altered : (s : State) (label : ℕ) (to : Change) (r : Result Made Answer) → IsKnown s → FitsMade r
    → Gives s (r >>= λ made. Ok (made.answer, altered s label (record { change = to; cred = made.cred; gains = made.gains })))
of_altered s label to (Ok made) known h = (
  h.0,
  record {
    creds = known.range.creds;
    tasks = known.range.tasks;
    broadcasts = known.range.broadcasts;
    prepared = changed_fits s label _ known.range (h.1, h.2);
  },
)
of_altered s label to (Err refused) known h = (h, known.range)

-- the file that an event names has ids
named_file : (inodes : List File) (places : List ℕ) → All FitsFile inodes → IfSome (info_of inodes places) FitsFile
named_file inodes [] all = tt
named_file inodes (place ∷ places) all = get_each FitsFile inodes place all

pub of_alter : (script : Script) (s : State) (label : ℕ) (to : Change) → IsKnown s → IsNumber label → FitsChange to
    → Gives s (by_alter script s label to)
of_alter script s label to known l fits =
    some_case (Gives s) (prepared_of s label) _ _ (l, known.range) (λ p is.
    some_case (Gives s) (numbered s.creds p.base) _ _ (l, known.range) (λ base is.
    let found = is_found s p.base base known.range.creds is in
    of_altered s label to _ known
    (change_made_fits (info_of s.inodes (change_files to)) (chain_of script base.cred.ns) base.cred to found.cred
    (named_file s.inodes (change_files to) known.inodes) fits)))

-- ---- calls on files

written : (s : State) (place : ℕ) (r : Result File Denial) → IsKnown s
    → Gives s (by_rule r >>= λ new. Ok (answer.Done, record s { inodes = slice_set s.inodes place new }))
written s place (Ok new) known = (tt, known.range)
written s place (Err Perm) known = (tt, known.range)
written s place (Err Invalid) known = (tt, known.range)

pub of_file : (s : State) (hold place : ℕ) (rule : Credential → File → Result File Denial) → IsKnown s → IsNumber hold
    → Gives s (by_file s hold place rule)
of_file s hold place rule known h =
    some_case (Gives s) (held_by s hold) _ _ (h, known.range) (λ held is.
    some_case (Gives s) (slice_get s.inodes place) _ _ (h, known.range) (λ old there.
    written s place (rule held.cred old) known))

pub of_stat : (s : State) (hold place : ℕ) → IsKnown s → IsNumber hold → Gives s (by_stat s hold place)
of_stat s hold place known h =
    some_case (Gives s) (held_by s hold) _ _ (h, known.range) (λ held is.
    some_case (Gives s) (slice_get s.inodes place) _ _ (h, known.range) (λ file there.
    let fits = All-at FitsFile s.inodes place file there known.inodes in
    ((fits.owner, fits.group, fits.mode), known.range)))

-- ---- a commit

commit_fits : (to : Change) (gains : Gains) (number slot count : ℕ) → FitsGains gains → IsLong number → IsNumber slot → IsNumber count
    → FitsAnswer (committed_by to gains number slot count)
commit_fits (change.Exec file) gains number slot count g n s c = (n, s, c, g)
commit_fits (change.SetFs kind id) gains number slot count g n s c = (n, s)
commit_fits (change.Adjust call) gains number slot count g n s c = (n, s)
commit_fits change.Access gains number slot count g n s c = (n, s)

broadcasts_after_fit : (to : Change) (owner : Task) (t : State) → IsInRange t → IsInRange (broadcasts_after to owner t)
broadcasts_after_fit (change.Exec file) owner t range = record {
  creds = range.creds;
  tasks = range.tasks;
  broadcasts = dropped_fit owner.process t.broadcasts range.broadcasts;
  prepared = range.prepared;
}
broadcasts_after_fit (change.SetFs kind id) owner t range = range
broadcasts_after_fit (change.Adjust call) owner t range = range
broadcasts_after_fit change.Access owner t range = range

pub without_label : (s : State) (place : ℕ) → IsInRange s → AreInRange s.creds s.tasks s.broadcasts (remove s.prepared place)
without_label s place range = record {
  creds = range.creds;
  tasks = range.tasks;
  broadcasts = range.broadcasts;
  prepared = All-remove FitsPrepared s.prepared place range.prepared;
}

-- a number that is referred to is one of those that were sealed
sealed_below : (s : State) (n : ℕ) → IsKnown s → Contains (refs s) n → IsLong n
sealed_below s n known has =
    let lt = All-contains (λ m. m < length (slot_use s).slots) (refs s) n known.sound.slots.sealed has in
    let creds = known.creds in
    let long = length-map s.creds (λ (x : SealedCred). x.slot) in
    omega (arith, lt, creds, long)

tried : (s : State) (task place : ℕ) (p : Prepared) (owner : Task) (last : Changed) → IsKnown s → slice_get s.prepared place ≡ Some p
    → task_of s task ≡ Some owner → FitsChanged last → Good (try_commit s place p owner last)
tried s task place p owner last known at found altered_at =
    let range = known.range in
    let fits = prepared_at s place p range at in
    let ends = ends_with last.change owner in
    elim (owner.current == p.base) as (λ b. Good (cond b (
      commit_answer last (length s.creds) p.slot (count_by ends s.tasks),
      record (broadcasts_after last.change owner (committed (ended ends s) place p owner.current last.cred)) { dumpable = flags_committed s owner last },
    )
    (answer.Stale p.base owner.current, given_up s place p))) [
      | true ↦ (
        commit_fits last.change last.gains (length s.creds) p.slot (count_by ends s.tasks) altered_at.1 known.creds (slot_number p.slot fits.1)
            (let few = known.tasks in omega (arith, few, count_by-le-length ends s.tasks)),
        broadcasts_after_fit last.change owner (committed (ended ends s) place p owner.current last.cred) (record {
          creds = with_cred s.creds last.cred p.slot range.creds altered_at.0 fits.1;
          tasks = current_fits (survivors ends s.tasks) p.task (length s.creds) (survivors_fit ends s.tasks range.tasks);
          broadcasts = range.broadcasts;
          prepared = All-remove FitsPrepared s.prepared place range.prepared;
        }),
      )
      | false ↦ (
        (sealed_below s p.base known (base_stands s place p at), sealed_below s owner.current known (owner_stands s task owner found)),
        without_label s place range,
      )
    ]

last_fits : (o : Option Changed) (last : Changed) → IfSome o FitsChanged → option_and_then for_task o ≡ Some last → FitsChanged last
last_fits None last h is = absurd (cc)
last_fits (Some c) last h is = by (is_access c.change) is
  where
    by : (b : Bool) → cond b None (Some c) ≡ Some last → FitsChanged last
    by true is = absurd (cc)
    by false is = let same : c ≡ last = cc in subst FitsChanged same h

pub of_commit : (s : State) (label : ℕ) → IsKnown s → IsNumber label → Gives s (by_commit s label)
of_commit s label known l =
    let range = known.range in
    some_case (Gives s) (position (λ p. p.label == label) s.prepared) _ _ (l, range) (λ place at.
    some_case (Gives s) (slice_get s.prepared place) _ _ (l, range) (λ p is.
    let fits = prepared_at s place p range is in
    some_case (Gives s) (option_and_then for_task p.changed) _ _ (l, range) (λ last made.
    some_case (Gives s) (task_of s p.task) _ _ (fits.0, range) (λ owner found.
    idle s (begun_by s p.task) _ (find_each FitsBroadcast (λ b. b.caller == p.task) s.broadcasts range.broadcasts) range
    (own s owner _ (owner_fits s p.task owner range found) range
    (tried s p.task place p owner last known is found (last_fits p.changed last fits.2 made)))))))
