-- The numbers of answers are in range: overrides, id calls, files and tasks; and every event.
use Rattle.std.proofs.Common.{◌≡◌, ◌&&◌, ℕ, ◌-◌, ◌<◌, ◌≤◌, ◌==◌, nat_lt, Bool, true, false, cond, List, [], ◌∷◌, ◌++◌, length, map, slice_get, drop, Option}
use Rattle.std.proofs.Common.{Some, None, Result, Ok, Err, refl, subst, arith}
use Rattle.std.specs.List.{All, AllPairs, find, position, filter}
use Rattle.std.specs.Option.{IfSome, option_map_or, option_and_then}
use Rattle.std.proofs.lemmas.List.{length-drop, length-map}
use Rattle.std.proofs.lemmas.List.Elements.{All-nil, All-cons, All-push, All-map, All-append}
use Rattle.std.proofs.lemmas.List.Sums.{count_by-le-length, length-filter}
use Rattle.cred_ids.specs.Limits.{TASKS, OPEN_FILES, DEPTH}
use Rattle.cred_ids.specs.Tests.{◌>>=◌}
use Rattle.cred_record.specs.Credential.{Credential}
use Rattle.cred_record.specs.declared.id_call.IdCall.{IdCall}
use Rattle.cred_record.specs.declared.refusal.Denial.{Denial}
use Rattle.cred_record.specs.declared.refusal.Denial.TheVariants.{Perm, Invalid}
use Rattle.cred_record.specs.declared.want.Want.{Want}
use Rattle.cred_rules.specs.Files.{chown, chmod, set_attr}
use Rattle.cred_rules.specs.SetId.{set_id}
use Rattle.cred_event.specs.declared.answer.Answer.{Answer}
use Rattle.cred_event.specs.declared.answer.Answer.TheVariants as answer
use Rattle.cred_event.specs.declared.answer.AbortCause.TheVariants as cause
use Rattle.cred_event.specs.declared.event.Event.{Event}
use Rattle.cred_event.specs.declared.event.Event.TheVariants as event
use Rattle.cred_event.specs.Answers.{is_ok}
use Rattle.cred_model.specs.Answers.{checked}
use Rattle.cred_model.specs.Broadcasts.{others_of, with_broadcast, waits_no_more, is_open}
use Rattle.cred_model.specs.Change.{by_rule}
use Rattle.cred_model.specs.Dumpable.{differs, renewed}
use Rattle.cred_model.specs.Ends.{is_thread_of, is_beside, is_task}
use Rattle.cred_model.specs.Moves.{table_full, first_task, replaced}
use Rattle.cred_model.specs.Script.{Script, root_of}
use Rattle.cred_model.specs.State.{State, Task, Numbered, Prepared, Changed, Broadcast, numbered, task_of, broadcast_of, broadcast_in, begun_by, open_of}
use Rattle.cred_model.specs.State.{hold_of}
use Rattle.cred_model.specs.State.{held_by, info_of}
use Rattle.cred_model.specs.TaskEvents.{by_spawn, by_fork, by_exit}
use Rattle.cred_model.specs.LabelEvents.{is_access, by_abort, for_access, override_held, override_prepared, by_override, by_revert}
use Rattle.cred_model.specs.CallEvents.{by_begin, aborted, follow, by_act, by_raw}
use Rattle.cred_model.specs.FileEvents.{by_open, by_close}
use Rattle.cred_model.specs.Step.{step}
use Rattle.cred_model.proofs.Lists.{All-at, All-remove, find_each, slice_get_at}
use Rattle.cred_model.proofs.Rising.{All-in_order, All-passed, length-in_order}
use Rattle.cred_model.proofs.Waiting.{greatest_bounds}
use Rattle.cred_laws.proofs.Cases.{some_case, none_case, test_case}
use Rattle.cred_sound.specs.Broadcasts.{IsUnderWay}
use Rattle.cred_sound.proofs.Tests.{in_slots}
use Rattle.cred_sound.proofs.Parts.{with_left}
use Rattle.cred_reader.specs.Fits.{IsNumber, FitsCall, FitsEvent}
use Rattle.cred_reader.proofs.Spelled.{Holds}
use Rattle.cred_fits.proofs.CredFits.{FitsCred, call_made_fits}
use Rattle.cred_fits.proofs.Ranges.{FitsTask, FitsBroadcast, FitsChanged, FitsPrepared, IsInRange, Good, Gives, some_fits, IsFound, is_found, found_by, idle}
use Rattle.cred_fits.proofs.Ranges.{own}
use Rattle.cred_fits.proofs.Ranges.{fewer}
use Rattle.cred_fits.proofs.StateFits.{IsKnown, slot_number, with_cred, current_fits, overrides_fit, survivors_fit, dropped_fit, left_fit, joined_fit}
use Rattle.cred_fits.proofs.StateFits.{prepared_at, owner_fits, found_answer, without_label, of_init, of_take, of_take_file, of_release, of_ask, of_signal}
use Rattle.cred_fits.proofs.StateFits.{of_prepare, of_alter, of_commit, of_check, of_dumpable, of_dumped, of_ptrace, of_file, of_stat}

-- ---- what is given up, and what overrides

of_abort : (s : State) (label : ℕ) → IsKnown s → IsNumber label → Gives s (by_abort s label)
of_abort s label known l =
    some_case (Gives s) (position (λ p. p.label == label) s.prepared) _ _ (l, known.range) (λ place at.
    some_case (Gives s) (slice_get s.prepared place) _ _ (l, known.range) (λ p is. (tt, without_label s place known.range)))

access_fits : (task : ℕ) (p : Prepared) (last : Changed) → IfSome p.changed FitsChanged → for_access task p ≡ Some last → FitsChanged last
access_fits task p last fits is = by p.changed fits is
  where
    taken : (b : Bool) (c : Changed) → FitsChanged c → cond b (Some c) None ≡ Some last → FitsChanged last
    taken true c h is = let same : c ≡ last = cc in subst FitsChanged same h
    taken false c h is = absurd (cc)

    by : (o : Option Changed) → IfSome o FitsChanged
        → option_and_then (λ last. cond ((p.task == task) && is_access last.change) (Some last) None) o ≡ Some last → FitsChanged last
    by None h is = absurd (cc)
    by (Some c) h is = taken ((p.task == task) && is_access c.change) c h is

overridden_by : (s : State) (owner : Task) (label : ℕ) (found : Option Numbered) → IsKnown s → IsNumber label → FitsTask owner
    → ((c : Numbered) → found ≡ Some c → IsFound s c) → Gives s (option_map_or (override_held s owner) found (override_prepared s owner label))
overridden_by s owner label (Some held) known l fits stands =
    let range = known.range in
    fewer s (length owner.overrides) DEPTH answer.TooDeep _ tt range (λ few. (
      found_answer s held known (stands held refl),
      record {
        creds = range.creds;
        tasks = overrides_fit s.tasks owner.number (held.number ∷ owner.overrides) (omega (arith, few)) range.tasks;
        broadcasts = range.broadcasts;
        prepared = range.prepared;
      },
    ))
overridden_by s owner label None known l fits stands =
    let range = known.range in
    some_case (Gives s) (position (λ p. p.label == label) s.prepared) _ _ (l, range) (λ place at.
    some_case (Gives s) (slice_get s.prepared place) _ _ (l, range) (λ p is.
    let own = prepared_at s place p range is in
    some_case (Gives s) (for_access owner.number p) _ _ (l, range) (λ last made.
    fewer s (length owner.overrides) DEPTH answer.TooDeep _ tt range (λ few. (
      (known.creds, slot_number p.slot own.1),
      record {
        creds = with_cred s.creds last.cred p.slot range.creds (access_fits owner.number p last own.2 made).0 own.1;
        tasks = overrides_fit s.tasks owner.number (length s.creds ∷ owner.overrides) (omega (arith, few)) range.tasks;
        broadcasts = range.broadcasts;
        prepared = All-remove FitsPrepared s.prepared place range.prepared;
      },
    )))))

of_override : (s : State) (task label : ℕ) → IsKnown s → IsNumber task → IsNumber label → Gives s (by_override s task label)
of_override s task label known t l =
    some_case (Gives s) (task_of s task) _ _ (t, known.range) (λ owner is.
    overridden_by s owner label (held_by s label) known l (owner_fits s task owner known.range is)
    (λ c at. found_by s (λ h. h.number) (hold_of s label) c known.range.creds at))

of_revert : (s : State) (task : ℕ) → IsKnown s → IsNumber task → Gives s (by_revert s task)
of_revert s task known t =
    let range = known.range in
    some_case (Gives s) (task_of s task) _ _ (t, range) (λ owner is.
    some_case (Gives s) (slice_get owner.overrides 0) _ _ (tt, range) (λ newest at. (
      tt,
      record {
        creds = range.creds;
        tasks =
            overrides_fit s.tasks task (drop 1 owner.overrides)
            (let few = (owner_fits s task owner range is).1 in omega (arith, few, length-drop 1 owner.overrides)) range.tasks;
        broadcasts = range.broadcasts;
        prepared = range.prepared;
      },
    )))

-- ---- id calls

-- the other threads of a process
others_few : (owner : Task) (tasks : List Task) → length (others_of owner tasks) ≤ length tasks
others_few owner tasks =
    let beside = filter (is_beside owner) tasks in
    let sorted = length-in_order (map (λ t. t.number) beside) in
    let mapped = length-map beside (λ (t : Task). t.number) in
    omega (arith, sorted, mapped, length-filter (is_beside owner) tasks, count_by-le-length (is_beside owner) tasks)

others_fit : (owner : Task) (tasks : List Task) → All FitsTask tasks → All IsNumber (others_of owner tasks)
others_fit owner tasks all =
    All-in_order IsNumber _ (All-map IsNumber (λ (t : Task). t.number) (filter (is_beside owner) tasks)
    (All-passed (is_beside owner) FitsTask (λ t. IsNumber t.number) tasks (λ t test h. h.0) all))

broadcast_more : (broadcasts : List Broadcast) (broadcast : Broadcast) → All FitsBroadcast broadcasts → FitsBroadcast broadcast
    → All FitsBroadcast (with_broadcast broadcasts broadcast)
broadcast_more broadcasts broadcast all fits =
    All-append FitsBroadcast broadcasts (filter is_open (broadcast ∷ [])) all
    (All-passed is_open FitsBroadcast FitsBroadcast (broadcast ∷ []) (λ b test h. h) (All-cons FitsBroadcast broadcast [] fits (All-nil FitsBroadcast)))

by_rule_gives : (s : State) (r : Result Credential Denial) (f : Credential → Result (Answer × State) Answer) → IsInRange s → Holds FitsCred r
    → ((c : Credential) → FitsCred c → Gives s (f c)) → Gives s (by_rule r >>= f)
by_rule_gives s (Ok c) f range h each = each c h
by_rule_gives s (Err Perm) f range h each = (tt, range)
by_rule_gives s (Err Invalid) f range h each = (tt, range)

of_begin : (s : State) (line task : ℕ) (call : IdCall) → IsKnown s → IsNumber line → IsNumber task → FitsCall call → Gives s (by_begin s line task call)
of_begin s line task call known n t fits =
    let range = known.range in
    some_case (Gives s) (task_of s task) _ _ (t, range) (λ owner is.
    some_case (Gives s) (numbered s.creds owner.current) _ _ (t, range) (λ old at.
    let found = is_found s owner.current old range.creds at in
    idle s (broadcast_in s owner.process) _ (find_each FitsBroadcast (λ b. b.process == owner.process) s.broadcasts range.broadcasts) range
    (none_case (Gives s) (broadcast_of s line) _ _ (n, range) (λ new.
    own s owner _ (owner_fits s task owner range is) range
    (by_rule_gives s (set_id old.cred call) _ range (call_made_fits old.cred call found.cred fits) (λ made h.
    let others = others_of owner s.tasks in
    let broadcast : Broadcast = record { number = line; process = owner.process; caller = task; call = call; waiting = others } in
    in_slots Good s table_full
    (λ t slot. (
      answer.Began (length t.creds) slot (length others),
      record (replaced t task old.number made slot) {
        broadcasts = with_broadcast t.broadcasts broadcast;
        dumpable = renewed t.dumpable owner.process (differs old.cred made);
      },
    ))
    (λ left less. (tt, range))
    (λ left slot less free. (
      (known.creds, slot_number slot free.below, (let few = known.tasks in omega (arith, few, others_few owner s.tasks))),
      record {
        creds = with_cred s.creds made slot range.creds h free.below;
        tasks = current_fits s.tasks task (length s.creds) range.tasks;
        broadcasts = broadcast_more s.broadcasts broadcast range.broadcasts (n, fits, others_fit owner s.tasks range.tasks);
        prepared = range.prepared;
      },
    ))))))))

-- how many wait: each has a number of its own
waiting_few : (xs : List ℕ) → AllPairs (λ a b. a < b) xs → All IsNumber xs → IsNumber (length xs - 1)
waiting_few [] rising all = omega arith
waiting_few (x ∷ xs) rising all =
    let long : length (x ∷ xs) - 1 < length (x ∷ xs) = omega arith in
    let last = slice_get_at (x ∷ xs) (length (x ∷ xs) - 1) long in
    let most = greatest_bounds (x ∷ xs) last.0 rising (omega arith) last.1 in
    let small = All-at IsNumber (x ∷ xs) (length (x ∷ xs) - 1) last.0 last.1 all in
    omega (arith, most, small)

aborted_range : (broadcast : Broadcast) (s : State) → IsInRange s → IsInRange (aborted broadcast s)
aborted_range broadcast s range = record {
  creds = range.creds;
  tasks = survivors_fit (is_thread_of broadcast.process) s.tasks range.tasks;
  broadcasts = dropped_fit broadcast.process s.broadcasts range.broadcasts;
  prepared = range.prepared;
}

followed : (s : State) (broadcast : Broadcast) (task : ℕ) (owner : Task) (old : Numbered) (r : Result Credential Denial) → IsKnown s → IsNumber task
    → IsNumber (length broadcast.waiting - 1) → Holds FitsCred r → Good (follow s broadcast task owner old (by_rule r))
followed s broadcast task owner old (Err Perm) known t few h = (t, aborted_range broadcast s known.range)
followed s broadcast task owner old (Err Invalid) known t few h = (t, aborted_range broadcast s known.range)
followed s broadcast task owner old (Ok made) known t few h =
    let range = known.range in
    in_slots Good s
    (λ t. (answer.Aborted task cause.Full, aborted broadcast t))
    (λ t slot. (
      answer.Acted task (length t.creds) slot (length broadcast.waiting - 1),
      record (replaced t task old.number made slot) {
        broadcasts = waits_no_more task t.broadcasts;
        dumpable = renewed t.dumpable owner.process (differs old.cred made);
      },
    ))
    (λ left less. (t, aborted_range broadcast (with_left s left) range))
    (λ left slot less free. (
      (t, known.creds, slot_number slot free.below, few),
      record {
        creds = with_cred s.creds made slot range.creds h free.below;
        tasks = current_fits s.tasks task (length s.creds) range.tasks;
        broadcasts = left_fit task s.broadcasts range.broadcasts;
        prepared = range.prepared;
      },
    ))

of_act : (s : State) (number : ℕ) → IsKnown s → IsNumber number → Gives s (by_act s number)
of_act s number known n =
    let range = known.range in
    some_case (Gives s) (broadcast_of s number) _ _ (n, range) (λ broadcast is.
    let fits = some_fits FitsBroadcast (broadcast_of s number) broadcast (find_each FitsBroadcast (λ b. b.number == number) s.broadcasts range.broadcasts) is in
    let way =
    some_fits (IsUnderWay s.tasks) (broadcast_of s number) broadcast
    (find_each (IsUnderWay s.tasks) (λ b. b.number == number) s.broadcasts known.sound.under_way) is in
    some_case (Gives s) (slice_get broadcast.waiting 0) _ _ (n, range) (λ task at.
    some_case (Gives s) (task_of s task) _ _ (n, range) (λ owner found.
    some_case (Gives s) (numbered s.creds owner.current) _ _ (n, range) (λ old there.
    let cred = is_found s owner.current old range.creds there in
    followed s broadcast task owner old (set_id old.cred broadcast.call) known (All-at IsNumber broadcast.waiting 0 task at fits.2)
    (waiting_few broadcast.waiting way.rising fits.2) (call_made_fits old.cred broadcast.call cred.cred fits.1)))))

of_raw : (s : State) (task : ℕ) (call : IdCall) → IsKnown s → IsNumber task → FitsCall call → Gives s (by_raw s task call)
of_raw s task call known t fits =
    let range = known.range in
    some_case (Gives s) (task_of s task) _ _ (t, range) (λ owner is.
    some_case (Gives s) (numbered s.creds owner.current) _ _ (t, range) (λ old at.
    let found = is_found s owner.current old range.creds at in
    idle s (broadcast_in s owner.process) _ (find_each FitsBroadcast (λ b. b.process == owner.process) s.broadcasts range.broadcasts) range
    (own s owner _ (owner_fits s task owner range is) range
    (by_rule_gives s (set_id old.cred call) _ range (call_made_fits old.cred call found.cred fits) (λ made h.
    in_slots Good s table_full
    (λ t slot. (
      answer.Sealed (length t.creds) slot,
      record (replaced t task old.number made slot) { dumpable = renewed t.dumpable owner.process (differs old.cred made) },
    ))
    (λ left less. (tt, range))
    (λ left slot less free. (
      (known.creds, slot_number slot free.below),
      record {
        creds = with_cred s.creds made slot range.creds h free.below;
        tasks = current_fits s.tasks task (length s.creds) range.tasks;
        broadcasts = range.broadcasts;
        prepared = range.prepared;
      },
    )))))))

-- ---- files and tasks

of_open : (s : State) (hold place : ℕ) (asked : Want) (fd : ℕ) → IsKnown s → IsNumber hold → IsNumber fd
    → Gives s (by_open s hold place asked fd)
of_open s hold place asked fd known h f =
    let range = known.range in
    some_case (Gives s) (held_by s hold) _ _ (h, range) (λ held is.
    none_case (Gives s) (open_of s fd) _ _ (f, range) (λ new.
    let file = info_of s.inodes (place ∷ []) in
    test_case (Gives s) (is_ok (checked held.cred file asked)) _ _ (of_check held.cred file asked, range)
    (test_case (Gives s) (nat_lt (length s.files) OPEN_FILES) _ _ (tt, range) (tt, range))))

of_close : (s : State) (fd : ℕ) → IsKnown s → Gives s (by_close s fd)
of_close s fd known =
    some_case (Gives s) (position (λ f. f.fd == fd) s.files) _ _ (tt, known.range) (λ place at.
    some_case (Gives s) (slice_get s.files place) _ _ (tt, known.range) (λ file is. (tt, known.range)))

one_task : (tasks : List Task) (number process current : ℕ) → All FitsTask tasks → IsNumber number
    → All FitsTask (tasks ++ first_task number process current ∷ [])
one_task tasks number process current all n = All-push FitsTask tasks _ all (n, omega arith)

of_spawn : (s : State) (task child : ℕ) → IsKnown s → IsNumber task → IsNumber child → Gives s (by_spawn s task child)
of_spawn s task child known t c =
    let range = known.range in
    some_case (Gives s) (task_of s task) _ _ (t, range) (λ owner is.
    some_case (Gives s) (numbered s.creds owner.current) _ _ (t, range) (λ parent at.
    idle s (begun_by s task) _ (find_each FitsBroadcast (λ b. b.caller == task) s.broadcasts range.broadcasts) range
    (none_case (Gives s) (task_of s child) _ _ (c, range) (λ new.
    own s owner _ (owner_fits s task owner range is) range
    (test_case (Gives s) (nat_lt (length s.tasks) TASKS) _ _ (tt, range) (
      found_answer s parent known (is_found s owner.current parent range.creds at),
      record {
        creds = range.creds;
        tasks = one_task s.tasks child owner.process parent.number range.tasks c;
        broadcasts = joined_fit task child s.broadcasts c range.broadcasts;
        prepared = range.prepared;
      },
    ))))))

of_fork : (s : State) (task child process : ℕ) → IsKnown s → IsNumber task → IsNumber child → IsNumber process → Gives s (by_fork s task child process)
of_fork s task child process known t c p =
    let range = known.range in
    some_case (Gives s) (task_of s task) _ _ (t, range) (λ owner is.
    some_case (Gives s) (numbered s.creds owner.current) _ _ (t, range) (λ parent at.
    idle s (begun_by s task) _ (find_each FitsBroadcast (λ b. b.caller == task) s.broadcasts range.broadcasts) range
    (none_case (Gives s) (task_of s child) _ _ (c, range) (λ new.
    none_case (Gives s) (find (is_thread_of process) s.tasks) _ _ (p, range) (λ unused.
    own s owner _ (owner_fits s task owner range is) range
    (test_case (Gives s) (nat_lt (length s.tasks) TASKS) _ _ (tt, range) (
      found_answer s parent known (is_found s owner.current parent range.creds at),
      record {
        creds = range.creds;
        tasks = one_task s.tasks child process parent.number range.tasks c;
        broadcasts = range.broadcasts;
        prepared = range.prepared;
      },
    )))))))

of_exit : (s : State) (task : ℕ) → IsKnown s → IsNumber task → Gives s (by_exit s task)
of_exit s task known t =
    let range = known.range in
    some_case (Gives s) (task_of s task) _ _ (t, range) (λ owner is.
    idle s (begun_by s task) _ (find_each FitsBroadcast (λ b. b.caller == task) s.broadcasts range.broadcasts) range
    (own s owner _ (owner_fits s task owner range is) range (
      tt,
      record {
        creds = range.creds;
        tasks = survivors_fit (is_task task) s.tasks range.tasks;
        broadcasts = left_fit task s.broadcasts range.broadcasts;
        prepared = range.prepared;
      },
    )))

-- ---- every event

pub step_fits : (script : Script) (s : State) (line : ℕ) (event : Event) → IsKnown s → IsNumber line
    → FitsEvent event → Good (step script s line event)
step_fits script s line (event.Init task process user group ns) known n fits = of_init s task process user group ns (root_of script ns) known fits
step_fits script s line (event.Take label task side) known n fits = of_take s label task side known fits.0 fits.1
step_fits script s line (event.TakeFile label fd) known n fits = of_take_file s label fd known fits.0
step_fits script s line (event.Release label) known n fits = of_release s label known fits
step_fits script s line (event.Ask label query) known n fits = of_ask s label query known fits.0
step_fits script s line (event.Signal from hold to target) known n fits = of_signal s from hold to target known fits
step_fits script s line (event.Prepare label task hold) known n fits = of_prepare s label task hold known fits
step_fits script s line (event.Alter label to) known n fits = of_alter script s label to known fits.0 fits.1
step_fits script s line (event.Commit label) known n fits = of_commit s label known fits
step_fits script s line (event.Abort label) known n fits = of_abort s label known fits
step_fits script s line (event.Override task label) known n fits = of_override s task label known fits.0 fits.1
step_fits script s line (event.Revert task) known n fits = of_revert s task known fits
step_fits script s line (event.Begin task call) known n fits = of_begin s line task call known n fits.0 fits.1
step_fits script s line (event.Act number) known n fits = of_act s number known fits
step_fits script s line (event.OpenFile hold place asked fd) known n fits = of_open s hold place asked fd known fits.0 fits.2
step_fits script s line (event.CloseFile fd) known n fits = of_close s fd known
step_fits script s line (event.Spawn task child) known n fits = of_spawn s task child known fits.0 fits.1
step_fits script s line (event.Fork task child process) known n fits = of_fork s task child process known fits.0 fits.1 fits.2
step_fits script s line (event.Exit task) known n fits = of_exit s task known fits
step_fits script s line (event.Dumpable task value) known n fits = of_dumpable s task value known fits.0
step_fits script s line (event.Dumped task) known n fits = of_dumped s task known fits
step_fits script s line (event.Ptrace from hold to target mode) known n fits = of_ptrace script s from hold to target mode known fits
step_fits script s line (event.Chown hold place owner group) known n fits = of_file s hold place (λ c file. chown c file owner group) known fits.0
step_fits script s line (event.Chmod hold place mode) known n fits = of_file s hold place (λ c file. chmod c file mode) known fits.0
step_fits script s line (event.SetAttr hold place attr) known n fits = of_file s hold place (λ c file. set_attr c file attr) known fits.0
step_fits script s line (event.Stat hold place) known n fits = of_stat s hold place known fits
step_fits script s line (event.Raw task call) known n fits = of_raw s task call known fits.0 fits.1
step_fits script s line event.Sweep known n fits = (tt, known.range)
