-- Each event is given one of the answers of its row.
use Rattle.std.proofs.Common.{◌≡◌, ℕ, ◌-◌, ◌==◌, ◌||◌, nat_lt, Bool, true, false, cond, List, [], ◌∷◌, length, slice_get, slice_set, not, Option, Some, None}
use Rattle.std.proofs.Common.{Result, Ok, Err, ok_or, refl, ap, arith}
use Rattle.std.specs.List.{find, position, count_by}
use Rattle.std.proofs.lemmas.Bool.Decides.{nat_tests}
use Rattle.std.specs.Option.{option_map_or, option_and_then}
use Rattle.cred_ids.specs.declared.arg.Arg.{Arg}
use Rattle.cred_ids.specs.Limits.{TASKS, OPEN_FILES, HOLDS, PREPARED, DEPTH}
use Rattle.cred_ids.specs.Tests.{◌>>=◌}
use Rattle.cred_caps.specs.Numbers.{LAST, CHOWN, SETFCAP}
use Rattle.cred_caps.specs.Caps.{Caps, has}
use Rattle.cred_record.specs.Credential.{Credential, capable, first_credential}
use Rattle.cred_record.specs.File.{File}
use Rattle.cred_record.specs.declared.gains.Gains.{Gains}
use Rattle.cred_record.specs.declared.adj_call.AdjCall.{AdjCall}
use Rattle.cred_record.specs.declared.id_call.IdCall.{IdCall}
use Rattle.cred_record.specs.declared.refusal.Denial.{Denial}
use Rattle.cred_record.specs.declared.refusal.Denial.TheVariants.{Perm, Invalid}
use Rattle.cred_record.specs.declared.want.Want.{Want}
use Rattle.cred_rules.specs.Access.{may}
use Rattle.cred_rules.specs.Adjust.{adjust, read_in}
use Rattle.cred_rules.specs.Exec.{Executed, NoExec, exec}
use Rattle.cred_rules.specs.Exec.NoExec.{MayNotExecute, SpellsNothing, GivesTooLittle}
use Rattle.cred_rules.specs.Files.{may_chown, may_as_owner, gives_one, chowned, chown, may_chmod, given_mode, chmod, is_attr, set_attr}
use Rattle.cred_rules.specs.SetId.{set_id}
use Rattle.cred_event.specs.declared.answer.Answer.{Answer}
use Rattle.cred_event.specs.declared.answer.Answer.TheVariants as answer
use Rattle.cred_event.specs.declared.answer.AbortCause.TheVariants as cause
use Rattle.cred_event.specs.declared.answer.Named.TheVariants as named
use Rattle.cred_event.specs.declared.answer.Counted.TheVariants as counted
use Rattle.cred_event.specs.declared.event.Change.{Change}
use Rattle.cred_event.specs.declared.event.Change.TheVariants as change
use Rattle.cred_event.specs.declared.event.Event.TheVariants as event
use Rattle.cred_record.specs.declared.mode.PtraceMode.{PtraceMode}
use Rattle.cred_event.specs.declared.event.Query.{Query}
use Rattle.cred_event.specs.declared.event.Query.TheVariants as query
use Rattle.cred_event.specs.declared.event.Side.{Side}
use Rattle.cred_event.specs.Answers.{is_ok}
use Rattle.cred_model.specs.Answers.{flag, checked, reply}
use Rattle.cred_model.specs.Change.{Made, by_rule, made_by_rule, made_by_execve, made_by_exec, by_change}
use Rattle.cred_model.specs.Broadcasts.{others_of, with_broadcast, waits_no_more}
use Rattle.cred_model.specs.Dumpable.{differs, renewed, set_flag, flags_begun, flags_committed}
use Rattle.cred_model.specs.Ends.{ended, is_thread_of}
use Rattle.cred_model.specs.Moves.{in_slot, table_full, first_task, created, replaced, preparing, altered, committed, given_up}
use Rattle.cred_model.specs.Named.{query_files, change_files}
use Rattle.cred_model.specs.Script.{Script, chain_of, root_of}
use Rattle.cred_model.specs.Slots.{swept_if_full, free}
use Rattle.cred_model.specs.State.{State, Task, Numbered, Prepared, Changed, Broadcast, numbered, task_of, broadcast_of, broadcast_in, begun_by, open_of}
use Rattle.cred_model.specs.State.{hold_of}
use Rattle.cred_model.specs.State.{prepared_of, credential_of, opener_of, held_by, info_of}
use Rattle.cred_model.specs.TaskEvents.{by_init, by_signal, by_spawn, by_fork, by_exit, by_dumpable, by_dumped, by_ptrace}
use Rattle.cred_model.specs.LabelEvents.{take_hold, by_take, by_take_file, by_release, by_ask, by_prepare, by_alter, for_task, try_commit, ends_with}
use Rattle.cred_model.specs.LabelEvents.{broadcasts_after, committed_by, commit_answer, by_commit, by_abort, for_access, override_held, override_prepared}
use Rattle.cred_model.specs.LabelEvents.{by_override, by_revert}
use Rattle.cred_model.specs.CallEvents.{by_begin, aborted, follow, by_act, by_raw}
use Rattle.cred_model.specs.FileEvents.{by_open, by_close, by_file, by_stat}
use Rattle.cred_model.specs.Step.{outcome}
use Rattle.cred_laws.proofs.Cases.{some_case, none_case, test_case, own_case, idle_case}
use Rattle.cred_answers.specs.CallRows as call_rows
use Rattle.cred_answers.specs.Rows as rows
use Rattle.cred_fits.specs.Fitting.{AnswersAreOfTheirRows}
use Rattle.cred_fits.proofs.RuleRows.{Answers, Changes, of_call, of_adjust}

-- what is answered, refused or not, is of the row
abbrev Tells : (Answer → Bool) → State → Result (Answer × State) Answer → Type 0
Tells row s r = row (outcome s r).0 ≡ true

-- ---- a slot

found_slot : (row : Answer → Bool) (t : State) (full : State → Answer × State) (does : State → ℕ → Answer × State) (found : Option ℕ)
    → row (full t).0 ≡ true → ((slot : ℕ) → row (does t slot).0 ≡ true) → row (option_map_or (does t) found (full t)).0 ≡ true
found_slot row t full does None none each = none
found_slot row t full does (Some slot) none each = each slot

slot_tells : (row : Answer → Bool) (s : State) (full : State → Answer × State) (does : State → ℕ → Answer × State)
    → ((t : State) → row (full t).0 ≡ true) → ((t : State) (slot : ℕ) → row (does t slot).0 ≡ true) → row (in_slot s full does).0 ≡ true
slot_tells row s full does none each = found_slot row (swept_if_full s) full does (free s) (none (swept_if_full s)) (each (swept_if_full s))

-- ---- the events

of_init : (s : State) (task process user group ns root : ℕ) → Tells rows.init_row s (by_init s task process user group ns root)
of_init s task process user group ns root =
    let Q = Tells rows.init_row s in
    idle_case Q (broadcast_in s process) _ (λ number. refl) (λ idle.
    none_case Q (task_of s task) _ _ refl (λ new.
    test_case Q (nat_lt (length s.tasks) TASKS) _ _ refl
    (slot_tells rows.init_row s table_full
    (λ t slot. (
      answer.Sealed (length t.creds) slot,
      record (created t (first_task task process (length t.creds)) (first_credential user group ns root) slot) { dumpable = flags_begun t process },
    ))
    (λ t. refl) (λ t slot. refl))))

of_hold : (row : Answer → Bool) (s : State) (label : ℕ) (taken : Numbered) → row (answer.Exists named.Label label) ≡ true
    → row (answer.TooMany counted.Holds) ≡ true → row (answer.Sealed taken.number taken.slot) ≡ true → Tells row s (take_hold s label taken)
of_hold row s label taken old many sealed =
    none_case (Tells row s) (hold_of s label) _ _ old (λ new.
    none_case (Tells row s) (prepared_of s label) _ _ old (λ unprepared.
    test_case (Tells row s) (nat_lt (length s.holds) HOLDS) _ _ many sealed))

of_take : (s : State) (label task : ℕ) (side : Side) → Tells rows.take_row s (by_take s label task side)
of_take s label task side =
    some_case (Tells rows.take_row s) (credential_of s task side) _ _ refl (λ taken is. of_hold rows.take_row s label taken refl refl refl)

of_take_file : (s : State) (label fd : ℕ) → Tells rows.takefile_row s (by_take_file s label fd)
of_take_file s label fd =
    some_case (Tells rows.takefile_row s) (opener_of s fd) _ _ refl (λ taken is. of_hold rows.takefile_row s label taken refl refl refl)

of_release : (s : State) (label : ℕ) → Tells rows.release_row s (by_release s label)
of_release s label =
    let Q = Tells rows.release_row s in
    some_case Q (position (λ h. h.label == label) s.holds) _ _ refl (λ place at.
    some_case Q (slice_get s.holds place) _ _ refl (λ hold is. refl))

-- a question about a capability, by its number
of_flag : (set : Caps) (cap : ℕ) → rows.cap_row cap (flag (read_in set cap)) ≡ true
of_flag set cap = by (nat_lt LAST cap)
  where
    by : (above : Bool)
        → cond above (rows.no_cap_row (flag (cond above None (Some (has set cap))))) (rows.capable_row (flag (cond above None (Some (has set cap))))) ≡ true
    by true = refl
    by false = refl

of_no_hold : (cap label : ℕ) → rows.cap_row cap (answer.NoHold label) ≡ true
of_no_hold cap label = by (nat_lt LAST cap)
  where
    by : (above : Bool) → cond above true true ≡ true
    by true = refl
    by false = refl

of_check : (c : Credential) (file : Option File) (asked : Want) → rows.check_row (checked c file asked) ≡ true
of_check c None asked = refl
of_check c (Some file) asked =
    elim (may c file asked) as (λ b. rows.check_row (cond b answer.Done answer.Eacces) ≡ true) [
      | true ↦ refl
      | false ↦ refl
    ]

of_reply : (file : Option File) (c : Credential) (q : Query) → rows.may_tell q (reply file c q) ≡ true
of_reply file c query.Ids = refl
of_reply file c query.Caps = refl
of_reply file c query.Groups = refl
of_reply file c query.Bits = refl
of_reply file c (query.Capable n) = of_flag c.eff n
of_reply file c (query.Bset n) = of_flag c.bound n
of_reply file c (query.AmbIs n) = of_flag c.amb n
of_reply file c (query.Check place asked) = of_check c file asked

none_held : (q : Query) (label : ℕ) → rows.may_tell q (answer.NoHold label) ≡ true
none_held query.Ids label = refl
none_held query.Caps label = refl
none_held query.Groups label = refl
none_held query.Bits label = refl
none_held (query.Capable n) label = of_no_hold n label
none_held (query.Bset n) label = of_no_hold n label
none_held (query.AmbIs n) label = of_no_hold n label
none_held (query.Check place asked) label = refl

of_ask : (s : State) (label : ℕ) (q : Query) → Tells (rows.may_tell q) s (by_ask s label q)
of_ask s label q =
    some_case (Tells (rows.may_tell q) s) (held_by s label) _ _ (none_held q label) (λ held is.
    of_reply (info_of s.inodes (query_files q)) held.cred q)

signalled : (s : State) (b : Bool) → Tells rows.signal_row s (cond b (Ok (answer.Done, s)) (Err answer.Eperm))
signalled s true = refl
signalled s false = refl

of_signal : (s : State) (from hold to target : ℕ) → Tells rows.signal_row s (by_signal s from hold to target)
of_signal s from hold to target =
    let Q = Tells rows.signal_row s in
    some_case Q (task_of s from) _ _ refl (λ sender is.
    some_case Q (task_of s to) _ _ refl (λ receiver is.
    some_case Q (held_by s hold) _ _ refl (λ own is.
    some_case Q (held_by s target) _ _ refl (λ other is. signalled s _))))

of_prepare : (s : State) (label task hold : ℕ) → Tells rows.prepare_row s (by_prepare s label task hold)
of_prepare s label task hold =
    let Q = Tells rows.prepare_row s in
    some_case Q (task_of s task) _ _ refl (λ owner is.
    idle_case Q (begun_by s task) _ (λ number. refl) (λ idle.
    some_case Q (hold_of s hold) _ _ refl (λ base is.
    none_case Q (hold_of s label) _ _ refl (λ new.
    none_case Q (prepared_of s label) _ _ refl (λ unprepared.
    test_case Q (nat_lt (length s.prepared) PREPARED) _ _ refl
    (slot_tells rows.prepare_row s table_full
    (λ t slot. (answer.Kept slot, preparing t (record { label = label; task = task; base = base.number; slot = slot; changed = None })))
    (λ t. refl) (λ t slot. refl)))))))

-- ---- a change

abbrev IsOfRow : (Answer → Bool) → Result Made Answer → Type 0
IsOfRow row (Ok made) = row made.answer ≡ true
IsOfRow row (Err refused) = row refused ≡ true

by_adjust : (call : AdjCall) (r : Result Credential Denial)
    → Changes (call_rows.may_be_done call) (call_rows.may_be_refused call) (call_rows.is_wrong call) r
    → IsOfRow (call_rows.adjust_row call) (made_by_rule r)
by_adjust call (Ok c) h = h
by_adjust call (Err Perm) h = h
by_adjust call (Err Invalid) h = h

by_exec : (r : Result Executed NoExec) → IsOfRow rows.exec_row (made_by_exec r)
by_exec (Ok e) = refl
by_exec (Err MayNotExecute) = refl
by_exec (Err SpellsNothing) = refl
by_exec (Err GivesTooLittle) = refl

of_executed : (file : Option File) (chain : List ℕ) (c : Credential) → IsOfRow rows.exec_row (made_by_execve file chain c)
of_executed None chain c = refl
of_executed (Some file) chain c = by_exec (exec c file chain)

of_change : (file : Option File) (chain : List ℕ) (c : Credential) (to : Change) → IsOfRow (rows.may_answer_change to) (by_change file chain c to)
of_change file chain c (change.SetFs kind id) = refl
of_change file chain c (change.Adjust call) = by_adjust call (adjust c call) (of_adjust c call)
of_change file chain c (change.Exec place) = of_executed file chain c
of_change file chain c change.Access = refl

none_prepared : (to : Change) (label : ℕ) → rows.may_answer_change to (answer.NoPrepared label) ≡ true
none_prepared (change.SetFs kind id) label = refl
none_prepared (change.Adjust call) label = refl
none_prepared (change.Exec place) label = refl
none_prepared change.Access label = refl

of_altered : (s : State) (label : ℕ) (to : Change) (r : Result Made Answer) → IsOfRow (rows.may_answer_change to) r
    → Tells (rows.may_answer_change to) s (r >>= λ made. Ok (made.answer, altered s label (record { change = to; cred = made.cred; gains = made.gains })))
of_altered s label to (Ok made) h = h
of_altered s label to (Err refused) h = h

of_alter : (script : Script) (s : State) (label : ℕ) (to : Change) → Tells (rows.may_answer_change to) s (by_alter script s label to)
of_alter script s label to =
    let Q = Tells (rows.may_answer_change to) s in
    some_case Q (prepared_of s label) _ _ (none_prepared to label) (λ p is.
    some_case Q (numbered s.creds p.base) _ _ (none_prepared to label) (λ base is.
    of_altered s label to _ (of_change (info_of s.inodes (change_files to)) (chain_of script base.cred.ns) base.cred to)))

-- ---- a commit, an override

of_committed : (to : Change) (gains : Gains) (number slot count : ℕ) → rows.commit_row (committed_by to gains number slot count) ≡ true
of_committed (change.Exec file) gains number slot count = refl
of_committed (change.SetFs kind id) gains number slot count = refl
of_committed (change.Adjust call) gains number slot count = refl
of_committed change.Access gains number slot count = refl

-- a commit and the state after it
abbrev IsCommitted : Answer × State → Type 0
IsCommitted made = rows.commit_row made.0 ≡ true

tried : (s : State) (place : ℕ) (p : Prepared) (owner : Task) (last : Changed) → IsCommitted (try_commit s place p owner last)
tried s place p owner last =
    let ends = ends_with last.change owner in
    elim (owner.current == p.base) as (λ b. IsCommitted (cond b (
      commit_answer last (length s.creds) p.slot (count_by ends s.tasks),
      record (broadcasts_after last.change owner (committed (ended ends s) place p owner.current last.cred)) { dumpable = flags_committed s owner last },
    )
    (answer.Stale p.base owner.current, given_up s place p))) [
      | true ↦ of_committed last.change last.gains (length s.creds) p.slot (count_by ends s.tasks)
      | false ↦ refl
    ]

of_commit : (s : State) (label : ℕ) → Tells rows.commit_row s (by_commit s label)
of_commit s label =
    let Q = Tells rows.commit_row s in
    some_case Q (position (λ p. p.label == label) s.prepared) _ _ refl (λ place at.
    some_case Q (slice_get s.prepared place) _ _ refl (λ p is.
    some_case Q (option_and_then for_task p.changed) _ _ refl (λ last is.
    some_case Q (task_of s p.task) _ _ refl (λ owner is.
    idle_case Q (begun_by s p.task) _ (λ number. refl) (λ idle.
    own_case Q owner _ (λ depth. refl) (tried s place p owner last))))))

of_abort : (s : State) (label : ℕ) → Tells rows.abort_row s (by_abort s label)
of_abort s label =
    let Q = Tells rows.abort_row s in
    some_case Q (position (λ p. p.label == label) s.prepared) _ _ refl (λ place at.
    some_case Q (slice_get s.prepared place) _ _ refl (λ p is. refl))

overridden_by : (s : State) (owner : Task) (label : ℕ) (found : Option Numbered)
    → Tells rows.override_row s (option_map_or (override_held s owner) found (override_prepared s owner label))
overridden_by s owner label (Some held) = test_case (Tells rows.override_row s) (nat_lt (length owner.overrides) DEPTH) _ _ refl refl
overridden_by s owner label None =
    let Q = Tells rows.override_row s in
    some_case Q (position (λ p. p.label == label) s.prepared) _ _ refl (λ place at.
    some_case Q (slice_get s.prepared place) _ _ refl (λ p is.
    some_case Q (for_access owner.number p) _ _ refl (λ last is.
    test_case Q (nat_lt (length owner.overrides) DEPTH) _ _ refl refl)))

of_override : (s : State) (task label : ℕ) → Tells rows.override_row s (by_override s task label)
of_override s task label =
    some_case (Tells rows.override_row s) (task_of s task) _ _ refl (λ owner is. overridden_by s owner label (held_by s label))

of_revert : (s : State) (task : ℕ) → Tells rows.revert_row s (by_revert s task)
of_revert s task =
    let Q = Tells rows.revert_row s in
    some_case Q (task_of s task) _ _ refl (λ owner is.
    some_case Q (slice_get owner.overrides 0) _ _ refl (λ newest is. refl))

-- ---- an id call

of_made : (s : State) (call : IdCall) (r : Result Credential Denial) (f : Credential → Result (Answer × State) Answer)
    → Answers (call_rows.may_be_denied call) (call_rows.is_invalid call) r
    → ((c : Credential) → call_rows.is_invalid call ≡ false → Tells (call_rows.begin_row call) s (f c))
    → Tells (call_rows.begin_row call) s (by_rule r >>= f)
of_made s call (Ok c) f h each = each c h
of_made s call (Err Perm) f h each = h
of_made s call (Err Invalid) f h each = h

-- the same of a call of one thread alone
of_raw_made : (s : State) (call : IdCall) (r : Result Credential Denial) (f : Credential → Result (Answer × State) Answer)
    → Answers (call_rows.may_be_denied call) (call_rows.is_invalid call) r
    → ((c : Credential) → call_rows.is_invalid call ≡ false → Tells (call_rows.raw_row call) s (f c))
    → Tells (call_rows.raw_row call) s (by_rule r >>= f)
of_raw_made s call (Ok c) f h each = each c h
of_raw_made s call (Err Perm) f h each = h
of_raw_made s call (Err Invalid) f h each = h

of_raw : (s : State) (task : ℕ) (call : IdCall) → Tells (call_rows.raw_row call) s (by_raw s task call)
of_raw s task call =
    let row = call_rows.raw_row call in
    let Q = Tells row s in
    some_case Q (task_of s task) _ _ refl (λ owner is.
    some_case Q (numbered s.creds owner.current) _ _ refl (λ old is.
    idle_case Q (broadcast_in s owner.process) _ (λ number. refl) (λ idle.
    own_case Q owner _ (λ depth. refl)
    (of_raw_made s call (set_id old.cred call) _ (of_call old.cred call) (λ made valid.
    slot_tells row s table_full
    (λ t slot. (
      answer.Sealed (length t.creds) slot,
      record (replaced t task old.number made slot) { dumpable = renewed t.dumpable owner.process (differs old.cred made) },
    ))
    (λ t. ap not valid) (λ t slot. ap not valid))))))

of_begin : (s : State) (line task : ℕ) (call : IdCall) → Tells (call_rows.begin_row call) s (by_begin s line task call)
of_begin s line task call =
    let row = call_rows.begin_row call in
    let Q = Tells row s in
    some_case Q (task_of s task) _ _ refl (λ owner is.
    some_case Q (numbered s.creds owner.current) _ _ refl (λ old is.
    idle_case Q (broadcast_in s owner.process) _ (λ number. refl) (λ idle.
    none_case Q (broadcast_of s line) _ _ refl (λ new.
    own_case Q owner _ (λ depth. refl)
    (of_made s call (set_id old.cred call) _ (of_call old.cred call) (λ made valid.
    let others = others_of owner s.tasks in
    let broadcast : Broadcast = record { number = line; process = owner.process; caller = task; call = call; waiting = others } in
    slot_tells row s table_full
    (λ t slot. (
      answer.Began (length t.creds) slot (length others),
      record (replaced t task old.number made slot) {
        broadcasts = with_broadcast t.broadcasts broadcast;
        dumpable = renewed t.dumpable owner.process (differs old.cred made);
      },
    ))
    (λ t. ap not valid) (λ t slot. ap not valid)))))))

followed : (s : State) (broadcast : Broadcast) (task : ℕ) (owner : Task) (old : Numbered) (r : Result Credential Answer)
    → rows.act_row (follow s broadcast task owner old r).0 ≡ true
followed s broadcast task owner old (Err refused) = refl
followed s broadcast task owner old (Ok made) =
    slot_tells rows.act_row s
    (λ t. (answer.Aborted task cause.Full, aborted broadcast t))
    (λ t slot. (
      answer.Acted task (length t.creds) slot (length broadcast.waiting - 1),
      record (replaced t task old.number made slot) {
        broadcasts = waits_no_more task t.broadcasts;
        dumpable = renewed t.dumpable owner.process (differs old.cred made);
      },
    ))
    (λ t. refl) (λ t slot. refl)

of_act : (s : State) (number : ℕ) → Tells rows.act_row s (by_act s number)
of_act s number =
    let Q = Tells rows.act_row s in
    some_case Q (broadcast_of s number) _ _ refl (λ broadcast is.
    some_case Q (slice_get broadcast.waiting 0) _ _ refl (λ task is.
    some_case Q (task_of s task) _ _ refl (λ owner is.
    some_case Q (numbered s.creds owner.current) _ _ refl (λ old is.
    followed s broadcast task owner old (by_rule (set_id old.cred broadcast.call))))))

-- ---- files and tasks

-- a check that isn't passed is answered by EACCES
may_open : (c : Credential) (file : Option File) (asked : Want) → rows.open_row (checked c file asked) ≡ true
may_open c None asked = refl
may_open c (Some file) asked =
    elim (may c file asked) as (λ b. rows.open_row (cond b answer.Done answer.Eacces) ≡ true) [
      | true ↦ refl
      | false ↦ refl
    ]

of_open : (s : State) (hold place : ℕ) (asked : Want) (fd : ℕ) → Tells rows.open_row s (by_open s hold place asked fd)
of_open s hold place asked fd =
    let Q = Tells rows.open_row s in
    some_case Q (held_by s hold) _ _ refl (λ held is.
    none_case Q (open_of s fd) _ _ refl (λ new.
    let file = info_of s.inodes (place ∷ []) in
    test_case Q (is_ok (checked held.cred file asked)) _ _ (may_open held.cred file asked)
    (test_case Q (nat_lt (length s.files) OPEN_FILES) _ _ refl refl)))

of_close : (s : State) (fd : ℕ) → Tells rows.close_row s (by_close s fd)
of_close s fd =
    let Q = Tells rows.close_row s in
    some_case Q (position (λ f. f.fd == fd) s.files) _ _ refl (λ place at.
    some_case Q (slice_get s.files place) _ _ refl (λ file is. refl))

of_spawn : (s : State) (task child : ℕ) → Tells rows.spawn_row s (by_spawn s task child)
of_spawn s task child =
    let Q = Tells rows.spawn_row s in
    some_case Q (task_of s task) _ _ refl (λ owner is.
    some_case Q (numbered s.creds owner.current) _ _ refl (λ parent is.
    idle_case Q (begun_by s task) _ (λ number. refl) (λ idle.
    none_case Q (task_of s child) _ _ refl (λ new.
    own_case Q owner _ (λ depth. refl)
    (test_case Q (nat_lt (length s.tasks) TASKS) _ _ refl refl)))))

of_fork : (s : State) (task child process : ℕ) → Tells rows.fork_row s (by_fork s task child process)
of_fork s task child process =
    let Q = Tells rows.fork_row s in
    some_case Q (task_of s task) _ _ refl (λ owner is.
    some_case Q (numbered s.creds owner.current) _ _ refl (λ parent is.
    idle_case Q (begun_by s task) _ (λ number. refl) (λ idle.
    none_case Q (task_of s child) _ _ refl (λ new.
    none_case Q (find (is_thread_of process) s.tasks) _ _ refl (λ unused.
    own_case Q owner _ (λ depth. refl)
    (test_case Q (nat_lt (length s.tasks) TASKS) _ _ refl refl))))))

of_exit : (s : State) (task : ℕ) → Tells rows.exit_row s (by_exit s task)
of_exit s task =
    let Q = Tells rows.exit_row s in
    some_case Q (task_of s task) _ _ refl (λ owner is.
    idle_case Q (begun_by s task) _ (λ number. refl) (λ idle.
    own_case Q owner _ (λ depth. refl) refl))

-- ---- who may look into whom

of_ptrace : (script : Script) (s : State) (from hold to target : ℕ) (mode : PtraceMode) → Tells rows.signal_row s (by_ptrace script s from hold to target mode)
of_ptrace script s from hold to target mode =
    let Q = Tells rows.signal_row s in
    some_case Q (task_of s from) _ _ refl (λ sender is.
    some_case Q (task_of s to) _ _ refl (λ receiver is.
    some_case Q (held_by s hold) _ _ refl (λ own is.
    some_case Q (held_by s target) _ _ refl (λ other is. signalled s _))))

of_dumped : (s : State) (task : ℕ) → Tells rows.dumped_row s (by_dumped s task)
of_dumped s task = some_case (Tells rows.dumped_row s) (task_of s task) _ _ refl (λ owner is. refl)

-- 0 and 1 are done, and no other value is
of_value : (s : State) (process value : ℕ) (zero one : Bool) → (value == 0) ≡ zero → (value == 1) ≡ one
    → Tells (rows.dumpable_row value) s (ok_or (cond zero (Some false) (cond one (Some true) None)) answer.Einval >>=
    λ flag. Ok (answer.Done, record s { dumpable = set_flag s.dumpable process flag }))
of_value s process value true one z o = grind (arith, nat_tests)
of_value s process value false true z o = grind (arith, nat_tests)
of_value s process value false false z o = grind (arith, nat_tests)

of_dumpable : (s : State) (task value : ℕ) → Tells (rows.dumpable_row value) s (by_dumpable s task value)
of_dumpable s task value =
    some_case (Tells (rows.dumpable_row value) s) (task_of s task) _ _ refl (λ owner is.
    of_value s owner.process value (value == 0) (value == 1) refl refl)

-- ---- calls on files

-- a call that is refused gives an owner or a group
refused_gives : (able gives own : Bool) → (able || not gives || own) ≡ false → gives ≡ true
refused_gives true gives own refused = cc
refused_gives false true own refused = refl
refused_gives false false own refused = cc

of_chown : (s : State) (hold place : ℕ) (owner group : Arg) → Tells (rows.chown_row owner group) s (by_file s hold place (λ c file. chown c file owner group))
of_chown s hold place owner group =
    let Q = Tells (rows.chown_row owner group) s in
    some_case Q (held_by s hold) _ _ refl (λ held is.
    some_case Q (slice_get s.inodes place) _ _ refl (λ old there.
    let does : File → Result (Answer × State) Answer = λ new. Ok (answer.Done, record s { inodes = slice_set s.inodes place new }) in
    elim (may_chown held.cred old owner group) as
    (λ b. may_chown held.cred old owner group ≡ b → Q (by_rule (cond b (Ok (chowned old owner group)) (Err Perm)) >>= does)) [
      | true ↦ λ may. refl
      | false ↦ λ no. refused_gives (capable held.cred CHOWN) (gives_one owner group) (may_as_owner held.cred old owner group) no
    ] refl))

of_chmod : (s : State) (hold place mode : ℕ) → Tells rows.chmod_row s (by_file s hold place (λ c file. chmod c file mode))
unfolding chmod
of_chmod s hold place mode =
    let Q = Tells rows.chmod_row s in
    some_case Q (held_by s hold) _ _ refl (λ held is.
    some_case Q (slice_get s.inodes place) _ _ refl (λ old there.
    let does : File → Result (Answer × State) Answer = λ new. Ok (answer.Done, record s { inodes = slice_set s.inodes place new }) in
    elim (may_chmod held.cred old) as (λ b. Q (by_rule (cond b (Ok (record old { mode = given_mode held.cred old mode })) (Err Perm)) >>= does)) [
      | true ↦ refl
      | false ↦ refl
    ]))

of_set_attr : (s : State) (hold place : ℕ) (attr : Option (List ℕ)) → Tells (rows.set_attr_row attr) s (by_file s hold place (λ c file. set_attr c file attr))
unfolding set_attr
of_set_attr s hold place attr =
    let Q = Tells (rows.set_attr_row attr) s in
    some_case Q (held_by s hold) _ _ refl (λ held is.
    some_case Q (slice_get s.inodes place) _ _ refl (λ old there.
    let does : File → Result (Answer × State) Answer = λ new. Ok (answer.Done, record s { inodes = slice_set s.inodes place new }) in
    elim (capable held.cred SETFCAP) as
    (λ a. Q (by_rule (cond (not a) (Err Perm) (cond (not (is_attr attr)) (Err Invalid) (Ok (record old { attr = attr })))) >>= does)) [
      | true ↦ elim (is_attr attr) as (λ b. is_attr attr ≡ b → Q (by_rule (cond (not b) (Err Invalid) (Ok (record old { attr = attr }))) >>= does)) [
        | true ↦ λ one. one
        | false ↦ λ none. ap not none
      ] refl
      | false ↦ refl
    ]))

of_stat : (s : State) (hold place : ℕ) → Tells rows.stat_row s (by_stat s hold place)
of_stat s hold place =
    let Q = Tells rows.stat_row s in
    some_case Q (held_by s hold) _ _ refl (λ held is.
    some_case Q (slice_get s.inodes place) _ _ refl (λ file there. refl))

pub answers_are_of_their_rows : AnswersAreOfTheirRows
answers_are_of_their_rows script s line (event.Init task process user group ns) = of_init s task process user group ns (root_of script ns)
answers_are_of_their_rows script s line (event.Take label task side) = of_take s label task side
answers_are_of_their_rows script s line (event.TakeFile label fd) = of_take_file s label fd
answers_are_of_their_rows script s line (event.Release label) = of_release s label
answers_are_of_their_rows script s line (event.Ask label query) = of_ask s label query
answers_are_of_their_rows script s line (event.Signal from hold to target) = of_signal s from hold to target
answers_are_of_their_rows script s line (event.Prepare label task hold) = of_prepare s label task hold
answers_are_of_their_rows script s line (event.Alter label change) = of_alter script s label change
answers_are_of_their_rows script s line (event.Commit label) = of_commit s label
answers_are_of_their_rows script s line (event.Abort label) = of_abort s label
answers_are_of_their_rows script s line (event.Override task label) = of_override s task label
answers_are_of_their_rows script s line (event.Revert task) = of_revert s task
answers_are_of_their_rows script s line (event.Begin task call) = of_begin s line task call
answers_are_of_their_rows script s line (event.Act number) = of_act s number
answers_are_of_their_rows script s line (event.OpenFile hold place asked fd) = of_open s hold place asked fd
answers_are_of_their_rows script s line (event.CloseFile fd) = of_close s fd
answers_are_of_their_rows script s line (event.Spawn task child) = of_spawn s task child
answers_are_of_their_rows script s line (event.Fork task child process) = of_fork s task child process
answers_are_of_their_rows script s line (event.Exit task) = of_exit s task
answers_are_of_their_rows script s line (event.Dumpable task value) = of_dumpable s task value
answers_are_of_their_rows script s line (event.Dumped task) = of_dumped s task
answers_are_of_their_rows script s line (event.Ptrace from hold to target mode) = of_ptrace script s from hold to target mode
answers_are_of_their_rows script s line (event.Chown hold place owner group) = of_chown s hold place owner group
answers_are_of_their_rows script s line (event.Chmod hold place mode) = of_chmod s hold place mode
answers_are_of_their_rows script s line (event.SetAttr hold place attr) = of_set_attr s hold place attr
answers_are_of_their_rows script s line (event.Stat hold place) = of_stat s hold place
answers_are_of_their_rows script s line (event.Raw task call) = of_raw s task call
answers_are_of_their_rows script s line event.Sweep = refl
