-- An event seals a credential just where its answer names the next number.
use Rattle.std.proofs.Common.{◌≡◌, ℕ, ◌+◌, ◌-◌, ◌==◌, nat_lt, Bool, true, false, cond, is_some, List, [], ◌∷◌, ◌++◌, length, slice_get, Option, Some, None}
use Rattle.std.proofs.Common.{Result, Ok, Err, refl, ap, arith}
use Rattle.std.specs.List.{find, position, count_by}
use Rattle.std.specs.Option.{option_map_or, option_and_then}
use Rattle.std.proofs.lemmas.Bool.Decides.{nat_tests}
use Rattle.std.proofs.lemmas.List.{length_push}
use Rattle.std.proofs.lemmas.Option.{slice_get_within}
use Rattle.cred_ids.specs.Limits.{TASKS, OPEN_FILES, HOLDS, PREPARED, DEPTH}
use Rattle.cred_ids.specs.Tests.{◌>>=◌}
use Rattle.cred_record.specs.Credential.{Credential, first_credential}
use Rattle.cred_record.specs.File.{File}
use Rattle.cred_record.specs.declared.gains.Gains.{Gains}
use Rattle.cred_record.specs.declared.id_call.IdCall.{IdCall}
use Rattle.cred_record.specs.declared.refusal.Denial.{Denial}
use Rattle.cred_record.specs.declared.refusal.Denial.TheVariants.{Perm, Invalid}
use Rattle.cred_record.specs.declared.want.Want.{Want}
use Rattle.cred_rules.specs.Access.{may}
use Rattle.cred_rules.specs.Adjust.{adjust, read_in, bset_read, amb_is_set}
use Rattle.cred_rules.specs.Exec.{Executed, NoExec, exec}
use Rattle.cred_rules.specs.Exec.NoExec.{MayNotExecute, SpellsNothing, GivesTooLittle}
use Rattle.cred_rules.specs.Files.{chown, chmod, set_attr}
use Rattle.cred_rules.specs.SetId.{set_id}
use Rattle.cred_event.specs.declared.answer.Answer.{Answer}
use Rattle.cred_event.specs.declared.answer.Answer.TheVariants as answer
use Rattle.cred_event.specs.declared.answer.AbortCause.TheVariants as cause
use Rattle.cred_event.specs.declared.event.Change.{Change}
use Rattle.cred_event.specs.declared.event.Change.TheVariants as change
use Rattle.cred_event.specs.declared.event.Event.{Event}
use Rattle.cred_event.specs.declared.event.Event.TheVariants as event
use Rattle.cred_record.specs.declared.mode.PtraceMode.{PtraceMode}
use Rattle.cred_event.specs.declared.event.Query.{Query}
use Rattle.cred_event.specs.declared.event.Query.TheVariants as query
use Rattle.cred_event.specs.declared.event.Side.{Side}
use Rattle.cred_event.specs.Answers.{is_ok}
use Rattle.cred_model.specs.Answers.{refusal, flag, checked, reply}
use Rattle.cred_model.specs.Broadcasts.{others_of, with_broadcast, waits_no_more}
use Rattle.cred_model.specs.Change.{Made, by_rule, made_by_rule, made_by_execve, made_by_exec, by_change}
use Rattle.cred_model.specs.Dumpable.{differs, renewed, flags_begun, flags_committed, flag_of_value}
use Rattle.cred_model.specs.Ends.{ended, is_thread_of}
use Rattle.cred_model.specs.Moves.{in_slot, table_full, first_task, created, replaced, preparing, altered, committed, given_up}
use Rattle.cred_model.specs.Named.{query_files, change_files}
use Rattle.cred_model.specs.Script.{Script, chain_of, root_of}
use Rattle.cred_model.specs.Slots.{swept_if_full, free, least_free, swept}
use Rattle.cred_model.specs.State.{State, SealedCred, Task, Numbered, Prepared, Changed, Broadcast, ProcessFlag, numbered, number_on, task_of, broadcast_of}
use Rattle.cred_model.specs.State.{broadcast_in}
use Rattle.cred_model.specs.State.{begun_by, open_of, hold_of, prepared_of, credential_of, opener_of, held_by, info_of}
use Rattle.cred_model.specs.TaskEvents.{by_init, by_signal, by_spawn, by_fork, by_exit, by_dumpable, by_dumped, by_ptrace}
use Rattle.cred_model.specs.LabelEvents.{take_hold, by_take, by_take_file, by_release, by_ask, by_prepare, by_alter, for_task, try_commit, ends_with}
use Rattle.cred_model.specs.LabelEvents.{broadcasts_after, committed_by, commit_answer, by_commit, by_abort, for_access, override_held, override_prepared}
use Rattle.cred_model.specs.LabelEvents.{by_override, by_revert}
use Rattle.cred_model.specs.CallEvents.{by_begin, aborted, follow, by_act, by_raw}
use Rattle.cred_model.specs.FileEvents.{by_open, by_close, by_file, by_stat}
use Rattle.cred_model.specs.Step.{done, outcome}
use Rattle.cred_model.proofs.Numbers.{numbered_is, sealed_cred_of}
use Rattle.cred_laws.proofs.Cases.{some_case, none_case, test_case, own_case, idle_case, rule_case}
use Rattle.cred_generate.specs.Sealed.{number_named, count_with}

-- what an event makes of the number of sealed credentials
abbrev Counts : State → Answer × State → Type 0
Counts s made = length made.1.creds ≡ count_with (length s.creds) made.0

-- so it is whether or not the event is refused
abbrev Tells : State → Result (Answer × State) Answer → Type 0
Tells s r = Counts s (outcome s r)

same : (n : ℕ) → (n == n) ≡ true
same n = grind (arith, nat_tests)

-- one more is sealed, with the next number
next_counts : (creds : List SealedCred) (new : SealedCred) → length (creds ++ new ∷ []) ≡ cond (length creds == length creds) (length creds + 1) (length creds)
next_counts creds new = rw (same (length creds)) (length_push creds new)

-- the number of a credential that is sealed is below theirs
below : (s : State) (number : ℕ) (c : Numbered) → numbered s.creds number ≡ Some c → (c.number == length s.creds) ≡ false
below s number c is =
    let at = numbered_is s.creds number c is in
    let lt = slice_get_within s.creds number (sealed_cred_of c) at.1 in
    let n = at.0 in
    grind (arith, nat_tests)

-- a credential that is found is one of those that are sealed
found_below : {A : Type 0} (s : State) (of : A → ℕ) (found : Option A) (c : Numbered)
    → option_and_then (λ a. numbered s.creds (of a)) found ≡ Some c → (c.number == length s.creds) ≡ false
found_below s of None c is = absurd (cc)
found_below s of (Some a) c is = below s (of a) c is

-- the credential that is sealed next, of a state that has as many
next_of : (s : State) (creds : List SealedCred) (new : SealedCred) → creds ≡ s.creds
    → length (creds ++ new ∷ []) ≡ cond (length creds == length s.creds) (length s.creds + 1) (length s.creds)
next_of s creds new is = rw (is, same (length s.creds)) (length_push s.creds new)

-- an answer that names none
silent : (count : ℕ) (a : Answer) → number_named a ≡ None → count ≡ count_with count a
silent count a none = rw none refl

silent_refusal : (s : State) (denial : Denial) → Tells s (Err (refusal denial))
silent_refusal s Perm = refl
silent_refusal s Invalid = refl

-- ---- a slot

room_creds : (s : State) → (swept_if_full s).creds ≡ s.creds
room_creds s =
    elim (is_some (least_free s)) as (λ b. (cond b s (swept s)).creds ≡ s.creds) [
      | true ↦ refl
      | false ↦ refl
    ]

found_slot : (s t : State) (full : State → Answer × State) (does : State → ℕ → Answer × State) (found : Option ℕ)
    → Counts s (full t) → ((slot : ℕ) → Counts s (does t slot)) → Counts s (option_map_or (does t) found (full t))
found_slot s t full does None none each = none
found_slot s t full does (Some slot) none each = each slot

slot_counts : (s : State) (full : State → Answer × State) (does : State → ℕ → Answer × State)
    → ((t : State) → t.creds ≡ s.creds → Counts s (full t)) → ((t : State) (slot : ℕ) → t.creds ≡ s.creds → Counts s (does t slot))
    → Counts s (in_slot s full does)
slot_counts s full does none each =
    found_slot s (swept_if_full s) full does (free s) (none (swept_if_full s) (room_creds s)) (λ slot. each (swept_if_full s) slot (room_creds s))

long : (s t : State) → t.creds ≡ s.creds → length t.creds ≡ length s.creds
long s t is = ap (λ (creds : List SealedCred). length creds) is

-- ---- the events

of_init : (s : State) (task process user group ns root : ℕ) → Tells s (by_init s task process user group ns root)
of_init s task process user group ns root =
    idle_case (Tells s) (broadcast_in s process) _ (λ number. refl) (λ idle.
    none_case (Tells s) (task_of s task) _ _ refl (λ new.
    test_case (Tells s) (nat_lt (length s.tasks) TASKS) _ _ refl
    (slot_counts s table_full
    (λ t slot. (
      answer.Sealed (length t.creds) slot,
      record (created t (first_task task process (length t.creds)) (first_credential user group ns root) slot) { dumpable = flags_begun t process },
    ))
    (λ t is. long s t is) (λ t slot is. next_of s t.creds (record { cred = first_credential user group ns root; slot = slot }) is))))

of_hold : (s : State) (label : ℕ) (taken : Numbered) → (taken.number == length s.creds) ≡ false → Tells s (take_hold s label taken)
of_hold s label taken old =
    none_case (Tells s) (hold_of s label) _ _ refl (λ new.
    none_case (Tells s) (prepared_of s label) _ _ refl (λ unprepared.
    test_case (Tells s) (nat_lt (length s.holds) HOLDS) _ _ refl (rw old refl)))

of_take : (s : State) (label task : ℕ) (side : Side) → Tells s (by_take s label task side)
of_take s label task side =
    some_case (Tells s) (credential_of s task side) _ _ refl (λ taken is.
    of_hold s label taken (found_below s (number_on side) (task_of s task) taken is))

of_take_file : (s : State) (label fd : ℕ) → Tells s (by_take_file s label fd)
of_take_file s label fd =
    some_case (Tells s) (opener_of s fd) _ _ refl (λ taken is.
    of_hold s label taken (found_below s (λ f. f.opener) (open_of s fd) taken is))

of_release : (s : State) (label : ℕ) → Tells s (by_release s label)
of_release s label =
    some_case (Tells s) (position (λ h. h.label == label) s.holds) _ _ refl (λ place at.
    some_case (Tells s) (slice_get s.holds place) _ _ refl (λ hold is. refl))

of_flag : (found : Option Bool) → number_named (flag found) ≡ None
of_flag None = refl
of_flag (Some is) = refl

of_check : (c : Credential) (file : Option File) (asked : Want) → number_named (checked c file asked) ≡ None
of_check c None asked = refl
of_check c (Some file) asked =
    elim (may c file asked) as (λ b. number_named (cond b answer.Done answer.Eacces) ≡ None) [
      | true ↦ refl
      | false ↦ refl
    ]

of_reply : (file : Option File) (c : Credential) (q : Query) → number_named (reply file c q) ≡ None
of_reply file c query.Ids = refl
of_reply file c query.Caps = refl
of_reply file c query.Groups = refl
of_reply file c query.Bits = refl
of_reply file c (query.Capable n) = of_flag (read_in c.eff n)
of_reply file c (query.Bset n) = of_flag (bset_read c n)
of_reply file c (query.AmbIs n) = of_flag (amb_is_set c n)
of_reply file c (query.Check place asked) = of_check c file asked

of_ask : (s : State) (label : ℕ) (q : Query) → Tells s (by_ask s label q)
of_ask s label q =
    some_case (Tells s) (held_by s label) _ _ refl (λ held is.
    silent (length s.creds) _ (of_reply (info_of s.inodes (query_files q)) held.cred q))

signalled : (s : State) (b : Bool) → Tells s (cond b (Ok (answer.Done, s)) (Err answer.Eperm))
signalled s true = refl
signalled s false = refl

of_signal : (s : State) (from hold to target : ℕ) → Tells s (by_signal s from hold to target)
of_signal s from hold to target =
    some_case (Tells s) (task_of s from) _ _ refl (λ sender is.
    some_case (Tells s) (task_of s to) _ _ refl (λ receiver is.
    some_case (Tells s) (held_by s hold) _ _ refl (λ own is.
    some_case (Tells s) (held_by s target) _ _ refl (λ other is. signalled s _))))

of_prepare : (s : State) (label task hold : ℕ) → Tells s (by_prepare s label task hold)
of_prepare s label task hold =
    some_case (Tells s) (task_of s task) _ _ refl (λ owner is.
    idle_case (Tells s) (begun_by s task) _ (λ number. refl) (λ idle.
    some_case (Tells s) (hold_of s hold) _ _ refl (λ base is.
    none_case (Tells s) (hold_of s label) _ _ refl (λ new.
    none_case (Tells s) (prepared_of s label) _ _ refl (λ unprepared.
    test_case (Tells s) (nat_lt (length s.prepared) PREPARED) _ _ refl
    (slot_counts s table_full
    (λ t slot. (answer.Kept slot, preparing t (record { label = label; task = task; base = base.number; slot = slot; changed = None })))
    (λ t is. long s t is) (λ t slot is. long s t is)))))))

-- a change is answered without a credential's number
abbrev IsSilent : Result Made Answer → Type 0
IsSilent (Ok made) = number_named made.answer ≡ None
IsSilent (Err refused) = number_named refused ≡ None

by_rule_silent : (r : Result Credential Denial) → IsSilent (made_by_rule r)
by_rule_silent (Ok c) = refl
by_rule_silent (Err Perm) = refl
by_rule_silent (Err Invalid) = refl

by_exec_silent : (r : Result Executed NoExec) → IsSilent (made_by_exec r)
by_exec_silent (Ok e) = refl
by_exec_silent (Err MayNotExecute) = refl
by_exec_silent (Err SpellsNothing) = refl
by_exec_silent (Err GivesTooLittle) = refl

executed_silent : (file : Option File) (chain : List ℕ) (c : Credential) → IsSilent (made_by_execve file chain c)
executed_silent None chain c = refl
executed_silent (Some file) chain c = by_exec_silent (exec c file chain)

change_silent : (file : Option File) (chain : List ℕ) (c : Credential) (to : Change) → IsSilent (by_change file chain c to)
change_silent file chain c (change.SetFs kind id) = refl
change_silent file chain c (change.Adjust call) = by_rule_silent (adjust c call)
change_silent file chain c (change.Exec place) = executed_silent file chain c
change_silent file chain c change.Access = refl

altered_counts : (s : State) (label : ℕ) (to : Change) (r : Result Made Answer) → IsSilent r
    → Tells s (r >>= λ made. Ok (made.answer, altered s label (record { change = to; cred = made.cred; gains = made.gains })))
altered_counts s label to (Ok made) none = silent (length s.creds) made.answer none
altered_counts s label to (Err refused) none = silent (length s.creds) refused none

of_alter : (script : Script) (s : State) (label : ℕ) (to : Change) → Tells s (by_alter script s label to)
of_alter script s label to =
    some_case (Tells s) (prepared_of s label) _ _ refl (λ p is.
    some_case (Tells s) (numbered s.creds p.base) _ _ refl (λ base is.
    altered_counts s label to _ (change_silent (info_of s.inodes (change_files to)) (chain_of script base.cred.ns) base.cred to)))

-- a commit's answer names the next number, whatever the change was
committed_counts : (to : Change) (gains : Gains) (s t : State) (slot count : ℕ) (owner : Task) (flags : List ProcessFlag) (new : SealedCred)
    → t.creds ≡ s.creds ++ new ∷ []
    → Counts s (committed_by to gains (length s.creds) slot count, record (broadcasts_after to owner t) { dumpable = flags })
committed_counts (change.Exec file) gains s t slot count owner flags new is = rw is (next_counts s.creds new)
committed_counts (change.SetFs kind id) gains s t slot count owner flags new is = rw is (next_counts s.creds new)
committed_counts (change.Adjust call) gains s t slot count owner flags new is = rw is (next_counts s.creds new)
committed_counts change.Access gains s t slot count owner flags new is = rw is (next_counts s.creds new)

tried : (s : State) (place : ℕ) (p : Prepared) (owner : Task) (last : Changed) → Counts s (try_commit s place p owner last)
tried s place p owner last =
    let ends = ends_with last.change owner in
    elim (owner.current == p.base) as (λ b. Counts s (cond b (
      commit_answer last (length s.creds) p.slot (count_by ends s.tasks),
      record (broadcasts_after last.change owner (committed (ended ends s) place p owner.current last.cred)) { dumpable = flags_committed s owner last },
    )
    (answer.Stale p.base owner.current, given_up s place p))) [
      | true ↦ committed_counts last.change last.gains s (committed (ended ends s) place p owner.current last.cred) p.slot (count_by ends s.tasks) owner
          (flags_committed s owner last) _ refl
      | false ↦ refl
    ]

of_commit : (s : State) (label : ℕ) → Tells s (by_commit s label)
of_commit s label =
    some_case (Tells s) (position (λ p. p.label == label) s.prepared) _ _ refl (λ place at.
    some_case (Tells s) (slice_get s.prepared place) _ _ refl (λ p is.
    some_case (Tells s) (option_and_then for_task p.changed) _ _ refl (λ last is.
    some_case (Tells s) (task_of s p.task) _ _ refl (λ owner is.
    idle_case (Tells s) (begun_by s p.task) _ (λ number. refl) (λ idle.
    own_case (Tells s) owner _ (λ depth. refl) (tried s place p owner last))))))

of_abort : (s : State) (label : ℕ) → Tells s (by_abort s label)
of_abort s label =
    some_case (Tells s) (position (λ p. p.label == label) s.prepared) _ _ refl (λ place at.
    some_case (Tells s) (slice_get s.prepared place) _ _ refl (λ p is. refl))

overridden_by : (s : State) (owner : Task) (label : ℕ) (found : Option Numbered)
    → ((c : Numbered) → found ≡ Some c → (c.number == length s.creds) ≡ false)
    → Tells s (option_map_or (override_held s owner) found (override_prepared s owner label))
overridden_by s owner label (Some held) old = test_case (Tells s) (nat_lt (length owner.overrides) DEPTH) _ _ refl (rw (old held refl) refl)
overridden_by s owner label None old =
    some_case (Tells s) (position (λ p. p.label == label) s.prepared) _ _ refl (λ place at.
    some_case (Tells s) (slice_get s.prepared place) _ _ refl (λ p is.
    some_case (Tells s) (for_access owner.number p) _ _ refl (λ last is.
    test_case (Tells s) (nat_lt (length owner.overrides) DEPTH) _ _ refl (next_counts s.creds _))))

of_override : (s : State) (task label : ℕ) → Tells s (by_override s task label)
of_override s task label =
    some_case (Tells s) (task_of s task) _ _ refl (λ owner is.
    overridden_by s owner label (held_by s label) (found_below s (λ h. h.number) (hold_of s label)))

of_revert : (s : State) (task : ℕ) → Tells s (by_revert s task)
of_revert s task =
    some_case (Tells s) (task_of s task) _ _ refl (λ owner is.
    some_case (Tells s) (slice_get owner.overrides 0) _ _ refl (λ newest is. refl))

of_begin : (s : State) (line task : ℕ) (call : IdCall) → Tells s (by_begin s line task call)
of_begin s line task call =
    some_case (Tells s) (task_of s task) _ _ refl (λ owner is.
    some_case (Tells s) (numbered s.creds owner.current) _ _ refl (λ old is.
    idle_case (Tells s) (broadcast_in s owner.process) _ (λ number. refl) (λ idle.
    none_case (Tells s) (broadcast_of s line) _ _ refl (λ new.
    own_case (Tells s) owner _ (λ depth. refl)
    (rule_case (Tells s) (set_id old.cred call) _ (silent_refusal s) (λ made is.
    let others = others_of owner s.tasks in
    let broadcast : Broadcast = record { number = line; process = owner.process; caller = task; call = call; waiting = others } in
    slot_counts s table_full
    (λ t slot. (
      answer.Began (length t.creds) slot (length others),
      record (replaced t task old.number made slot) {
        broadcasts = with_broadcast t.broadcasts broadcast;
        dumpable = renewed t.dumpable owner.process (differs old.cred made);
      },
    ))
    (λ t is. long s t is) (λ t slot is. next_of s t.creds (record { cred = made; slot = slot }) is)))))))

followed : (s : State) (broadcast : Broadcast) (task : ℕ) (owner : Task) (old : Numbered) (r : Result Credential Answer)
    → Counts s (follow s broadcast task owner old r)
followed s broadcast task owner old (Err refused) = refl
followed s broadcast task owner old (Ok made) =
    slot_counts s
    (λ t. (answer.Aborted task cause.Full, aborted broadcast t))
    (λ t slot. (
      answer.Acted task (length t.creds) slot (length broadcast.waiting - 1),
      record (replaced t task old.number made slot) {
        broadcasts = waits_no_more task t.broadcasts;
        dumpable = renewed t.dumpable owner.process (differs old.cred made);
      },
    ))
    (λ t is. long s t is) (λ t slot is. next_of s t.creds (record { cred = made; slot = slot }) is)

of_act : (s : State) (number : ℕ) → Tells s (by_act s number)
of_act s number =
    some_case (Tells s) (broadcast_of s number) _ _ refl (λ broadcast is.
    some_case (Tells s) (slice_get broadcast.waiting 0) _ _ refl (λ task is.
    some_case (Tells s) (task_of s task) _ _ refl (λ owner is.
    some_case (Tells s) (numbered s.creds owner.current) _ _ refl (λ old is.
    followed s broadcast task owner old (by_rule (set_id old.cred broadcast.call))))))

of_open : (s : State) (hold place : ℕ) (asked : Want) (fd : ℕ) → Tells s (by_open s hold place asked fd)
of_open s hold place asked fd =
    some_case (Tells s) (held_by s hold) _ _ refl (λ held is.
    none_case (Tells s) (open_of s fd) _ _ refl (λ new.
    let file = info_of s.inodes (place ∷ []) in
    test_case (Tells s) (is_ok (checked held.cred file asked)) _ _ (silent (length s.creds) _ (of_check held.cred file asked))
    (test_case (Tells s) (nat_lt (length s.files) OPEN_FILES) _ _ refl refl)))

of_close : (s : State) (fd : ℕ) → Tells s (by_close s fd)
of_close s fd =
    some_case (Tells s) (position (λ f. f.fd == fd) s.files) _ _ refl (λ place at.
    some_case (Tells s) (slice_get s.files place) _ _ refl (λ file is. refl))

of_spawn : (s : State) (task child : ℕ) → Tells s (by_spawn s task child)
of_spawn s task child =
    some_case (Tells s) (task_of s task) _ _ refl (λ owner is.
    some_case (Tells s) (numbered s.creds owner.current) _ _ refl (λ parent is.
    idle_case (Tells s) (begun_by s task) _ (λ number. refl) (λ idle.
    none_case (Tells s) (task_of s child) _ _ refl (λ new.
    own_case (Tells s) owner _ (λ depth. refl)
    (test_case (Tells s) (nat_lt (length s.tasks) TASKS) _ _ refl (rw (below s owner.current parent is) refl))))))

of_fork : (s : State) (task child process : ℕ) → Tells s (by_fork s task child process)
of_fork s task child process =
    some_case (Tells s) (task_of s task) _ _ refl (λ owner is.
    some_case (Tells s) (numbered s.creds owner.current) _ _ refl (λ parent is.
    idle_case (Tells s) (begun_by s task) _ (λ number. refl) (λ idle.
    none_case (Tells s) (task_of s child) _ _ refl (λ new.
    none_case (Tells s) (find (is_thread_of process) s.tasks) _ _ refl (λ unused.
    own_case (Tells s) owner _ (λ depth. refl)
    (test_case (Tells s) (nat_lt (length s.tasks) TASKS) _ _ refl (rw (below s owner.current parent is) refl)))))))

of_exit : (s : State) (task : ℕ) → Tells s (by_exit s task)
of_exit s task =
    some_case (Tells s) (task_of s task) _ _ refl (λ owner is.
    idle_case (Tells s) (begun_by s task) _ (λ number. refl) (λ idle.
    own_case (Tells s) owner _ (λ depth. refl) refl))

of_dumpable : (s : State) (task value : ℕ) → Tells s (by_dumpable s task value)
of_dumpable s task value =
    some_case (Tells s) (task_of s task) _ _ refl (λ owner is.
    some_case (Tells s) (flag_of_value value) _ _ refl (λ flag is. refl))

of_dumped : (s : State) (task : ℕ) → Tells s (by_dumped s task)
of_dumped s task = some_case (Tells s) (task_of s task) _ _ refl (λ owner is. refl)

of_ptrace : (script : Script) (s : State) (from hold to target : ℕ) (mode : PtraceMode) → Tells s (by_ptrace script s from hold to target mode)
of_ptrace script s from hold to target mode =
    some_case (Tells s) (task_of s from) _ _ refl (λ sender is.
    some_case (Tells s) (task_of s to) _ _ refl (λ receiver is.
    some_case (Tells s) (held_by s hold) _ _ refl (λ own is.
    some_case (Tells s) (held_by s target) _ _ refl (λ other is. signalled s _))))

-- a rule that changes a file, or its refusal
file_rule : (Q : Result (Answer × State) Answer → Type 0) (r : Result File Denial) (f : File → Result (Answer × State) Answer)
    → ((denial : Denial) → Q (Err (refusal denial))) → ((file : File) → Q (f file)) → Q (by_rule r >>= f)
file_rule Q (Ok file) f none each = each file
file_rule Q (Err denial) f none each = none denial

of_file : (s : State) (hold place : ℕ) (rule : Credential → File → Result File Denial) → Tells s (by_file s hold place rule)
of_file s hold place rule =
    some_case (Tells s) (held_by s hold) _ _ refl (λ held is.
    some_case (Tells s) (slice_get s.inodes place) _ _ refl (λ old there.
    file_rule (Tells s) (rule held.cred old) _ (silent_refusal s) (λ new. refl)))

of_stat : (s : State) (hold place : ℕ) → Tells s (by_stat s hold place)
of_stat s hold place =
    some_case (Tells s) (held_by s hold) _ _ refl (λ held is.
    some_case (Tells s) (slice_get s.inodes place) _ _ refl (λ file there. refl))

of_raw : (s : State) (task : ℕ) (call : IdCall) → Tells s (by_raw s task call)
of_raw s task call =
    some_case (Tells s) (task_of s task) _ _ refl (λ owner is.
    some_case (Tells s) (numbered s.creds owner.current) _ _ refl (λ old is.
    idle_case (Tells s) (broadcast_in s owner.process) _ (λ number. refl) (λ idle.
    own_case (Tells s) owner _ (λ depth. refl)
    (rule_case (Tells s) (set_id old.cred call) _ (silent_refusal s) (λ made ruled.
    slot_counts s table_full
    (λ t slot. (
      answer.Sealed (length t.creds) slot,
      record (replaced t task old.number made slot) { dumpable = renewed t.dumpable owner.process (differs old.cred made) },
    ))
    (λ t is. long s t is) (λ t slot is. next_of s t.creds (record { cred = made; slot = slot }) is))))))

pub tells : (script : Script) (s : State) (line : ℕ) (e : Event) → Tells s (done script s line e)
tells script s line (event.Init task process user group ns) = of_init s task process user group ns (root_of script ns)
tells script s line (event.Take label task side) = of_take s label task side
tells script s line (event.TakeFile label fd) = of_take_file s label fd
tells script s line (event.Release label) = of_release s label
tells script s line (event.Ask label query) = of_ask s label query
tells script s line (event.Signal from hold to target) = of_signal s from hold to target
tells script s line (event.Prepare label task hold) = of_prepare s label task hold
tells script s line (event.Alter label change) = of_alter script s label change
tells script s line (event.Commit label) = of_commit s label
tells script s line (event.Abort label) = of_abort s label
tells script s line (event.Override task label) = of_override s task label
tells script s line (event.Revert task) = of_revert s task
tells script s line (event.Begin task call) = of_begin s line task call
tells script s line (event.Act number) = of_act s number
tells script s line (event.OpenFile hold place asked fd) = of_open s hold place asked fd
tells script s line (event.CloseFile fd) = of_close s fd
tells script s line (event.Spawn task child) = of_spawn s task child
tells script s line (event.Fork task child process) = of_fork s task child process
tells script s line (event.Exit task) = of_exit s task
tells script s line (event.Dumpable task value) = of_dumpable s task value
tells script s line (event.Dumped task) = of_dumped s task
tells script s line (event.Ptrace from hold to target mode) = of_ptrace script s from hold to target mode
tells script s line (event.Chown hold place owner group) = of_file s hold place (λ c file. chown c file owner group)
tells script s line (event.Chmod hold place mode) = of_file s hold place (λ c file. chmod c file mode)
tells script s line (event.SetAttr hold place attr) = of_file s hold place (λ c file. set_attr c file attr)
tells script s line (event.Stat hold place) = of_stat s hold place
tells script s line (event.Raw task call) = of_raw s task call
tells script s line event.Sweep = refl
