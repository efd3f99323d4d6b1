-- No event but a commit answers that an execve is completed.
use Rattle.std.proofs.Common.{◌≡◌, ◌==◌, ◌-◌, ℕ, List, [], ◌∷◌, length, nat_lt, position, slice_get, Option, Some, None, Result, Ok, Err, ok_or, Bool, true}
use Rattle.std.proofs.Common.{false, cond, refl}
use Rattle.std.specs.List.{find}
use Rattle.std.specs.Option.{option_map_or}
use Rattle.cred_ids.specs.Limits.{TASKS, OPEN_FILES, HOLDS, PREPARED, DEPTH}
use Rattle.cred_ids.specs.Tests.{◌>>=◌}
use Rattle.cred_record.specs.Credential.{Credential, first_credential}
use Rattle.cred_record.specs.File.{File}
use Rattle.cred_record.specs.declared.refusal.Denial.{Denial}
use Rattle.cred_record.specs.declared.refusal.Denial.TheVariants.{Perm, Invalid}
use Rattle.cred_record.specs.declared.want.Want.{Want}
use Rattle.cred_rules.specs.Adjust.{adjust}
use Rattle.cred_rules.specs.Files.{chown, chmod, set_attr}
use Rattle.cred_rules.specs.SetId.{set_id}
use Rattle.cred_rules.specs.Access.{may, may_signal}
use Rattle.cred_rules.specs.Exec.{Executed, NoExec, exec}
use Rattle.cred_rules.specs.Exec.NoExec.{MayNotExecute, SpellsNothing, GivesTooLittle}
use Rattle.cred_event.specs.declared.answer.Answer.{Answer}
use Rattle.cred_event.specs.declared.answer.Answer.TheVariants as answer
use Rattle.cred_event.specs.declared.answer.AbortCause.TheVariants as cause
use Rattle.cred_event.specs.declared.event.Change.{Change}
use Rattle.cred_event.specs.declared.event.Change.TheVariants.{SetFs, Adjust, Exec}
use Rattle.cred_event.specs.declared.event.Query.{Query}
use Rattle.cred_event.specs.declared.event.Query.TheVariants.{Ids, Caps, Groups, Bits, Capable, Bset, AmbIs, Check}
use Rattle.cred_event.specs.declared.event.Event.{Event}
use Rattle.cred_event.specs.declared.event.Event.TheVariants.{Init, Take, TakeFile, Release, Ask, Signal, Prepare, Alter, Commit, Abort, Override, Revert}
use Rattle.cred_event.specs.declared.event.Event.TheVariants.{Begin, Act, OpenFile, CloseFile, Spawn, Fork, Exit, Sweep, Dumpable, Dumped, Ptrace, Chown, Chmod}
use Rattle.cred_event.specs.declared.event.Event.TheVariants.{SetAttr, Stat, Raw}
use Rattle.cred_event.specs.Answers.{is_ok}
use Rattle.cred_model.specs.Script.{Script, chain_of, root_of, reaches}
use Rattle.cred_model.specs.Named.{change_files}
use Rattle.cred_model.specs.State.{State, Broadcast, Task, Numbered, numbered, task_of, broadcast_of, broadcast_in, begun_by, open_of, hold_of, prepared_of}
use Rattle.cred_model.specs.State.{credential_of, opener_of, held_by, info_of}
use Rattle.cred_model.specs.Broadcasts.{not_busy, others_of, with_broadcast, waits_no_more}
use Rattle.cred_model.specs.Ends.{is_thread_of}
use Rattle.cred_model.specs.Slots.{free, swept_if_full}
use Rattle.cred_rules.specs.Ptrace.{may_trace}
use Rattle.cred_model.specs.Dumpable.{is_dumpable, differs, renewed, flags_begun, flag_of_value}
use Rattle.cred_model.specs.Answers.{refusal, flag, checked, reply}
use Rattle.cred_model.specs.Change.{Made, made_by_rule, made_by_exec, by_rule, by_change}
use Rattle.cred_model.specs.Moves.{none_or, fewer_or, unless_refused, not_overridden, in_slot}
use Rattle.cred_model.specs.Moves.{table_full, first_task, created, preparing, replaced}
use Rattle.cred_model.specs.LabelEvents.{take_hold, for_access}
use Rattle.cred_model.specs.CallEvents.{aborted, follow}
use Rattle.cred_model.specs.FileEvents.{by_file}
use Rattle.cred_model.specs.Step.{done, outcome}

abbrev pub is_executed : Answer → Bool
is_executed (answer.Executed number slot ended gains) = true
is_executed other = false

-- what an event answers, refused or not
abbrev pub answer_of : Result (Answer × State) Answer → Answer
answer_of (Ok made) = made.0
answer_of (Err refused) = refused

pub record Plain (r : Result (Answer × State) Answer) : Type 0 where
  pub is : is_executed (answer_of r) ≡ false

pub answers_settled : (s : State) (r : Result (Answer × State) Answer) → (outcome s r).0 ≡ answer_of r
answers_settled s (Ok made) = refl
answers_settled s (Err refused) = refl

-- ---- tests

some_plain : {A : Type 0} (found : Option A) (refused : Answer) (f : A → Result (Answer × State) Answer)
    → is_executed refused ≡ false → ((x : A) → Plain (f x)) → Plain (ok_or found refused >>= f)
some_plain None refused f plain each = record { is = plain }
some_plain (Some x) refused f plain each = each x

none_plain : {A : Type 0} (found : Option A) (refused : Answer) (f : Unit {0} → Result (Answer × State) Answer)
    → is_executed refused ≡ false → Plain (f tt) → Plain (none_or found refused >>= f)
none_plain None refused f plain each = each
none_plain (Some x) refused f plain each = record { is = plain }

test_plain : (test : Bool) (refused : Answer) (f : Unit {0} → Result (Answer × State) Answer)
    → is_executed refused ≡ false → Plain (f tt) → Plain (cond test (Ok tt) (Err refused) >>= f)
test_plain true refused f plain each = each
test_plain false refused f plain each = record { is = plain }

fewer_plain : (count limit : ℕ) (refused : Answer) (f : Unit {0} → Result (Answer × State) Answer)
    → is_executed refused ≡ false → Plain (f tt) → Plain (fewer_or count limit refused >>= f)
fewer_plain count limit refused f plain each = test_plain (nat_lt count limit) refused f plain each

own_plain : (t : Task) (f : Unit {0} → Result (Answer × State) Answer) → Plain (f tt) → Plain (not_overridden t >>= f)
own_plain t f each = test_plain (length t.overrides == 0) _ f refl each

passed_plain : (answer : Answer) (f : Unit {0} → Result (Answer × State) Answer) → is_executed answer ≡ false → Plain (f tt)
    → Plain (unless_refused answer >>= f)
passed_plain answer f plain each = test_plain (is_ok answer) answer f plain each

-- what is done with what is found, or where nothing is
either_plain : {A : Type 0} (found : Option A) (f : A → Result (Answer × State) Answer) (none : Result (Answer × State) Answer)
    → ((x : A) → Plain (f x)) → Plain none → Plain (option_map_or f found none)
either_plain None f none each otherwise = otherwise
either_plain (Some x) f none each otherwise = each x

-- the last test
last_plain : (test : Bool) (answer refused : Answer) (t : State) → is_executed answer ≡ false → is_executed refused ≡ false
    → Plain (cond test (Ok (answer, t)) (Err refused))
last_plain true answer refused t done plain = record { is = done }
last_plain false answer refused t done plain = record { is = plain }

idle_plain : (found : Option Broadcast) (f : Unit {0} → Result (Answer × State) Answer) → Plain (f tt) → Plain (not_busy found >>= f)
idle_plain None f each = each
idle_plain (Some broadcast) f each = record { is = refl }

slot_plain : (s : State) (full : State → Answer × State) (does : State → ℕ → Answer × State)
    → ((t : State) → is_executed (full t).0 ≡ false) → ((t : State) (slot : ℕ) → is_executed (does t slot).0 ≡ false)
    → Plain (Ok (in_slot s full does))
slot_plain s full does none each =
    record {
      is = elim (free s) as (λ o. is_executed (option_map_or (does (swept_if_full s)) o (full (swept_if_full s))).0 ≡ false) [
        | None ↦ none (swept_if_full s)
        | Some slot ↦ each (swept_if_full s) slot
      ];
    }

-- ---- rules

refusal_plain : (denial : Denial) → is_executed (refusal denial) ≡ false
refusal_plain Perm = refl
refusal_plain Invalid = refl

rule_plain : (r : Result Credential Denial) (f : Credential → Result (Answer × State) Answer) → ((c : Credential) → Plain (f c))
    → Plain (by_rule r >>= f)
rule_plain (Ok c) f each = each c
rule_plain (Err denial) f each = record { is = refusal_plain denial }

-- what a change answers
abbrev change_answer : Result Made Answer → Answer
change_answer (Ok made) = made.answer
change_answer (Err refused) = refused

made_plain : (r : Result Credential Denial) → is_executed (change_answer (made_by_rule r)) ≡ false
made_plain (Ok c) = refl
made_plain (Err denial) = refusal_plain denial

exec_plain : (r : Result Executed NoExec) → is_executed (change_answer (made_by_exec r)) ≡ false
exec_plain (Ok e) = refl
exec_plain (Err MayNotExecute) = refl
exec_plain (Err SpellsNothing) = refl
exec_plain (Err GivesTooLittle) = refl

change_plain : (file : Option File) (chain : List ℕ) (c : Credential) (change : Change)
    → is_executed (change_answer (by_change file chain c change)) ≡ false
change_plain file chain c (SetFs kind id) = refl
change_plain file chain c (Adjust call) = made_plain (adjust c call)
change_plain None chain c (Exec place) = refl
change_plain (Some file) chain c (Exec place) = exec_plain (exec c file chain)
change_plain file chain c change = refl

alter_plain : (r : Result Made Answer) (f : Made → Result (Answer × State) Answer) → is_executed (change_answer r) ≡ false
    → ((made : Made) → answer_of (f made) ≡ made.answer) → Plain (r >>= f)
alter_plain (Ok made) f plain each = record { is = rw (each made) plain }
alter_plain (Err refused) f plain each = record { is = plain }

-- ---- questions

flag_plain : (o : Option Bool) → is_executed (flag o) ≡ false
flag_plain None = refl
flag_plain (Some b) = refl

checked_plain : (b : Bool) → is_executed (cond b answer.Done answer.Eacces) ≡ false
checked_plain true = refl
checked_plain false = refl

file_plain : (c : Credential) (file : Option File) (asked : Want) → is_executed (checked c file asked) ≡ false
file_plain c None asked = refl
file_plain c (Some file) asked = checked_plain (may c file asked)

reply_plain : (file : Option File) (c : Credential) (query : Query) → is_executed (reply file c query) ≡ false
reply_plain file c Ids = refl
reply_plain file c Caps = refl
reply_plain file c Groups = refl
reply_plain file c Bits = refl
reply_plain file c (Capable n) = flag_plain _
reply_plain file c (Bset n) = flag_plain _
reply_plain file c (AmbIs n) = flag_plain _
reply_plain file c (Check place asked) = file_plain c file asked

-- ---- events

abbrev pub commits : Event → Bool
commits (Commit label) = true
commits event = false

-- an answer that is given at once
at_once : (answer : Answer) (t : State) → is_executed answer ≡ false → Plain (Ok (answer, t))
at_once answer t plain = record { is = plain }

hold_plain : (s : State) (label : ℕ) (taken : Numbered) → Plain (take_hold s label taken)
hold_plain s label taken =
    none_plain (hold_of s label) _ _ refl
    (none_plain (prepared_of s label) _ _ refl (fewer_plain (length s.holds) HOLDS _ _ refl (at_once _ _ refl)))

follow_plain : (s : State) (broadcast : Broadcast) (task : ℕ) (owner : Task) (old : Numbered) (made : Result Credential Answer)
    → Plain (Ok (follow s broadcast task owner old made))
follow_plain s broadcast task owner old (Err refused) = at_once _ _ refl
follow_plain s broadcast task owner old (Ok new) =
    slot_plain s (λ t. (answer.Aborted task cause.Full, aborted broadcast t))
    (λ t slot. (
      answer.Acted task (length t.creds) slot (length broadcast.waiting - 1),
      record (replaced t task old.number new slot) {
        broadcasts = waits_no_more task t.broadcasts;
        dumpable = renewed t.dumpable owner.process (differs old.cred new);
      },
    ))
    (λ t. refl) (λ t slot. refl)

-- a file is changed, or the rule refuses
file_rule_plain : (r : Result File Denial) (f : File → Result (Answer × State) Answer) → ((file : File) → Plain (f file)) → Plain (by_rule r >>= f)
file_rule_plain (Ok file) f each = each file
file_rule_plain (Err denial) f each = record { is = refusal_plain denial }

file_plain_by : (s : State) (hold place : ℕ) (rule : Credential → File → Result File Denial) → Plain (by_file s hold place rule)
file_plain_by s hold place rule =
    some_plain (held_by s hold) _ _ refl
    (λ held. some_plain (slice_get s.inodes place) _ _ refl
    (λ old. file_rule_plain (rule held.cred old) _ (λ new. at_once _ _ refl)))

pub plain : (script : Script) (s : State) (line : ℕ) (event : Event) → commits event ≡ false → Plain (done script s line event)
plain script s line (Init task process user group ns) other =
    idle_plain (broadcast_in s process) _ (none_plain (task_of s task) _ _ refl (fewer_plain (length s.tasks) TASKS _ _ refl
    (slot_plain s table_full
    (λ t slot. (
      answer.Sealed (length t.creds) slot,
      record (created t (first_task task process (length t.creds)) (first_credential user group ns (root_of script ns)) slot) {
        dumpable = flags_begun t process;
      },
    ))
    (λ t. refl) (λ t slot. refl))))
plain script s line (Take label task side) other =
    some_plain (credential_of s task side) _ _ refl (λ taken. hold_plain s label taken)
plain script s line (TakeFile label fd) other = some_plain (opener_of s fd) _ _ refl (λ taken. hold_plain s label taken)
plain script s line (Release label) other =
    some_plain (position (λ h. h.label == label) s.holds) _ _ refl
    (λ place. some_plain (slice_get s.holds place) _ _ refl (λ hold. at_once _ _ refl))
plain script s line (Ask label query) other =
    some_plain (held_by s label) _ _ refl (λ held. at_once _ _ (reply_plain _ held.cred query))
plain script s line (Signal from hold to target) other =
    some_plain (task_of s from) _ _ refl
    (λ sender. some_plain (task_of s to) _ _ refl
    (λ receiver. some_plain (held_by s hold) _ _ refl
    (λ own. some_plain (held_by s target) _ _ refl
    (λ with. last_plain (may_signal own.cred with.cred (sender.process == receiver.process)) _ _ s refl refl))))
plain script s line (Prepare label task hold) other =
    some_plain (task_of s task) _ _ refl
    (λ owner. idle_plain (begun_by s task) _ (some_plain (hold_of s hold) _ _ refl
    (λ base. none_plain (hold_of s label) _ _ refl
    (none_plain (prepared_of s label) _ _ refl (fewer_plain (length s.prepared) PREPARED _ _ refl
    (slot_plain s table_full
    (λ t slot. (answer.Kept slot, preparing t (record { label = label; task = task; base = base.number; slot = slot; changed = None })))
    (λ t. refl) (λ t slot. refl)))))))
plain script s line (Alter label change) other =
    some_plain (prepared_of s label) _ _ refl
    (λ p. some_plain (numbered s.creds p.base) _ _ refl
    (λ base. alter_plain (by_change (info_of s.inodes (change_files change)) (chain_of script base.cred.ns) base.cred change) _
    (change_plain (info_of s.inodes (change_files change)) (chain_of script base.cred.ns) base.cred change) (λ made. refl)))
plain script s line (Commit label) other = cc
plain script s line (Abort label) other =
    some_plain (position (λ p. p.label == label) s.prepared) _ _ refl
    (λ place. some_plain (slice_get s.prepared place) _ _ refl (λ p. at_once _ _ refl))
plain script s line (Override task label) other =
    some_plain (task_of s task) _ _ refl
    (λ owner. either_plain (held_by s label) _ _
    (λ held. fewer_plain (length owner.overrides) DEPTH _ _ refl (at_once _ _ refl))
    (some_plain (position (λ p. p.label == label) s.prepared) _ _ refl
    (λ place. some_plain (slice_get s.prepared place) _ _ refl
    (λ p. some_plain (for_access owner.number p) _ _ refl
    (λ last. fewer_plain (length owner.overrides) DEPTH _ _ refl (at_once _ _ refl))))))
plain script s line (Revert task) other =
    some_plain (task_of s task) _ _ refl
    (λ owner. some_plain (slice_get owner.overrides 0) _ _ refl (λ newest. at_once _ _ refl))
plain script s line (Begin task call) other =
    some_plain (task_of s task) _ _ refl
    (λ owner. some_plain (numbered s.creds owner.current) _ _ refl
    (λ old. idle_plain (broadcast_in s owner.process) _ (none_plain (broadcast_of s line) _ _ refl
    (own_plain owner _
    (rule_plain (set_id old.cred call) _
    (λ new.
    let others = others_of owner s.tasks in
    let broadcast : Broadcast = record { number = line; process = owner.process; caller = task; call = call; waiting = others } in
    slot_plain s table_full
    (λ t slot. (
      answer.Began (length t.creds) slot (length others),
      record (replaced t task old.number new slot) {
        broadcasts = with_broadcast t.broadcasts broadcast;
        dumpable = renewed t.dumpable owner.process (differs old.cred new);
      },
    ))
    (λ t. refl) (λ t slot. refl)))))))
plain script s line (Act number) other =
    some_plain (broadcast_of s number) _ _ refl
    (λ broadcast. some_plain (slice_get broadcast.waiting 0) _ _ refl
    (λ task. some_plain (task_of s task) _ _ refl
    (λ owner. some_plain (numbered s.creds owner.current) _ _ refl
    (λ old. follow_plain s broadcast task owner old (by_rule (set_id old.cred broadcast.call))))))
plain script s line (OpenFile hold place asked fd) other =
    some_plain (held_by s hold) _ _ refl
    (λ held. none_plain (open_of s fd) _ _ refl
    (passed_plain (checked held.cred (info_of s.inodes (place ∷ [])) asked) _ (file_plain held.cred (info_of s.inodes (place ∷ [])) asked)
    (fewer_plain (length s.files) OPEN_FILES _ _ refl (at_once _ _ refl))))
plain script s line (CloseFile fd) other =
    some_plain (position (λ f. f.fd == fd) s.files) _ _ refl
    (λ place. some_plain (slice_get s.files place) _ _ refl (λ file. at_once _ _ refl))
plain script s line (Spawn task child) other =
    some_plain (task_of s task) _ _ refl
    (λ owner. some_plain (numbered s.creds owner.current) _ _ refl
    (λ parent. idle_plain (begun_by s task) _ (none_plain (task_of s child) _ _ refl
    (own_plain owner _ (fewer_plain (length s.tasks) TASKS _ _ refl (at_once _ _ refl))))))
plain script s line (Fork task child process) other =
    some_plain (task_of s task) _ _ refl
    (λ owner. some_plain (numbered s.creds owner.current) _ _ refl
    (λ parent. idle_plain (begun_by s task) _ (none_plain (task_of s child) _ _ refl
    (none_plain (find (is_thread_of process) s.tasks) _ _ refl
    (own_plain owner _ (fewer_plain (length s.tasks) TASKS _ _ refl (at_once _ _ refl)))))))
plain script s line (Exit task) other =
    some_plain (task_of s task) _ _ refl
    (λ owner. idle_plain (begun_by s task) _ (own_plain owner _ (at_once _ _ refl)))
plain script s line (Dumpable task value) other =
    some_plain (task_of s task) _ _ refl (λ owner. some_plain (flag_of_value value) _ _ refl (λ flag. at_once _ _ refl))
plain script s line (Dumped task) other = some_plain (task_of s task) _ _ refl (λ owner. at_once _ _ refl)
plain script s line (Ptrace from hold to target mode) other =
    some_plain (task_of s from) _ _ refl
    (λ sender. some_plain (task_of s to) _ _ refl
    (λ receiver. some_plain (held_by s hold) _ _ refl
    (λ own. some_plain (held_by s target) _ _ refl
    (λ with.
    last_plain
    (may_trace own.cred with.cred (sender.process == receiver.process) (reaches script.namespaces own.cred.ns with.cred.ns)
    (is_dumpable s.dumpable receiver.process) mode)
    _ _ s refl refl))))
plain script s line (Chown hold place owner group) other = file_plain_by s hold place (λ c file. chown c file owner group)
plain script s line (Chmod hold place mode) other = file_plain_by s hold place (λ c file. chmod c file mode)
plain script s line (SetAttr hold place attr) other = file_plain_by s hold place (λ c file. set_attr c file attr)
plain script s line (Stat hold place) other =
    some_plain (held_by s hold) _ _ refl (λ held. some_plain (slice_get s.inodes place) _ _ refl (λ file. at_once _ _ refl))
plain script s line (Raw task call) other =
    some_plain (task_of s task) _ _ refl
    (λ owner. some_plain (numbered s.creds owner.current) _ _ refl
    (λ old. idle_plain (broadcast_in s owner.process) _
    (own_plain owner _
    (rule_plain (set_id old.cred call) _
    (λ new.
    slot_plain s table_full
    (λ t slot. (
      answer.Sealed (length t.creds) slot,
      record (replaced t task old.number new slot) { dumpable = renewed t.dumpable owner.process (differs old.cred new) },
    ))
    (λ t. refl) (λ t slot. refl))))))
plain script s line Sweep other = at_once _ _ refl
