-- Nothing leads out of a tight box.
use Rattle.std.proofs.Common.{◌≡◌, ◌==◌, ◌||◌, if◌then◌else◌, ◌⊎◌, inl, inr, ℕ, zero, suc, ◌+◌, ◌<◌, List, length, Option, Some, None, Result, Ok, Err, Bool, true, false, position, slice_get, is_some, take, refl}
use Rattle.std.proofs.Common.{sym, ap, ◌∙◌, subst, arith}
use Rattle.std.specs.List.{find}
use Rattle.std.specs.Option.{IfSome, option_and_then}
use Rattle.std.proofs.lemmas.Bool.{eqb-true}
use Rattle.std.proofs.lemmas.Bool.Decides.{nat_tests}
use Rattle.std.proofs.lemmas.List.Quantifiers.{position-Some}
use Rattle.cred_ids.specs.declared.id.Ids4.{Ids4}
use Rattle.cred_ids.specs.declared.id.Kind.{Kind}
use Rattle.cred_caps.specs.Caps.{has, union, meet, IsWithin}
use Rattle.cred_caps.specs.Numbers.{SETUID, SETPCAP}
use Rattle.cred_caps.proofs.SetLaws.{meet-left, within_itself, within-trans, within-union_left, within-union_right}
use Rattle.cred_record.specs.Credential.{Credential}
use Rattle.cred_record.specs.File.{File}
use Rattle.cred_record.specs.declared.refusal.Denial.{Denial}
use Rattle.cred_rules.specs.Access.{access_credential}
use Rattle.cred_rules.specs.Adjust.{adjust}
use Rattle.cred_rules.specs.Exec.{Executed, NoExec, exec}
use Rattle.cred_rules.specs.SetFs.{own_ids, set_fs, old_fs}
use Rattle.cred_rules.specs.SetId.{set_id, three}
use Rattle.cred_event.specs.Answers.{is_ok}
use Rattle.cred_event.specs.declared.answer.Answer.{Answer}
use Rattle.cred_event.specs.declared.answer.Answer.TheVariants as answer
use Rattle.cred_event.specs.declared.event.Change.{Change}
use Rattle.cred_event.specs.declared.event.Change.TheVariants as change
use Rattle.cred_event.specs.declared.entry.Entry.{Entry}
use Rattle.cred_event.specs.declared.event.Event.{Event}
use Rattle.cred_event.specs.declared.event.Event.TheVariants.{Commit, Spawn, Fork}
use Rattle.cred_model.specs.Change.{Made, made, made_by_exec, made_by_rule, by_change}
use Rattle.cred_model.specs.Journal.{IsAnswered}
use Rattle.cred_model.specs.LabelEvents.{committed_by}
use Rattle.cred_model.specs.Script.{Script, chain_of}
use Rattle.cred_model.specs.State.{State, Task, Prepared, Changed, Numbered, numbered, task_of, current_of, prepared_of}
use Rattle.cred_model.specs.Step.{step}
use Rattle.cred_model.proofs.Lists.{All-at, at_place}
use Rattle.cred_model.proofs.Numbers.{current_is, at_owner}
use Rattle.cred_sound.specs.Sound.{IsSound}
use Rattle.cred_sound.proofs.Events.{changes}
use Rattle.cred_sound.proofs.Parts.{Cause, ByBegin, ByAct, ByRaw, ByCommit}
use Rattle.cred_box.specs.Boxes.{Box, IsIn, IsTight, LeavesIn, is_in}
use Rattle.cred_box.proofs.Adjusts.{adjusts_leave_in}
use Rattle.cred_box.proofs.Execves.{execves_leave_in}
use Rattle.cred_box.proofs.IdCalls.{id_calls_leave_in, fs_calls_leave_in}
use Rattle.cred_laws.specs.Confined.{ExecutesWithin, EventsLeaveIn, Lives, Creates, Descends, Executes, IsNoMoreThan, Keeps, NeverGains, StaysInBoxes}
use Rattle.cred_laws.specs.Files.{IsFileOf}
use Rattle.cred_laws.specs.Made.{IsMadeFrom, AreMadeFrom}
use Rattle.cred_laws.specs.Permitted.{IsCreatedWith}
use Rattle.cred_laws.specs.States.{state_at}
use Rattle.cred_laws.specs.Valid.{IsValid, AreValid}
use Rattle.cred_laws.proofs.AlteredLaws.{made_from_files}
use Rattle.cred_laws.proofs.ExecveLaws.{found_first}
use Rattle.cred_laws.proofs.PermittedLaws.{Goes, IsRenewed, goes_by, new_tasks_are_created, owner_current, under_number}
use Rattle.cred_laws.proofs.States.{answered_at, past_end, step_at}
use Rattle.cred_laws.proofs.ValidLaws.{numbered_valid, valid_journal}
use Rattle.cred_sound.proofs.Sound.{sound_after}

-- ---- a change

exec_in : (box : Box) (c : Credential) (f : File) (chain : List ℕ) (m : Made) (r : Result Executed NoExec) → IsTight box → IsIn box c → IsValid c
    → LeavesIn box chain f → exec c f chain ≡ r → made_by_exec r ≡ Ok m → IsIn box m.cred
exec_in box c f chain m (Ok e) tight inside valid leaves is same =
    let one : record { answer = answer.Done; cred = e.cred; gains = e.gains } ≡ m = cc in
    subst (λ (m : Made). IsIn box m.cred) one (execves_leave_in box c f chain e tight inside valid leaves is)
exec_in box c f chain m (Err why) tight inside valid leaves is same = cc

rule_in : (box : Box) (m : Made) (r : Result Credential Denial) → ((d : Credential) → r ≡ Ok d → IsIn box d) → made_by_rule r ≡ Ok m → IsIn box m.cred
rule_in box m (Ok d) each same =
    let one : made answer.Done d ≡ m = cc in subst (λ (m : Made). IsIn box m.cred) one (each d refl)
rule_in box m (Err denial) each same = cc

-- access(2) asks by the real ids
access_in : (box : Box) (c : Credential) → IsTight box → IsIn box c → IsIn box (access_credential c)
unfolding access_credential
access_in box c tight inside = record {
  ns = inside.ns;
  root = inside.root;
  real = inside.real;
  effective = inside.effective;
  saved = inside.saved;
  fs = tight.fs_has c.uid.real inside.real;
  perm = inside.perm;
  inh = inside.inh;
  bound = inside.bound;
  nnp = inside.nnp;
  noroot = inside.noroot;
  locked = inside.locked;
}

pub change_in : (box : Box) (found : Option File) (chain : List ℕ) (c : Credential) (to : Change) (m : Made) → IsTight box → IsIn box c → IsValid c
    → IfSome found (ExecutesWithin box chain to) → by_change found chain c to ≡ Ok m → IsIn box m.cred
change_in box found chain c (change.SetFs kind a) m tight inside valid within is =
    let one : made (answer.Was (old_fs c kind)) (set_fs c kind a) ≡ m = cc in
    subst (λ (m : Made). IsIn box m.cred) one (fs_calls_leave_in box c kind a tight inside valid)
change_in box found chain c (change.Adjust call) m tight inside valid within is =
    rule_in box m (adjust c call) (λ d same. adjusts_leave_in box c d call tight inside valid same) is
change_in box (Some f) chain c (change.Exec place) m tight inside valid within is =
    exec_in box c f chain m (exec c f chain) tight inside valid (within place refl) refl is
change_in box None chain c (change.Exec place) m tight inside valid within is = cc
change_in box found chain c change.Access m tight inside valid within is =
    let one : made answer.Done (access_credential c) ≡ m = cc in subst (λ (m : Made). IsIn box m.cred) one (access_in box c tight inside)

-- ---- a new credential

-- what a commit asks of the file of its label's last change
abbrev CommitsWithin : Script → State → Box → Event → ℕ → Answer → Type 0
CommitsWithin script s box event task answered =
    (label place : ℕ) (p : Prepared) (last : Changed) → event ≡ Commit label → position (λ p. p.label == label) s.prepared ≡ Some place
    → slice_get s.prepared place ≡ Some p → p.task ≡ task → p.changed ≡ Some last → (number slot count : ℕ)
    → answered ≡ committed_by last.change last.gains number slot count
    → (base : Numbered) → numbered s.creds p.base ≡ Some base
    → (file : Option File) × (a : Answer) × (by_change file (chain_of script base.cred.ns) base.cred last.change
    ≡ Ok (record { answer = a; cred = last.cred; gains = last.gains }))
    × IfSome file (ExecutesWithin box (chain_of script box.ns) last.change)

cause_in : (script : Script) (s : State) (box : Box) (event : Event) (task : ℕ) (owner : Task) (ends : Task → Bool) (old : Numbered) (c : Credential)
    (made : Answer × State) → IsTight box → IsIn box old.cred → IsValid old.cred → current_of s task ≡ Some old → owner.current ≡ old.number
    → CommitsWithin script s box event task made.0
    → Cause s event task owner ends c made → IsIn box c
cause_in script s box event task owner ends old c made tight inside valid current number within
    (ByBegin call before line slot by is ruled unused idle none broadcasts answered flags) =
    let both : Some before ≡ Some old = sym is ∙ current in
    let same : before ≡ old = cc in
    id_calls_leave_in box old.cred c call tight inside valid (ap (λ (n : Numbered). set_id n.cred call) (sym same) ∙ ruled)
cause_in script s box event task owner ends old c made tight inside valid current number within
    (ByAct line slot broadcast before by opened first is ruled none broadcasts answered flags) =
    let both : Some before ≡ Some old = sym is ∙ current in
    let same : before ≡ old = cc in
    id_calls_leave_in box old.cred c broadcast.call tight inside valid (ap (λ (n : Numbered). set_id n.cred broadcast.call) (sym same) ∙ ruled)
cause_in script s box event task owner ends old c made tight inside valid current number within
    (ByRaw call before slot by is ruled idle none broadcasts answered flags) =
    let both : Some before ≡ Some old = sym is ∙ current in
    let same : before ≡ old = cc in
    id_calls_leave_in box old.cred c call tight inside valid (ap (λ (n : Numbered). set_id n.cred call) (sym same) ∙ ruled)
cause_in script s box event task owner ends old c made tight inside valid current number within
    (ByCommit label place slot count p last by first is own changed same cred ending broadcasts answered flags) =
    let base : numbered s.creds p.base ≡ Some old = ap (numbered s.creds) (sym same ∙ number) ∙ under_number s task old current in
    let how = within label place p last by first is own changed (length s.creds) slot count answered old base in
    let chain : chain_of script old.cred.ns ≡ chain_of script box.ns = ap (chain_of script) inside.ns in
    subst (IsIn box) (sym cred)
    (change_in box how.0 (chain_of script old.cred.ns) old.cred last.change (record { answer = how.1; cred = last.cred; gains = last.gains }) tight inside valid
    (subst (λ chain. IfSome how.0 (ExecutesWithin box chain last.change)) (sym chain) how.3) how.2)

-- a task that lives before and after an event
goes_in : (script : Script) (s : State) (line : ℕ) (event : Event) (task : ℕ) (before after : Numbered) (box : Box)
    → IsSound s → AreValid s → IsTight box → IsIn box before.cred → current_of s task ≡ Some before
    → current_of (step script s line event).1 task ≡ Some after
    → CommitsWithin script s box event task (step script s line event).0 → IsIn box after.cred
goes_in script s line event task before after box sound valid tight inside was now within =
    let c = changes script s line event in
    let made = step script s line event in
    elim (goes_by script s event c.left made task before after sound c.creds c.tasks was now) [
      | inl same ↦ subst (λ (n : Numbered). IsIn box n.cred) (sym same) inside
      | inr new ↦
          let at = current_is s task before was in
          cause_in script s box event task new.owner new.ends before after.cred made tight inside
          (numbered_valid s.creds at.owner.current before valid (at_owner s task before at was)) was
          (owner_current s task new.owner before new.found was) within new.cause
    ]

-- where all that is prepared is made so
made_within : (script : Script) (s : State) (box : Box) (event : Event) (task : ℕ) (answered : Answer) (From : ℕ → Change → Option File → Type 0)
    → AreMadeFrom From script s
    → ((label place : ℕ) (p : Prepared) (last : Changed) (file : Option File) → event ≡ Commit label → position (λ p. p.label == label) s.prepared ≡ Some place
    → slice_get s.prepared place ≡ Some p → p.task ≡ task → p.changed ≡ Some last → (number slot count : ℕ)
    → answered ≡ committed_by last.change last.gains number slot count → From p.label last.change file
    → IfSome file (ExecutesWithin box (chain_of script box.ns) last.change))
    → CommitsWithin script s box event task answered
made_within script s box event task answered From are each label place p last by first is own changed number slot count told base at =
    let Made_of : Prepared → Changed → Type 0 = λ p last. IsMadeFrom (From p.label last.change) script (numbered s.creds p.base) last in
    let made_of = subst (λ o. IfSome o (Made_of p)) changed (All-at (λ (p : Prepared). IfSome p.changed (Made_of p)) s.prepared place p is are) in
    let how = subst (λ found. IsMadeFrom (From p.label last.change) script found last) at made_of in
    (how.0, how.1, how.2, each label place p last how.0 by first is own changed number slot count told how.3)

pub events_leave_in : EventsLeaveIn
events_leave_in script s line event task before after box sound valid are tight inside was now =
    goes_in script s line event task before after box sound valid tight inside was now
    (made_within script s box event task (step script s line event).0 _ are
    (λ label place p last file by first is own changed number slot count told from. from))

-- ---- a journal

-- nobody has a credential whom nobody is
nobody_lives : (s : State) (task : ℕ) (c : Numbered) → task_of s task ≡ None → current_of s task ≡ Some c → ⊥
nobody_lives s task c none is =
    let empty : None ≡ Some c = sym (ap (option_and_then (λ (t : Task). numbered s.creds t.current)) none) ∙ is in cc

-- what lives is found
living : (o : Option Numbered) → is_some o ≡ true → (c : Numbered) × (o ≡ Some c)
living None lives = cc
living (Some c) lives = (c, refl)

kept_at : (box : Box) (o : Option Numbered) (c : Numbered) → o ≡ Some c → IfSome o (λ c. IsIn box c.cred) → IsIn box c.cred
kept_at box o c is keeps = subst (λ o. IfSome o (λ (c : Numbered). IsIn box c.cred)) is keeps

keeps_by : (box : Box) (o : Option Numbered) → ((c : Numbered) → o ≡ Some c → IsIn box c.cred) → IfSome o (λ c. IsIn box c.cred)
keeps_by box None each = tt
keeps_by box (Some c) each = each c refl

-- what is created has its parent's credential
parents_in : (script : Script) (box : Box) (s : State) (parent task : ℕ) (after : Numbered) (event : Event) → Creates event parent task → Keeps box s parent
    → IsCreatedWith script s event task after → IsIn box after.cred
parents_in script box s parent task after (Spawn acting child) creates keeps created =
    kept_at box (current_of s parent) after (ap (current_of s) (sym creates.0) ∙ created.1) keeps
parents_in script box s parent task after (Fork acting child process) creates keeps created =
    kept_at box (current_of s parent) after (ap (current_of s) (sym creates.0) ∙ created.1) keeps
parents_in script box s parent task after event creates keeps created = absurd creates

-- a commit that completes an execve isn't refused
executed_ok : (last : Changed) (place number slot count : ℕ) (answered : Answer) → last.change ≡ change.Exec place
    → answered ≡ committed_by last.change last.gains number slot count → is_ok answered ≡ true
executed_ok last place number slot count answered executes told =
    ap is_ok (told ∙ ap (λ change. committed_by change last.gains number slot count) executes)

module _ (script : Script) (journal : List Entry) (answered : IsAnswered script journal) (box : Box) (tight : IsTight box) where
  -- what each execve of the task by this entry is of
  abbrev ExecutesIn : ℕ → ℕ → Type 0
  ExecutesIn at task = (file : File) → Executes script journal at task file → LeavesIn box (chain_of script box.ns) file

  commits_in : (at task : ℕ) (entry : Entry) → slice_get journal at ≡ Some entry
      → entry.answer ≡ (step script (state_at script journal at) entry.line entry.event).0 → ExecutesIn at task
      → CommitsWithin script (state_at script journal at) box entry.event task (step script (state_at script journal at) entry.line entry.event).0
  commits_in at task entry is told within =
      let s = state_at script journal at in
      made_within script s box entry.event task (step script s entry.line entry.event).0 (IsFileOf script journal at) (made_from_files script journal at answered)
      (λ label place p last found by first here own changed number slot count came from.
      let labelled : (p.label == label) ≡ true
      = at_place (λ (p : Prepared). p.label == label) s.prepared place p here (position-Some (λ (p : Prepared). p.label == label) s.prepared place p first).1 in
      let same : p.label ≡ label = eqb-true p.label label labelled in
      files_in found last.change (λ file there executed_place executes. within file (record {
        prepared = p;
        last = last;
        place = executed_place;
        stood = ap (λ n. find (λ (p : Prepared). p.label == n) s.prepared) same ∙ found_first s.prepared label place p first here;
        own = own;
        changed = changed;
        executes = executes;
        commits = subst (λ (o : Option Entry). IfSome o (λ entry. (entry.event ≡ Commit p.label) × (is_ok entry.answer ≡ true))) (sym is)
            (by ∙ ap Commit (sym same), ap is_ok told ∙ executed_ok last executed_place number slot count (step script s entry.line entry.event).0 executes came);
        file_is = subst (λ c. IsFileOf script journal at p.label c (Some file)) executes (subst (IsFileOf script journal at p.label last.change) there from);
      })))
    where
      files_in : (found : Option File) (to : Change)
          → ((file : File) → found ≡ Some file → (place : ℕ) → to ≡ change.Exec place → LeavesIn box (chain_of script box.ns) file)
          → IfSome found (ExecutesWithin box (chain_of script box.ns) to)
      files_in None to each = tt
      files_in (Some file) to each = λ place executes. each file refl place executes

  -- a task that lives on over one entry
  lives_in : (at task : ℕ) (o : Option Entry) → slice_get journal at ≡ o
      → IfSome o (λ entry. entry.answer ≡ (step script (state_at script journal at) entry.line entry.event).0)
      → Lives (state_at script journal at) task → Keeps box (state_at script journal at) task → ExecutesIn at task
      → Keeps box (state_at script journal (at + 1)) task
  lives_in at task None is told lives keeps within = subst (λ s. Keeps box s task) (sym (past_end script journal at is)) keeps
  lives_in at task (Some entry) is told lives keeps within =
      let s = state_at script journal at in
      let was = living (current_of s task) lives in
      let sound : IsSound s = sound_after script (take at journal) in
      let valid : AreValid s = valid_journal script (take at journal) in
      subst (λ t. Keeps box t task) (sym (step_at script journal at entry is))
      (keeps_by box (current_of (step script s entry.line entry.event).1 task) (λ after now.
      goes_in script s entry.line entry.event task was.0 after box sound valid tight (kept_at box (current_of s task) was.0 was.1 keeps) was.1 now
      (commits_in at task entry is told within)))

  -- a task that an entry creates has its parent's credential
  created_in : (at parent task : ℕ) (o : Option Entry) → slice_get journal at ≡ o → task_of (state_at script journal at) task ≡ None
      → IfSome o (λ entry. Creates entry.event parent task) → Keeps box (state_at script journal at) parent
      → Keeps box (state_at script journal (at + 1)) task
  created_in at parent task None is none creates keeps =
      subst (λ s. Keeps box s task) (sym (past_end script journal at is))
      (keeps_by box (current_of (state_at script journal at) task) (λ c now. absurd (nobody_lives (state_at script journal at) task c none now)))
  created_in at parent task (Some entry) is none creates keeps =
      let s = state_at script journal at in
      subst (λ t. Keeps box t task) (sym (step_at script journal at entry is))
      (keeps_by box (current_of (step script s entry.line entry.event).1 task) (λ after now.
      parents_in script box s parent task after entry.event creates keeps
      (new_tasks_are_created script s entry.line entry.event task after none now)))

  -- and so on, entry by entry
  stays_in : (first from more : ℕ) → Keeps box (state_at script journal first) from
      → ((at other : ℕ) (file : File) → at < more → Descends script journal first from at other
      → Executes script journal (at + first) other file → LeavesIn box (chain_of script box.ns) file)
      → (task : ℕ) → Descends script journal first from more task → Keeps box (state_at script journal (more + first)) task
  stays_in first from zero keeps within task same =
      let here : first ≡ 0 + first = omega arith in
      subst (λ n. Keeps box (state_at script journal n) task) here (subst (Keeps box (state_at script journal first)) (sym same) keeps)
  stays_in first from (suc more) keeps within task descends =
      let before : (other : ℕ) → Descends script journal first from more other → Keeps box (state_at script journal (more + first)) other
      = stays_in first from more keeps (λ at other file lt. within at other file (omega (arith, lt))) in
      let next : (more + first) + 1 ≡ suc more + first = omega arith in
      subst (λ n. Keeps box (state_at script journal n) task) next
      (elim descends [
        | inl on ↦
            lives_in (more + first) task (slice_get journal (more + first)) refl (answered_at script journal answered (more + first)) on.1 (before task on.0)
            (λ file executes. within more task file (omega arith) on.0 executes)
        | inr born ↦
            created_in (more + first) born.0 task (slice_get journal (more + first)) refl born.2 born.3 (before born.0 born.1)
      ])

pub stays_in_boxes : (script : Script) (journal : List Entry) → IsAnswered script journal → StaysInBoxes script journal
stays_in_boxes script journal answered box first from more task tight keeps within descends =
    stays_in script journal answered box tight first from more keeps within task descends

-- ---- under no_new_privs

-- the box of what such a task has
abbrev own_box : Credential → Box
own_box c = record {
  ns = c.ns;
  root = c.root;
  users = three c.uid;
  fs = own_ids c.uid;
  perm = c.perm;
  inh = union c.inh c.bound;
  bound = c.bound;
  nnp = true;
  rooted = true;
}

unlike : true ≡ false → ⊥
unlike is = cc

same_id : (id : ℕ) → (id == id) ≡ true
same_id id = grind (arith, nat_tests)

or_true : (a : Bool) → (a || true) ≡ true
or_true true = refl
or_true false = refl

-- one of the three is one of the four
three_own : (ids : Ids4) (user : ℕ) → is_in (three ids) user ≡ true → is_in (own_ids ids) user ≡ true
three_own ids user is =
    elim (ids.real == user) as (λ r. (r || ((ids.effective == user) || ((ids.saved == user) || false))) ≡ true
    → (r || ((ids.effective == user) || ((ids.saved == user) || ((ids.fs == user) || false)))) ≡ true) [
      | true ↦ λ at. refl
      | false ↦ elim (ids.effective == user) as (λ e. (e || ((ids.saved == user) || false)) ≡ true
          → (e || ((ids.saved == user) || ((ids.fs == user) || false))) ≡ true) [
            | true ↦ λ at. refl
            | false ↦ elim (ids.saved == user) as (λ v. (v || false) ≡ true → (v || ((ids.fs == user) || false)) ≡ true) [
              | true ↦ λ at. refl
              | false ↦ λ at. cc
            ]
          ]
    ] is

own_tight : (c : Credential) → has c.perm SETUID ≡ false → IsTight (own_box c)
own_tight c unable = record {
  no_setuid = unable;
  fs_has = λ user is. three_own c.uid user is;
  capset_gives =
      elim (has c.perm SETPCAP) as (λ b. IsWithin (if b then c.bound else meet c.bound c.perm) (union c.inh c.bound)) [
        | true ↦ within-union_right c.inh c.bound
        | false ↦ within-trans (meet c.bound c.perm) c.bound (union c.inh c.bound) (meet-left c.bound c.perm) (within-union_right c.inh c.bound)
      ];
  root_gives = λ free rooted there. absurd (unlike free);
}

own_in : (c : Credential) → c.nnp ≡ true → IsIn (own_box c) c
own_in c nnp = record {
  ns = refl;
  root = refl;
  real = ap (λ b. b || ((c.uid.effective == c.uid.real) || ((c.uid.saved == c.uid.real) || false))) (same_id c.uid.real);
  effective = ap (λ b. (c.uid.real == c.uid.effective) || (b || ((c.uid.saved == c.uid.effective) || false))) (same_id c.uid.effective)
      ∙ or_true (c.uid.real == c.uid.effective);
  saved = ap (λ b. (c.uid.real == c.uid.saved) || ((c.uid.effective == c.uid.saved) || (b || false))) (same_id c.uid.saved)
      ∙ ap (λ b. (c.uid.real == c.uid.saved) || b) (or_true (c.uid.effective == c.uid.saved)) ∙ or_true (c.uid.real == c.uid.saved);
  fs = ap (λ b. (c.uid.real == c.uid.fs) || ((c.uid.effective == c.uid.fs) || ((c.uid.saved == c.uid.fs) || (b || false)))) (same_id c.uid.fs)
      ∙ ap (λ b. (c.uid.real == c.uid.fs) || ((c.uid.effective == c.uid.fs) || b)) (or_true (c.uid.saved == c.uid.fs))
      ∙ ap (λ b. (c.uid.real == c.uid.fs) || b) (or_true (c.uid.effective == c.uid.fs)) ∙ or_true (c.uid.real == c.uid.fs);
  perm = within_itself c.perm;
  inh = within-union_left c.inh c.bound;
  bound = within_itself c.bound;
  nnp = λ set. nnp;
  noroot = λ free. absurd (unlike free);
  locked = λ free may. absurd (unlike free);
}

own_leaves : (c : Credential) (chain : List ℕ) (file : File) → LeavesIn (own_box c) chain file
own_leaves c chain file = record {
  owner = λ free. absurd (unlike free);
  sets = λ free. absurd (unlike free);
}

pub never_gains : (script : Script) (journal : List Entry) → IsAnswered script journal → NeverGains script journal
never_gains script journal answered first from more task c was nnp unable descends =
    let box : Box = own_box c.cred in
    let inside : Keeps box (state_at script journal first) from
    = subst (λ o. IfSome o (λ (n : Numbered). IsIn box n.cred)) (sym was) (own_in c.cred nnp) in
    let keeps = stays_in_boxes script journal answered box first from more task (own_tight c.cred unable) inside
    (λ at other file lt came executes. own_leaves c.cred (chain_of script box.ns) file) descends in
    no_more (current_of (state_at script journal (more + first)) task) keeps
  where
    no_more : (o : Option Numbered) → IfSome o (λ d. IsIn (own_box c.cred) d.cred) → IfSome o (λ d. IsNoMoreThan c.cred d.cred)
    no_more None keeps = tt
    no_more (Some d) keeps = record {
      real = keeps.real;
      effective = keeps.effective;
      saved = keeps.saved;
      fs = keeps.fs;
      permitted = keeps.perm;
    }
