-- Each event does the same in two states that are alike.
use Rattle.std.proofs.Common.{◌≡◌, ◌==◌, ◌-◌, ℕ, List, [], ◌∷◌, ◌++◌, length, drop, position, slice_get, slice_set, Option, None, Result, Ok, Err, ok_or, true}
use Rattle.std.proofs.Common.{false, cond, refl, sym, ap, ◌∙◌, subst}
use Rattle.std.specs.List.{All, count_by, find, remove}
use Rattle.std.specs.Option.{option_and_then, option_map_or}
use Rattle.std.proofs.lemmas.List.Elements.{All-append, All-cons, All-drop, All-push, All-nil}
use Rattle.cred_ids.specs.Limits.{TASKS, OPEN_FILES, HOLDS, PREPARED, DEPTH}
use Rattle.cred_ids.specs.declared.arg.Arg.{Arg}
use Rattle.cred_ids.specs.Tests.{◌>>=◌}
use Rattle.cred_record.specs.Credential.{Credential, first_credential}
use Rattle.cred_record.specs.File.{File}
use Rattle.cred_record.specs.declared.refusal.Denial.{Denial}
use Rattle.cred_record.specs.declared.id_call.IdCall.{IdCall}
use Rattle.cred_record.specs.declared.want.Want.{Want}
use Rattle.cred_rules.specs.Access.{may_signal}
use Rattle.cred_rules.specs.Files.{chown, chmod, set_attr}
use Rattle.cred_rules.specs.SetId.{set_id}
use Rattle.cred_event.specs.declared.answer.Answer.{Answer}
use Rattle.cred_event.specs.declared.answer.Answer.TheVariants.{Done, Sealed, Kept, Began, Acted, Told, Ebadf, Eperm, Einval, NoTask, NoHold, NoPrepared}
use Rattle.cred_event.specs.declared.answer.Answer.TheVariants.{NoBroadcast, NotOverridden, Stale, Aborted}
use Rattle.cred_event.specs.declared.answer.Told.TheVariants as told
use Rattle.cred_event.specs.declared.answer.AbortCause.{AbortCause}
use Rattle.cred_event.specs.declared.answer.AbortCause.TheVariants as cause
use Rattle.cred_event.specs.declared.event.Change.{Change}
use Rattle.cred_event.specs.declared.event.Change.TheVariants.{Exec}
use Rattle.cred_event.specs.declared.event.Event.{Event}
use Rattle.cred_record.specs.declared.mode.PtraceMode.{PtraceMode}
use Rattle.cred_event.specs.declared.event.Side.{Side}
use Rattle.cred_event.specs.declared.event.Query.{Query}
use Rattle.cred_event.specs.declared.event.Event.TheVariants.{Init, Take, TakeFile, Release, Ask, Signal, Prepare, Alter, Commit, Abort, Override, Revert}
use Rattle.cred_event.specs.declared.event.Event.TheVariants.{Begin, Act, OpenFile, CloseFile, Spawn, Fork, Exit, Sweep, Dumpable, Dumped, Ptrace, Chown, Chmod}
use Rattle.cred_event.specs.declared.event.Event.TheVariants.{SetAttr, Stat, Raw}
use Rattle.cred_model.specs.Script.{Script, chain_of, root_of, reaches}
use Rattle.cred_model.specs.Named.{change_files}
use Rattle.cred_model.specs.State.{State, SealedCred, Task, Broadcast, OpenFile as Open, Hold, Prepared, Changed, ProcessFlag, Numbered, numbered, task_of}
use Rattle.cred_model.specs.State.{broadcast_of, broadcast_in, begun_by, open_of, hold_of, prepared_of, held_by, info_of}
use Rattle.cred_model.specs.Slots.{swept}
use Rattle.cred_rules.specs.Ptrace.{may_trace}
use Rattle.cred_model.specs.Dumpable.{is_dumpable, with_process_flag, set_flag, without_flag, differs, renewed, flags_by, flags_committed, flags_begun}
use Rattle.cred_model.specs.Dumpable.{flags_left, flag_of_value}
use Rattle.cred_model.specs.Answers.{checked}
use Rattle.cred_model.specs.Change.{by_change, by_rule}
use Rattle.cred_model.specs.Ends.{is_task, is_thread_of, ended}
use Rattle.cred_model.specs.Broadcasts.{not_busy, others_of, with_broadcast, waits_no_more, joined, dropped}
use Rattle.cred_model.specs.Moves.{none_or, fewer_or, unless_refused, not_overridden, table_full}
use Rattle.cred_model.specs.Moves.{first_task, with_overrides, holding, with_override, with_current, given_up, committed, altered, preparing, created, replaced}
use Rattle.cred_model.specs.LabelEvents.{try_commit, ends_with, broadcasts_after, commit_answer, take_hold, for_task, for_access, override_held}
use Rattle.cred_model.specs.LabelEvents.{override_prepared}
use Rattle.cred_model.specs.CallEvents.{aborted, follow}
use Rattle.cred_model.specs.FileEvents.{by_file}
use Rattle.cred_model.specs.Step.{done}
use Rattle.cred_model.specs.Like.{IsLike, AreAlike}
use Rattle.cred_model.proofs.Lists.{All-remove, find_each, get_each}
use Rattle.cred_model.proofs.Referred.{EachRef, each_updated, each_overriding, each_changed, each_tasks, each_broadcasts, each_flags, each_inodes, each_files}
use Rattle.cred_model.proofs.Referred.{each_holds, each_prepared, each_deferred, each_ended}
use Rattle.cred_model.proofs.LikeReads.{with, Same, slots_of, each_same, same_numbered, same_credential, same_opener, same_held, numbered_by, credential_by}
use Rattle.cred_model.proofs.LikeReads.{opener_by, held_by_each}
use Rattle.cred_model.proofs.LikeTests.{BothAre, tested, read, found, either, like_with, like_broadcasts, like_flags, like_sealed, same_next, gave, full_like}
use Rattle.cred_model.proofs.LikeTests.{in_slots}

-- ---- the events

module _ (script : Script) (s : State) (cs : List SealedCred) (line : ℕ) (like : IsLike s (with s cs)) where
  -- both have the same at this number
  abbrev Here : ℕ → Type 0
  Here = Same s.creds cs

  abbrev OfHold : Hold → Type 0
  OfHold h = Here h.number

  abbrev OfBase : Prepared → Type 0
  OfBase p = Here p.base

  abbrev OfFile : Open → Type 0
  OfFile f = Here f.opener

  abbrev OfTask : Task → Type 0
  OfTask t = Here t.current

  abbrev OfOverrides : Task → Type 0
  OfOverrides t = All Here t.overrides

  abbrev OfCred : Numbered → Type 0
  OfCred c = Here c.number

  -- the event does the same to both
  abbrev pub DoneAlike : Event → Type 0
  DoneAlike event = BothAre (done script s line event) (done script (with s cs) line event)

  refs : EachRef Here s
  refs = each_same s cs like

  next : Here (length s.creds)
  next = same_next s.creds cs like.slots

  -- an event that seals nothing
  leaves : (answer : Answer) (t : State) → t.creds ≡ s.creds → EachRef Here t → AreAlike (answer, t) (answer, with t cs)
  leaves answer t same each = record {
    answers = refl;
    states = like_with t cs (ap slots_of same ∙ like.slots) (subst (λ bs. EachRef (Same bs cs) t) (sym same) each);
  }

  pub init_like : (task process user group ns : ℕ) → DoneAlike (Init task process user group ns)
  init_like task process user group ns =
      let new = first_task task process in
      let cred = first_credential user group ns (root_of script ns) in
      tested (not_busy (broadcast_in s process)) _ _
      (λ idle. tested (none_or (task_of s task) _) _ _
      (λ free. tested (fewer_or (length s.tasks) TASKS _) _ _
      (λ few. in_slots s cs table_full
      (λ now slot. (Sealed (length now.creds) slot, record (created now (new (length now.creds)) cred slot) { dumpable = flags_begun now process })) like
      (full_like s cs like.slots)
      (λ gone each slot. like_sealed (λ n. Sealed n slot) (λ n. record (gave s gone) { tasks = s.tasks ++ new n ∷ []; dumpable = flags_begun s process })
      s.creds cs (record { cred = cred; slot = slot }) like.slots
      (each_flags
      (each_tasks each _ (All-push (λ (t : Task). Here t.current) s.tasks _ each.currents next)
      (All-push OfOverrides s.tasks _ each.overrides (All-nil Here))) _)))))

  take_hold_like : (label : ℕ) (taken : Numbered) → Here taken.number → BothAre (take_hold s label taken) (take_hold (with s cs) label taken)
  take_hold_like label taken here =
      tested (none_or (hold_of s label) _) _ _
      (λ new. tested (none_or (prepared_of s label) _) _ _
      (λ unprepared. tested (fewer_or (length s.holds) HOLDS _) _ _
      (λ few. leaves _ (holding s label taken.number) refl
      (each_holds refs _ (All-push OfHold s.holds _ refs.holds here)))))

  pub take_like : (label task : ℕ) (side : Side) → DoneAlike (Take label task side)
  take_like label task side =
      found OfCred _ _ (NoTask task) _ _ (same_credential s cs task side like) (credential_by s Here task side refs)
      (take_hold_like label)

  pub take_file_like : (label fd : ℕ) → DoneAlike (TakeFile label fd)
  take_file_like label fd =
      found OfCred _ _ Ebadf _ _ (same_opener s cs fd like) (opener_by s Here fd refs) (take_hold_like label)

  pub release_like : (label : ℕ) → DoneAlike (Release label)
  release_like label =
      tested (ok_or (position (λ h. h.label == label) s.holds) (NoHold label)) _ _
      (λ place. found OfHold _ _ (NoHold label) _ _ refl (get_each _ s.holds place refs.holds)
      (λ hold here.
      leaves _ (record s { holds = remove s.holds place; deferred = s.deferred ++ hold.number ∷ [] }) refl
      (each_deferred (each_holds refs _ (All-remove OfHold s.holds place refs.holds)) _
      (All-push Here s.deferred hold.number refs.deferred here))))

  pub ask_like : (label : ℕ) (query : Query) → DoneAlike (Ask label query)
  ask_like label query =
      read _ _ (NoHold label) _ _ (same_held s cs label like) (λ held. record { answers = refl; states = like })

  pub signal_like : (from hold to target : ℕ) → DoneAlike (Signal from hold to target)
  signal_like from hold to target =
      tested (ok_or (task_of s from) _) _ _
      (λ sender. tested (ok_or (task_of s to) _) _ _
      (λ receiver. read _ _ (NoHold hold) _ _ (same_held s cs hold like)
      (λ own. read _ _ (NoHold target) _ _ (same_held s cs target like)
      (λ other.
      elim (may_signal own.cred other.cred (sender.process == receiver.process)) as
      (λ b. BothAre (cond b (Ok (Done, s)) (Err Eperm)) (cond b (Ok (Done, with s cs)) (Err Eperm))) [
        | true ↦ record { answers = refl; states = like }
        | false ↦ refl
      ]))))

  pub prepare_like : (label task hold : ℕ) → DoneAlike (Prepare label task hold)
  prepare_like label task hold =
      tested (ok_or (task_of s task) _) _ _
      (λ owner. tested (not_busy (begun_by s task)) _ _
      (λ idle. found OfHold _ _ (NoHold hold) _ _ refl (find_each OfHold (λ h. h.label == hold) s.holds refs.holds)
      (λ base here. tested (none_or (hold_of s label) _) _ _
      (λ new. tested (none_or (prepared_of s label) _) _ _
      (λ unprepared. tested (fewer_or (length s.prepared) PREPARED _) _ _
      (λ few.
      let kept : ℕ → Prepared = λ slot. record { label = label; task = task; base = base.number; slot = slot; changed = None } in
      in_slots s cs table_full (λ now slot. (Kept slot, preparing now (kept slot))) like (full_like s cs like.slots)
      (λ gone each slot. leaves (Kept slot) (preparing (gave s gone) (kept slot)) refl
      (each_prepared each _ (All-push OfBase s.prepared _ each.bases here)))))))))

  pub alter_like : (label : ℕ) (change : Change) → DoneAlike (Alter label change)
  alter_like label change =
      found OfBase _ _ (NoPrepared label) _ _ refl (find_each OfBase (λ p. p.label == label) s.prepared refs.bases)
      (λ p here. read _ _ (NoPrepared label) _ _ (same_numbered s.creds cs p.base here)
      (λ base. tested (by_change (info_of s.inodes (change_files change)) (chain_of script base.cred.ns) base.cred change) _ _
      (λ made.
      let to : Changed = record { change = change; cred = made.cred; gains = made.gains } in
      leaves made.answer (altered s label to) refl
      (each_changed refs label to))))

  -- a prepared label is given up
  ended_like : (answer : Answer) (place : ℕ) (p : Prepared) → Here p.base
      → AreAlike (answer, given_up s place p) (answer, given_up (with s cs) place p)
  ended_like answer place p here =
      leaves answer (given_up s place p) refl
      (each_deferred (each_prepared refs _ (All-remove OfBase s.prepared place refs.bases)) _
      (All-push Here s.deferred p.base refs.deferred here))

  committed_like : (place : ℕ) (p : Prepared) (owner : Task) (last : Changed) → Here p.base → Here owner.current
      → let ends = ends_with last.change owner in
      let count = count_by ends s.tasks in
      AreAlike (commit_answer last (length s.creds) p.slot count, committed (ended ends s) place p owner.current last.cred)
      (commit_answer last (length cs) p.slot count, committed (ended ends (with s cs)) place p owner.current last.cred)
  committed_like place p owner last here now =
      let ends = ends_with last.change owner in
      let on = ended ends s in
      let each = each_ended refs ends in
      like_sealed (λ n. commit_answer last n p.slot (count_by ends s.tasks))
      (λ n. record on { tasks = with_current on.tasks p.task n; prepared = remove s.prepared place; deferred = on.deferred ++ owner.current ∷ p.base ∷ [] })
      s.creds cs (record { cred = last.cred; slot = p.slot }) like.slots
      (each_deferred
      (each_prepared (each_updated each p.task (length s.creds) next) _ (All-remove OfBase s.prepared place refs.bases)) _
      (All-append Here on.deferred _ each.deferred (All-cons Here owner.current (p.base ∷ []) now (All-cons Here p.base [] here (All-nil Here)))))

  -- an execve drops the broadcast of the process
  broadcasts_like : (change : Change) (owner : Task) (a b : Answer × State) → AreAlike a b
      → AreAlike (a.0, broadcasts_after change owner a.1) (b.0, broadcasts_after change owner b.1)
  broadcasts_like (Exec file) owner a b alike =
      record { answers = alike.answers; states = like_broadcasts (dropped owner.process) alike.states }
  broadcasts_like change owner a b alike = alike

  -- what an execve, or a change of ids, makes of the flag
  flags_like : (a b : Answer × State) (flags others : List ProcessFlag) → flags ≡ others → AreAlike a b
      → AreAlike (a.0, record a.1 { dumpable = flags }) (b.0, record b.1 { dumpable = others })
  flags_like a b flags others same alike =
      subst (λ others. AreAlike (a.0, record a.1 { dumpable = flags }) (b.0, record b.1 { dumpable = others })) same
      (record { answers = alike.answers; states = like_flags flags alike.states })

  same_flags : (owner : Task) (last : Changed) → Here owner.current → flags_committed s owner last ≡ flags_committed (with s cs) owner last
  same_flags owner last now =
      ap (λ (o : Option Numbered). flags_by last.change last.gains s.dumpable owner.process (option_map_or (λ old. differs old.cred last.cred) o false))
      (same_numbered s.creds cs owner.current now)

  try_commit_like : (place : ℕ) (p : Prepared) (owner : Task) (last : Changed) → Here p.base → Here owner.current
      → AreAlike (try_commit s place p owner last) (try_commit (with s cs) place p owner last)
  try_commit_like place p owner last here now =
      let ends = ends_with last.change owner in
      let count = count_by ends s.tasks in
      let stale = Stale p.base owner.current in
      let after : State → State → State = λ now before. record (broadcasts_after last.change owner now) { dumpable = flags_committed before owner last } in
      elim (owner.current == p.base) as
      (λ b. AreAlike
      (cond b (commit_answer last (length s.creds) p.slot count, after (committed (ended ends s) place p owner.current last.cred) s)
      (stale, given_up s place p))
      (cond b (commit_answer last (length cs) p.slot count, after (committed (ended ends (with s cs)) place p owner.current last.cred) (with s cs))
      (stale, given_up (with s cs) place p))) [
        | true ↦ flags_like _ _ _ _ (same_flags owner last now) (broadcasts_like last.change owner _ _ (committed_like place p owner last here now))
        | false ↦ ended_like stale place p here
      ]

  pub commit_like : (label : ℕ) → DoneAlike (Commit label)
  commit_like label =
      tested (ok_or (position (λ p. p.label == label) s.prepared) (NoPrepared label)) _ _
      (λ place. found OfBase _ _ (NoPrepared label) _ _ refl (get_each _ s.prepared place refs.bases)
      (λ p here. tested (ok_or (option_and_then for_task p.changed) (NoPrepared label)) _ _
      (λ last. found OfTask _ _ (NoTask p.task) _ _ refl (find_each OfTask (λ t. t.number == p.task) s.tasks refs.currents)
      (λ owner now. tested (not_busy (begun_by s p.task)) _ _
      (λ idle. tested (not_overridden owner) _ _
      (λ own. try_commit_like place p owner last here now))))))

  pub abort_like : (label : ℕ) → DoneAlike (Abort label)
  abort_like label =
      tested (ok_or (position (λ p. p.label == label) s.prepared) (NoPrepared label)) _ _
      (λ place. found OfBase _ _ (NoPrepared label) _ _ refl (get_each _ s.prepared place refs.bases)
      (λ p here. ended_like Done place p here))

  -- ---- overrides

  override_held_like : (owner : Task) → All Here owner.overrides → (held : Numbered) → Here held.number
      → BothAre (override_held s owner held) (override_held (with s cs) owner held)
  override_held_like owner old held here =
      tested (fewer_or (length owner.overrides) DEPTH _) _ _
      (λ few. leaves _ (with_override s owner held.number) refl
      (each_overriding refs owner.number _ (All-cons Here held.number owner.overrides here old)))

  override_prepared_like : (owner : Task) → All Here owner.overrides → (label : ℕ)
      → BothAre (override_prepared s owner label) (override_prepared (with s cs) owner label)
  override_prepared_like owner old label =
      tested (ok_or (position (λ p. p.label == label) s.prepared) (NoHold label)) _ _
      (λ place. found OfBase _ _ (NoHold label) _ _ refl (get_each _ s.prepared place refs.bases)
      (λ p here. tested (ok_or (for_access owner.number p) (NoHold label)) _ _
      (λ last. tested (fewer_or (length owner.overrides) DEPTH _) _ _
      (λ few. like_sealed (λ n. Sealed n p.slot)
      (λ n. record (with_override s owner n) { prepared = remove s.prepared place; deferred = s.deferred ++ p.base ∷ [] })
      s.creds cs (record { cred = last.cred; slot = p.slot }) like.slots
      (each_deferred
      (each_prepared (each_overriding refs owner.number _ (All-cons Here (length s.creds) owner.overrides next old)) _
      (All-remove OfBase s.prepared place refs.bases)) _
      (All-push Here s.deferred p.base refs.deferred here))))))

  pub override_like : (task label : ℕ) → DoneAlike (Override task label)
  override_like task label =
      found OfOverrides _ _ (NoTask task) _ _ refl (find_each OfOverrides (λ t. t.number == task) s.tasks refs.overrides)
      (λ owner old. either OfCred (held_by s label) _ _ _ _ _ (same_held s cs label like) (held_by_each s Here label refs)
      (override_held_like owner old) (override_prepared_like owner old label))

  pub revert_like : (task : ℕ) → DoneAlike (Revert task)
  revert_like task =
      found OfOverrides _ _ (NoTask task) _ _ refl (find_each OfOverrides (λ t. t.number == task) s.tasks refs.overrides)
      (λ owner old. found Here _ _ NotOverridden _ _ refl (get_each Here owner.overrides 0 old)
      (λ newest here. leaves Done
      (record s { tasks = with_overrides s.tasks task (drop 1 owner.overrides); deferred = s.deferred ++ newest ∷ [] }) refl
      (each_deferred (each_overriding refs task _ (All-drop Here 1 owner.overrides old)) _
      (All-push Here s.deferred newest refs.deferred here))))

  -- ---- open files

  pub open_like : (hold place : ℕ) (asked : Want) (fd : ℕ) → DoneAlike (OpenFile hold place asked fd)
  open_like hold place asked fd =
      found OfCred _ _ (NoHold hold) _ _ (same_held s cs hold like) (held_by_each s Here hold refs)
      (λ held here. tested (none_or (open_of s fd) _) _ _
      (λ new. tested (unless_refused (checked held.cred (info_of s.inodes (place ∷ [])) asked)) _ _
      (λ may. tested (fewer_or (length s.files) OPEN_FILES _) _ _
      (λ few. leaves Done (record s { files = s.files ++ record { fd = fd; opener = held.number; file = place } ∷ [] }) refl
      (each_files refs _ (All-push OfFile s.files _ refs.openers here))))))

  pub close_like : (fd : ℕ) → DoneAlike (CloseFile fd)
  close_like fd =
      tested (ok_or (position (λ f. f.fd == fd) s.files) Ebadf) _ _
      (λ place. found OfFile _ _ Ebadf _ _ refl (get_each _ s.files place refs.openers)
      (λ file here. leaves Done (record s { files = remove s.files place; deferred = s.deferred ++ file.opener ∷ [] }) refl
      (each_deferred (each_files refs _ (All-remove OfFile s.files place refs.openers)) _
      (All-push Here s.deferred file.opener refs.deferred here))))

  -- ---- calls of a task

  -- what is found of a task's current credential
  own_like : (task : ℕ) (none : Answer) (f g : Task → Numbered → Result (Answer × State) Answer)
      → ((owner : Task) (own : Numbered) → Here own.number → BothAre (f owner own) (g owner own))
      → BothAre
      (ok_or (task_of s task) none >>= (λ t. ok_or (numbered s.creds t.current) none >>= f t))
      (ok_or (task_of s task) none >>= (λ t. ok_or (numbered cs t.current) none >>= g t))
  own_like task none f g each =
      found OfTask _ _ none _ _ refl (find_each OfTask (λ t. t.number == task) s.tasks refs.currents)
      (λ owner now. found OfCred _ _ none _ _ (same_numbered s.creds cs owner.current now) (numbered_by s.creds owner.current Here now)
      (each owner))

  pub begin_like : (task : ℕ) (call : IdCall) → DoneAlike (Begin task call)
  begin_like task call =
      own_like task (NoTask task) _ _
      (λ owner old here. tested (not_busy (broadcast_in s owner.process)) _ _
      (λ idle. tested (none_or (broadcast_of s line) _) _ _
      (λ unused. tested (not_overridden owner) _ _
      (λ own. tested (by_rule (set_id old.cred call)) _ _
      (λ new.
      let others = others_of owner s.tasks in
      let broadcast : Broadcast = record { number = line; process = owner.process; caller = task; call = call; waiting = others } in
      in_slots s cs table_full
      (λ now slot. (
        Began (length now.creds) slot (length others),
        record (replaced now task old.number new slot) {
          broadcasts = with_broadcast now.broadcasts broadcast;
          dumpable = renewed now.dumpable owner.process (differs old.cred new);
        },
      ))
      like (full_like s cs like.slots)
      (λ gone each slot. like_sealed (λ n. Began n slot (length others))
      (λ n. record s {
        tasks = with_current s.tasks task n;
        broadcasts = with_broadcast s.broadcasts broadcast;
        deferred = gone ++ old.number ∷ [];
        dumpable = renewed s.dumpable owner.process (differs old.cred new);
      })
      s.creds cs (record { cred = new; slot = slot }) like.slots
      (each_flags (each_broadcasts
      (each_deferred (each_updated each task (length s.creds) next) _ (All-push Here gone old.number each.deferred here))
      _) _)))))))

  -- the process ends
  aborted_like : (cause : AbortCause) (task : ℕ) (broadcast : Broadcast) (gone : List ℕ) → EachRef Here (gave s gone)
      → AreAlike (Aborted task cause, aborted broadcast (gave s gone)) (Aborted task cause, aborted broadcast (with (gave s gone) cs))
  aborted_like cause task broadcast gone each =
      leaves _ (aborted broadcast (gave s gone)) refl (each_flags (each_broadcasts (each_ended each (is_thread_of broadcast.process)) _) _)

  follow_like : (broadcast : Broadcast) (task : ℕ) (owner : Task) (old : Numbered) (made : Result Credential Answer) → Here old.number
      → AreAlike (follow s broadcast task owner old made) (follow (with s cs) broadcast task owner old made)
  follow_like broadcast task owner old (Err refusal) here = aborted_like cause.Perm task broadcast s.deferred refs
  follow_like broadcast task owner old (Ok new) here =
      let left = length broadcast.waiting - 1 in
      in_slots s cs (λ now. (Aborted task cause.Full, aborted broadcast now))
      (λ now slot. (
        Acted task (length now.creds) slot left,
        record (replaced now task old.number new slot) {
          broadcasts = waits_no_more task now.broadcasts;
          dumpable = renewed now.dumpable owner.process (differs old.cred new);
        },
      )) like
      (aborted_like cause.Full task broadcast)
      (λ gone each slot. like_sealed (λ n. Acted task n slot left)
      (λ n. record s {
        tasks = with_current s.tasks task n;
        broadcasts = waits_no_more task s.broadcasts;
        deferred = gone ++ old.number ∷ [];
        dumpable = renewed s.dumpable owner.process (differs old.cred new);
      })
      s.creds cs (record { cred = new; slot = slot }) like.slots
      (each_flags (each_broadcasts
      (each_deferred (each_updated each task (length s.creds) next) _ (All-push Here gone old.number each.deferred here))
      _) _))

  pub act_like : (number : ℕ) → DoneAlike (Act number)
  act_like number =
      tested (ok_or (broadcast_of s number) (NoBroadcast number)) _ _
      (λ broadcast. tested (ok_or (slice_get broadcast.waiting 0) (NoBroadcast number)) _ _
      (λ task. own_like task (NoBroadcast number) _ _
      (λ owner old here. follow_like broadcast task owner old (by_rule (set_id old.cred broadcast.call)) here)))

  -- a task more, which shares this credential
  child_like : (answer : Answer) (child process number : ℕ) (broadcasts : List Broadcast) (flags : List ProcessFlag) → Here number
      → let after = record s { tasks = s.tasks ++ first_task child process number ∷ []; broadcasts = broadcasts; dumpable = flags } in
      AreAlike (answer, after) (answer, with after cs)
  child_like answer child process number broadcasts flags here =
      leaves answer (record s { tasks = s.tasks ++ first_task child process number ∷ []; broadcasts = broadcasts; dumpable = flags }) refl
      (each_flags (each_broadcasts
      (each_tasks refs _ (All-push OfTask s.tasks _ refs.currents here)
      (All-push OfOverrides s.tasks _ refs.overrides (All-nil Here))) broadcasts) flags)

  pub spawn_like : (task child : ℕ) → DoneAlike (Spawn task child)
  spawn_like task child =
      own_like task (NoTask task) _ _
      (λ owner parent here. tested (not_busy (begun_by s task)) _ _
      (λ idle. tested (none_or (task_of s child) _) _ _
      (λ new. tested (not_overridden owner) _ _
      (λ own. tested (fewer_or (length s.tasks) TASKS _) _ _
      (λ few. child_like _ child owner.process parent.number (joined task child s.broadcasts) s.dumpable here)))))

  pub fork_like : (task child process : ℕ) → DoneAlike (Fork task child process)
  fork_like task child process =
      own_like task (NoTask task) _ _
      (λ owner parent here. tested (not_busy (begun_by s task)) _ _
      (λ idle. tested (none_or (task_of s child) _) _ _
      (λ new. tested (none_or (find (is_thread_of process) s.tasks) _) _ _
      (λ unused. tested (not_overridden owner) _ _
      (λ own. tested (fewer_or (length s.tasks) TASKS _) _ _
      (λ few. child_like _ child process parent.number s.broadcasts (with_process_flag s.dumpable process (is_dumpable s.dumpable owner.process)) here))))))

  pub exit_like : (task : ℕ) → DoneAlike (Exit task)
  exit_like task =
      tested (ok_or (task_of s task) _) _ _
      (λ owner. tested (not_busy (begun_by s task)) _ _
      (λ idle. tested (not_overridden owner) _ _
      (λ own. leaves Done (record (ended (is_task task) s) { broadcasts = waits_no_more task s.broadcasts; dumpable = flags_left s owner }) refl
      (each_flags (each_broadcasts (each_ended refs (is_task task)) _) _))))

  -- ---- who may look into whom

  pub dumpable_like : (task value : ℕ) → DoneAlike (Dumpable task value)
  dumpable_like task value =
      tested (ok_or (task_of s task) _) _ _
      (λ owner. tested (ok_or (flag_of_value value) Einval) _ _
      (λ flag. leaves Done (record s { dumpable = set_flag s.dumpable owner.process flag }) refl (each_flags refs _)))

  pub dumped_like : (task : ℕ) → DoneAlike (Dumped task)
  dumped_like task = tested (ok_or (task_of s task) _) _ _ (λ owner. record { answers = refl; states = like })

  pub ptrace_like : (from hold to target : ℕ) (mode : PtraceMode) → DoneAlike (Ptrace from hold to target mode)
  ptrace_like from hold to target mode =
      tested (ok_or (task_of s from) _) _ _
      (λ sender. tested (ok_or (task_of s to) _) _ _
      (λ receiver. read _ _ (NoHold hold) _ _ (same_held s cs hold like)
      (λ own. read _ _ (NoHold target) _ _ (same_held s cs target like)
      (λ other.
      elim
      (may_trace own.cred other.cred (sender.process == receiver.process) (reaches script.namespaces own.cred.ns other.cred.ns)
      (is_dumpable s.dumpable receiver.process) mode) as
      (λ b. BothAre (cond b (Ok (Done, s)) (Err Eperm)) (cond b (Ok (Done, with s cs)) (Err Eperm))) [
        | true ↦ record { answers = refl; states = like }
        | false ↦ refl
      ]))))

  -- ---- files

  file_like : (hold place : ℕ) (rule : Credential → File → Result File Denial)
      → BothAre (by_file s hold place rule) (by_file (with s cs) hold place rule)
  file_like hold place rule =
      read _ _ (NoHold hold) _ _ (same_held s cs hold like)
      (λ held. tested (ok_or (slice_get s.inodes place) (NoHold hold)) _ _
      (λ old. tested (by_rule (rule held.cred old)) _ _
      (λ new. leaves Done (record s { inodes = slice_set s.inodes place new }) refl (each_inodes refs _))))

  pub chown_like : (hold place : ℕ) (owner group : Arg) → DoneAlike (Chown hold place owner group)
  chown_like hold place owner group = file_like hold place (λ c file. chown c file owner group)

  pub chmod_like : (hold place mode : ℕ) → DoneAlike (Chmod hold place mode)
  chmod_like hold place mode = file_like hold place (λ c file. chmod c file mode)

  pub set_attr_like : (hold place : ℕ) (attr : Option (List ℕ)) → DoneAlike (SetAttr hold place attr)
  set_attr_like hold place attr = file_like hold place (λ c file. set_attr c file attr)

  pub stat_like : (hold place : ℕ) → DoneAlike (Stat hold place)
  stat_like hold place =
      read _ _ (NoHold hold) _ _ (same_held s cs hold like)
      (λ held. tested (ok_or (slice_get s.inodes place) (NoHold hold)) _ _
      (λ file. record { answers = refl; states = like }))

  -- ---- a call of one thread alone

  pub raw_like : (task : ℕ) (call : IdCall) → DoneAlike (Raw task call)
  raw_like task call =
      own_like task (NoTask task) _ _
      (λ owner old here. tested (not_busy (broadcast_in s owner.process)) _ _
      (λ idle. tested (not_overridden owner) _ _
      (λ own. tested (by_rule (set_id old.cred call)) _ _
      (λ new.
      in_slots s cs table_full
      (λ now slot. (
        Sealed (length now.creds) slot,
        record (replaced now task old.number new slot) { dumpable = renewed now.dumpable owner.process (differs old.cred new) },
      ))
      like (full_like s cs like.slots)
      (λ gone each slot. like_sealed (λ n. Sealed n slot)
      (λ n. record s {
        tasks = with_current s.tasks task n;
        deferred = gone ++ old.number ∷ [];
        dumpable = renewed s.dumpable owner.process (differs old.cred new);
      })
      s.creds cs (record { cred = new; slot = slot }) like.slots
      (each_flags
      (each_deferred (each_updated each task (length s.creds) next) _ (All-push Here gone old.number each.deferred here))
      _))))))

  pub done_like : (event : Event) → DoneAlike event
  done_like (Init task process user group ns) = init_like task process user group ns
  done_like (Take label task side) = take_like label task side
  done_like (TakeFile label fd) = take_file_like label fd
  done_like (Release label) = release_like label
  done_like (Ask label query) = ask_like label query
  done_like (Signal from hold to target) = signal_like from hold to target
  done_like (Prepare label task hold) = prepare_like label task hold
  done_like (Alter label change) = alter_like label change
  done_like (Commit label) = commit_like label
  done_like (Abort label) = abort_like label
  done_like (Override task label) = override_like task label
  done_like (Revert task) = revert_like task
  done_like (Begin task call) = begin_like task call
  done_like (Act number) = act_like number
  done_like (OpenFile hold place asked fd) = open_like hold place asked fd
  done_like (CloseFile fd) = close_like fd
  done_like (Spawn task child) = spawn_like task child
  done_like (Fork task child process) = fork_like task child process
  done_like (Exit task) = exit_like task
  done_like (Dumpable task value) = dumpable_like task value
  done_like (Dumped task) = dumped_like task
  done_like (Ptrace from hold to target mode) = ptrace_like from hold to target mode
  done_like (Chown hold place owner group) = chown_like hold place owner group
  done_like (Chmod hold place mode) = chmod_like hold place mode
  done_like (SetAttr hold place attr) = set_attr_like hold place attr
  done_like (Stat hold place) = stat_like hold place
  done_like (Raw task call) = raw_like task call
  done_like Sweep = leaves Done (swept s) refl (each_deferred refs _ (All-nil Here))
