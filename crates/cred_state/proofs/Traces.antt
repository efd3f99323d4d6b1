-- Who may look into whom, which processes are dumpable, and what calls and commits make of that.
use Rattle.std.proofs.Common.{◌≡◌, ◌==◌, ℕ, Bool, true, false, cond, List, Option, None, Some, Ok, Err, refl, sym, ap, ◌∙◌}
use Rattle.std.specs.Option.{option_and_then, option_map, option_map_or}
use Rattle.cred_ids.specs.declared.id.Ids4.{Ids4}
use Rattle.cred_record.specs.Credential.{Credential}
use Rattle.cred_record.specs.declared.gains.Gains.{Gains}
use Rattle.cred_event.specs.declared.answer.Answer.{Answer}
use Rattle.cred_event.specs.declared.answer.Answer.TheVariants.{Done, Einval, Eperm, NoHold, NoTask, Told}
use Rattle.cred_event.specs.declared.answer.Told.TheVariants as told
use Rattle.cred_event.specs.declared.event.Change.{Change}
use Rattle.cred_record.specs.declared.mode.PtraceMode.{PtraceMode}
use Rattle.cred_model.specs.Dumpable.{differs, differs_by, flag_of_value, flags_by, flags_committed, is_dumpable, set_flag}
use Rattle.cred_rules.specs.Ptrace.{may_trace}
use Rattle.cred_model.specs.Script.{Script, reaches}
use Rattle.cred_model.specs.State.{State, Task, Changed, Numbered, ProcessFlag, current_of, held_by, numbered, task_of}
use Rattle.cred_model.specs.TaskEvents.{by_dumpable, by_dumped, by_ptrace}
use Rattle.cred_model.specs.Step.{outcome}
use Rattle.cred_setid.specs.Parts.{changed, parts_of}
use Rattle.cred_setid.specs.declared.parts.IdParts.{IdParts}
use Rattle.cred_state.specs.Flags.{differs_from}

-- ---- the ids that a call changes

changed_uid : (c : Credential) (new : IdParts) (groups : Option (List ℕ))
    → (changed c new groups).uid ≡ new.uid
changed_uid c new None = refl
changed_uid c new (Some gs) = refl

changed_gid : (c : Credential) (new : IdParts) (groups : Option (List ℕ))
    → (changed c new groups).gid ≡ new.gid
changed_gid c new None = refl
changed_gid c new (Some gs) = refl

-- what was found by the ids alone
pub ids_differ : (c : Credential) (old new : IdParts) (groups : Option (List ℕ)) (other : Bool)
    → ((a b : Credential) → a.uid ≡ old.uid → a.gid ≡ old.gid → b.uid ≡ new.uid → b.gid ≡ new.gid
    → other ≡ differs a b)
    → old ≡ parts_of c → other ≡ differs c (changed c new groups)
ids_differ c old new groups other found same =
    found c (changed c new groups)
    (sym (ap (λ (p : IdParts). p.uid) same)) (sym (ap (λ (p : IdParts). p.gid) same))
    (changed_uid c new groups) (changed_gid c new groups)

-- ---- the ids that a commit changes

pub differs_none : (s : State) (task : ℕ) (last : Changed) → current_of s task ≡ None
    → false ≡ differs_from s task last
differs_none s task last none =
    sym (ap (λ (o : Option Numbered). option_map_or (λ (old : Numbered). differs old.cred last.cred) o false) none)

pub differs_current : (s : State) (task : ℕ) (last : Changed) (now : Numbered) (other : Bool)
    → current_of s task ≡ Some now → other ≡ differs now.cred last.cred
    → other ≡ differs_from s task last
differs_current s task last now other has is =
    is
    ∙ sym (ap (λ (o : Option Numbered). option_map_or (λ (old : Numbered). differs old.cred last.cred) o false) has)

-- the ids of what the label prepared
pub ids_are : (last : Changed) (found : Option Changed) (uid gid : Ids4)
    → ◌≡◌ {A = Option (Ids4 × Ids4)} (Some (uid, gid))
    (option_map {U = Ids4 × Ids4} (λ last. (last.cred.uid, last.cred.gid)) found)
    → found ≡ Some last → (last.cred.uid ≡ uid) × (last.cred.gid ≡ gid)
ids_are last None uid gid is at = cc
ids_are last (Some x) uid gid is at =
    let same : x ≡ last = cc in
    let both : ◌≡◌ {A = Ids4 × Ids4} (uid, gid) (x.cred.uid, x.cred.gid) = cc in (
      sym (ap (λ (c : Changed). c.cred.uid) same) ∙ sym (ap (λ (ids : Ids4 × Ids4). ids.0) both),
      sym (ap (λ (c : Changed). c.cred.gid) same) ∙ sym (ap (λ (ids : Ids4 × Ids4). ids.1) both),
    )

pub flags_are : (s : State) (task process : ℕ) (owner : Task) (last : Changed) (change : Change)
    (gains : Gains) (other : Bool) (flags : List ProcessFlag)
    → flags ≡ flags_by change gains s.dumpable process other
    → change ≡ last.change → gains ≡ last.gains → process ≡ owner.process
    → other ≡ differs_from s task last → task_of s task ≡ Some owner
    → flags ≡ flags_committed s owner last
flags_are s task process owner last change gains other flags is by gained own differ lives =
    let same : other ≡ differs_by s owner last
    = differ
    ∙ ap
    (λ (o : Option Task). option_map_or (λ (old : Numbered). differs old.cred last.cred)
    (option_and_then (λ (t : Task). numbered s.creds t.current) o) false) lives in
    is ∙ (λ i. flags_by (by i) (gained i) s.dumpable (own i) (same i))

-- ---- the process of a task

no_process : (found : Option Task) → None ≡ option_map (λ t. t.process) found → found ≡ None
no_process None none = refl
no_process (Some t) none = cc

process_owner : (s : State) (task process : ℕ)
    → Some process ≡ option_map (λ t. t.process) (task_of s task)
    → (owner : Task) × (task_of s task ≡ Some owner) × (owner.process ≡ process)
process_owner s task process is = by (task_of s task) refl is
  where
    by : (found : Option Task) → task_of s task ≡ found
        → Some process ≡ option_map (λ t. t.process) found
        → (owner : Task) × (task_of s task ≡ Some owner) × (owner.process ≡ process)
    by None at is = cc
    by (Some owner) at is = (owner, at, cc)

-- ---- whether a process is dumpable

module _ (s : State) (task : ℕ) where
  pub dumped_none : None ≡ option_map (λ t. t.process) (task_of s task)
      → outcome s (by_dumped s task) ≡ (NoTask task, s)
  dumped_none none = rw (no_process (task_of s task) none) refl

  pub dumped_is : (process : ℕ) → Some process ≡ option_map (λ t. t.process) (task_of s task)
      → outcome s (by_dumped s task) ≡ (Told (told.Flag (is_dumpable s.dumpable process)), s)
  dumped_is process is =
      let own = process_owner s task process is in
      let tells : outcome s (by_dumped s task)
      ≡ (Told (told.Flag (is_dumpable s.dumpable own.0.process)), s)
      = rw own.1 refl in
      tells ∙ ap (λ (p : ℕ). (Told (told.Flag (is_dumpable s.dumpable p)), s)) own.2

  module _ (value : ℕ) where
    pub dumpable_none : None ≡ option_map (λ t. t.process) (task_of s task)
        → outcome s (by_dumpable s task value) ≡ (NoTask task, s)
    dumpable_none none = rw (no_process (task_of s task) none) refl

    pub dumpable_invalid : (process : ℕ)
        → Some process ≡ option_map (λ t. t.process) (task_of s task)
        → None ≡ flag_of_value value → outcome s (by_dumpable s task value) ≡ (Einval, s)
    dumpable_invalid process is none =
        let own = process_owner s task process is in
        rw (own.1, ← none) refl

    pub dumpable_set : (process : ℕ) (flag : Bool)
        → Some process ≡ option_map (λ t. t.process) (task_of s task)
        → Some flag ≡ flag_of_value value
        → outcome s (by_dumpable s task value)
        ≡ (Done, record s { dumpable = set_flag s.dumpable process flag })
    dumpable_set process flag is valid =
        let own = process_owner s task process is in
        let sets : outcome s (by_dumpable s task value)
        ≡ (Done, record s { dumpable = set_flag s.dumpable own.0.process flag })
        = rw (own.1, ← valid) refl in
        sets ∙ ap (λ (p : ℕ). (Done, record s { dumpable = set_flag s.dumpable p flag })) own.2

-- ---- a look into another task

module _ (script : Script) (s : State) (from hold to target : ℕ) (mode : PtraceMode) where
  pub trace_no_sender : None ≡ option_map (λ t. t.process) (task_of s from)
      → outcome s (by_ptrace script s from hold to target mode) ≡ (NoTask from, s)
  trace_no_sender none = rw (no_process (task_of s from) none) refl

  module _ (sends : ℕ) (sender : Some sends ≡ option_map (λ t. t.process) (task_of s from)) where
    own : (owner : Task) × (task_of s from ≡ Some owner) × (owner.process ≡ sends)
    own = process_owner s from sends sender

    pub trace_no_receiver : None ≡ option_map (λ t. t.process) (task_of s to)
        → outcome s (by_ptrace script s from hold to target mode) ≡ (NoTask to, s)
    trace_no_receiver none = rw (own.1, no_process (task_of s to) none) refl

    module _ (receives : ℕ)
        (receiver : Some receives ≡ option_map (λ t. t.process) (task_of s to)) where
      other : (owner : Task) × (task_of s to ≡ Some owner) × (owner.process ≡ receives)
      other = process_owner s to receives receiver

      pub trace_no_own : held_by s hold ≡ None
          → outcome s (by_ptrace script s from hold to target mode) ≡ (NoHold hold, s)
      trace_no_own none = rw (own.1, other.1, none) refl

      pub trace_no_other : (asks : Numbered) → held_by s hold ≡ Some asks
          → held_by s target ≡ None
          → outcome s (by_ptrace script s from hold to target mode) ≡ (NoHold target, s)
      trace_no_other asks has none = rw (own.1, other.1, has, none) refl

      module _ (asks seen : Numbered) (has : held_by s hold ≡ Some asks)
          (there : held_by s target ≡ Some seen) where
        tested : outcome s (by_ptrace script s from hold to target mode)
            ≡ cond
            (may_trace asks.cred seen.cred (own.0.process == other.0.process)
            (reaches script.namespaces asks.cred.ns seen.cred.ns)
            (is_dumpable s.dumpable other.0.process) mode)
            (Done, s) (Eperm, s)
        tested =
            rw (own.1, other.1, has, there)
            (elim (may_trace asks.cred seen.cred (own.0.process == other.0.process)
            (reaches script.namespaces asks.cred.ns seen.cred.ns)
            (is_dumpable s.dumpable other.0.process) mode)
            as (λ b. outcome s (cond b (Ok (Done, s)) (Err Eperm)) ≡ cond b (Done, s) (Eperm, s)) [
              | true ↦ refl
              | false ↦ refl
            ])

        -- the processes, the namespaces and the flag are those that were found
        pub traces : (reach dumpable may : Bool)
            → reach ≡ reaches script.namespaces asks.cred.ns seen.cred.ns
            → dumpable ≡ is_dumpable s.dumpable receives
            → may ≡ may_trace asks.cred seen.cred (sends == receives) reach dumpable mode
            → outcome s (by_ptrace script s from hold to target mode)
            ≡ cond may (Done, s) (Eperm, s)
        traces reach dumpable may r d is =
            let so : ℕ → ℕ → Bool → Bool → Bool
            = λ p q within flag. may_trace asks.cred seen.cred (p == q) within flag mode in
            let gives : Bool → Answer × State = λ b. cond b (Done, s) (Eperm, s) in
            let within = reaches script.namespaces asks.cred.ns seen.cred.ns in
            tested
            ∙ ap (λ (p : ℕ). gives (so p other.0.process within
            (is_dumpable s.dumpable other.0.process))) own.2
            ∙ ap (λ (q : ℕ). gives (so sends q within (is_dumpable s.dumpable q))) other.2
            ∙ ap (λ (b : Bool). gives (so sends receives b (is_dumpable s.dumpable receives)))
            (sym r)
            ∙ ap (λ (b : Bool). gives (so sends receives reach b)) (sym d)
            ∙ ap gives (sym is)
