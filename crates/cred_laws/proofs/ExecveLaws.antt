-- An event that answers that an execve is completed commits what the rule of execve makes.
use Rattle.std.proofs.Common.{◌≡◌, ◌==◌, not, ℕ, ◌<◌, List, [], ◌∷◌, ◌++◌, length, position, slice_get, Option, Some, None, Result, Ok, Err, Bool, true, false}
use Rattle.std.proofs.Common.{cond, refl, sym, ap, ◌∙◌, subst, arith}
use Rattle.std.specs.List.{All, count_by, find}
use Rattle.std.specs.Option.{IfSome, option_map, option_and_then}
use Rattle.std.specs.Prelude.{⊤}
use Rattle.std.proofs.lemmas.Bool.Decides.{nat_tests}
use Rattle.std.proofs.lemmas.Bool.{eqb-true}
use Rattle.std.proofs.lemmas.List.Elements.{All-map, All-weaker, filter_passes}
use Rattle.std.proofs.lemmas.List.Folds.{find_at}
use Rattle.std.proofs.lemmas.List.Quantifiers.{position-Some}
use Rattle.cred_record.specs.Credential.{Credential}
use Rattle.cred_record.specs.File.{File}
use Rattle.cred_record.specs.declared.gains.Gains.{Gains}
use Rattle.cred_rules.specs.Exec.{NoExec, exec}
use Rattle.cred_rules.specs.Exec as rule
use Rattle.cred_event.specs.declared.answer.Answer.{Answer}
use Rattle.cred_event.specs.declared.answer.Answer.TheVariants.{Done, Executed, Stale}
use Rattle.cred_event.specs.declared.event.Change.{Change}
use Rattle.cred_event.specs.declared.event.Change.TheVariants.{Exec}
use Rattle.cred_event.specs.declared.event.Event.{Event}
use Rattle.cred_event.specs.declared.event.Event.TheVariants.{Commit}
use Rattle.cred_model.specs.Script.{Script, chain_of}
use Rattle.cred_model.specs.State.{State, SealedCred, Task, Broadcast, Prepared, Changed, ProcessFlag, Numbered, numbered, task_of, begun_by}
use Rattle.cred_model.specs.Change.{Made, made_by_exec, made_by_execve, by_change}
use Rattle.cred_model.specs.Broadcasts.{dropped}
use Rattle.cred_model.specs.Ends.{is_beside, survivors, ended}
use Rattle.cred_model.specs.Dumpable.{flags_committed}
use Rattle.cred_model.specs.Moves.{updated, with_current, committed, given_up}
use Rattle.cred_model.specs.LabelEvents.{committed_by, commit_answer, ends_with, broadcasts_after, try_commit, for_task, by_commit}
use Rattle.cred_model.specs.Step.{outcome, done, step}
use Rattle.cred_model.proofs.Lists.{All-at, at_place, slice_get_at}
use Rattle.cred_model.proofs.Numbers.{numbered_last, updated_as, updated_task}
use Rattle.cred_sound.specs.Sound.{IsSound}
use Rattle.cred_sound.proofs.Events.{changed_for_task}
use Rattle.cred_sound.proofs.Survivors.{find_goes_on}
use Rattle.cred_laws.specs.Made.{IsMadeFrom, AreMadeFrom}
use Rattle.cred_laws.specs.Execve.{IsExecve, ExecvesAreByTheRule}
use Rattle.cred_laws.proofs.Cases.{some_case, own_case, idle_case}
use Rattle.cred_laws.proofs.MadeLaws.{bases_sealed}
use Rattle.cred_laws.proofs.Unexecuted.{answer_of, answers_settled, is_executed, plain}

-- ---- what is found

first_place : (k n : ℕ) (b : Bool) → cond b (Some k) None ≡ Some n → k ≡ n
first_place k n true is = cc
first_place k n false is = cc

-- the first of its label is the one that is found
pub found_first : (ps : List Prepared) (label place : ℕ) (p : Prepared) → position (λ p. p.label == label) ps ≡ Some place
    → slice_get ps place ≡ Some p → find (λ p. p.label == label) ps ≡ Some p
found_first ps label place p at is =
    find_at (λ (p : Prepared). p.label == label) ps ∙ ap (slice_get ps) (first_place _ place _ at) ∙ is

pub numbered_at : (creds : List SealedCred) (n : ℕ) → n < length creds → (c : Numbered) × (numbered creds n ≡ Some c)
numbered_at creds n lt =
    let x = slice_get_at creds n lt in (
      record { number = n; cred = x.0.cred; slot = x.0.slot },
      ap (option_map (λ (y : SealedCred). record { number = n; cred = y.cred; slot = y.slot })) x.1,
    )

-- ---- what the rule made

by_the_rule : (r : Result rule.Executed NoExec) (answer : Answer) (c : Credential) (gains : Gains)
    → made_by_exec r ≡ Ok (record { answer = answer; cred = c; gains = gains }) → r ≡ Ok (record { cred = c; gains = gains })
by_the_rule (Ok e) answer c gains is =
    let same : record { answer = Done; cred = e.cred; gains = e.gains } ≡ record { answer = answer; cred = c; gains = gains } = cc in
    ap (λ (m : Made). Ok (record { cred = m.cred; gains = m.gains })) same
by_the_rule (Err why) answer c gains is = cc

-- the file, and the rule over it
record IsRuled (found : Option File) (chain : List ℕ) (old c : Credential) (gains : Gains) : Type 0 where
  file : File
  names : found ≡ Some file
  rule : exec old file chain ≡ Ok (record { cred = c; gains = gains })

ruled : (found : Option File) (chain : List ℕ) (old : Credential) (answer : Answer) (c : Credential) (gains : Gains)
    → made_by_execve found chain old ≡ Ok (record { answer = answer; cred = c; gains = gains }) → IsRuled found chain old c gains
ruled None chain old answer c gains is = cc
ruled (Some file) chain old answer c gains is =
    record { file = file; names = refl; rule = by_the_rule (exec old file chain) answer c gains is }

-- ---- the tasks after it

stays_itself : (task : Task) → is_beside task task ≡ false
stays_itself task = grind (arith, nat_tests)

beside_or_not : (task t : Task) → not (is_beside task t) ≡ true → t.process ≡ task.process → t.number ≡ task.number
beside_or_not task t goes_on same = grind (arith, nat_tests)

-- no other thread of the process goes on
all_alone : (tasks : List Task) (task : Task) (acting n : ℕ)
    → All (λ t. t.process ≡ task.process → t.number ≡ task.number) (with_current (survivors (is_beside task) tasks) acting n)
all_alone tasks task acting n =
    let IsAlone : Task → Type 0 = λ t. t.process ≡ task.process → t.number ≡ task.number in
    All-map IsAlone (updated acting n) (survivors (is_beside task) tasks)
    (All-weaker (λ t. not (is_beside task t) ≡ true) (λ t. IsAlone (updated acting n t))
    (λ t on. updated_as IsAlone acting n t (beside_or_not task t on) (beside_or_not task t on))
    (survivors (is_beside task) tasks) (filter_passes (λ t. not (is_beside task t)) tasks))

renewed_itself : (task : Task) (acting n : ℕ) → (task.number == acting) ≡ true → (updated acting n task).current ≡ n
renewed_itself task acting n test = ap (λ b. (cond b (record task { current = n }) task).current) test

module _ (script : Script) (From : ℕ → Change → Option File → Type 0) (s : State) (label number slot count : ℕ) (gains : Gains) (sound : IsSound s)
    (are : AreMadeFrom From script s) where
  -- the execve, and the file that it is of
  abbrev pub Found : State → Type 0
  Found t = (x : IsExecve script s (Commit label) number slot gains t) × From x.prepared.label (Exec x.place) (Some x.file)

  -- what is to be shown of what the commit does
  abbrev Q : Result (Answer × State) Answer → Type 0
  Q r = answer_of r ≡ Executed number slot count gains → Found (outcome s r).1

  fresh : (broadcasts : List Broadcast) (flags : List ProcessFlag) (place file : ℕ) (p : Prepared) (owner : Task) (last : Changed)
      → position (λ p. p.label == label) s.prepared ≡ Some place
      → slice_get s.prepared place ≡ Some p → p.changed ≡ Some last → task_of s p.task ≡ Some owner → owner.current ≡ p.base
      → last.change ≡ Exec file → number ≡ length s.creds → slot ≡ p.slot → gains ≡ last.gains
      → Found (record (committed (ended (is_beside owner) s) place p owner.current last.cred) { broadcasts = broadcasts; dumpable = flags })
  fresh broadcasts flags place file p owner last at is changed lives same executes at_number at_slot at_gains =
      let labelled : (p.label == label) ≡ true
      = at_place (λ (p : Prepared). p.label == label) s.prepared place p is (position-Some (λ (p : Prepared). p.label == label) s.prepared place p at).1 in
      let own : p.label ≡ label = eqb-true p.label label labelled in
      let base = numbered_at s.creds p.base (All-at (λ (p : Prepared). p.base < length s.creds) s.prepared place p is (bases_sealed s sound)) in
      let old = base.0 in
      let Made_of : Prepared → Changed → Type 0 = λ p last. IsMadeFrom (From p.label last.change) script (numbered s.creds p.base) last in
      let made_of = subst (λ o. IfSome o (Made_of p)) changed (All-at (λ (p : Prepared). IfSome p.changed (Made_of p)) s.prepared place p is are) in
      let by = subst (λ found. IsMadeFrom (From p.label last.change) script found last) base.1 made_of in
      let how =
      subst (λ change. by_change by.0 (chain_of script old.cred.ns) old.cred change ≡ Ok (record { answer = by.1; cred = last.cred; gains = last.gains }))
      executes by.2 in
      let rule = ruled by.0 (chain_of script old.cred.ns) old.cred by.1 last.cred last.gains how in
      let rest = survivors (is_beside owner) s.tasks in
      let named : (owner.number == p.task) ≡ true = (find_goes_on (is_beside owner) s.tasks p.task owner lives (stays_itself owner)).1 in
      let on = (find_goes_on (is_beside owner) s.tasks p.task owner lives (stays_itself owner)).0 in
      let creds = s.creds ++ record { cred = last.cred; slot = p.slot } ∷ [] in (
        record {
          prepared = p;
          last = last;
          place = file;
          file = rule.file;
          task = owner;
          old = old;
          new = record { number = length s.creds; cred = last.cred; slot = p.slot };
          commits = ap Commit (sym own);
          stood = ap (λ n. find (λ (p : Prepared). p.label == n) s.prepared) own ∙ found_first s.prepared label place p at is;
          changed = changed;
          executes = executes;
          lives = lives;
          had = ap (option_and_then (λ (t : Task). numbered s.creds t.current)) lives ∙ ap (numbered s.creds) same ∙ base.1;
          has =
              ap (option_and_then (λ (t : Task). numbered creds t.current))
              (updated_task rest p.task (length s.creds) p.task ∙ ap (option_map (updated p.task (length s.creds))) on)
              ∙ ap (numbered creds) (renewed_itself owner p.task (length s.creds) named)
              ∙ numbered_last s.creds (record { cred = last.cred; slot = p.slot });
          sealed = (sym at_number, sym at_slot);
          rule = rule.rule ∙ ap (λ g. Ok (record { cred = last.cred; gains = g })) (sym at_gains);
          alone = all_alone s.tasks owner p.task (length s.creds);
        },
        subst (λ change. From p.label change (Some rule.file)) executes (subst (From p.label last.change) rule.names by.3),
      )

  by_kind : (flags : List ProcessFlag) (place : ℕ) (p : Prepared) (owner : Task) (last : Changed) → position (λ p. p.label == label) s.prepared ≡ Some place
      → slice_get s.prepared place ≡ Some p → p.changed ≡ Some last → task_of s p.task ≡ Some owner → owner.current ≡ p.base
      → (change : Change) → last.change ≡ change
      → committed_by change last.gains (length s.creds) p.slot (count_by (ends_with change owner) s.tasks) ≡ Executed number slot count gains
      → Found (record (broadcasts_after change owner (committed (ended (ends_with change owner) s) place p owner.current last.cred)) { dumpable = flags })
  by_kind flags place p owner last at is changed lives same (Exec file) executes answered =
      let at_number : number ≡ length s.creds = cc in
      let at_slot : slot ≡ p.slot = cc in
      let at_gains : gains ≡ last.gains = cc in
      fresh (dropped owner.process s.broadcasts) flags place file p owner last at is changed lives same executes at_number at_slot at_gains
  by_kind flags place p owner last at is changed lives same other executes answered = cc

  settles : (place : ℕ) (p : Prepared) (owner : Task) (last : Changed) → position (λ p. p.label == label) s.prepared ≡ Some place
      → slice_get s.prepared place ≡ Some p → p.changed ≡ Some last → task_of s p.task ≡ Some owner
      → Q (Ok (try_commit s place p owner last))
  settles place p owner last at is changed lives =
      let ends = ends_with last.change owner in
      let flags = flags_committed s owner last in
      let now = broadcasts_after last.change owner (committed (ended ends s) place p owner.current last.cred) in
      let fresh_one : Answer × State = (commit_answer last (length s.creds) p.slot (count_by ends s.tasks), record now { dumpable = flags }) in
      elim (owner.current == p.base) as
      (λ b. (b ≡ true → owner.current ≡ p.base) → Q (Ok (cond {A = Answer × State} b fresh_one (Stale p.base owner.current, given_up s place p)))) [
        | true ↦ λ same answered. by_kind flags place p owner last at is changed lives (same refl) last.change refl answered
        | false ↦ λ same answered. cc
      ] (eqb-true owner.current p.base)

  pub commit_case : Q (by_commit s label)
  commit_case =
      some_case Q (position (λ p. p.label == label) s.prepared) _ _ (λ answered. cc)
      (λ place at. some_case Q (slice_get s.prepared place) _ _ (λ answered. cc)
      (λ p is. some_case Q (option_and_then for_task p.changed) _ _ (λ answered. cc)
      (λ last changed. some_case Q (task_of s p.task) _ _ (λ answered. cc)
      (λ owner lives. idle_case Q (begun_by s p.task) _ (λ busy answered. cc)
      (λ idle. own_case Q owner _ (λ depth answered. cc) (settles place p owner last at is (changed_for_task p.changed last changed) lives))))))

by_event : (script : Script) (From : ℕ → Change → Option File → Type 0) (s : State) (line : ℕ) (event : Event) (number slot count : ℕ) (gains : Gains)
    → IsSound s → AreMadeFrom From script s → answer_of (done script s line event) ≡ Executed number slot count gains
    → (x : IsExecve script s event number slot gains (outcome s (done script s line event)).1) × From x.prepared.label (Exec x.place) (Some x.file)
by_event script From s line (Commit label) number slot count gains sound are answered =
    commit_case script From s label number slot count gains sound are answered
by_event script From s line event number slot count gains sound are answered =
    absurd (let other = (plain script s line event refl).is in let both = sym other ∙ ap is_executed answered in cc)

-- the execve, and the file of which this holds
pub execve_of : (script : Script) (From : ℕ → Change → Option File → Type 0) (s : State) (line : ℕ) (event : Event) (number slot count : ℕ) (gains : Gains)
    → IsSound s → AreMadeFrom From script s → (step script s line event).0 ≡ Executed number slot count gains
    → (x : IsExecve script s event number slot gains (step script s line event).1) × From x.prepared.label (Exec x.place) (Some x.file)
execve_of script From s line event number slot count gains sound are answered =
    by_event script From s line event number slot count gains sound are
    (sym (answers_settled s (done script s line event)) ∙ answered)

pub execves_are_by_the_rule : ExecvesAreByTheRule
execves_are_by_the_rule script s line event number slot count gains sound are answered =
    (execve_of script (λ label change file. ⊤) s line event number slot count gains sound are answered).0
