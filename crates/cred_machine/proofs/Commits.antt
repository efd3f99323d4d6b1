-- A label that is committed, or given up since its base isn't current any more.
use Rattle.std.proofs.Common.{◌≡◌, ◌≢◌, ℕ, ◌==◌, Bool, true, false, List, [], ◌∷◌, ◌++◌, count_by, length, remove, append_assoc, refl, ap, ◌∙◌, arith}
use Rattle.std.proofs.lemmas.Bool.Decides.{nat_tests}
use Rattle.cred_event.specs.declared.answer.Answer.{Answer}
use Rattle.cred_event.specs.declared.answer.Answer.TheVariants.{Stale}
use Rattle.cred_event.specs.declared.event.Change.{Change}
use Rattle.cred_event.specs.declared.event.Change.TheVariants.{SetFs, Adjust, Exec, Access}
use Rattle.cred_model.specs.State.{State, Task, Prepared, Changed}
use Rattle.cred_model.specs.Dumpable.{flags_committed}
use Rattle.cred_model.specs.Ends.{ended, left_by, survivors}
use Rattle.cred_model.specs.Moves.{committed, given_up, with_current}
use Rattle.cred_model.specs.LabelEvents.{broadcasts_after, committed_by, ends_with, try_commit}
use Rattle.cred_model.specs.Broadcasts.{broadcasts_left}
use Rattle.cred_plain.specs.Tasks.{ending_of, ends_by, is_other_thread}

-- which tasks end
ends_are : (change : Change) (owner : Task) (task : ℕ) → owner.number ≡ task → ends_with change owner ≡ ends_by (ending_of change owner.process task)
ends_are (Exec file) owner task same = ap (λ (n : ℕ). is_other_thread owner.process n) same
ends_are (SetFs kind id) owner task same = refl
ends_are (Adjust call) owner task same = refl
ends_are Access owner task same = refl

broadcasts_are : (change : Change) (owner : Task) (s : State)
    → broadcasts_after change owner s ≡ record s { broadcasts = broadcasts_left change owner.process s.broadcasts }
broadcasts_are (Exec file) owner s = refl
broadcasts_are (SetFs kind id) owner s = refl
broadcasts_are (Adjust call) owner s = refl
broadcasts_are Access owner s = refl

module _ (s : State) (place : ℕ) (p : Prepared) (owner : Task) (last : Changed) where
  pub stale : owner.current ≢ p.base → try_commit s place p owner last ≡ (Stale p.base owner.current, given_up s place p)
  stale differs =
      let test : (owner.current == p.base) ≡ false = grind (arith, nat_tests) in
      rw test refl

  -- where these tasks end
  after : (Task → Bool) → List ℕ → State
  after ends late = record s {
    tasks = with_current (survivors ends s.tasks) p.task (length s.creds);
    broadcasts = broadcasts_left last.change owner.process s.broadcasts;
    prepared = remove s.prepared place;
    deferred = late;
    dumpable = flags_committed s owner last;
    creds = s.creds ++ record { cred = last.cred; slot = p.slot } ∷ [];
  }

  answered : (Task → Bool) → Answer
  answered ends = committed_by last.change last.gains (length s.creds) p.slot (count_by ends s.tasks)

  pub settled : owner.current ≡ p.base → owner.number ≡ p.task
      → try_commit s place p owner last
      ≡ (
        committed_by last.change last.gains (length s.creds) p.slot (count_by (ends_by (ending_of last.change owner.process p.task)) s.tasks),
        record s {
          tasks = with_current (survivors (ends_by (ending_of last.change owner.process p.task)) s.tasks) p.task (length s.creds);
          broadcasts = broadcasts_left last.change owner.process s.broadcasts;
          prepared = remove s.prepared place;
          deferred = s.deferred ++ (left_by (ends_by (ending_of last.change owner.process p.task)) s.tasks ++ owner.current ∷ p.base ∷ []);
          dumpable = flags_committed s owner last;
          creds = s.creds ++ record { cred = last.cred; slot = p.slot } ∷ [];
        },
      )
  unfolding after answered
  settled same own =
      let test : (owner.current == p.base) ≡ true = grind (arith, nat_tests) in
      let ends = ends_with last.change owner in
      let now = ends_by (ending_of last.change owner.process p.task) in
      let first : try_commit s place p owner last
      ≡ (
        answered ends,
        record (broadcasts_after last.change owner (committed (ended ends s) place p owner.current last.cred)) { dumpable = flags_committed s owner last },
      )
      = rw test refl in
      first
      ∙ ap (λ (r : State). (answered ends, record r { dumpable = flags_committed s owner last }))
      (broadcasts_are last.change owner (committed (ended ends s) place p owner.current last.cred))
      ∙ ap (λ (late : List ℕ). (answered ends, after ends late)) (append_assoc s.deferred (left_by ends s.tasks) (owner.current ∷ p.base ∷ []))
      ∙ ap (λ (e : Task → Bool). (answered e, after e (s.deferred ++ (left_by e s.tasks ++ owner.current ∷ p.base ∷ []))))
      (ends_are last.change owner p.task own)
