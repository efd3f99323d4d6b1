-- The numbers of a lane after a step of it.
use Rattle.std.proofs.Common.{◌≡◌, ◌≢◌, ℕ, ◌+◌, List, Option, Some, None, Result, Ok, Err, refl, sym, ap, subst, ◌∙◌, arith}
use Rattle.std.specs.Prelude.{IfErr, IfOk, OnErr}
use Rattle.atomic_table.specs.Seated.{TableId}
use Rattle.cred_record.specs.File.{File}
use Rattle.cred_event.specs.declared.entry.Entry.{Entry}
use Rattle.cred_model.specs.Script.{Script}
use Rattle.cred_model.specs.Journal.{due_in}
use Rattle.cred_turn.specs.declared.numbers.LaneNumbers.{LaneNumbers}
use Rattle.cred_work.specs.Work.{Work}
use Rattle.cred_work.specs.DecidedWorks.{IsUndecided}
use Rattle.cred_book.specs.Book.{Recorded, inodes_in}
use Rattle.cred_book.specs.Counts as counts
use Rattle.cred_book.specs.Counts.{Counts, IsOutNow, IsSetUp, decided_of, ended_of, entered_of}
use Rattle.cred_book.specs.Cursor.{Makes}
use Rattle.cred_book.specs.Works.{IsOfLane}
use Rattle.cred_book.specs.declared.step.Step.{Step}
use Rattle.cred_book.specs.declared.step.Step.TheVariants.{More, Ended}
use Rattle.cred_book.specs.declared.step.Step.TheVariants as step
use Rattle.cred_kernel.specs.Advances.{Advanced, TurnHasEntered, after_finish, after_step}
use Rattle.cred_kernel.specs.Locks.{numbers_in}
use Rattle.cred_kernel.specs.Turns.{SeenTurn}

abbrev numbers : ℕ → ℕ → ℕ → Option ℕ → LaneNumbers
numbers entered decided ended out = record { entered = entered; decided = decided; ended = ended; out = out }

same_numbers : (a b c a' b' c' : ℕ) (o o' : Option ℕ) → a ≡ a' → b ≡ b' → c ≡ c' → o ≡ o' → numbers a b c o ≡ numbers a' b' c' o'
same_numbers a b c a' b' c' o o' e d n s = cc

-- The lane has these numbers now, and all others have theirs. A setup that has ended stays so.
pub record IsMoved (before after : Recorded) (lane : ℕ) (now : LaneNumbers) : Type 0 where
  pub own : now ≡ numbers_in after lane
  pub others : (other : ℕ) → other ≢ lane → numbers_in after other ≡ numbers_in before other
  pub set_up : IsSetUp before → IsSetUp after

-- where the book is as it was
stays : (before after : Recorded) (lane : ℕ) (was : LaneNumbers) → was ≡ numbers_in before lane → after ≡ before
    → IsMoved before after lane (record was { ended = ended_of after.script after.journal lane })
stays before after lane was is same = record {
  own = rw same (rw is refl);
  others = λ other apart. ap (λ (b : Recorded). numbers_in b other) same;
  set_up = λ up. subst IsSetUp (sym same) up;
}

-- where an entry was made for the lane, and it has no work out
enters : (before after : Recorded) (lane works : ℕ) (was : LaneNumbers) → was ≡ numbers_in before lane → counts.HasEntered before after lane works
    → IsMoved before after lane (numbers (was.entered + 1) (was.decided + works) (ended_of after.script after.journal lane) None)
enters before after lane works was is has = record {
  own = same_numbers _ _ _ _ _ _ _ _
      (ap (λ (n : LaneNumbers). n.entered + 1) is ∙ sym has.own)
      (ap (λ (n : LaneNumbers). n.decided + works) is ∙ sym has.own_decided)
      refl (sym has.outs.own);
  others = λ other apart. same_numbers _ _ _ _ _ _ _ _
      (has.entered other apart) (has.decided other apart) (has.ended other apart) (has.outs.others other apart);
  set_up = has.set_up;
}

same_at : {A : Type 0} (f : Script → List Entry → A) (s t : Script) (j k : List Entry) → s ≡ t → j ≡ k → f s j ≡ f t k
same_at {A} f s t j k script journal = cc

-- where a work of the lane has gone out
gives : (before after : Recorded) (lane : ℕ) (was : LaneNumbers) (line : Option ℕ) → was ≡ numbers_in before lane
    → after.script ≡ before.script → after.journal ≡ before.journal → IsOutNow before after lane line
    → IsMoved before after lane (numbers was.entered was.decided (ended_of after.script after.journal lane) line)
gives before after lane was line is script journal outs =
    let entered = λ (l : ℕ). same_at (λ s j. entered_of s j l) after.script before.script after.journal before.journal script journal in
    let decided = λ (l : ℕ). same_at (λ s j. decided_of s j l) after.script before.script after.journal before.journal script journal in
    let ended = λ (l : ℕ). same_at (λ s j. ended_of s j l) after.script before.script after.journal before.journal script journal in
    record {
      own = same_numbers _ _ _ _ _ _ _ _
          (ap (λ (n : LaneNumbers). n.entered) is ∙ sym (entered lane)) (ap (λ (n : LaneNumbers). n.decided) is ∙ sym (decided lane)) refl (sym outs.own);
      others = λ other apart. same_numbers _ _ _ _ _ _ _ _ (entered other) (decided other) (ended other) (outs.others other apart);
      set_up = λ up. same_at (λ s j. due_in s j 0) after.script before.script after.journal before.journal script journal ∙ up;
    }

as_it_was : (before after : Recorded) (lane : ℕ) (entry : Option Entry) → Makes before after lane entry Ended → after ≡ before
as_it_was before after lane None made = made
as_it_was before after lane (Some entry) made = absurd made

work_of : (before after : Recorded) (lane : ℕ) (entry : Option Entry) (work : Work) → Makes before after lane entry (step.Work work)
    → IsUndecided work × IsOfLane after lane work
work_of before after lane None work made = absurd made
work_of before after lane (Some entry) work made = (made.3, made.4)

pub moved : {E : Type 0} (before after : Recorded) (lane : ℕ) (was : LaneNumbers) (entry : Option Entry) (step : Result Step E)
    → was ≡ numbers_in before lane → was.out ≡ None → after.script ≡ before.script
    → IfOk step (Makes before after lane entry) → IfOk step (Counts before after lane) → OnErr step (after ≡ before)
    → IsMoved before after lane (after_step was (ended_of after.script after.journal lane) step)
moved {E} before after lane was entry (Ok More) is home script made counts err =
    let zero : was.decided + 0 ≡ was.decided = omega arith in
    subst (λ d. IsMoved before after lane (numbers (was.entered + 1) d (ended_of after.script after.journal lane) None)) zero
    (enters before after lane 0 was is counts)
moved {E} before after lane was entry (Ok (step.Work work)) is home script made counts err =
    gives before after lane was (Some work.line) is script counts.1 counts.2
moved {E} before after lane was entry (Ok Ended) is home script made counts err =
    stays before after lane was is (as_it_was before after lane entry made)
moved {E} before after lane was entry (Err e) is home script made counts err = stays before after lane was is err

abbrev pub seen : ℕ → LaneNumbers → SeenTurn
seen lane numbers = record { lane = lane; numbers = numbers }

-- What the numbers of the lane say of the turn, where it had the lane's numbers before.
has_entered : (before after : Recorded) (lane works : ℕ) (was now : LaneNumbers) → was ≡ numbers_in before lane → now ≡ numbers_in after lane
    → counts.HasEntered before after lane works → TurnHasEntered before.script works (seen lane was) (seen lane now)
has_entered before after lane works was now is then has = record {
  lane = refl;
  entered = rw (is, then) has.own;
  decided = rw (is, then) has.own_decided;
  out = rw then has.outs.own;
  left = rw is has.left;
  ended = rw (is, then) has.own_ended;
}

-- so of a step
pub advanced : {E : Type 0} (inodes : List File) (cells : TableId) (before after : Recorded) (lane : ℕ) (was : LaneNumbers) (entry : Option Entry)
    (step : Result Step E)
    → was ≡ numbers_in before lane → was.out ≡ None → after.script ≡ before.script → after.words.id ≡ cells → inodes_in after ≡ inodes → IsSetUp before
    → IfOk step (Makes before after lane entry) → IfOk step (Counts before after lane) → OnErr step (after ≡ before)
    → IfOk step (Advanced before.script inodes cells (seen lane was) (seen lane (after_step was (ended_of after.script after.journal lane) step)))
advanced {E} inodes cells before after lane was entry (Ok More) is home script own files up made counts err =
    let step : Result Step E = Ok More in
    has_entered before after lane 0 was _ is (moved before after lane was entry step is home script made counts err).own counts
advanced {E} inodes cells before after lane was entry (Ok (step.Work work)) is home script own files up made counts err =
    let its = work_of before after lane entry work made in
    let same : ended_of after.script after.journal lane ≡ was.ended
    = ap (λ (s : Script). ended_of s after.journal lane) script
    ∙ ap (λ j. ended_of before.script j lane) counts.1 ∙ sym (ap (λ (n : LaneNumbers). n.ended) is) in
    record {
      turn = ap (λ n. seen lane (numbers was.entered was.decided n (Some work.line))) same;
      left = rw is counts.0;
      work_is = rw (← own, ← script, ← files) its.1.of;
      waits = its.0;
    }
advanced {E} inodes cells before after lane was entry (Ok Ended) is home script own files up made counts err =
    let same = as_it_was before after lane entry made in
    let ended : ended_of after.script after.journal lane ≡ was.ended
    = ap (λ (b : Recorded). ended_of b.script b.journal lane) same ∙ sym (ap (λ (n : LaneNumbers). n.ended) is) in (
      ap (λ n. seen lane (record was { ended = n })) ended,
      (ended ∙ ap (λ (n : LaneNumbers). n.ended) is ∙ counts up, home),
    )
advanced {E} inodes cells before after lane was entry (Err e) is home script own files up made counts err = tt

-- and of a work that came back
pub moved_back : {E : Type 0} (before after : Recorded) (lane : ℕ) (was : LaneNumbers) (step : Result Step E)
    → was ≡ numbers_in before lane → IfOk step (λ _. counts.HasEntered before after lane 1) → OnErr step (after ≡ before)
    → IsMoved before after lane (after_finish was (ended_of after.script after.journal lane) step)
moved_back {E} before after lane was (Ok step) is has err = enters before after lane 1 was is has
moved_back {E} before after lane was (Err e) is has err = stays before after lane was is err

pub came_back : {E : Type 0} (before after : Recorded) (lane : ℕ) (was : LaneNumbers) (step : Result Step E)
    → was ≡ numbers_in before lane → IfOk step (λ _. counts.HasEntered before after lane 1) → OnErr step (after ≡ before)
    → IfOk step (λ _. TurnHasEntered before.script 1 (seen lane was) (seen lane (after_finish was (ended_of after.script after.journal lane) step)))
came_back {E} before after lane was (Ok step) is has err =
    has_entered before after lane 1 was _ is (enters before after lane 1 was is has).own has
came_back {E} before after lane was (Err e) is has err = tt

pub err_same : {E : Type 0} (P : E → Type 0) (before after : Recorded) (step : Result Step E) → IfErr step (λ e. P e × (after ≡ before))
    → OnErr step (after ≡ before)
err_same {E} P before after (Ok step) err = tt
err_same {E} P before after (Err e) err = err.1

-- where memory ran out the turn is as it was
pub same_stepped : {E : Type 0} (before after : Recorded) (lane : ℕ) (was : LaneNumbers) (step : Result Step E) → was ≡ numbers_in before lane
    → OnErr step (after ≡ before) → OnErr step (after_step was (ended_of after.script after.journal lane) step ≡ was)
same_stepped {E} before after lane was (Ok step) is err = tt
same_stepped {E} before after lane was (Err e) is err =
    ap (λ n. record was { ended = n })
    (ap (λ (b : Recorded). ended_of b.script b.journal lane) err ∙ sym (ap (λ (n : LaneNumbers). n.ended) is))

pub same_finished : {E : Type 0} (before after : Recorded) (lane : ℕ) (was : LaneNumbers) (step : Result Step E) → was ≡ numbers_in before lane
    → OnErr step (after ≡ before) → OnErr step (after_finish was (ended_of after.script after.journal lane) step ≡ was)
same_finished {E} before after lane was (Ok step) is err = tt
same_finished {E} before after lane was (Err e) is err =
    ap (λ n. record was { ended = n })
    (ap (λ (b : Recorded). ended_of b.script b.journal lane) err ∙ sym (ap (λ (n : LaneNumbers). n.ended) is))
