-- What is left of the tasks, and of the threads that are kept of each process, when a task ends or
-- is created.
use Rattle.std.proofs.Common.{◌≡◌, ℕ, ◌<◌, ◌≤◌, ◌==◌, Bool, true, false, not, cond, List, [], ◌∷◌, ◌++◌, filter, find, is_some, length, map, nat_eq, Some, refl}
use Rattle.std.proofs.Common.{sym, ap, ◌∙◌, arith, append-nil, length-append}
use Rattle.std.specs.List.{IsDistinct, AllByRecursion}
use Rattle.std.proofs.lemmas.Bool.Decides.{nat_tests}
use Rattle.std.proofs.lemmas.List.{map-append}
use Rattle.std.proofs.lemmas.List.Elements.{All-filter, All-push, filter-append}
use Rattle.std.proofs.lemmas.List.Filters.{length-filter_both}
use Rattle.cred_ids.specs.Limits.{TASKS, DEPTH}
use Rattle.cred_model.specs.State.{Task}
use Rattle.cred_model.specs.Ends.{is_task, is_thread_of, survivors}
use Rattle.cred_procs.specs.declared.processes.Processes.{Processes}
use Rattle.cred_procs.specs.Kept.{threads_at, AreGrouped}
use Rattle.cred_procs.specs.Tasks.{members, has_process, task_in}
use Rattle.cred_procs.proofs.Changes.{IsShallow}

abbrev numbers : List Task → List ℕ
numbers ts = map (λ t. t.number) ts

flipped : (a b : ℕ) (test : Bool) → nat_eq a b ≡ test → nat_eq b a ≡ test
flipped a b test is = grind (arith, nat_tests)

with_head : (b : Bool) (t : Task) (xs ys : List Task) → numbers xs ≡ numbers ys → numbers (cond b (t ∷ xs) xs) ≡ numbers (cond b (t ∷ ys) ys)
with_head true t xs ys same = ap (λ (ns : List ℕ). t.number ∷ ns) same
with_head false t xs ys same = same

-- ---- a task ends

module _ (task : ℕ) where
  abbrev pub is_other : ℕ → Bool
  is_other n = not (n == task)

  -- the other threads of a process are its threads among the other tasks
  pub members-survivors : (p : ℕ) (ts : List Task) → members (survivors (is_task task) ts) p ≡ filter is_other (members ts p)
  members-survivors p [] = refl
  members-survivors p (t ∷ ts) = step (t.number == task) (t.process == p) refl refl (members-survivors p ts)
    where
      step : (a b : Bool) → (t.number == task) ≡ a → (t.process == p) ≡ b → members (survivors (is_task task) ts) p ≡ filter is_other (members ts p)
          → numbers (filter (is_thread_of p) (cond (not a) (t ∷ survivors (is_task task) ts) (survivors (is_task task) ts)))
          ≡ filter is_other (numbers (cond b (t ∷ filter (is_thread_of p) ts) (filter (is_thread_of p) ts)))
      step true true ended in_it rest =
          rest ∙ sym (ap (λ (c : Bool). cond (not c) (t.number ∷ filter is_other (members ts p)) (filter is_other (members ts p))) ended)
      step true false ended apart rest = rest
      step false true stays in_it rest =
          ap
          (λ (c : Bool). numbers (cond c (t ∷ filter (is_thread_of p) (survivors (is_task task) ts)) (filter (is_thread_of p) (survivors (is_task task) ts))))
          in_it
          ∙ ap (λ (ns : List ℕ). t.number ∷ ns) rest
          ∙ sym (ap (λ (c : Bool). cond (not c) (t.number ∷ filter is_other (members ts p)) (filter is_other (members ts p))) stays)
      step false false stays apart rest =
          ap
          (λ (c : Bool). numbers (cond c (t ∷ filter (is_thread_of p) (survivors (is_task task) ts)) (filter (is_thread_of p) (survivors (is_task task) ts))))
          apart ∙ rest

  -- no other task has the number of the first
  none_left : (k : ℕ) (ts : List Task) → (k == task) ≡ true → AllByRecursion (λ n. nat_eq k n ≡ false) (numbers ts) → survivors (is_task task) ts ≡ ts
  none_left k [] same apart = refl
  none_left k (t ∷ ts) same apart =
      let other : (t.number == task) ≡ false = grind (arith, nat_tests, same, apart.0) in
      ap (λ (b : Bool). cond (not b) (t ∷ survivors (is_task task) ts) (survivors (is_task task) ts)) other
      ∙ ap (λ (us : List Task). t ∷ us) (none_left k ts same apart.1)

  -- A process that the task isn't of keeps its threads.
  pub members-other : (p : ℕ) (ended : Task) (ts : List Task) → task_in ts task ≡ Some ended → IsDistinct nat_eq (numbers ts) → (ended.process == p) ≡ false
      → members (survivors (is_task task) ts) p ≡ members ts p
  unfolding IsDistinct
  members-other p ended [] found distinct apart = refl
  members-other p ended (t ∷ ts) found distinct apart =
      step (t.number == task) refl found (λ there. members-other p ended ts there distinct.1 apart)
    where
      step : (a : Bool) → (t.number == task) ≡ a → cond a (Some t) (task_in ts task) ≡ Some ended
          → (task_in ts task ≡ Some ended → members (survivors (is_task task) ts) p ≡ members ts p)
          → numbers (filter (is_thread_of p) (cond (not a) (t ∷ survivors (is_task task) ts) (survivors (is_task task) ts))) ≡ members (t ∷ ts) p
      step true same first rest =
          let is : t ≡ ended = cc in
          let here : (t.process == p) ≡ false = ap (λ (u : Task). u.process == p) is ∙ apart in
          ap (λ (us : List Task). members us p) (none_left t.number ts same distinct.0)
          ∙ sym (ap (λ (b : Bool). numbers (cond b (t ∷ filter (is_thread_of p) ts) (filter (is_thread_of p) ts))) here)
      step false other later rest =
          with_head (t.process == p) t (filter (is_thread_of p) (survivors (is_task task) ts)) (filter (is_thread_of p) ts) (rest later)

  pub kept_survivors : (ended : Task) (ts : List Task) (before after : Processes) → AreGrouped ts before
      → IsDistinct nat_eq (numbers (survivors (is_task task) ts))
      → task_in ts task ≡ Some ended
      → ((p : ℕ) → threads_at after p ≡ cond (p == ended.process) (filter is_other (threads_at before p)) (threads_at before p))
      → AreGrouped (survivors (is_task task) ts) after
  kept_survivors ended ts before after kept distinct found threads = record {
    sound = record {
      apart = distinct;
      few = omega (arith, kept.sound.few, length-filter_both (λ (t : Task). is_other t.number) (λ (t : Task). not (is_other t.number)) (λ t. refl) ts);
      shallow = All-filter (λ (t : Task). is_other t.number) IsShallow ts kept.sound.shallow;
    };
    grouped = λ p. threads p ∙ grouped p (p == ended.process) refl;
  }
    where
      grouped : (p : ℕ) (b : Bool) → (p == ended.process) ≡ b
          → cond b (filter is_other (threads_at before p)) (threads_at before p) ≡ members (survivors (is_task task) ts) p
      grouped p true same = ap (filter is_other) (kept.grouped p) ∙ sym (members-survivors p ts)
      grouped p false other = kept.grouped p ∙ sym (members-other p ended ts found kept.sound.apart (flipped p ended.process false other))

-- ---- a task is created

pub members-added : (p : ℕ) (t : Task) (ts : List Task) → members (ts ++ t ∷ []) p ≡ cond (p == t.process) (members ts p ++ t.number ∷ []) (members ts p)
members-added p t ts =
    ap numbers (filter-append (is_thread_of p) ts (t ∷ []))
    ∙ map-append (λ (u : Task). u.number) (filter (is_thread_of p) ts) (filter (is_thread_of p) (t ∷ []))
    ∙ step (p == t.process) (t.process == p) (flipped p t.process _ refl)
  where
    step : (b c : Bool) → c ≡ b → members ts p ++ numbers (cond c (t ∷ []) []) ≡ cond b (members ts p ++ t.number ∷ []) (members ts p)
    step true true same = refl
    step true false same = cc
    step false true same = cc
    step false false same = append-nil (members ts p)

pub kept_added : (t : Task) (ts : List Task) (before after : Processes) → AreGrouped ts before → length ts < TASKS → length t.overrides ≤ DEPTH
    → IsDistinct nat_eq (numbers (ts ++ t ∷ []))
    → ((p : ℕ) → threads_at after p ≡ cond (p == t.process) (threads_at before p ++ t.number ∷ []) (threads_at before p))
    → AreGrouped (ts ++ t ∷ []) after
kept_added t ts before after kept room low distinct threads = record {
  sound = record {
    apart = distinct;
    few = omega (arith, room, length-append ts (t ∷ []));
    shallow = All-push IsShallow ts t kept.sound.shallow low;
  };
  grouped = λ p.
      threads p
      ∙ ap (λ (ns : List ℕ). cond (p == t.process) (ns ++ t.number ∷ []) ns) (kept.grouped p)
      ∙ sym (members-added p t ts);
}

-- ---- whether a process has a thread

any_member : (p : ℕ) (ts : List Task) → has_process ts p ≡ not (nat_eq (length (members ts p)) 0)
any_member p [] = refl
any_member p (t ∷ ts) = step (t.process == p) (any_member p ts)
  where
    step : (b : Bool) → has_process ts p ≡ not (nat_eq (length (members ts p)) 0)
        → is_some (cond b (Some t) (find (is_thread_of p) ts))
        ≡ not (nat_eq (length (numbers (cond b (t ∷ filter (is_thread_of p) ts) (filter (is_thread_of p) ts)))) 0)
    step true rest = grind (arith, nat_tests)
    step false rest = rest

pub has_process-members : (p : ℕ) (ts : List Task) (threads : List ℕ) → threads ≡ members ts p → not (nat_eq (length threads) 0) ≡ has_process ts p
has_process-members p ts threads is = ap (λ (ns : List ℕ). not (nat_eq (length ns) 0)) is ∙ sym (any_member p ts)
