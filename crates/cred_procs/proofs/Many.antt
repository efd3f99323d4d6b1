-- Tasks that end one after another, in the order in which they were created.
use Rattle.std.proofs.Common.{◌≡◌, ℕ, ◌+◌, ◌<◌, ◌≤◌, ◌==◌, Bool, true, false, not, ◌&&◌, ◌||◌, cond, List, [], ◌∷◌, ◌++◌, filter, flat_map, get_or, length, map}
use Rattle.std.proofs.Common.{nat_eq, take, Some, refl, sym, ap, ◌∙◌, arith}
use Rattle.std.specs.List.{IsDistinct, AllByRecursion, list_any}
use Rattle.std.specs.Option.{option_map_or, IsSome}
use Rattle.std.proofs.lemmas.Bool.{eqb-true, eq-eqb}
use Rattle.std.proofs.lemmas.Bool.Decides.{nat_tests}
use Rattle.std.proofs.lemmas.List.{take_more, length-map}
use Rattle.std.proofs.lemmas.List.Folds.{list_any-append}
use Rattle.std.proofs.lemmas.List.Sums.{length-filter, count_by-le-length}
use Rattle.cred_ids.specs.Limits.{TASKS}
use Rattle.cred_model.specs.State.{Task}
use Rattle.cred_model.specs.Ends.{is_task, is_thread_of, is_beside, numbers_of, survivors, left_by}
use Rattle.cred_procs.specs.Tasks.{task_in, those, members}
use Rattle.cred_procs.proofs.Ends.{is_other}

-- the numbers that these tasks refer to, task by task
abbrev pub numbers_in : List Task → List ℕ → List ℕ
numbers_in tasks these = flat_map (λ n. option_map_or numbers_of (task_in tasks n) []) these

-- the tasks without these
abbrev pub without_all : List Task → List ℕ → List Task
without_all tasks these = filter (λ t. not (list_any (λ n. t.number == n) these)) tasks

abbrev numbers : List Task → List ℕ
numbers ts = map (λ t. t.number) ts

or_false : (b : Bool) → (b || false) ≡ b
or_false true = refl
or_false false = refl

any-push : (test : ℕ → Bool) (ns : List ℕ) (n : ℕ) → list_any test (ns ++ n ∷ []) ≡ (list_any test ns || test n)
any-push test ns n = list_any-append test ns (n ∷ []) ∙ ap (λ (b : Bool). list_any test ns || b) (or_false (test n))

pub without_all-none : (ts : List Task) → without_all ts [] ≡ ts
without_all-none [] = refl
without_all-none (t ∷ ts) = ap (λ (us : List Task). t ∷ us) (without_all-none ts)

-- the tasks without one more
pub without_all-push : (ns : List ℕ) (n : ℕ) (ts : List Task) → without_all ts (ns ++ n ∷ []) ≡ survivors (is_task n) (without_all ts ns)
without_all-push ns n [] = refl
without_all-push ns n (t ∷ ts) =
    ap (λ (b : Bool). cond (not b) (t ∷ without_all ts (ns ++ n ∷ [])) (without_all ts (ns ++ n ∷ []))) (any-push (λ m. t.number == m) ns n)
    ∙ step (list_any (λ m. t.number == m) ns) (t.number == n) refl (without_all-push ns n ts)
  where
    step : (a b : Bool) → (t.number == n) ≡ b → without_all ts (ns ++ n ∷ []) ≡ survivors (is_task n) (without_all ts ns)
        → cond (not (a || b)) (t ∷ without_all ts (ns ++ n ∷ [])) (without_all ts (ns ++ n ∷ []))
        ≡ survivors (is_task n) (cond (not a) (t ∷ without_all ts ns) (without_all ts ns))
    step true b is rest = rest
    step false true is rest =
        rest ∙ sym (ap (λ (c : Bool). cond (not c) (t ∷ survivors (is_task n) (without_all ts ns)) (survivors (is_task n) (without_all ts ns))) is)
    step false false is rest =
        ap (λ (us : List Task). t ∷ us) rest
        ∙ sym (ap (λ (c : Bool). cond (not c) (t ∷ survivors (is_task n) (without_all ts ns)) (survivors (is_task n) (without_all ts ns))) is)

pub without_all-more : (ns : List ℕ) (i d : ℕ) (ts : List Task) → i < length ns
    → without_all ts (take (i + 1) ns) ≡ survivors (is_task (get_or ns i d)) (without_all ts (take i ns))
without_all-more ns i d ts within = ap (without_all ts) (take_more ns i d within) ∙ without_all-push (take i ns) (get_or ns i d) ts

-- ---- the tasks that pass a test

abbrev Other : ℕ → ℕ → Type 0
Other k n = nat_eq k n ≡ false

-- A number that none of the tasks has is none of theirs who pass the test.
others-those : (passes : Task → Bool) (k : ℕ) (ts : List Task) → AllByRecursion (Other k) (numbers ts) → AllByRecursion (Other k) (those passes ts)
others-those passes k [] others = tt
others-those passes k (t ∷ ts) others = step (passes t) (others-those passes k ts others.1)
  where
    step : (b : Bool) → AllByRecursion (Other k) (those passes ts) → AllByRecursion (Other k) (numbers (cond b (t ∷ filter passes ts) (filter passes ts)))
    step true rest = (others.0, rest)
    step false rest = rest

-- The first task is none of these, so that the numbers that these refer to are those of the others.
numbers-others : (t : Task) (ts : List Task) (ns : List ℕ) → AllByRecursion (Other t.number) ns → numbers_in (t ∷ ts) ns ≡ numbers_in ts ns
numbers-others t ts [] others = refl
numbers-others t ts (n ∷ ns) others =
    ap (λ (b : Bool). option_map_or numbers_of (cond b (Some t) (task_in ts n)) [] ++ numbers_in (t ∷ ts) ns) others.0
    ∙ ap (λ (rest : List ℕ). option_map_or numbers_of (task_in ts n) [] ++ rest) (numbers-others t ts ns others.1)

-- What the tasks that pass a test refer to, found by their numbers.
pub numbers-those : (passes : Task → Bool) (ts : List Task) → IsDistinct nat_eq (numbers ts) → numbers_in ts (those passes ts) ≡ left_by passes ts
unfolding IsDistinct
numbers-those passes [] distinct = refl
numbers-those passes (t ∷ ts) distinct =
    step (passes t) (numbers-others t ts (those passes ts) (others-those passes t.number ts distinct.0) ∙ numbers-those passes ts distinct.1)
  where
    step : (b : Bool) → numbers_in (t ∷ ts) (those passes ts) ≡ left_by passes ts
        → numbers_in (t ∷ ts) (numbers (cond b (t ∷ filter passes ts) (filter passes ts)))
        ≡ flat_map numbers_of (cond b (t ∷ filter passes ts) (filter passes ts))
    step true rest =
        ap (λ (b : Bool). option_map_or numbers_of (cond b (Some t) (task_in ts t.number)) [] ++ numbers_in (t ∷ ts) (those passes ts))
        (eq-eqb t.number t.number refl)
        ∙ ap (λ (ns : List ℕ). numbers_of t ++ ns) rest
    step false rest = rest

-- One number more, which none of the tasks has, takes away none.
without-other : (k : ℕ) (ns : List ℕ) (ts : List Task) → AllByRecursion (Other k) (numbers ts) → without_all ts (k ∷ ns) ≡ without_all ts ns
without-other k ns [] others = refl
without-other k ns (t ∷ ts) others =
    let other : (t.number == k) ≡ false = grind (arith, nat_tests, others.0) in
    ap (λ (b : Bool). cond (not (b || list_any (λ n. t.number == n) ns)) (t ∷ without_all ts (k ∷ ns)) (without_all ts (k ∷ ns))) other
    ∙ ap (λ (us : List Task). cond (not (list_any (λ n. t.number == n) ns)) (t ∷ us) us) (without-other k ns ts others.1)

none_among : (k : ℕ) (ns : List ℕ) → AllByRecursion (Other k) ns → list_any (λ n. k == n) ns ≡ false
none_among k [] others = refl
none_among k (n ∷ ns) others = ap (λ (b : Bool). b || list_any (λ m. k == m) ns) others.0 ∙ none_among k ns others.1

-- The tasks without those that pass a test are the others.
pub without-those : (passes : Task → Bool) (ts : List Task) → IsDistinct nat_eq (numbers ts) → without_all ts (those passes ts) ≡ survivors passes ts
unfolding IsDistinct
without-those passes [] distinct = refl
without-those passes (t ∷ ts) distinct = step (passes t) (without-those passes ts distinct.1)
  where
    step : (b : Bool) → without_all ts (those passes ts) ≡ survivors passes ts
        → without_all (t ∷ ts) (numbers (cond b (t ∷ filter passes ts) (filter passes ts))) ≡ cond (not b) (t ∷ survivors passes ts) (survivors passes ts)
    step true rest =
        ap (λ (b : Bool). cond (not (b || list_any (λ n. t.number == n) (those passes ts)))
        (t ∷ without_all ts (t.number ∷ those passes ts)) (without_all ts (t.number ∷ those passes ts))) (eq-eqb t.number t.number refl)
        ∙ without-other t.number (those passes ts) ts distinct.0 ∙ rest
    step false rest =
        ap (λ (b : Bool). cond (not b) (t ∷ without_all ts (those passes ts)) (without_all ts (those passes ts)))
        (none_among t.number (those passes ts) (others-those passes t.number ts distinct.0))
        ∙ ap (λ (us : List Task). t ∷ us) rest

-- Those that pass a test are no more than there are.
pub few_those : (passes : Task → Bool) (ts : List Task) (tasks : List ℕ) → tasks ≡ those passes ts → length ts ≤ TASKS → length tasks ≤ TASKS
few_those passes ts tasks these few =
    let many = ap length these ∙ length-map (filter passes ts) (λ (t : Task). t.number) ∙ length-filter passes ts in
    omega (arith, few, many, count_by-le-length passes ts)

-- ---- one task

none-those : (k task : ℕ) (ts : List Task) → (k == task) ≡ true → AllByRecursion (Other k) (numbers ts) → those (is_task task) ts ≡ []
none-those k task [] same others = refl
none-those k task (t ∷ ts) same others =
    let other : (t.number == task) ≡ false = grind (arith, nat_tests, same, others.0) in
    ap (λ (b : Bool). numbers (cond b (t ∷ filter (is_task task) ts) (filter (is_task task) ts))) other ∙ none-those k task ts same others.1

-- Only one task has its number.
pub those-task : (task : ℕ) (ts : List Task) → IsDistinct nat_eq (numbers ts) → IsSome (task_in ts task) → task ∷ [] ≡ those (is_task task) ts
unfolding IsDistinct
those-task task [] distinct alive = cc
those-task task (t ∷ ts) distinct alive = step (t.number == task) refl alive (those-task task ts distinct.1)
  where
    step : (b : Bool) → (t.number == task) ≡ b → IsSome (cond b (Some t) (task_in ts task)) → (IsSome (task_in ts task) → task ∷ [] ≡ those (is_task task) ts)
        → task ∷ [] ≡ numbers (cond b (t ∷ filter (is_task task) ts) (filter (is_task task) ts))
    step true same alive rest =
        ap (λ (n : ℕ). n ∷ []) (sym (eqb-true t.number task same))
        ∙ sym (ap (λ (ns : List ℕ). t.number ∷ ns) (none-those t.number task ts same distinct.0))
    step false other alive rest = rest alive

-- The other threads of a process, found by their numbers.
pub those-beside : (owner : Task) (ts : List Task) → those (is_beside owner) ts ≡ filter (is_other owner.number) (members ts owner.process)
those-beside owner [] = refl
those-beside owner (t ∷ ts) = step (t.process == owner.process) (t.number == owner.number) refl (those-beside owner ts)
  where
    step : (a b : Bool) → (t.number == owner.number) ≡ b → those (is_beside owner) ts ≡ filter (is_other owner.number) (members ts owner.process)
        → numbers (cond (a && not b) (t ∷ filter (is_beside owner) ts) (filter (is_beside owner) ts))
        ≡ filter (is_other owner.number) (numbers (cond a (t ∷ filter (is_thread_of owner.process) ts) (filter (is_thread_of owner.process) ts)))
    step false b is rest = rest
    step true true is rest =
        rest
        ∙ sym
        (ap
        (λ (c : Bool). cond (not c) (t.number ∷ filter (is_other owner.number) (members ts owner.process))
        (filter (is_other owner.number) (members ts owner.process)))
        is)
    step true false is rest =
        ap (λ (ns : List ℕ). t.number ∷ ns) rest
        ∙ sym
        (ap
        (λ (c : Bool). cond (not c) (t.number ∷ filter (is_other owner.number) (members ts owner.process))
        (filter (is_other owner.number) (members ts owner.process)))
        is)
