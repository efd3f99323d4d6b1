-- How the references that stand are counted while tasks, holds and prepared labels change.
use Rattle.std.proofs.Common.{◌≡◌, ◌≢◌, ℕ, zero, suc, ◌+◌, ◌<◌, Bool, true, false, not, cond, ◌==◌, List, [], ◌∷◌, ◌++◌, map, find, remove, slice_get, Some}
use Rattle.std.proofs.Common.{refl, ap, ◌∙◌, subst, arith}
use Rattle.std.specs.List.{All, AllPairs, count_by, filter, flat_map}
use Rattle.std.proofs.lemmas.Bool.{eqb-true}
use Rattle.std.proofs.lemmas.Bool.Decides.{nat_tests}
use Rattle.std.proofs.lemmas.Grind.{flat_map-append}
use Rattle.std.proofs.lemmas.List.{map-append}
use Rattle.std.proofs.lemmas.List.Elements.{All-head, All-tail}
use Rattle.cred_model.specs.State.{State, Task, OpenFile, Hold, Prepared, Changed}
use Rattle.cred_model.specs.Ends.{numbers_of, survivors, left_by, ended}
use Rattle.cred_model.specs.Moves.{updated, with_current, altered_at, with_change}
use Rattle.cred_model.specs.Slots.{in_use, kept}
use Rattle.cred_slots.specs.Table.{IsSameBag}
use Rattle.cred_slots.proofs.Counting.{count-cons, count-append}
use Rattle.cred_tables.proofs.Bags.{one_if, counts_itself}

abbrev pub currents : List Task → List ℕ
currents tasks = map (λ t. t.current) tasks

abbrev pub overrides : List Task → List ℕ
overrides tasks = flat_map (λ t. t.overrides) tasks

abbrev pub openers : List OpenFile → List ℕ
openers files = map (λ f. f.opener) files

abbrev pub numbers : List Hold → List ℕ
numbers holds = map (λ h. h.number) holds

abbrev pub bases : List Prepared → List ℕ
bases prepared = map (λ p. p.base) prepared

-- each kind of thing that refers is counted by itself
pub count-in_use : (test : ℕ → Bool) (s : State)
    → count_by test (in_use s)
    ≡ count_by test (currents s.tasks) + count_by test (overrides s.tasks) + count_by test (openers s.files) + count_by test (numbers s.holds)
    + count_by test (bases s.prepared)
count-in_use test s =
    let labels : List ℕ = numbers s.holds ++ (bases s.prepared ++ []) in
    let first = count-append test (currents s.tasks) (overrides s.tasks ++ (openers s.files ++ labels)) in
    let second = count-append test (overrides s.tasks) (openers s.files ++ labels) in
    let third = count-append test (openers s.files) labels in
    let fourth = count-append test (numbers s.holds) (bases s.prepared ++ []) in
    let fifth : count_by test (bases s.prepared ++ []) ≡ count_by test (bases s.prepared) + 0 = count-append test (bases s.prepared) [] in
    omega (arith, first, second, third, fourth, fifth)

-- ---- one thing more, or one less, where each refers to one number

count-push : {X : Type 0} (f : X → ℕ) (test : ℕ → Bool) (xs : List X) (x : X)
    → count_by test (map f (xs ++ x ∷ [])) ≡ count_by test (map f xs) + one_if (test (f x))
count-push f test xs x =
    ap (λ ns. count_by test ns) (map-append f xs (x ∷ []))
    ∙ count-append test (map f xs) (f x ∷ [])
    ∙ ap (λ n. count_by test (map f xs) + n) (count-cons test (f x) [] ∙ omega arith)

count-remove : {X : Type 0} (f : X → ℕ) (test : ℕ → Bool) (xs : List X) (place : ℕ) (x : X) → slice_get xs place ≡ Some x
    → count_by test (map f xs) ≡ count_by test (map f (remove xs place)) + one_if (test (f x))
count-remove f test [] place x there = cc
count-remove f test (y ∷ ys) zero x there =
    let one : y ≡ x = cc in
    let all = count-cons test (f y) (map f ys) in
    let same : one_if (test (f y)) ≡ one_if (test (f x)) = ap (λ z. one_if (test (f z))) one in
    omega (arith, all, same)
count-remove f test (y ∷ ys) (suc place) x there =
    let all = count-cons test (f y) (map f ys) in
    let left = count-cons test (f y) (map f (remove ys place)) in
    let rest = count-remove f test ys place x there in
    omega (arith, all, left, rest)

-- where each test passes one more by this number
one_more : {xs ys : List ℕ} {n : ℕ} → ((test : ℕ → Bool) → count_by test xs ≡ count_by test ys + one_if (test n)) → IsSameBag xs (n ∷ ys)
one_more {ys = ys} {n = n} more = record {
  counts = λ test.
      let all = more test in
      let one = count-cons test n ys in
      omega (arith, all, one);
}

-- a first task overrides nothing
pub in_use-task : (s : State) (t : Task) → t.overrides ≡ []
    → IsSameBag (in_use (record s { tasks = s.tasks ++ t ∷ [] })) (t.current ∷ in_use s)
in_use-task s t none =
    one_more
    (λ test.
    let after = count-in_use test (record s { tasks = s.tasks ++ t ∷ [] }) in
    let before = count-in_use test s in
    let more = count-push (λ (u : Task). u.current) test s.tasks t in
    let same : count_by test (overrides (s.tasks ++ t ∷ [])) ≡ count_by test (overrides s.tasks)
    = ap (λ ns. count_by test ns) (flat_map-append (λ (u : Task). u.overrides) s.tasks (t ∷ []))
    ∙ count-append test (overrides s.tasks) (overrides (t ∷ []))
    ∙ ap (λ (ns : List ℕ). count_by test (overrides s.tasks) + count_by test (ns ++ [])) none ∙ omega arith in
    omega (arith, after, before, more, same))

pub in_use-file : (s : State) (f : OpenFile) → IsSameBag (in_use (record s { files = s.files ++ f ∷ [] })) (f.opener ∷ in_use s)
in_use-file s f =
    one_more
    (λ test.
    let after = count-in_use test (record s { files = s.files ++ f ∷ [] }) in
    let before = count-in_use test s in
    let more = count-push (λ (g : OpenFile). g.opener) test s.files f in
    omega (arith, after, before, more))

pub in_use-closed : (s : State) (place : ℕ) (f : OpenFile) → slice_get s.files place ≡ Some f
    → IsSameBag (in_use s) (f.opener ∷ in_use (record s { files = remove s.files place }))
in_use-closed s place f there =
    one_more
    (λ test.
    let after = count-in_use test (record s { files = remove s.files place }) in
    let before = count-in_use test s in
    let less = count-remove (λ (g : OpenFile). g.opener) test s.files place f there in
    omega (arith, after, before, less))

pub in_use-hold : (s : State) (h : Hold) → IsSameBag (in_use (record s { holds = s.holds ++ h ∷ [] })) (h.number ∷ in_use s)
in_use-hold s h =
    one_more
    (λ test.
    let after = count-in_use test (record s { holds = s.holds ++ h ∷ [] }) in
    let before = count-in_use test s in
    let more = count-push (λ (g : Hold). g.number) test s.holds h in
    omega (arith, after, before, more))

pub in_use-unhold : (s : State) (place : ℕ) (h : Hold) → slice_get s.holds place ≡ Some h
    → IsSameBag (in_use s) (h.number ∷ in_use (record s { holds = remove s.holds place }))
in_use-unhold s place h there =
    one_more
    (λ test.
    let after = count-in_use test (record s { holds = remove s.holds place }) in
    let before = count-in_use test s in
    let less = count-remove (λ (g : Hold). g.number) test s.holds place h there in
    omega (arith, after, before, less))

pub in_use-label : (s : State) (p : Prepared) → IsSameBag (in_use (record s { prepared = s.prepared ++ p ∷ [] })) (p.base ∷ in_use s)
in_use-label s p =
    one_more
    (λ test.
    let after = count-in_use test (record s { prepared = s.prepared ++ p ∷ [] }) in
    let before = count-in_use test s in
    let more = count-push (λ (q : Prepared). q.base) test s.prepared p in
    omega (arith, after, before, more))

pub in_use-unlabel : (s : State) (place : ℕ) (p : Prepared) → slice_get s.prepared place ≡ Some p
    → IsSameBag (in_use s) (p.base ∷ in_use (record s { prepared = remove s.prepared place }))
in_use-unlabel s place p there =
    one_more
    (λ test.
    let after = count-in_use test (record s { prepared = remove s.prepared place }) in
    let before = count-in_use test s in
    let less = count-remove (λ (q : Prepared). q.base) test s.prepared place p there in
    omega (arith, after, before, less))

-- ---- another current credential

-- other tasks keep theirs
with_current-others : (ts : List Task) (task number : ℕ) → All (λ (t : Task). task ≢ t.number) ts → with_current ts task number ≡ ts
with_current-others [] task number differ = refl
with_current-others (t ∷ ts) task number differ =
    let ne : task ≢ t.number = All-head (λ (u : Task). task ≢ u.number) t ts differ in
    let other : (t.number == task) ≡ false = grind (arith, nat_tests) in
    ap (λ b. cond b (record t { current = number }) t ∷ with_current ts task number) other
    ∙ ap (λ us. t ∷ us) (with_current-others ts task number (All-tail (λ (u : Task). task ≢ u.number) t ts differ))

overrides-updated : (t : Task) (task number : ℕ) → (updated task number t).overrides ≡ t.overrides
overrides-updated t task number = by (t.number == task)
  where
    by : (test : Bool) → (cond test (record t { current = number }) t).overrides ≡ t.overrides
    by true = refl
    by false = refl

overrides-with_current : (ts : List Task) (task number : ℕ) → overrides (with_current ts task number) ≡ overrides ts
overrides-with_current [] task number = refl
overrides-with_current (t ∷ ts) task number =
    ap (λ (ns : List ℕ). ns ++ overrides (with_current ts task number)) (overrides-updated t task number)
    ∙ ap (λ (ns : List ℕ). t.overrides ++ ns) (overrides-with_current ts task number)

-- no two tasks have one number
abbrev pub Differ : List Task → Type 0
Differ tasks = AllPairs (λ (a b : Task). a.number ≢ b.number) tasks

currents-at : (test : ℕ → Bool) (same : Bool) (t u : Task) (ts : List Task) (task number : ℕ) → (t.number == task) ≡ same
    → Differ (t ∷ ts) → cond same (Some t) (find (λ v. v.number == task) ts) ≡ Some u
    → ((find (λ v. v.number == task) ts ≡ Some u) → count_by test (currents (with_current ts task number)) + one_if (test u.current)
    ≡ count_by test (currents ts) + one_if (test number))
    → count_by test (currents (cond same (record t { current = number }) t ∷ with_current ts task number)) + one_if (test u.current)
    ≡ count_by test (currents (t ∷ ts)) + one_if (test number)
currents-at test true t u ts task number is differ found rest =
    let one : t ≡ u = cc in
    let named : t.number ≡ task = eqb-true t.number task is in
    let apart : All (λ (v : Task). t.number ≢ v.number) ts = λ k d lt. differ zero (suc k) d (omega arith) (omega arith) in
    let others : with_current ts task number ≡ ts
    = with_current-others ts task number (subst (λ (n : ℕ). All (λ (v : Task). n ≢ v.number) ts) named apart) in
    let before = count-cons test t.current (currents ts) in
    let after : count_by test (number ∷ currents (with_current ts task number)) ≡ one_if (test number) + count_by test (currents ts)
    = count-cons test number (currents (with_current ts task number)) ∙ ap (λ us. one_if (test number) + count_by test (currents us)) others in
    let same_current : one_if (test t.current) ≡ one_if (test u.current) = ap (λ (v : Task). one_if (test v.current)) one in
    omega (arith, before, after, same_current)
currents-at test false t u ts task number is differ found rest =
    let before = count-cons test t.current (currents ts) in
    let after = count-cons test t.current (currents (with_current ts task number)) in
    let others = rest found in
    omega (arith, before, after, others)

currents-with_current : (test : ℕ → Bool) (tasks : List Task) (task number : ℕ) (u : Task) → Differ tasks
    → find (λ t. t.number == task) tasks ≡ Some u
    → count_by test (currents (with_current tasks task number)) + one_if (test u.current) ≡ count_by test (currents tasks) + one_if (test number)
currents-with_current test [] task number u differ found = cc
currents-with_current test (t ∷ ts) task number u differ found =
    currents-at test (t.number == task) t u ts task number refl differ found
    (λ there. currents-with_current test ts task number u (λ i j d lt h. differ (suc i) (suc j) d (omega arith) (omega arith)) there)

pub in_use-updated : (s : State) (task number : ℕ) (u : Task) → Differ s.tasks → find (λ t. t.number == task) s.tasks ≡ Some u
    → IsSameBag (u.current ∷ in_use (record s { tasks = with_current s.tasks task number })) (number ∷ in_use s)
in_use-updated s task number u differ found = record {
  counts = λ test.
      let new = record s { tasks = with_current s.tasks task number } in
      let after = count-in_use test new in
      let before = count-in_use test s in
      let change = currents-with_current test s.tasks task number u differ found in
      let same : count_by test (overrides new.tasks) ≡ count_by test (overrides s.tasks)
      = ap (λ ns. count_by test ns) (overrides-with_current s.tasks task number) in
      let gone = count-cons test u.current (in_use new) in
      let one = count-cons test number (in_use s) in
      omega (arith, after, before, change, same, gone, one);
}

-- ---- tasks that end

count-ended : (test : ℕ → Bool) (ends : Task → Bool) (tasks : List Task)
    → count_by test (currents tasks) + count_by test (overrides tasks)
    ≡ count_by test (left_by ends tasks) + (count_by test (currents (survivors ends tasks)) + count_by test (overrides (survivors ends tasks)))
count-ended test ends [] = refl
count-ended test ends (t ∷ ts) = by (ends t) (count-ended test ends ts)
  where
    by : (b : Bool)
        → count_by test (currents ts) + count_by test (overrides ts)
        ≡ count_by test (left_by ends ts) + (count_by test (currents (survivors ends ts)) + count_by test (overrides (survivors ends ts)))
        → count_by test (currents (t ∷ ts)) + count_by test (overrides (t ∷ ts))
        ≡ count_by test (flat_map numbers_of (cond b (t ∷ filter ends ts) (filter ends ts)))
        + (count_by test (currents (cond (not b) (t ∷ survivors ends ts) (survivors ends ts))) + count_by test
        (overrides (cond (not b) (t ∷ survivors ends ts) (survivors ends ts))))
    by true rest =
        let one = count-cons test t.current (currents ts) in
        let more = count-append test t.overrides (overrides ts) in
        let left = count-append test (numbers_of t) (left_by ends ts) in
        let first = count-cons test t.current t.overrides in
        omega (arith, rest, one, more, left, first)
    by false rest =
        let one = count-cons test t.current (currents ts) in
        let more = count-append test t.overrides (overrides ts) in
        let on = count-cons test t.current (currents (survivors ends ts)) in
        let still = count-append test t.overrides (overrides (survivors ends ts)) in
        omega (arith, rest, one, more, on, still)

-- what those which end referred to, and what is still referred to
pub in_use-ended : (s : State) (ends : Task → Bool) → IsSameBag (in_use s) (left_by ends s.tasks ++ in_use (ended ends s))
in_use-ended s ends = record {
  counts = λ test.
      let after = count-in_use test (ended ends s) in
      let before = count-in_use test s in
      let each = count-ended test ends s.tasks in
      let all = count-append test (left_by ends s.tasks) (in_use (ended ends s)) in
      omega (arith, after, before, each, all);
}

-- ---- a change of a prepared label

with_change-field : (f : Prepared → ℕ) (prepared : List Prepared) (label : ℕ) (to : Changed) → ((p : Prepared) → f (altered_at label to p) ≡ f p)
    → map f (with_change prepared label to) ≡ map f prepared
with_change-field f [] label to same = refl
with_change-field f (p ∷ ps) label to same =
    ap (λ (n : ℕ). n ∷ map f (with_change ps label to)) (same p)
    ∙ ap (λ (ns : List ℕ). f p ∷ ns) (with_change-field f ps label to same)

pub in_use-altered : (s : State) (label : ℕ) (to : Changed) → in_use (record s { prepared = with_change s.prepared label to }) ≡ in_use s
in_use-altered s label to =
    ap (λ (ns : List ℕ). currents s.tasks ++ (overrides s.tasks ++ (openers s.files ++ (numbers s.holds ++ (ns ++ [])))))
    (with_change-field (λ (p : Prepared). p.base) s.prepared label to (λ p. by p (p.label == label)))
  where
    by : (p : Prepared) (test : Bool) → (cond test (record p { changed = Some to }) p).base ≡ p.base
    by p true = refl
    by p false = refl

pub kept-altered : (s : State) (label : ℕ) (to : Changed) → kept (record s { prepared = with_change s.prepared label to }) ≡ kept s
kept-altered s label to = with_change-field (λ (p : Prepared). p.slot) s.prepared label to (λ p. by p (p.label == label))
  where
    by : (p : Prepared) (test : Bool) → (cond test (record p { changed = Some to }) p).slot ≡ p.slot
    by p true = refl
    by p false = refl

-- ---- what stands is counted

current-counted : (n : ℕ) (tasks : List Task) (task : ℕ) (u : Task) → find (λ v. v.number == task) tasks ≡ Some u → u.current ≡ n
    → 0 < count_by (λ m. m == n) (currents tasks)
current-counted n [] task u found is = cc
current-counted n (t ∷ ts) task u found is = at (t.number == task) found (λ there. current-counted n ts task u there is)
  where
    at : (test : Bool) → cond test (Some t) (find (λ v. v.number == task) ts) ≡ Some u
        → (find (λ v. v.number == task) ts ≡ Some u → 0 < count_by (λ m. m == n) (currents ts))
        → 0 < count_by (λ m. m == n) (currents (t ∷ ts))
    at true first later =
        let one : t ≡ u = cc in
        let same : t.current ≡ n = ap (λ (v : Task). v.current) one ∙ is in
        let counts : one_if (t.current == n) ≡ 1 = ap (λ (k : ℕ). one_if (k == n)) same ∙ counts_itself n in
        let all = count-cons (λ m. m == n) t.current (currents ts) in
        omega (arith, all, counts)
    at false there later =
        let all = count-cons (λ m. m == n) t.current (currents ts) in
        let rest = later there in
        omega (arith, all, rest)

pub current-stands : (s : State) (task : ℕ) (u : Task) → find (λ v. v.number == task) s.tasks ≡ Some u
    → 0 < count_by (λ m. m == u.current) (in_use s)
current-stands s task u found =
    let all = count-in_use (λ m. m == u.current) s in
    let some = current-counted u.current s.tasks task u found refl in
    omega (arith, all, some)

-- The base of a prepared label that is also its task's current credential is referred to twice.
pub base-stands_twice : (s : State) (place : ℕ) (p : Prepared) (u : Task) → slice_get s.prepared place ≡ Some p
    → find (λ v. v.number == p.task) s.tasks ≡ Some u → u.current ≡ p.base
    → 1 < count_by (λ m. m == p.base) (in_use s)
base-stands_twice s place p u there found current =
    let all = count-in_use (λ m. m == p.base) s in
    let less = count-remove (λ (q : Prepared). q.base) (λ m. m == p.base) s.prepared place p there in
    let one = counts_itself p.base in
    let some = current-counted p.base s.tasks p.task u found current in
    omega (arith, all, less, one, some)
