-- Broadcasts stay under way: by what becomes of the threads, and of those that wait.
use Rattle.std.proofs.Common.{◌≡◌, ◌≢◌, ◌==◌, ◌&&◌, ◌||◌, not, ℕ, List, [], ◌∷◌, ◌++◌, map, get_or, Option, Some, None, Bool, true, false, cond, refl, sym, ap}
use Rattle.std.proofs.Common.{◌∙◌, subst, arith}
use Rattle.std.specs.List.{All, AllPairs, filter, find, list_any}
use Rattle.std.specs.Option.{option_map, option_or}
use Rattle.std.proofs.lemmas.List.Elements.{All-cons, All-filter, All-head, All-map, All-nil, All-push, All-tail, All-weaker}
use Rattle.std.proofs.lemmas.List.{append-nil, length_push}
use Rattle.std.proofs.lemmas.List.Folds.{find-append, list_any-append, list_any_none}
use Rattle.std.proofs.lemmas.List.Kept.{AllPairs-filter}
use Rattle.std.proofs.lemmas.List.Quantifiers.{all_pairs_push}
use Rattle.std.proofs.lemmas.Bool.Decides.{nat_tests}
use Rattle.std.proofs.lemmas.Bool.{cond_both, eqb-false, eqb-true}
use Rattle.cred_ids.specs.Ordered.{in_order}
use Rattle.cred_record.specs.declared.id_call.IdCall.{IdCall}
use Rattle.cred_model.specs.State.{Task, Broadcast}
use Rattle.cred_model.specs.Ends.{is_beside, survivors}
use Rattle.cred_model.specs.Broadcasts.{waits_in, is_open, with_broadcast, without_waiter, waits_no_more, with_child, joined, dropped}
use Rattle.cred_model.proofs.Numbers.{found_number}
use Rattle.cred_model.proofs.Lists.{AllPairs-map, AllPairs-weaker, Differ, find_changed, none_passes}
use Rattle.cred_model.proofs.Rising.{AllPairs-head, AllPairs-tail, All-in_order, any-in_order, length-in_order, rising-in_order, rising_differ, Below}
use Rattle.cred_model.proofs.Rising.{All-passed, find-filter}
use Rattle.cred_sound.specs.Broadcasts.{IsThread, IsUnderWay}
use Rattle.cred_sound.proofs.Parts.{begun}
use Rattle.cred_sound.proofs.Unique.{none_has}

-- ---- a thread

pub record Thread (tasks : List Task) (process number : ℕ) : Type 0 where
  pub task : Task
  pub is : find (λ t. t.number == number) tasks ≡ Some task
  pub of : task.process ≡ process

the_thread : (tasks : List Task) (process number : ℕ) (o : Option Task) → find (λ t. t.number == number) tasks ≡ o
    → option_map (λ (t : Task). t.process) o ≡ Some process → Thread tasks process number
the_thread tasks process number None is of = cc
the_thread tasks process number (Some t) is of = record { task = t; is = is; of = cc }

pub thread_is : (tasks : List Task) (process number : ℕ) → IsThread tasks process number → Thread tasks process number
thread_is tasks process number is = the_thread tasks process number (find (λ t. t.number == number) tasks) refl is

pub is_thread : (tasks : List Task) (process number : ℕ) → Thread tasks process number → IsThread tasks process number
is_thread tasks process number at = ap (option_map (λ (t : Task). t.process)) at.is ∙ ap Some at.of

-- a change of the tasks that leaves their numbers and processes
pub thread_kept : (f : Task → Task) → ((t : Task) → (f t).number ≡ t.number) → ((t : Task) → (f t).process ≡ t.process)
    → (tasks : List Task) (process number : ℕ) → IsThread tasks process number → IsThread (map f tasks) process number
thread_kept f numbers processes tasks process number is =
    let at = thread_is tasks process number is in
    ap (option_map (λ (t : Task). t.process))
    (find_changed (λ (t : Task). t.number) f tasks number numbers ∙ ap (option_map f) at.is)
    ∙ ap Some (processes at.task ∙ at.of)

-- more tasks
pub thread_among : (tasks more : List Task) (process number : ℕ) → IsThread tasks process number → IsThread (tasks ++ more) process number
thread_among tasks more process number is =
    let at = thread_is tasks process number is in
    is_thread (tasks ++ more) process number (record {
      task = at.task;
      is = find-append (λ (t : Task). t.number == number) tasks more
          ∙ ap (λ o. option_or o (find (λ (t : Task). t.number == number) more)) at.is;
      of = at.of;
    })

-- fewer tasks
pub thread_stays : (ends : Task → Bool) (tasks : List Task) (process number : ℕ)
    → ((t : Task) → t.number ≡ number → t.process ≡ process → ends t ≡ false)
    → IsThread tasks process number → IsThread (survivors ends tasks) process number
thread_stays ends tasks process number goes_on is =
    let at = thread_is tasks process number is in
    is_thread (survivors ends tasks) process number (record {
      task = at.task;
      is = find-filter (λ (t : Task). t.number == number) (λ t. not (ends t)) tasks at.task at.is
          (ap not (goes_on at.task (found_number tasks number at.task at.is) at.of));
      of = at.of;
    })

-- the newest task
pub thread_last : (tasks : List Task) (t : Task) → find (λ u. u.number == t.number) tasks ≡ None
    → IsThread (tasks ++ t ∷ []) t.process t.number
thread_last tasks t none =
    let test : (t.number == t.number) ≡ true = grind (arith, nat_tests) in
    is_thread (tasks ++ t ∷ []) t.process t.number (record {
      task = t;
      is = find-append (λ (u : Task). u.number == t.number) tasks (t ∷ [])
          ∙ ap (λ o. option_or o (find (λ (u : Task). u.number == t.number) (t ∷ []))) none
          ∙ ap (λ b. cond b (Some t) None) test;
      of = refl;
    })

-- what is a thread of one process is none of another
pub one_process : (tasks : List Task) (p q number : ℕ) → IsThread tasks p number → IsThread tasks q number → p ≡ q
one_process tasks p q number at_p at_q = let both : Some p ≡ Some q = sym at_p ∙ at_q in cc

-- a task that isn't alive is no thread
pub dead_differs : (tasks : List Task) (process number dead : ℕ) → find (λ t. t.number == dead) tasks ≡ None
    → IsThread tasks process number → number ≢ dead
dead_differs tasks process number dead none is same =
    let at = thread_is tasks process number is in
    let there : find (λ (t : Task). t.number == dead) tasks ≡ Some at.task = ap (λ n. find (λ (t : Task). t.number == n) tasks) (sym same) ∙ at.is in
    cc

-- ---- a broadcast, and other tasks

pub under_way_with : (tasks now : List Task) (broadcast : Broadcast)
    → ((number : ℕ) → IsThread tasks broadcast.process number → IsThread now broadcast.process number)
    → IsUnderWay tasks broadcast → IsUnderWay now broadcast
under_way_with tasks now broadcast stays is = record {
  caller = stays broadcast.caller is.caller;
  called = is.called;
  waiting = All-weaker (IsThread tasks broadcast.process) (IsThread now broadcast.process) stays broadcast.waiting is.waiting;
  rising = is.rising;
  some = is.some;
}

-- ---- what an event makes of all that are open

-- no two of one number, no two in one process
pub record AreApart (broadcasts : List Broadcast) : Type 0 where
  pub numbers : AllPairs (Differ (λ (c : Broadcast). c.number)) broadcasts
  pub processes : AllPairs (Differ (λ (c : Broadcast). c.process)) broadcasts

-- and each under way
pub record AreOpen (tasks : List Task) (broadcasts : List Broadcast) : Type 0 where
  pub apart : AreApart broadcasts
  pub under_way : All (IsUnderWay tasks) broadcasts

-- the same broadcasts, where the threads stay
pub open_with : (tasks now : List Task) (broadcasts : List Broadcast)
    → ((process number : ℕ) → IsThread tasks process number → IsThread now process number)
    → AreOpen tasks broadcasts → AreOpen now broadcasts
open_with tasks now broadcasts stays are = record {
  apart = are.apart;
  under_way = All-weaker (IsUnderWay tasks) (IsUnderWay now)
      (λ broadcast. under_way_with tasks now broadcast (stays broadcast.process)) broadcasts are.under_way;
}

differ_changed : (f : Broadcast → ℕ) (g : Broadcast → Broadcast) (broadcasts : List Broadcast) → ((c : Broadcast) → f (g c) ≡ f c)
    → AllPairs (Differ f) broadcasts → AllPairs (Differ f) (map g broadcasts)
differ_changed f g broadcasts same each =
    AllPairs-map (Differ f) g broadcasts
    (AllPairs-weaker (Differ f) (λ a b. Differ f (g a) (g b)) broadcasts (λ a b apart is. apart (sym (same a) ∙ is ∙ same b)) each)

apart_changed : (g : Broadcast → Broadcast) (broadcasts : List Broadcast) → ((c : Broadcast) → (g c).number ≡ c.number)
    → ((c : Broadcast) → (g c).process ≡ c.process) → AreApart broadcasts → AreApart (map g broadcasts)
apart_changed g broadcasts numbers processes are = record {
  numbers = differ_changed (λ c. c.number) g broadcasts numbers are.numbers;
  processes = differ_changed (λ c. c.process) g broadcasts processes are.processes;
}

apart_fewer : (test : Broadcast → Bool) (broadcasts : List Broadcast) → AreApart broadcasts → AreApart (filter test broadcasts)
apart_fewer test broadcasts are = record {
  numbers = AllPairs-filter (Differ (λ (c : Broadcast). c.number)) test broadcasts are.numbers;
  processes = AllPairs-filter (Differ (λ (c : Broadcast). c.process)) test broadcasts are.processes;
}

-- ---- a broadcast begins

-- Each element is what is found under its number.
pub finds_itself : {X : Type 0} (f : X → ℕ) (xs : List X) → AllPairs (Differ f) xs → All (λ x. find (λ y. f y == f x) xs ≡ Some x) xs
finds_itself f [] differ = All-nil (λ x. find (λ y. f y == f x) [] ≡ Some x)
finds_itself f (x ∷ xs) differ =
    let here : (f x == f x) ≡ true = grind (arith, nat_tests) in
    let others = AllPairs-head (Differ f) x xs differ in
    let rest = finds_itself f xs (AllPairs-tail (Differ f) x xs differ) in
    All-cons (λ y. find (λ z. f z == f y) (x ∷ xs) ≡ Some y) x xs
    (ap (λ b. cond b (Some x) (find (λ y. f y == f x) xs)) here)
    (λ k d lt.
    let y = get_or xs k d in
    let other : f x ≢ f y = others k d lt in
    let test : (f x == f y) ≡ false = grind (arith, nat_tests) in
    ap (λ b. cond b (Some x) (find (λ z. f z == f y) xs)) test ∙ rest k d lt)

and_both : (a b : Bool) → (a && b) ≡ true → (a ≡ true) × (b ≡ true)
and_both true b both = (refl, both)
and_both false b both = cc

pub not_true : (b : Bool) → not b ≡ true → b ≡ false
not_true true is = cc
not_true false is = refl

pub beside_is : (owner t : Task) → is_beside owner t ≡ true → (t.process ≡ owner.process) × (t.number ≢ owner.number)
beside_is owner t is =
    let both = and_both (t.process == owner.process) (not (t.number == owner.number)) is in (
      eqb-true t.process owner.process both.0,
      eqb-false t.number owner.number (not_true (t.number == owner.number) both.1),
    )

begun_under_way : (tasks : List Task) (owner : Task) (number : ℕ) (call : IdCall)
    → AllPairs (Differ (λ (t : Task). t.number)) tasks → find (λ t. t.number == owner.number) tasks ≡ Some owner
    → is_open (begun number owner call tasks) ≡ true → IsUnderWay tasks (begun number owner call tasks)
begun_under_way tasks owner number call differ is some =
    let others = filter (is_beside owner) tasks in
    let numbers = map (λ (t : Task). t.number) others in
    let Found : Task → Type 0 = λ t. find (λ u. u.number == t.number) tasks ≡ Some t in
    let Other : ℕ → Type 0 = λ n. (n == owner.number) ≡ false in
    record {
      caller = is_thread tasks owner.process owner.number (record { task = owner; is = is; of = refl });
      called = any-in_order (λ n. n == owner.number) numbers
          ∙ list_any_none (λ n. n == owner.number) numbers
          (All-map Other (λ t. t.number) others
          (All-passed (is_beside owner) Found (λ t. Other t.number) tasks
          (λ t beside _. let other = (beside_is owner t beside).1 in grind (arith, nat_tests))
          (finds_itself (λ t. t.number) tasks differ)));
      waiting = All-in_order (IsThread tasks owner.process) numbers
          (All-map (IsThread tasks owner.process) (λ t. t.number) others
          (All-passed (is_beside owner) Found (λ t. IsThread tasks owner.process t.number) tasks
          (λ t beside found.
          is_thread tasks owner.process t.number (record { task = t; is = found; of = (beside_is owner t beside).0 }))
          (finds_itself (λ t. t.number) tasks differ)));
      rising = rising-in_order numbers
          (AllPairs-map (λ a b. a ≢ b) (λ (t : Task). t.number) others
          (AllPairs-filter (Differ (λ (t : Task). t.number)) (is_beside owner) tasks differ));
      some = some;
    }

pub open_begun : (tasks : List Task) (broadcasts : List Broadcast) (owner : Task) (number : ℕ) (call : IdCall)
    → AllPairs (Differ (λ (t : Task). t.number)) tasks → find (λ t. t.number == owner.number) tasks ≡ Some owner
    → find (λ b. b.number == number) broadcasts ≡ None → find (λ b. b.process == owner.process) broadcasts ≡ None
    → AreOpen tasks broadcasts → AreOpen tasks (with_broadcast broadcasts (begun number owner call tasks))
open_begun tasks broadcasts owner number call differ is new idle are =
    let broadcast = begun number owner call tasks in
    elim (is_open broadcast) as (λ b. is_open broadcast ≡ b → AreOpen tasks (broadcasts ++ cond b (broadcast ∷ []) [])) [
      | true ↦ λ some. record {
        apart = record {
          numbers = all_pairs_push (Differ (λ (c : Broadcast). c.number)) broadcasts broadcast are.apart.numbers
              (none_has (λ c. c.number) broadcasts number new);
          processes = all_pairs_push (Differ (λ (c : Broadcast). c.process)) broadcasts broadcast are.apart.processes
              (none_has (λ c. c.process) broadcasts owner.process idle);
        };
        under_way = All-push (IsUnderWay tasks) broadcasts broadcast are.under_way (begun_under_way tasks owner number call differ is some);
      }
      | false ↦ λ none. subst (AreOpen tasks) (sym (append-nil broadcasts)) are
    ] refl

-- ---- a thread waits no longer

any_fewer : (p q : ℕ → Bool) (xs : List ℕ) → list_any p xs ≡ false → list_any p (filter q xs) ≡ false
any_fewer p q xs none = list_any_none p (filter q xs) (All-filter q (λ x. p x ≡ false) xs (none_passes p xs none))

-- it made its step, or ended
pub open_left : (tasks now : List Task) (broadcasts : List Broadcast) (task : ℕ)
    → All (λ c. IsThread now c.process c.caller) broadcasts
    → ((process number : ℕ) → number ≢ task → IsThread tasks process number → IsThread now process number)
    → AreOpen tasks broadcasts → AreOpen now (waits_no_more task broadcasts)
open_left tasks now broadcasts task callers stays are =
    let rest = map (without_waiter task) broadcasts in
    let goes_on : ℕ → Bool = λ n. not (n == task) in
    let Left : Broadcast → Type 0 = λ c. is_open c ≡ true → IsUnderWay now c in
    record {
      apart = apart_fewer is_open rest (apart_changed (without_waiter task) broadcasts (λ c. refl) (λ c. refl) are.apart);
      under_way = All-passed is_open Left (IsUnderWay now) rest (λ c some holds. holds some)
          (All-map Left (without_waiter task) broadcasts (λ k d lt some.
          let c = get_or broadcasts k d in
          let was : IsUnderWay tasks c = are.under_way k d lt in
          record {
            caller = callers k d lt;
            called = any_fewer (λ n. n == c.caller) goes_on c.waiting was.called;
            waiting = All-passed goes_on (IsThread tasks c.process) (IsThread now c.process) c.waiting
                (λ n other. stays c.process n (eqb-false n task (not_true (n == task) other))) was.waiting;
            rising = AllPairs-filter Below goes_on c.waiting was.rising;
            some = some;
          }));
    }

-- ---- a thread more

pub waits_at : (P : ℕ → Type 0) (n : ℕ) (xs : List ℕ) → All P xs → list_any (λ m. m == n) xs ≡ true → P n
waits_at P n [] each waits = cc
waits_at P n (x ∷ xs) each waits =
    elim (x == n) as (λ b. (x == n) ≡ b → (b || list_any (λ m. m == n) xs) ≡ true → P n) [
      | true ↦ λ same _. subst P (eqb-true x n same) (All-head P x xs each)
      | false ↦ λ other later. waits_at P n xs (All-tail P x xs each) later
    ] refl waits

child_waits : (tasks : List Task) (child : Task) (broadcast : Broadcast) → find (λ t. t.number == child.number) tasks ≡ None
    → child.process ≡ broadcast.process → IsUnderWay tasks broadcast
    → IsUnderWay (tasks ++ child ∷ []) (record broadcast { waiting = in_order (broadcast.waiting ++ child.number ∷ []) })
child_waits tasks child broadcast none same was =
    let now = tasks ++ child ∷ [] in
    let p = broadcast.process in
    let w = broadcast.waiting in
    let more = w ++ child.number ∷ [] in
    let stays = thread_among tasks (child ∷ []) p in
    let differs : broadcast.caller ≢ child.number = dead_differs tasks p broadcast.caller child.number none was.caller in
    let other : (child.number == broadcast.caller) ≡ false = grind (arith, nat_tests) in
    record {
      caller = stays broadcast.caller was.caller;
      called = any-in_order (λ n. n == broadcast.caller) more
          ∙ list_any-append (λ n. n == broadcast.caller) w (child.number ∷ [])
          ∙ ap (λ b. b || ((child.number == broadcast.caller) || false)) was.called
          ∙ ap (λ b. b || false) other;
      waiting = All-in_order (IsThread now p) more
          (All-push (IsThread now p) w child.number (All-weaker (IsThread tasks p) (IsThread now p) stays w was.waiting)
          (subst (λ q. IsThread now q child.number) same (thread_last tasks child none)));
      rising = rising-in_order more
          (all_pairs_push (λ a b. a ≢ b) w child.number (rising_differ w was.rising)
          (λ k d lt. dead_differs tasks p _ child.number none (was.waiting k d lt)));
      some = ap (λ n. not (n == 0)) (length-in_order more ∙ length_push w child.number)
          ∙ (grind (arith, nat_tests));
    }

-- a child waits where its parent waits
pub open_joined : (tasks : List Task) (broadcasts : List Broadcast) (parent : ℕ) (child : Task)
    → find (λ t. t.number == child.number) tasks ≡ None → IsThread tasks child.process parent
    → AreOpen tasks broadcasts → AreOpen (tasks ++ child ∷ []) (joined parent child.number broadcasts)
open_joined tasks broadcasts parent child none of are =
    let now = tasks ++ child ∷ [] in
    let g = with_child parent child.number in
    let waits : Broadcast → Broadcast = λ c. record c { waiting = in_order (c.waiting ++ child.number ∷ []) } in
    record {
      apart = apart_changed g broadcasts
          (λ c. cond_both (waits_in parent c) (waits c) c (λ r. r.number ≡ c.number) (λ is. refl) (λ other. refl))
          (λ c. cond_both (waits_in parent c) (waits c) c (λ r. r.process ≡ c.process) (λ is. refl) (λ other. refl)) are.apart;
      under_way = All-map (IsUnderWay now) g broadcasts (λ k d lt.
          let c = get_or broadcasts k d in
          let was : IsUnderWay tasks c = are.under_way k d lt in
          cond_both (waits_in parent c) (waits c) c (IsUnderWay now)
          (λ is.
          let there : IsThread tasks c.process parent = waits_at (IsThread tasks c.process) parent c.waiting was.waiting is in
          child_waits tasks child c none (one_process tasks child.process c.process parent of there) was)
          (λ other. under_way_with tasks now c (thread_among tasks (child ∷ []) c.process) was));
    }

-- ---- the broadcast of a process is dropped

pub open_dropped : (tasks now : List Task) (broadcasts : List Broadcast) (process : ℕ)
    → ((p number : ℕ) → p ≢ process → IsThread tasks p number → IsThread now p number)
    → AreOpen tasks broadcasts → AreOpen now (dropped process broadcasts)
open_dropped tasks now broadcasts process stays are =
    let others : Broadcast → Bool = λ c. not (c.process == process) in
    record {
      apart = apart_fewer others broadcasts are.apart;
      under_way = All-passed others (IsUnderWay tasks) (IsUnderWay now) broadcasts
          (λ c other was.
          under_way_with tasks now c (λ n. stays c.process n (eqb-false c.process process (not_true (c.process == process) other))) was)
          are.under_way;
    }
