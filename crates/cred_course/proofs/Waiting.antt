-- How many tasks wait in the open broadcasts, while those change.
use Rattle.std.proofs.Common.{◌≡◌, ℕ, ◌+◌, ◌<◌, ◌≤◌, ◌==◌, ◌||◌, Bool, true, false, not, cond, List, [], ◌∷◌, ◌++◌, filter, find, length, map, Some, refl, ap}
use Rattle.std.proofs.Common.{◌∙◌, arith}
use Rattle.std.specs.List.{AllPairs, list_any}
use Rattle.std.proofs.lemmas.List.{length_push}
use Rattle.std.proofs.lemmas.List.Sums.{count_by-le-length, length-filter, sum_by-append, sum_by-cons}
use Rattle.cred_ids.specs.Ordered.{in_order}
use Rattle.cred_model.specs.State.{Broadcast}
use Rattle.cred_model.specs.Broadcasts.{is_open, joined, waits_in, waits_no_more, with_broadcast, with_child, without_waiter, SharesNone}
use Rattle.cred_model.proofs.Rising.{AllPairs-head, AllPairs-tail, length-in_order}
use Rattle.cred_broadcasts.proofs.Joined.{joined_none}
use Rattle.cred_course.specs.Waiting.{waiting_in}

abbrev waits : Broadcast → ℕ
waits b = length b.waiting

-- ---- broadcasts that are closed

pub waiting-filter : (stays : Broadcast → Bool) (broadcasts : List Broadcast) → waiting_in (filter stays broadcasts) ≤ waiting_in broadcasts
waiting-filter stays [] = omega arith
waiting-filter stays (b ∷ bs) = by (stays b) (waiting-filter stays bs)
  where
    by : (test : Bool) → waiting_in (filter stays bs) ≤ waiting_in bs
        → waiting_in (cond test (b ∷ filter stays bs) (filter stays bs)) ≤ waiting_in (b ∷ bs)
    by true rest =
        let now = sum_by-cons waits b (filter stays bs) in
        let before = sum_by-cons waits b bs in
        omega (arith, rest, now, before)
    by false rest =
        let before = sum_by-cons waits b bs in
        omega (arith, rest, before)

-- ---- a task that waits no longer

fewer-without : (task : ℕ) (b : Broadcast) → length (without_waiter task b).waiting ≤ length b.waiting
fewer-without task b =
    let test : ℕ → Bool = λ n. not (n == task) in
    omega (arith, length-filter test b.waiting, count_by-le-length test b.waiting)

waiting-without : (task : ℕ) (broadcasts : List Broadcast) → waiting_in (map (without_waiter task) broadcasts) ≤ waiting_in broadcasts
waiting-without task [] = omega arith
waiting-without task (b ∷ bs) =
    let rest = waiting-without task bs in
    let now = sum_by-cons waits (without_waiter task b) (map (without_waiter task) bs) in
    let before = sum_by-cons waits b bs in
    omega (arith, rest, now, before, fewer-without task b)

pub waiting-left : (task : ℕ) (broadcasts : List Broadcast) → waiting_in (waits_no_more task broadcasts) ≤ waiting_in broadcasts
waiting-left task broadcasts = omega (arith, waiting-filter is_open (map (without_waiter task) broadcasts), waiting-without task broadcasts)

-- it was there
one_less : (task : ℕ) (ns : List ℕ) → list_any (λ n. n == task) ns ≡ true → length (filter (λ n. not (n == task)) ns) < length ns
one_less task [] there = cc
one_less task (n ∷ ns) there = by (n == task) there (one_less task ns)
  where
    by : (test : Bool) → (test || list_any (λ m. m == task) ns) ≡ true
        → (list_any (λ m. m == task) ns ≡ true → length (filter (λ m. not (m == task)) ns) < length ns)
        → length (cond (not test) (n ∷ filter (λ m. not (m == task)) ns) (filter (λ m. not (m == task)) ns)) < length (n ∷ ns)
    by true there rest =
        let test : ℕ → Bool = λ m. not (m == task) in
        omega (arith, length-filter test ns, count_by-le-length test ns)
    by false there rest = let less = rest there in omega (arith, less)

less-without : (task number : ℕ) (broadcasts : List Broadcast) (broadcast : Broadcast) → find (λ b. b.number == number) broadcasts ≡ Some broadcast
    → waits_in task broadcast ≡ true
    → waiting_in (map (without_waiter task) broadcasts) < waiting_in broadcasts
less-without task number [] broadcast found there = cc
less-without task number (b ∷ bs) broadcast found there = by (b.number == number) found (λ later. less-without task number bs broadcast later there)
  where
    by : (test : Bool) → cond test (Some b) (find (λ c. c.number == number) bs) ≡ Some broadcast
        → (find (λ c. c.number == number) bs ≡ Some broadcast → waiting_in (map (without_waiter task) bs) < waiting_in bs)
        → waiting_in (map (without_waiter task) (b ∷ bs)) < waiting_in (b ∷ bs)
    by true found rest =
        let same : b ≡ broadcast = cc in
        let less = one_less task b.waiting (ap (waits_in task) same ∙ there) in
        let now = sum_by-cons waits (without_waiter task b) (map (without_waiter task) bs) in
        let before = sum_by-cons waits b bs in
        omega (arith, less, now, before, waiting-without task bs)
    by false found rest =
        let less = rest found in
        let now = sum_by-cons waits (without_waiter task b) (map (without_waiter task) bs) in
        let before = sum_by-cons waits b bs in
        omega (arith, less, now, before, fewer-without task b)

-- A task that waits makes its step: one waits less at least.
pub waiting-acted : (task number : ℕ) (broadcasts : List Broadcast) (broadcast : Broadcast) → find (λ b. b.number == number) broadcasts ≡ Some broadcast
    → waits_in task broadcast ≡ true
    → waiting_in (waits_no_more task broadcasts) < waiting_in broadcasts
waiting-acted task number broadcasts broadcast found there =
    omega (arith, waiting-filter is_open (map (without_waiter task) broadcasts), less-without task number broadcasts broadcast found there)

-- ---- tasks that begin to wait

pub waiting-begun : (broadcasts : List Broadcast) (broadcast : Broadcast)
    → waiting_in (with_broadcast broadcasts broadcast) ≤ waiting_in broadcasts + length broadcast.waiting
waiting-begun broadcasts broadcast =
    let all = sum_by-append waits broadcasts (filter is_open (broadcast ∷ [])) in
    let most = waiting-filter is_open (broadcast ∷ []) in
    let one = sum_by-cons waits broadcast [] in
    omega (arith, all, most, one)

-- A new thread waits in one broadcast at most, since its creator does.
pub waiting-joined : (parent child : ℕ) (broadcasts : List Broadcast) → AllPairs SharesNone broadcasts
    → waiting_in (joined parent child broadcasts) ≤ waiting_in broadcasts + 1
waiting-joined parent child [] apart = omega arith
waiting-joined parent child (b ∷ bs) apart =
    by (waits_in parent b) refl (waiting-joined parent child bs (AllPairs-tail SharesNone b bs apart))
  where
    by : (test : Bool) → waits_in parent b ≡ test → waiting_in (joined parent child bs) ≤ waiting_in bs + 1
        → waiting_in (joined parent child (b ∷ bs)) ≤ waiting_in (b ∷ bs) + 1
    by true waits_here rest =
        let others = AllPairs-head SharesNone b bs apart in
        let same : joined parent child bs ≡ bs = joined_none parent child bs (λ k d lt. others k d lt parent waits_here) in
        let here : length (with_child parent child b).waiting ≡ length b.waiting + 1
        = ap (λ test. length (cond test (record b { waiting = in_order (b.waiting ++ child ∷ []) }) b).waiting) waits_here
        ∙ length-in_order (b.waiting ++ child ∷ []) ∙ length_push b.waiting child in
        let now = sum_by-cons waits (with_child parent child b) (joined parent child bs) in
        let unchanged : waiting_in (joined parent child bs) ≡ waiting_in bs = ap waiting_in same in
        let before = sum_by-cons waits b bs in
        omega (arith, here, now, unchanged, before)
    by false waits_here rest =
        let here : length (with_child parent child b).waiting ≡ length b.waiting
        = ap (λ test. length (cond test (record b { waiting = in_order (b.waiting ++ child ∷ []) }) b).waiting) waits_here in
        let now = sum_by-cons waits (with_child parent child b) (joined parent child bs) in
        let before = sum_by-cons waits b bs in
        omega (arith, here, now, rest, before)
