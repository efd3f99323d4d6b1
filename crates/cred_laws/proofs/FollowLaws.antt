-- What the threads that don't wait in a broadcast have: kept by what becomes of tasks, credentials
-- and broadcasts. All of it is over plain lists.
use Rattle.std.proofs.Common.{◌≡◌, ◌≢◌, ◌==◌, ◌||◌, not, ℕ, List, [], ◌∷◌, ◌++◌, map, get_or, Option, Some, None, Bool, true, false, cond, refl, sym, ap, ◌∙◌}
use Rattle.std.proofs.Common.{subst, arith}
use Rattle.std.specs.List.{All, AllPairs, filter, find, list_any}
use Rattle.std.specs.Option.{option_map, option_or}
use Rattle.std.proofs.lemmas.List.Elements.{All-filter, All-map, All-weaker}
use Rattle.std.proofs.lemmas.List.Folds.{find-append, list_any-append}
use Rattle.std.proofs.lemmas.Bool.Decides.{nat_tests}
use Rattle.std.proofs.lemmas.Bool.{cond_both, eqb-false, eqb-true}
use Rattle.cred_ids.specs.Ordered.{in_order}
use Rattle.cred_record.specs.Credential.{Credential}
use Rattle.cred_model.specs.State.{SealedCred, Task, Broadcast}
use Rattle.cred_model.specs.Broadcasts.{waits_in, is_open, with_broadcast, without_waiter, waits_no_more, with_child, joined, dropped}
use Rattle.cred_model.specs.Moves.{updated, with_current}
use Rattle.cred_model.proofs.Lists.{Differ, find-map, found, found_none, none_found, or_left}
use Rattle.cred_model.proofs.Numbers.{numbered_stays}
use Rattle.cred_model.proofs.Rising.{AllPairs-head, AllPairs-tail, any-in_order, any_without, find-filter}
use Rattle.cred_laws.specs.Broadcast.{CurrentHas}

-- the task of this number is one of these
abbrev pub waits : ℕ → List ℕ → Bool
waits task waiting = list_any (λ n. n == task) waiting

-- P holds of the current credential of the task, if that is a thread of the process and doesn't
-- wait
abbrev pub HasOr : (Credential → Type 0) → List SealedCred → ℕ → List ℕ → Task → Type 0
HasOr P creds process waiting t = t.process ≡ process → waits t.number waiting ≡ false → CurrentHas P creds t

-- so it is with all tasks
abbrev pub Followed : (Credential → Type 0) → List SealedCred → List Task → ℕ → List ℕ → Type 0
Followed P creds tasks process waiting = All (HasOr P creds process waiting) tasks

-- ---- tasks and credentials

-- what was sealed stays
has_more : (P : Credential → Type 0) (creds more : List SealedCred) (t : Task) → CurrentHas P creds t → CurrentHas P (creds ++ more) t
has_more P creds more t has = (has.0, numbered_stays creds more t.current has.0 has.1, has.2)

pub followed_more : (P : Credential → Type 0) (creds more : List SealedCred) (tasks : List Task) (process : ℕ) (waiting : List ℕ)
    → Followed P creds tasks process waiting → Followed P (creds ++ more) tasks process waiting
followed_more P creds more tasks process waiting =
    All-weaker (HasOr P creds process waiting) (HasOr P (creds ++ more) process waiting)
    (λ t or of still. has_more P creds more t (or of still)) tasks

-- Others wait: whoever doesn't wait now didn't wait before.
pub followed_waiting : (P : Credential → Type 0) (creds : List SealedCred) (tasks : List Task) (process : ℕ) (waiting now : List ℕ)
    → All (λ t. waits t.number now ≡ false → waits t.number waiting ≡ false) tasks → Followed P creds tasks process waiting
    → Followed P creds tasks process now
followed_waiting P creds tasks process waiting now fewer each k d lt of still = each k d lt of (fewer k d lt still)

-- one task has a new current credential
pub followed_renewed : (P : Credential → Type 0) (creds : List SealedCred) (tasks : List Task) (process : ℕ) (waiting : List ℕ) (task n : ℕ)
    → All (λ t. t.number ≡ task → HasOr P creds process waiting (record t { current = n })) tasks
    → All (λ t. t.number ≢ task → HasOr P creds process waiting t) tasks
    → Followed P creds (with_current tasks task n) process waiting
followed_renewed P creds tasks process waiting task n new old =
    let Q = HasOr P creds process waiting in
    All-map Q (updated task n) tasks (λ k d lt.
    let t = get_or tasks k d in
    cond_both (t.number == task) (record t { current = n }) t Q
    (λ is. new k d lt (eqb-true t.number task is)) (λ other. old k d lt (eqb-false t.number task other)))

-- ---- a step, and an end

-- who doesn't wait after a step didn't wait before, unless the step was its own
pub still_without : (task left : ℕ) (waiting : List ℕ) → task ≢ left → waits task (filter (λ n. not (n == left)) waiting) ≡ false
    → waits task waiting ≡ false
still_without task left waiting other still = sym (any_without task left waiting other) ∙ still

-- ---- a child

waits_more : (child : ℕ) (broadcast : Broadcast) (task : ℕ)
    → waits task (in_order (broadcast.waiting ++ child ∷ [])) ≡ (waits task broadcast.waiting || ((child == task) || false))
waits_more child broadcast task =
    any-in_order (λ n. n == task) (broadcast.waiting ++ child ∷ []) ∙ list_any-append (λ n. n == task) broadcast.waiting (child ∷ [])

-- who doesn't wait beside the child didn't wait before
pub still_with : (parent child : ℕ) (broadcast : Broadcast) (task : ℕ) → waits task (with_child parent child broadcast).waiting ≡ false
    → waits task broadcast.waiting ≡ false
still_with parent child broadcast task =
    cond_both (waits_in parent broadcast) (record broadcast { waiting = in_order (broadcast.waiting ++ child ∷ []) }) broadcast
    (λ (c : Broadcast). waits task c.waiting ≡ false → waits task broadcast.waiting ≡ false)
    (λ is still. or_left (waits task broadcast.waiting) _ (sym (waits_more child broadcast task) ∙ still))
    (λ other still. still)

no_waits : (a b : Bool) → (a || (b || false)) ≡ false → b ≡ true → ⊥
no_waits true b none here = let no : true ≡ false = none in cc
no_waits false true none here = let no : true ≡ false = none in cc
no_waits false false none here = cc

-- a child that doesn't wait has a parent that doesn't
pub parent_with : (parent child : ℕ) (broadcast : Broadcast) → waits child (with_child parent child broadcast).waiting ≡ false
    → waits parent broadcast.waiting ≡ false
parent_with parent child broadcast =
    cond_both (waits_in parent broadcast) (record broadcast { waiting = in_order (broadcast.waiting ++ child ∷ []) }) broadcast
    (λ (c : Broadcast). waits child c.waiting ≡ false → waits parent broadcast.waiting ≡ false)
    (λ is still. absurd (no_waits (waits child broadcast.waiting) (child == child) (sym (waits_more child broadcast child) ∙ still) (grind (arith, nat_tests))))
    (λ other still. other)

-- ---- which broadcast is open in a process

abbrev pub found_in : ℕ → List Broadcast → Option Broadcast
found_in process broadcasts = find (λ b. b.process == process) broadcasts

-- a broadcast, if anybody waits in it
abbrev pub shown : Broadcast → Option Broadcast
shown broadcast = cond (is_open broadcast) (Some broadcast) None

-- what is found is the one that was, changed, if it is left
find_left : (test : Broadcast → Bool) (g : Broadcast → Broadcast) (broadcasts : List Broadcast) (process : ℕ) (broadcast : Broadcast)
    → ((c : Broadcast) → (g c).process ≡ c.process) → AllPairs (Differ (λ (c : Broadcast). c.process)) broadcasts
    → found_in process broadcasts ≡ Some broadcast → found_in process (filter test (map g broadcasts)) ≡ cond (test (g broadcast)) (Some (g broadcast)) None
find_left test g [] process broadcast same differ is = cc
find_left test g (x ∷ xs) process broadcast same differ is =
    let Is : Broadcast → Bool = λ b. b.process == process in
    let later = filter test (map g xs) in
    let goal : Broadcast → Type 0 = λ broadcast. find Is (cond (test (g x)) (g x ∷ later) later) ≡ cond (test (g broadcast)) (Some (g broadcast)) None in
    elim (x.process == process) as (λ b. (x.process == process) ≡ b → cond b (Some x) (found_in process xs) ≡ Some broadcast → goal broadcast) [
      | true ↦ λ here found.
          let one : x ≡ broadcast = cc in
          let p : x.process ≡ process = eqb-true x.process process here in
          let others = AllPairs-head (Differ (λ (c : Broadcast). c.process)) x xs differ in
          let none : find Is later ≡ None
          = none_found Is later (All-filter test (λ c. Is c ≡ false) (map g xs)
          (All-map (λ c. Is c ≡ false) g xs (λ k d lt.
          let c = get_or xs k d in
          let other : x.process ≢ c.process = others k d lt in
          let still : (g c).process ≡ c.process = same c in
          grind (arith, nat_tests)))) in
          let there : Is (g x) ≡ true = ap (λ n. n == process) (same x) ∙ here in
          subst goal one
          (elim (test (g x)) as (λ b. find Is (cond b (g x ∷ later) later) ≡ cond b (Some (g x)) None) [
            | true ↦ ap (λ b. cond b (Some (g x)) (find Is later)) there
            | false ↦ none
          ])
      | false ↦ λ other found.
          let rest = find_left test g xs process broadcast same (AllPairs-tail (Differ (λ (c : Broadcast). c.process)) x xs differ) found in
          let there : Is (g x) ≡ false = ap (λ n. n == process) (same x) ∙ other in
          elim (test (g x)) as (λ b. find Is (cond b (g x ∷ later) later) ≡ cond (test (g broadcast)) (Some (g broadcast)) None) [
            | true ↦ ap (λ b. cond b (Some (g x)) (find Is later)) there ∙ rest
            | false ↦ rest
          ]
    ] refl is

pub left_open : (task process : ℕ) (broadcasts : List Broadcast) (broadcast : Broadcast)
    → AllPairs (Differ (λ (c : Broadcast). c.process)) broadcasts → found_in process broadcasts ≡ Some broadcast
    → found_in process (waits_no_more task broadcasts) ≡ shown (without_waiter task broadcast)
left_open task process broadcasts broadcast differ is = find_left is_open (without_waiter task) broadcasts process broadcast (λ c. refl) differ is

with_child-process : (parent child : ℕ) (c : Broadcast) → (with_child parent child c).process ≡ c.process
with_child-process parent child c =
    cond_both (waits_in parent c) (record c { waiting = in_order (c.waiting ++ child ∷ []) }) c
    (λ (r : Broadcast). r.process ≡ c.process) (λ is. refl) (λ other. refl)

pub joined_open : (parent child process : ℕ) (broadcasts : List Broadcast) (broadcast : Broadcast) → found_in process broadcasts ≡ Some broadcast
    → found_in process (joined parent child broadcasts) ≡ Some (with_child parent child broadcast)
joined_open parent child process broadcasts broadcast is =
    find-map (λ b. b.process == process) (with_child parent child) broadcasts
    (λ c. ap (λ n. n == process) (with_child-process parent child c))
    ∙ ap (option_map (with_child parent child)) is

pub begun_beside : (process : ℕ) (broadcasts : List Broadcast) (new broadcast : Broadcast) → found_in process broadcasts ≡ Some broadcast
    → found_in process (with_broadcast broadcasts new) ≡ Some broadcast
begun_beside process broadcasts new broadcast is =
    find-append (λ (b : Broadcast). b.process == process) broadcasts (filter is_open (new ∷ []))
    ∙ ap (λ o. option_or o (found_in process (filter is_open (new ∷ [])))) is

pub dropped_beside : (process other : ℕ) (broadcasts : List Broadcast) (broadcast : Broadcast) → process ≢ other → found_in process broadcasts ≡ Some broadcast
    → found_in process (dropped other broadcasts) ≡ Some broadcast
dropped_beside process other broadcasts broadcast differ is =
    let of = eqb-true broadcast.process process (found (λ (c : Broadcast). Unit {0}) (λ c. c.process == process) broadcasts broadcast is (λ k d lt. tt)).1 in
    let apart : broadcast.process ≢ other = λ same. differ (sym of ∙ same) in
    find-filter (λ b. b.process == process) (λ c. not (c.process == other)) broadcasts broadcast is (grind (arith, nat_tests))

-- none is open after the one of the process is dropped
pub dropped_none : (process : ℕ) (broadcasts : List Broadcast) → found_in process (dropped process broadcasts) ≡ None
dropped_none process [] = refl
dropped_none process (c ∷ broadcasts) =
    elim (c.process == process) as
    (λ b. (c.process == process) ≡ b → found_in process (cond (not b) (c ∷ dropped process broadcasts) (dropped process broadcasts)) ≡ None) [
      | true ↦ λ is. dropped_none process broadcasts
      | false ↦ λ other. ap (λ b. cond b (Some c) (found_in process (dropped process broadcasts))) other ∙ dropped_none process broadcasts
    ] refl

-- where none was open, none is opened

none_left : (test : Broadcast → Bool) (g : Broadcast → Broadcast) (broadcasts : List Broadcast) (process : ℕ)
    → ((c : Broadcast) → (g c).process ≡ c.process) → found_in process broadcasts ≡ None → found_in process (filter test (map g broadcasts)) ≡ None
none_left test g broadcasts process same none =
    let Is : Broadcast → Bool = λ b. b.process == process in
    none_found Is (filter test (map g broadcasts))
    (All-filter test (λ c. Is c ≡ false) (map g broadcasts)
    (All-map (λ c. Is c ≡ false) g broadcasts
    (All-weaker (λ c. Is c ≡ false) (λ c. Is (g c) ≡ false) (λ c other. ap (λ n. n == process) (same c) ∙ other) broadcasts
    (found_none Is broadcasts none))))

pub left_none : (task process : ℕ) (broadcasts : List Broadcast) → found_in process broadcasts ≡ None
    → found_in process (waits_no_more task broadcasts) ≡ None
left_none task process broadcasts none = none_left is_open (without_waiter task) broadcasts process (λ c. refl) none

pub joined_none : (parent child process : ℕ) (broadcasts : List Broadcast) → found_in process broadcasts ≡ None
    → found_in process (joined parent child broadcasts) ≡ None
joined_none parent child process broadcasts none =
    find-map (λ b. b.process == process) (with_child parent child) broadcasts
    (λ c. ap (λ n. n == process) (with_child-process parent child c))
    ∙ ap (option_map (with_child parent child)) none

pub dropped_still : (process other : ℕ) (broadcasts : List Broadcast) → found_in process broadcasts ≡ None
    → found_in process (dropped other broadcasts) ≡ None
dropped_still process other broadcasts none =
    let Is : Broadcast → Bool = λ b. b.process == process in
    none_found Is (dropped other broadcasts)
    (All-filter (λ c. not (c.process == other)) (λ c. Is c ≡ false) broadcasts (found_none Is broadcasts none))

-- the one that begins
pub begun_open : (broadcasts : List Broadcast) (new : Broadcast) → found_in new.process broadcasts ≡ None
    → found_in new.process (with_broadcast broadcasts new) ≡ shown new
begun_open broadcasts new none =
    let here : (new.process == new.process) ≡ true = grind (arith, nat_tests) in
    find-append (λ (b : Broadcast). b.process == new.process) broadcasts (filter is_open (new ∷ []))
    ∙ ap (λ o. option_or o (found_in new.process (filter is_open (new ∷ [])))) none
    ∙ elim (is_open new) as (λ b. found_in new.process (cond b (new ∷ []) []) ≡ cond b (Some new) None) [
      | true ↦ ap (λ b. cond b (Some new) None) here
      | false ↦ refl
    ]

pub begun_none : (process : ℕ) (broadcasts : List Broadcast) (new : Broadcast) → new.process ≢ process → found_in process broadcasts ≡ None
    → found_in process (with_broadcast broadcasts new) ≡ None
begun_none process broadcasts new other none =
    let test : (new.process == process) ≡ false = grind (arith, nat_tests) in
    find-append (λ (b : Broadcast). b.process == process) broadcasts (filter is_open (new ∷ []))
    ∙ ap (λ o. option_or o (found_in process (filter is_open (new ∷ [])))) none
    ∙ elim (is_open new) as (λ b. found_in process (cond b (new ∷ []) []) ≡ None) [
      | true ↦ ap (λ b. cond b (Some new) None) test
      | false ↦ refl
    ]
