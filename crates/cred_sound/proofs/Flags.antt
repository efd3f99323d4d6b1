-- Each process that has threads has one flag, and no other has any.
use Rattle.std.proofs.Common.{◌≡◌, ◌≢◌, ◌==◌, ◌&&◌, ◌||◌, not, ℕ, List, [], ◌∷◌, ◌++◌, map, find, is_some, Some, None, Option, Bool, true, false, cond, arith}
use Rattle.std.proofs.Common.{refl, sym, ap, ◌∙◌, subst}
use Rattle.std.specs.List.{All, AllPairs, filter, list_any}
use Rattle.std.specs.Option.{option_map, option_or}
use Rattle.std.proofs.lemmas.Bool.{cond_both, eqb-true, eqb-false}
use Rattle.std.proofs.lemmas.Bool.Decides.{nat_tests}
use Rattle.std.proofs.lemmas.List.Elements.{All-head, All-tail, All-weaker}
use Rattle.std.proofs.lemmas.List.Folds.{find-append}
use Rattle.std.proofs.lemmas.List.Kept.{AllPairs-filter}
use Rattle.std.proofs.lemmas.List.Quantifiers.{all_pairs_push}
use Rattle.std.proofs.lemmas.Map.Views.{any-filter_same}
use mathlib.Core.Path.{fun_ext}
use Rattle.cred_record.specs.declared.gains.Gains.{Gains}
use Rattle.cred_event.specs.declared.event.Change.{Change}
use Rattle.cred_event.specs.declared.event.Change.TheVariants.{Exec}
use Rattle.cred_model.specs.State.{Task, ProcessFlag}
use Rattle.cred_model.specs.Ends.{is_task, is_thread_of, is_beside, survivors}
use Rattle.cred_model.specs.Dumpable.{flag_in, with_process_flag, flagged, set_flag, without_flag, renewed, flags_by}
use Rattle.cred_model.proofs.Lists.{Differ, alone, find-map, found}
use Rattle.cred_model.proofs.Numbers.{found_number}
use Rattle.cred_sound.specs.Flags.{AreFlagged}
use Rattle.cred_sound.proofs.Survivors.{find_goes_on}
use Rattle.cred_sound.proofs.Threads.{beside_is, not_true}
use Rattle.cred_sound.proofs.Unique.{differ-map, none_has}

-- the process has threads
abbrev pub lives : List Task → ℕ → Bool
lives tasks process = is_some (find (is_thread_of process) tasks)

abbrev process_of : ProcessFlag → ℕ
process_of f = f.process

-- ---- whether something is found

some-find : {X : Type 0} (p : X → Bool) (xs : List X) → is_some (find p xs) ≡ list_any p xs
some-find p [] = refl
some-find p (x ∷ xs) =
    elim (p x) as (λ b. is_some (cond b (Some x) (find p xs)) ≡ (b || list_any p xs)) [ true ↦ refl | false ↦ some-find p xs ]

some-append : {X : Type 0} (p : X → Bool) (xs ys : List X)
    → is_some (find p (xs ++ ys)) ≡ (is_some (find p xs) || is_some (find p ys))
some-append p xs ys =
    ap is_some (find-append p xs ys)
    ∙ elim (find p xs) as (λ o. is_some (option_or o (find p ys)) ≡ (is_some o || is_some (find p ys))) [
      | None ↦ refl
      | Some x ↦ refl
    ]

-- a change of the elements that leaves the test
some-map : {X : Type 0} (p : X → Bool) (f : X → X) (xs : List X) → ((x : X) → p (f x) ≡ p x)
    → is_some (find p (map f xs)) ≡ is_some (find p xs)
some-map p f xs same =
    ap is_some (find-map p f xs same)
    ∙ elim (find p xs) as (λ o. is_some (option_map f o) ≡ is_some o) [ None ↦ refl | Some x ↦ refl ]

-- a filter that keeps all that pass the test, or none of them
some-filter : {X : Type 0} (test p : X → Bool) (b : Bool) (xs : List X) → ((x : X) → test x ≡ true → p x ≡ b)
    → is_some (find test (filter p xs)) ≡ (b && is_some (find test xs))
some-filter test p b xs same =
    some-find test (filter p xs) ∙ any-filter_same test p b same xs ∙ ap (λ a. b && a) (sym (some-find test xs))

-- one that keeps all elements of the list that pass the test
some-kept : {X : Type 0} (test p : X → Bool) (xs : List X) → All (λ x. test x ≡ true → p x ≡ true) xs
    → is_some (find test (filter p xs)) ≡ is_some (find test xs)
some-kept test p [] keeps = refl
some-kept test p (x ∷ xs) keeps =
    let keeps_first = All-head (λ x. test x ≡ true → p x ≡ true) x xs keeps in
    let rest = some-kept test p xs (All-tail (λ x. test x ≡ true → p x ≡ true) x xs keeps) in
    elim (p x) as
    (λ b. (test x ≡ true → b ≡ true) → is_some (find test (cond b (x ∷ filter p xs) (filter p xs))) ≡ is_some (cond (test x) (Some x) (find test xs))) [
      | true ↦ λ keep.
          elim (test x) as (λ a. is_some (cond a (Some x) (find test (filter p xs))) ≡ is_some (cond a (Some x) (find test xs))) [
            | true ↦ refl
            | false ↦ rest
          ]
      | false ↦ λ keep.
          elim (test x) as (λ a. (a ≡ true → false ≡ true) → is_some (find test (filter p xs)) ≡ is_some (cond a (Some x) (find test xs))) [
            | true ↦ λ passes. absurd (let no : false ≡ true = passes refl in cc)
            | false ↦ λ passes. rest
          ] keep
    ] keeps_first

-- what is found by one test, and passes another
some-found : {X : Type 0} (p q : X → Bool) (xs : List X) (x : X) → find q xs ≡ Some x → p x ≡ true → is_some (find p xs) ≡ true
some-found p q [] x is test = cc
some-found p q (y ∷ ys) x is test =
    elim (q y) as (λ b. cond b (Some y) (find q ys) ≡ Some x → is_some (cond (p y) (Some y) (find p ys)) ≡ true) [
      | true ↦ λ same.
          let here : p y ≡ true = let one : y ≡ x = cc in ap p one ∙ test in
          ap (λ b. is_some (cond b (Some y) (find p ys))) here
      | false ↦ λ later.
          let rest = some-found p q ys x later test in
          elim (p y) as (λ b. is_some (cond b (Some y) (find p ys)) ≡ true) [ true ↦ refl | false ↦ rest ]
    ] is

any-filter : {X : Type 0} (test p : X → Bool) (xs : List X) → list_any test (filter p xs) ≡ list_any (λ x. p x && test x) xs
any-filter test p [] = refl
any-filter test p (x ∷ xs) =
    elim (p x) as (λ b. list_any test (cond b (x ∷ filter p xs) (filter p xs)) ≡ ((b && test x) || list_any (λ x. p x && test x) xs)) [
      | true ↦ ap (λ a. test x || a) (any-filter test p xs)
      | false ↦ any-filter test p xs
    ]

none_of : {A : Type 0} (o : Option A) → is_some o ≡ false → o ≡ None
none_of None is = refl
none_of (Some x) is = cc

or_false : (a : Bool) → (a || false) ≡ a
or_false true = refl
or_false false = refl

and_swap : (a b : Bool) → (a && b) ≡ (b && a)
and_swap true true = refl
and_swap true false = refl
and_swap false true = refl
and_swap false false = refl

-- ---- the processes that have threads

-- one thread more
lives_with : (tasks : List Task) (t : Task) (process : ℕ) → lives tasks t.process ≡ true
    → lives (tasks ++ t ∷ []) process ≡ lives tasks process
lives_with tasks t process live =
    some-append (is_thread_of process) tasks (t ∷ [])
    ∙ elim (t.process == process) as (λ b. (t.process == process) ≡ b → (lives tasks process || is_some (cond b (Some t) None)) ≡ lives tasks process) [
      | true ↦ λ is.
          let here : lives tasks process ≡ true = subst (λ p. lives tasks p ≡ true) (eqb-true t.process process is) live in
          ap (λ a. a || true) here ∙ sym here
      | false ↦ λ is. or_false (lives tasks process)
    ] refl

-- a process whose thread is found
pub owner_lives : (tasks : List Task) (owner : Task) (task : ℕ) → find (λ t. t.number == task) tasks ≡ Some owner
    → lives tasks owner.process ≡ true
owner_lives tasks owner task is =
    some-found (is_thread_of owner.process) (λ t. t.number == task) tasks owner is (grind (arith, nat_tests))

-- all threads but one end
lives_alone : (tasks : List Task) (owner : Task) (task process : ℕ) → find (λ t. t.number == task) tasks ≡ Some owner
    → lives (survivors (is_beside owner) tasks) process ≡ lives tasks process
lives_alone tasks owner task process is =
    elim (owner.process == process) as (λ b. (owner.process == process) ≡ b → lives (survivors (is_beside owner) tasks) process ≡ lives tasks process) [
      | true ↦ λ same.
          let own : (owner.number == owner.number) ≡ true = grind (arith, nat_tests) in
          let stays : is_beside owner owner ≡ false =
          ap (λ b. (owner.process == owner.process) && not b) own ∙ and_swap (owner.process == owner.process) false in
          let on = find_goes_on (is_beside owner) tasks task owner is stays in
          some-found (is_thread_of process) (λ t. t.number == task) (survivors (is_beside owner) tasks) owner on.0 same
          ∙ sym (some-found (is_thread_of process) (λ t. t.number == task) tasks owner is same)
      | false ↦ λ other.
          some-filter (is_thread_of process) (λ t. not (is_beside owner t)) true tasks
          (λ t of.
          let apart : owner.process ≢ process = eqb-false owner.process process other in
          let same : t.process ≡ process = eqb-true t.process process of in
          let test : (t.process == owner.process) ≡ false = grind (arith, nat_tests) in
          ap (λ b. not (b && not (t.number == owner.number))) test)
    ] refl

-- a thread ends: its process has threads left where another is beside it
pub lives_beside : (tasks : List Task) (owner : Task) (task : ℕ) → owner.number ≡ task
    → lives (survivors (is_task task) tasks) owner.process ≡ is_some (find (is_beside owner) tasks)
lives_beside tasks owner task number =
    let p = owner.process in
    some-find (is_thread_of p) (survivors (is_task task) tasks)
    ∙ any-filter (is_thread_of p) (λ t. not (is_task task t)) tasks
    ∙ ap (λ (test : Task → Bool). list_any test tasks)
    (fun_ext (λ (t : Task).
    and_swap (not (t.number == task)) (t.process == p)
    ∙ ap (λ n. (t.process == p) && not (t.number == n)) (sym number)))
    ∙ sym (some-find (is_beside owner) tasks)

-- and other processes have those that they had
lives_other : (tasks : List Task) (owner : Task) (task process : ℕ) → AllPairs (λ a b. a.number ≢ b.number) tasks
    → find (λ t. t.number == task) tasks ≡ Some owner → owner.process ≢ process
    → lives (survivors (is_task task) tasks) process ≡ lives tasks process
lives_other tasks owner task process differ is other =
    let One : Task → Type 0 = λ x. All (λ (y : Task). y.number ≡ x.number → y ≡ x) tasks in
    let one : One owner = (found One (λ (t : Task). t.number == task) tasks owner is (alone (λ (t : Task). t.number) tasks differ)).0 in
    let number = found_number tasks task owner is in
    some-kept (is_thread_of process) (λ t. not (is_task task t)) tasks
    (All-weaker (λ (y : Task). y.number ≡ owner.number → y ≡ owner) (λ y. is_thread_of process y ≡ true → not (is_task task y) ≡ true)
    (λ y alone of.
    elim (y.number == task) as (λ b. (y.number == task) ≡ b → not b ≡ true) [
      | true ↦ λ same.
          let is_owner : y ≡ owner = alone (eqb-true y.number task same ∙ sym number) in
          absurd (other (sym (ap (λ (t : Task). t.process) is_owner) ∙ eqb-true y.process process of))
      | false ↦ λ same. refl
    ] refl)
    tasks one)

-- all threads of a process end
lives_no_more : (tasks : List Task) (gone process : ℕ)
    → lives (survivors (is_thread_of gone) tasks) process ≡ (not (process == gone) && lives tasks process)
lives_no_more tasks gone process =
    some-filter (is_thread_of process) (λ t. not (is_thread_of gone t)) (not (process == gone)) tasks
    (λ t of. ap (λ p. not (p == gone)) (eqb-true t.process process of))

-- ---- the flags

-- a process without threads has none
pub unflagged : {tasks : List Task} {flags : List ProcessFlag} (process : ℕ)
    → AreFlagged tasks flags → lives tasks process ≡ false → flag_in flags process ≡ None
unflagged {flags = flags} process are none =
    none_of (flag_in flags process) (are.own process ∙ none)

flagged_process : (process : ℕ) (dumpable : Bool) (f : ProcessFlag) → (flagged process dumpable f).process ≡ f.process
flagged_process process dumpable f =
    cond_both (f.process == process) (record f { dumpable = dumpable }) f (λ r. r.process ≡ f.process) (λ is. refl) (λ other. refl)

flags_no_more : (flags : List ProcessFlag) (gone process : ℕ)
    → is_some (flag_in (without_flag flags gone) process) ≡ (not (process == gone) && is_some (flag_in flags process))
flags_no_more flags gone process =
    some-filter (λ (f : ProcessFlag). f.process == process) (λ f. not (f.process == gone)) (not (process == gone)) flags
    (λ f of. ap (λ p. not (p == gone)) (eqb-true f.process process of))

-- ---- what an event makes of both

pub flags_set : (tasks : List Task) (flags : List ProcessFlag) (process : ℕ) (dumpable : Bool) → AreFlagged tasks flags
    → AreFlagged tasks (set_flag flags process dumpable)
flags_set tasks flags process dumpable are = record {
  apart = differ-map process_of (flagged process dumpable) flags (flagged_process process dumpable) are.apart;
  own = λ p.
      some-map (λ (f : ProcessFlag). f.process == p) (flagged process dumpable) flags (λ f. ap (λ n. n == p) (flagged_process process dumpable f))
      ∙ are.own p;
}

pub flags_renewed : (tasks : List Task) (flags : List ProcessFlag) (process : ℕ) (other : Bool) → AreFlagged tasks flags
    → AreFlagged tasks (renewed flags process other)
flags_renewed tasks flags process true are = flags_set tasks flags process false are
flags_renewed tasks flags process false are = are

pub flags_done : (change : Change) (gains : Gains) (tasks : List Task) (flags : List ProcessFlag) (process : ℕ) (other : Bool)
    → AreFlagged tasks flags → AreFlagged tasks (flags_by change gains flags process other)
flags_done (Exec file) gains tasks flags process other are = flags_set tasks flags process _ are
flags_done change gains tasks flags process other are = flags_renewed tasks flags process other are

-- a change of the tasks that leaves their processes
pub flags_kept : (g : Task → Task) (tasks : List Task) (flags : List ProcessFlag) → ((t : Task) → (g t).process ≡ t.process)
    → AreFlagged tasks flags → AreFlagged (map g tasks) flags
flags_kept g tasks flags same are = record {
  apart = are.apart;
  own = λ p. are.own p ∙ sym (some-map (is_thread_of p) g tasks (λ t. ap (λ n. n == p) (same t)));
}

-- one thread more of a process that has threads
pub flags_joined : (tasks : List Task) (flags : List ProcessFlag) (t : Task) → lives tasks t.process ≡ true → AreFlagged tasks flags
    → AreFlagged (tasks ++ t ∷ []) flags
flags_joined tasks flags t live are = record {
  apart = are.apart;
  own = λ p. are.own p ∙ sym (lives_with tasks t p live);
}

-- the first thread of another
pub flags_more : (tasks : List Task) (flags : List ProcessFlag) (t : Task) (dumpable : Bool) → lives tasks t.process ≡ false
    → AreFlagged tasks flags → AreFlagged (tasks ++ t ∷ []) (with_process_flag flags t.process dumpable)
flags_more tasks flags t dumpable none are =
    let new : ProcessFlag = record { process = t.process; dumpable = dumpable } in
    record {
      apart = all_pairs_push (Differ process_of) flags new are.apart
          (none_has process_of flags t.process (none_of (flag_in flags t.process) (are.own t.process ∙ none)));
      own = λ p.
          some-append (λ (f : ProcessFlag). f.process == p) flags (new ∷ [])
          ∙ ap (λ b. b || is_some (cond (t.process == p) (Some new) None)) (are.own p)
          ∙ ap (λ b. lives tasks p || b)
          (elim (t.process == p) as (λ b. is_some (cond b (Some new) None) ≡ is_some (cond b (Some t) None)) [ true ↦ refl | false ↦ refl ])
          ∙ sym (some-append (is_thread_of p) tasks (t ∷ []));
    }

-- an execve ends the other threads of its process
pub flags_alone : (tasks : List Task) (flags : List ProcessFlag) (owner : Task) (task : ℕ) → find (λ t. t.number == task) tasks ≡ Some owner
    → AreFlagged tasks flags → AreFlagged (survivors (is_beside owner) tasks) flags
flags_alone tasks flags owner task is are = record {
  apart = are.apart;
  own = λ p. are.own p ∙ sym (lives_alone tasks owner task p is);
}

-- all threads of a process end
pub flags_aborted : (tasks : List Task) (flags : List ProcessFlag) (gone : ℕ) → AreFlagged tasks flags
    → AreFlagged (survivors (is_thread_of gone) tasks) (without_flag flags gone)
flags_aborted tasks flags gone are = record {
  apart = AllPairs-filter (Differ process_of) (λ f. not (f.process == gone)) flags are.apart;
  own = λ p.
      flags_no_more flags gone p ∙ ap (λ b. not (p == gone) && b) (are.own p) ∙ sym (lives_no_more tasks gone p);
}

-- a thread ends, perhaps the last of its process
pub flags_exited : (tasks : List Task) (flags : List ProcessFlag) (owner : Task) (task : ℕ) → AllPairs (λ a b. a.number ≢ b.number) tasks
    → find (λ t. t.number == task) tasks ≡ Some owner → AreFlagged tasks flags
    → AreFlagged (survivors (is_task task) tasks)
    (cond (is_some (find (is_beside owner) tasks)) flags (without_flag flags owner.process))
flags_exited tasks flags owner task differ is are =
    let number = found_number tasks task owner is in
    let beside = lives_beside tasks owner task number in
    let live = owner_lives tasks owner task is in
    elim (is_some (find (is_beside owner) tasks)) as
    (λ b. is_some (find (is_beside owner) tasks) ≡ b → AreFlagged (survivors (is_task task) tasks) (cond b flags (without_flag flags owner.process))) [
      | true ↦ λ some. record {
        apart = are.apart;
        own = λ p.
            elim (owner.process == p) as (λ b. (owner.process == p) ≡ b → is_some (flag_in flags p) ≡ lives (survivors (is_task task) tasks) p) [
              | true ↦ λ same.
                  subst (λ p. is_some (flag_in flags p) ≡ lives (survivors (is_task task) tasks) p) (eqb-true owner.process p same)
                  (are.own owner.process ∙ live ∙ sym (beside ∙ some))
              | false ↦ λ other. are.own p ∙ sym (lives_other tasks owner task p differ is (eqb-false owner.process p other))
            ] refl;
      }
      | false ↦ λ none. record {
        apart = AllPairs-filter (Differ process_of) (λ f. not (f.process == owner.process)) flags are.apart;
        own = λ p.
            flags_no_more flags owner.process p
            ∙ elim (owner.process == p) as
            (λ b. (owner.process == p) ≡ b → (not (p == owner.process) && is_some (flag_in flags p)) ≡ lives (survivors (is_task task) tasks) p) [
              | true ↦ λ same.
                  let own : (p == owner.process) ≡ true = let is_own : owner.process ≡ p = eqb-true owner.process p same in grind (arith, nat_tests) in
                  ap (λ b. not b && is_some (flag_in flags p)) own
                  ∙ sym (subst (λ p. lives (survivors (is_task task) tasks) p ≡ false) (eqb-true owner.process p same) (beside ∙ none))
              | false ↦ λ other.
                  let apart : owner.process ≢ p = eqb-false owner.process p other in
                  let test : (p == owner.process) ≡ false = grind (arith, nat_tests) in
                  ap (λ b. not b && is_some (flag_in flags p)) test
                  ∙ are.own p ∙ sym (lives_other tasks owner task p differ is apart)
            ] refl;
      }
    ] refl
