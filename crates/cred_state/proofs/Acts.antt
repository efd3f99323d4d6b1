-- A thread that waits makes its step in a broadcast, or its process ends.
use Rattle.std.proofs.Common.{◌≡◌, ℕ, Bool, ◌+◌, ◌-◌, ◌<◌, ◌==◌, List, ◌++◌, ◌⊎◌, length, slice_get, slice_set, Option, None, Some, is_some, true, Result, Ok}
use Rattle.std.proofs.Common.{Err, IfOk, OnOk, inl, inr, refl, sym, ap, ◌∙◌, subst, arith}
use Rattle.std.specs.Option.{IfSome, IsSome, IsSomeAnd, option_and_then, option_map}
use Rattle.std.proofs.lemmas.Option.{slice_get_within}
use Rattle.cred_ids.specs.Limits.{SLOTS}
use Rattle.cred_record.specs.Credential.{Credential}
use Rattle.cred_record.specs.declared.id_call.IdCall.{IdCall}
use Rattle.cred_record.specs.declared.refusal.Denial.{Denial}
use Rattle.cred_record.specs.declared.refusal.Denial.TheVariants as denial
use Rattle.cred_record.specs.declared.refusal.Refusal.{Refusal}
use Rattle.cred_record.specs.declared.refusal.Refusal.TheVariants as refusal
use Rattle.cred_rules.specs.SetId.{set_id}
use Rattle.cred_event.specs.declared.answer.AbortCause.{AbortCause}
use Rattle.cred_event.specs.declared.answer.AbortCause.TheVariants.{Perm, Full}
use Rattle.cred_event.specs.declared.answer.Answer.{Answer}
use Rattle.cred_event.specs.declared.answer.Answer.TheVariants.{Acted, Aborted, NoBroadcast}
use Rattle.cred_model.specs.State.{State, Task, Broadcast, Numbered, ProcessFlag, numbered, broadcast_of, current_of, task_of}
use Rattle.cred_model.specs.Broadcasts.{dropped, waits_in, waits_no_more}
use Rattle.cred_model.specs.Dumpable.{differs, renewed, without_flag}
use Rattle.cred_model.specs.Ends.{is_thread_of, survivors, left_by}
use Rattle.cred_model.specs.Like.{IsOutcomeLike}
use Rattle.cred_model.specs.Moves.{in_slot, with_current, replaced, at_abort}
use Rattle.cred_model.specs.CallEvents.{aborted, by_act}
use Rattle.cred_model.specs.Step.{outcome}
use Rattle.cred_model.proofs.Likes.{does_same}
use Rattle.cred_model.proofs.Lists.{found, slice_get_at}
use Rattle.cred_model.proofs.Numbers.{owner_number}
use Rattle.cred_sound.specs.Broadcasts.{IsThread, IsUnderWay}
use Rattle.cred_sound.specs.Sound.{IsSound}
use Rattle.cred_sound.proofs.Threads.{thread_is, waits_at}
use Rattle.cred_broadcasts.specs.Broadcasts.{MakesOf}
use Rattle.cred_broadcasts.proofs.Conditions.{least_waits}
use Rattle.cred_hold.specs.Tokens.{Mastered}
use Rattle.cred_slots.specs.Table.{Table, IsSameBag}
use Rattle.cred_slots.specs.Table as table
use Rattle.cred_tables.specs.Begin.{table_at}
use Rattle.cred_tables.specs.Kept.{StateLists, state_of, IsKept, Seals}
use Rattle.cred_state.proofs.Begins.{replaced_kept, replaced_made, counts_next}
use Rattle.cred_state.proofs.Broadcasts.{kept_beside}
use Rattle.cred_tables.proofs.Ending.{DropsAll, drops_all, ended_kept, ended_is}
use Rattle.cred_tables.proofs.Filled.{filled_same, no_more_swept}
use Rattle.cred_tables.proofs.InUse.{Differ}
use Rattle.cred_tables.proofs.Puts as puts
use Rattle.cred_model.proofs.Places.{if_some}
use Rattle.cred_tables.proofs.Sealing.{Drops, roomy, in_free_or, in_none_or}
use Rattle.cred_setid.specs.Parts.{PartsBecome, changed, parts_of}
use Rattle.cred_setid.specs.declared.parts.IdParts.{IdParts}

-- ---- what was found

pub some_mapped : {X Y Z : Type 0} (f : X → Z) (g : Y → Z) (x : Option X) (y : Option Y) (b : Y) → option_map f x ≡ option_map g y → y ≡ Some b → IsSome x
some_mapped f g None y b is at = let none : None ≡ Some (g b) = is ∙ ap (option_map g) at in cc
some_mapped f g (Some x) y b is at = refl

pub mapped_is : {X Y Z : Type 0} (f : X → Z) (g : Y → Z) (x : Option X) (y : Option Y) (a : X) (b : Y) → option_map f x ≡ option_map g y → x ≡ Some a
    → y ≡ Some b
    → f a ≡ g b
mapped_is f g x y a b is here there =
    let both : Some (f a) ≡ Some (g b) = sym (ap (option_map f) here) ∙ is ∙ ap (option_map g) there in cc

-- what holds of the call that was found holds of that of the broadcast
pub called_so : (P : IdCall → Type 0) (found : Option Broadcast) (call : IdCall) → IfSome found (λ b. call ≡ b.call) → P call → IfSome found (λ b. P b.call)
called_so P None call is p = tt
called_so P (Some b) call is p = subst P is p

-- The least task that waits in the broadcast of this number is this one, which is alive and of the
-- broadcast's process.
pub record IsNext (s : State) (number task : ℕ) : Type 0 where
  pub broadcast : Broadcast
  pub found : broadcast_of s number ≡ Some broadcast
  pub least : slice_get broadcast.waiting 0 ≡ Some task
  pub owner : Task
  pub lives : task_of s task ≡ Some owner
  pub of : owner.process ≡ broadcast.process

-- so it is alive
pub next-lives : {s : State} {number task : ℕ} → IsNext s number task → IsSome (task_of s task)
next-lives next = ap is_some next.lives

pub next_is : (s : State) (number task : ℕ) → IsSound s → Some task ≡ option_and_then (λ b. slice_get b.waiting 0) (broadcast_of s number)
    → IsNext s number task
next_is s number task sound is = by (broadcast_of s number) refl is
  where
    by : (opened : Option Broadcast) → broadcast_of s number ≡ opened → Some task ≡ option_and_then (λ (b : Broadcast). slice_get b.waiting 0) opened
        → IsNext s number task
    by None at is = cc
    by (Some broadcast) at is =
        let under_way = (found (IsUnderWay s.tasks) (λ (b : Broadcast). b.number == number) s.broadcasts broadcast at sound.under_way).0 in
        let waits = least_waits broadcast task (sym is) in
        let thread = thread_is s.tasks broadcast.process task (waits_at (IsThread s.tasks broadcast.process) task broadcast.waiting under_way.waiting waits) in
        record { broadcast = broadcast; found = at; least = sym is; owner = thread.task; lives = thread.is; of = thread.of }

-- the call that the thread makes is that of its broadcast
pub call_is : {s : State} {number task : ℕ} (next : IsNext s number task) (call : IdCall) → Some call ≡ option_map (λ b. b.call) (broadcast_of s number)
    → call ≡ next.broadcast.call
call_is next call is = let both : Some call ≡ Some next.broadcast.call = is ∙ ap (option_map (λ (b : Broadcast). b.call)) next.found in cc

-- the broadcast's place among the open ones
module _ {s : State} {number task : ℕ} (next : IsNext s number task) (place : ℕ) (under : slice_get s.broadcasts place ≡ broadcast_of s number) where
  pub broadcast_there : slice_get s.broadcasts place ≡ Some next.broadcast
  broadcast_there = under ∙ next.found

  pub broadcast_within : place < length s.broadcasts
  broadcast_within = slice_get_within s.broadcasts place next.broadcast broadcast_there

  pub waits_there : IsSomeAnd (slice_get s.broadcasts place) (λ b. waits_in task b ≡ true)
  waits_there = rw broadcast_there (least_waits next.broadcast task next.least)

-- the least task that waits where the broadcast of a number was found
pub least_is : (s : State) (number place task : ℕ) → slice_get s.broadcasts place ≡ broadcast_of s number → place < length s.broadcasts
    → IfSome (slice_get s.broadcasts place) (λ b. slice_get b.waiting 0 ≡ Some task)
    → Some task ≡ option_and_then (λ b. slice_get b.waiting 0) (broadcast_of s number)
least_is s number place task under within least =
    let at = slice_get_at s.broadcasts place within in
    sym (if_some (λ (b : Broadcast). slice_get b.waiting 0 ≡ Some task) (slice_get s.broadcasts place) at.0 at.1 least)
    ∙ ap (option_and_then (λ (b : Broadcast). slice_get b.waiting 0)) (sym at.1 ∙ under)

-- the thread's place in the table of tasks
module _ {s : State} {number task : ℕ} (next : IsNext s number task) (place : ℕ) (there : slice_get s.tasks place ≡ task_of s task) where
  pub place_within : place < length s.tasks
  place_within = slice_get_within s.tasks place next.owner (there ∙ next.lives)

  pub current_there : (current : ℕ) → Some current ≡ option_map (λ t. t.current) (slice_get s.tasks place) → numbered s.creds current ≡ current_of s task
  current_there current is =
      let both : Some current ≡ Some next.owner.current = is ∙ ap (option_map (λ (t : Task). t.current)) (there ∙ next.lives) in
      let same : current ≡ next.owner.current = cc in
      ap (numbered s.creds) same ∙ sym (ap (option_and_then (λ (t : Task). numbered s.creds t.current)) next.lives)

  pub set_there : (new : ℕ) {after : List Task} → IfSome (slice_get s.tasks place) (λ t. after ≡ with_current s.tasks t.number new)
      → after ≡ with_current s.tasks task new
  set_there new {after = after} is =
      if_some (λ t. after ≡ with_current s.tasks t.number new) (slice_get s.tasks place) next.owner (there ∙ next.lives) is
      ∙ ap (λ (n : ℕ). with_current s.tasks n new) (owner_number s task next.owner next.lives)

-- ---- what the tests lead to

pub act_none : (s : State) (number : ℕ) → None ≡ option_and_then (λ b. slice_get b.waiting 0) (broadcast_of s number)
    → IsOutcomeLike (outcome s (by_act s number)) (NoBroadcast number) s
act_none s number none = does_same _ _ _ (by (broadcast_of s number) refl none)
  where
    by : (opened : Option Broadcast) → broadcast_of s number ≡ opened → None ≡ option_and_then (λ (b : Broadcast). slice_get b.waiting 0) opened
        → outcome s (by_act s number) ≡ (NoBroadcast number, s)
    by None at none = rw at refl
    by (Some broadcast) at none = rw (at, ← none) refl

act_does : (task process old : ℕ) (new : Credential) (broadcast : Broadcast) (other : Bool) → State → ℕ
    → Answer × State
act_does task process old new broadcast other s slot = (
  Acted task (length s.creds) slot (length broadcast.waiting - 1),
  record (replaced s task old new slot) {
    broadcasts = waits_no_more task s.broadcasts;
    dumpable = renewed s.dumpable process other;
  },
)

module _ (s : State) (number task : ℕ) (next : IsNext s number task) where
  own_of : (found : Option Numbered) → current_of s task ≡ found → numbered s.creds next.owner.current ≡ found
  own_of found has = sym (ap (option_and_then (λ (t : Task). numbered s.creds t.current)) next.lives) ∙ has

  pub act_without : current_of s task ≡ None → IsOutcomeLike (outcome s (by_act s number)) (NoBroadcast number) s
  act_without none = does_same _ _ _ (rw (next.found, next.least, next.lives, own_of None none) refl)

  module _ (old : Numbered) (has : current_of s task ≡ Some old) where
    pub act_refused : (denial : Denial) → set_id old.cred next.broadcast.call ≡ Err denial
        → outcome s (by_act s number) ≡ (Aborted task Perm, aborted next.broadcast s)
    act_refused denial rule = rw (next.found, next.least, next.lives, own_of (Some old) has, rule) refl

    act_tests : (new : Credential) → set_id old.cred next.broadcast.call ≡ Ok new
        → outcome s (by_act s number)
        ≡ in_slot s (λ r. (Aborted task Full, aborted next.broadcast r))
        (act_does task next.owner.process old.number new next.broadcast (differs old.cred new))
    unfolding act_does
    act_tests new rule = rw (next.found, next.least, next.lives, own_of (Some old) has, rule) refl

-- ---- a step that is kept

-- the slot that was put has what was put
pub slot_made : (before : Mastered) {after : Mastered} (slot : ℕ) (new : Credential) → after ≡ record before { slots = slice_set before.slots slot (Some new) }
    → length before.slots ≡ SLOTS
    → slot < SLOTS
    → slice_get after.slots slot ≡ Some (Some new)
slot_made before slot new made long small =
    ap (λ (m : Mastered). slice_get m.slots slot) made ∙ puts.set_there before.slots slot (Some new) (omega (arith, long, small))

pub there_once : {o : Option (Option Credential)} {c d : Credential} → o ≡ Some (Some d) → o ≡ Some (Some c) → d ≡ c
there_once {c = c} {d = d} one other = let both : Some (Some d) ≡ Some (Some c) = sym one ∙ other in cc

-- what the call makes of the thread's credential it makes of the words that are kept
pub kept_so : (before : Option Credential) (own new made : Credential) (found : Option Broadcast) (broadcast : Broadcast) (ids_changed : Bool)
    → found ≡ Some broadcast
    → IfSome before (λ head. head ≡ own)
    → IfSome found (λ b. MakesOf b.call own new ids_changed)
    → made ≡ new
    → IfSome before (λ head. IsSomeAnd found (λ b. MakesOf b.call head made ids_changed))
kept_so None own new made found broadcast ids_changed is head makes same = tt
kept_so (Some h) own new made found broadcast ids_changed is head makes same =
    rw is (rw (head, same) (if_some (λ (b : Broadcast). MakesOf b.call own new ids_changed) found broadcast is makes))

-- what the parts become is what the call makes
pub makes_so : (found : Option Broadcast) (own : Credential) (old parts : IdParts) (groups : Option (List ℕ)) (ids_changed : Bool)
    → IfSome found (λ b. (c : Credential) → parts_of c ≡ old → PartsBecome c old parts (Ok groups) (set_id c b.call))
    → parts_of own ≡ old
    → ids_changed ≡ differs own (changed own parts groups)
    → IfSome found (λ b. MakesOf b.call own (changed own parts groups) ids_changed)
makes_so None own old parts groups ids_changed becomes same differs_so = tt
makes_so (Some b) own old parts groups ids_changed becomes same differs_so = record { made = becomes own same; differs_so = differs_so }

-- ---- a process that ends

abort_table : (cause : AbortCause) (parts : StateLists) (store : List (Option Credential)) (t : Table)
    → at_abort cause (state_of parts store t) ≡ state_of parts store (table_at cause t)
abort_table Perm parts store t = refl
abort_table Full parts store t = refl

pub abort_keeps : (cause : AbortCause) {parts : StateLists} {store : List (Option Credential)} {t : Table} → IsKept parts store t
    → IsKept parts store (table_at cause t)
abort_keeps Perm is = is
abort_keeps Full {t = t} is = record {
  counted = record { counts = is.counted.counts; keeps = is.counted.keeps };
  filled = filled_same refl (no_more_swept t) is.filled;
}

-- what is held stays so
pub abort_held : (cause : AbortCause) (t : Table) → (table_at cause t).held ≡ t.held
abort_held Perm t = refl
abort_held Full t = refl

-- where an allocation wasn't what failed, and no credential was made, the call's rule denies it
pub denied : (c : Credential) (old new : IdParts) (why : Refusal) (given : Result Credential Denial) → PartsBecome c old new (Err why) given
    → (why ≡ refusal.Perm) ⊎ (why ≡ refusal.Invalid)
    → (denial : Denial) × (given ≡ Err denial)
denied c old new refusal.Perm given is other = (denial.Perm, is.0)
denied c old new refusal.Invalid given is other = (denial.Invalid, is.0)
denied c old new refusal.Memory given is (inl other) = cc
denied c old new refusal.Memory given is (inr other) = cc

-- what an equation says, where there is an answer
pub gives_ok : {E : Type 0} (before after : State) (event : Result (Answer × State) Answer) (made : Result Answer E)
    → IfOk made (λ answer. outcome before event ≡ (answer, after))
    → IfOk made (λ answer. IsOutcomeLike (outcome before event) answer after)
gives_ok before after event (Ok answer) gives = does_same _ _ _ gives
gives_ok before after event (Err why) gives = tt

-- the act, where it ended the process: what was left before the end is the state in which it was
-- made
pub aborts_so : {E : Type 0} (s left : State) (number task : ℕ) (cause : AbortCause) (after : State) (next : IsNext s number task) (made : Result Answer E)
    → left ≡ s
    → IfOk made (λ answer. answer ≡ Aborted task cause)
    → OnOk made (IfSome (task_of left task)
    (λ owner. (broadcast : Broadcast) → broadcast.process ≡ owner.process → after ≡ aborted broadcast (at_abort cause left)))
    → outcome s (by_act s number) ≡ (Aborted task cause, aborted next.broadcast (at_abort cause s))
    → IfOk made (λ answer. IsOutcomeLike (outcome s (by_act s number)) answer after)
aborts_so s left number task cause after next (Ok answer) same is ends gives =
    let Ends : State → Task → Type 0 = λ x owner. (broadcast : Broadcast) → broadcast.process ≡ owner.process → after ≡ aborted broadcast (at_abort cause x) in
    let ended = subst (λ (x : State). IfSome (task_of x task) (Ends x)) same ends in
    let end = if_some (Ends s) (task_of s task) next.owner next.lives ended next.broadcast (sym next.of) in
    does_same _ _ _
    (gives ∙ ap (λ (r : State). (Aborted task cause, r)) (sym end) ∙ ap (λ (a : Answer). (a, after)) (sym is))
aborts_so s left number task cause after next (Err e) same is ends gives = tt

-- more room to spare in the table changes nothing
pub same_spare : (parts : StateLists) (store : List (Option Credential)) (t : Table) {r : Table} {m : ℕ} → r ≡ record t { spare = m }
    → state_of parts store r ≡ state_of parts store t
same_spare parts store t is = ap (λ (x : Table). state_of parts store x) is

-- what all threads of the process referred to was given up, after the sweep if there was one
pub ends_all : (cause : AbortCause) (t : Table) {swept after : Table} {given numbers : List ℕ} → swept ≡ table_at cause t → given ≡ numbers
    → IsSameBag swept.held (given ++ after.held) → after ≡ record swept { held = after.held; deferred = swept.deferred ++ given }
    → DropsAll (table_at cause t) after numbers
ends_all cause t {swept = swept} is same held made = drops_all (table_at cause t) {r = swept} {m = (table_at cause t).spare} is same held made

module _ {parts : StateLists} {store : List (Option Credential)} {t : Table} (is : IsKept parts store t) (cause : AbortCause) (process : ℕ)
    (after : Table) (all : DropsAll (table_at cause t) after (left_by (is_thread_of process) parts.tasks)) where
  abbrev left : StateLists
  left = record parts {
    tasks = survivors (is_thread_of process) parts.tasks;
    broadcasts = dropped process parts.broadcasts;
    dumpable = without_flag parts.dumpable process;
  }

  pub process_kept : IsKept left store after
  process_kept =
      kept_beside (ended_kept (abort_keeps cause is) (is_thread_of process) after all)
      (dropped process parts.broadcasts) (without_flag parts.dumpable process)

  pub process_ended : (broadcast : Broadcast) → broadcast.process ≡ process
      → state_of left store after ≡ aborted broadcast (at_abort cause (state_of parts store t))
  process_ended broadcast of =
      let ends : ℕ → State → State = λ p r. aborted (record broadcast { process = p }) r in
      sym (ap (λ (r : State). aborted broadcast r) (abort_table cause parts store t)
      ∙ ap (λ (p : ℕ). ends p (state_of parts store (table_at cause t))) of
      ∙ ap (λ (r : State). record r { broadcasts = left.broadcasts; dumpable = left.dumpable })
      (ended_is (abort_keeps cause is) (is_thread_of process) after all))

-- ---- a step

module _ {parts : StateLists} {store : List (Option Credential)} {t : Table} (is : IsKept parts store t) (number task : ℕ)
    (next : IsNext (state_of parts store t) number task) (old : Numbered) (current : current_of (state_of parts store t) task ≡ Some old) (new : Credential)
    (rule : set_id old.cred next.broadcast.call ≡ Ok new) where
  abbrev s : State
  s = state_of parts store t

  pub act_full : table.free_in t ≡ None → outcome s (by_act s number) ≡ (Aborted task Full, aborted next.broadcast (at_abort Full s))
  act_full none =
      act_tests s number task next old current new rule
      ∙ in_none_or is (λ r. (Aborted task Full, aborted next.broadcast r))
      (act_does task next.owner.process old.number new next.broadcast (differs old.cred new)) none

  -- the new credential is sealed in the table `between`, and the old one is given up after it
  module _ {between after : Table} {sealed slot : ℕ} (long : length store ≡ SLOTS) (seals : Seals t between sealed slot) (distinct : Differ parts.tasks)
      (late : Drops between after old.number) where
    abbrev pub flags : List ProcessFlag
    flags = renewed parts.dumpable next.owner.process (differs old.cred new)

    abbrev pub end : StateLists
    end = record parts {
      tasks = with_current parts.tasks task sealed;
      broadcasts = waits_no_more task parts.broadcasts;
      dumpable = flags;
    }

    pub act_kept : IsKept end (slice_set store slot (Some new)) after
    act_kept =
        replaced_kept is after task old new current long seals distinct late
        (waits_no_more task parts.broadcasts) flags

    pub act_sealed : (left : ℕ) → left + 1 ≡ length next.broadcast.waiting
        → IsOutcomeLike (outcome s (by_act s number)) (Acted task sealed slot left) (state_of end (slice_set store slot (Some new)) after)
    unfolding act_does
    act_sealed left many =
        let broadcasts = waits_no_more task parts.broadcasts in
        let made : ℕ → State = λ n. record (replaced (roomy is) task old.number new slot) {
          tasks = with_current parts.tasks task n;
          broadcasts = broadcasts;
          dumpable = flags;
        } in
        let fewer : length next.broadcast.waiting - 1 ≡ left = omega (arith, many) in
        replaced_made is after task old new current long seals distinct late broadcasts flags
        (act_tests s number task next old current new rule
        ∙ in_free_or is (λ r. (Aborted task Full, aborted next.broadcast r))
        (act_does task next.owner.process old.number new next.broadcast (differs old.cred new)) slot
        seals.takes
        ∙ ap (λ (n : ℕ). (Acted task n slot (length next.broadcast.waiting - 1), made n)) (counts_next is after task old new current long seals distinct late)
        ∙ ap (λ (k : ℕ). (Acted task sealed slot k, made sealed)) fewer)
