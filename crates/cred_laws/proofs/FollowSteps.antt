-- What each event leaves to the threads that don't wait in an open broadcast.
use Rattle.std.proofs.Common.{◌≡◌, ◌≢◌, ◌==◌, not, ℕ, List, [], ◌∷◌, ◌++◌, length, map, get_or, slice_get, Some, None, Ok, Bool, true, false, cond, refl, sym}
use Rattle.std.proofs.Common.{ap, ◌∙◌, subst, arith}
use Rattle.std.specs.List.{All, filter, find}
use Rattle.std.specs.Option.{IfSome, option_and_then}
use Rattle.std.proofs.lemmas.List.{append-nil, length_push}
use Rattle.std.proofs.lemmas.List.Elements.{All-filter, All-push, All-weaker}
use Rattle.std.proofs.lemmas.Bool.Decides.{nat_tests}
use Rattle.std.proofs.lemmas.Bool.{cond_both, eqb-false, eqb-true}
use Rattle.cred_ids.specs.Ordered.{in_order}
use Rattle.cred_record.specs.Credential.{Credential}
use Rattle.cred_record.specs.declared.id_call.IdCall.{IdCall}
use Rattle.cred_rules.specs.SetId.{set_id}
use Rattle.cred_event.specs.declared.answer.Answer.{Answer}
use Rattle.cred_event.specs.declared.answer.Answer.TheVariants.{Acted}
use Rattle.cred_event.specs.declared.event.Change.{Change}
use Rattle.cred_event.specs.declared.event.Change.TheVariants.{Exec}
use Rattle.cred_event.specs.declared.event.Event.{Event}
use Rattle.cred_event.specs.declared.event.Event.TheVariants.{Commit, Act}
use Rattle.cred_model.specs.Script.{Script, chain_of}
use Rattle.cred_model.specs.State.{State, SealedCred, Task, Broadcast, Prepared, Changed, Numbered, numbered, task_of, broadcast_of, broadcast_in, current_of}
use Rattle.cred_model.specs.Broadcasts.{dropped, is_open, waits_in, with_child}
use Rattle.cred_model.specs.Ends.{is_thread_of, survivors}
use Rattle.cred_model.specs.Moves.{first_task, overriding, with_current}
use Rattle.cred_model.specs.LabelEvents.{ends_with}
use Rattle.cred_model.proofs.Lists.{All-at, All-kept, alone, found, found_none}
use Rattle.cred_model.proofs.Numbers.{numbered_is, numbered_last, overriding_as, owner_number}
use Rattle.cred_model.proofs.Rising.{All-passed, length-in_order}
use Rattle.cred_sound.specs.Broadcasts.{IsThread, IsUnderWay}
use Rattle.cred_sound.specs.Sound.{IsSound}
use Rattle.cred_sound.proofs.Parts.{sealed_cred, begun, broadcasts_left, TasksChange, Cause, Creation, Death, ByBegin, ByAct, ByRaw, ByCommit, BySpawn, ByFork}
use Rattle.cred_sound.proofs.Parts.{ByExit, ByAbort, SameTasks, SetsFlag, Creates, Shares, Renews, Overrides, Fewer}
use Rattle.cred_sound.proofs.Threads.{not_true, thread_is}
use Rattle.cred_laws.specs.Broadcast.{Completes}
use Rattle.cred_laws.specs.Made.{IsChangedFrom, IsMade, AreMade}
use Rattle.cred_laws.proofs.NamedLaws.{AreSame, change-same, is_exec}
use Rattle.cred_laws.proofs.FollowLaws.{HasOr, Followed, waits, followed_more, followed_waiting, followed_renewed, still_without, still_with, parent_with}
use Rattle.cred_laws.proofs.FollowLaws.{found_in, shown, left_open, joined_open, begun_beside, dropped_beside, dropped_none}

-- what a broadcast sets decides whether P holds of a credential
abbrev pub Kept : (Credential → Type 0) → Type 0
Kept P = (c d : Credential) → AreSame c d → P c → P d

-- P holds of what a thread's own step in the broadcast makes
abbrev pub OwnStep : (Credential → Type 0) → State → Event → Answer → Broadcast → Type 0
OwnStep P s event answer broadcast =
    (number task cred slot left : ℕ) (old : Numbered) (new : Credential) → event ≡ Act number → answer ≡ Acted task cred slot left
    → broadcast_of s number ≡ Some broadcast → current_of s task ≡ Some old → set_id old.cred broadcast.call ≡ Ok new → P new

-- After the event these threads wait in the broadcast of the process, and P holds of what the
-- others have; or the broadcast is dropped, and not completed.
pub data After (P : Credential → Type 0) (s : State) (event : Event) (made : Answer × State) (process : ℕ) (broadcast : Broadcast) : Type 0 where
  Waits : (waiting : List ℕ) → Followed P made.1.creds made.1.tasks process waiting
      → found_in process made.1.broadcasts ≡ shown (record broadcast { waiting = waiting }) → After P s event made process broadcast
  Dropped : found_in process made.1.broadcasts ≡ None
      → ((process : ℕ) (call : IdCall) → Completes s event made.0 made.1 process call → ⊥) → After P s event made process broadcast

-- ---- what is known before the event

shown_open : (broadcast : Broadcast) → is_open broadcast ≡ true → Some broadcast ≡ shown broadcast
shown_open broadcast some = sym (ap (λ b. cond b (Some broadcast) None) some)

-- the broadcast that is open in a process is under way there
pub record IsIn (s : State) (process : ℕ) (broadcast : Broadcast) : Type 0 where
  pub of : broadcast.process ≡ process
  pub under_way : IsUnderWay s.tasks broadcast
  pub only : All (λ c. c.process ≡ broadcast.process → c ≡ broadcast) s.broadcasts

pub is_in : (s : State) (process : ℕ) (broadcast : Broadcast) → IsSound s → broadcast_in s process ≡ Some broadcast → IsIn s process broadcast
is_in s process broadcast sound is =
    let Is : Broadcast → Bool = λ b. b.process == process in
    let at = found (IsUnderWay s.tasks) Is s.broadcasts broadcast is sound.under_way in
    let one = found (λ (x : Broadcast). All (λ (y : Broadcast). y.process ≡ x.process → y ≡ x) s.broadcasts) Is s.broadcasts broadcast is
    (alone (λ (c : Broadcast). c.process) s.broadcasts sound.processes) in
    record { of = eqb-true broadcast.process process at.1; under_way = at.0; only = one.0 }

-- whoever has the number of the task is it
the_owner : (s : State) (task : ℕ) (owner : Task) → IsSound s → task_of s task ≡ Some owner
    → All (λ t. t.number ≡ task → t ≡ owner) s.tasks
the_owner s task owner sound is =
    let at = found (λ (x : Task). All (λ (y : Task). y.number ≡ x.number → y ≡ x) s.tasks) (λ t. t.number == task) s.tasks owner is
    (alone (λ (t : Task). t.number) s.tasks sound.tasks) in
    All-weaker (λ (t : Task). t.number ≡ owner.number → t ≡ owner) (λ t. t.number ≡ task → t ≡ owner)
    (λ t one same. one (same ∙ sym (owner_number s task owner is))) s.tasks at.0

-- a process that has a thread isn't one that has none
has_thread : (tasks : List Task) (process number : ℕ) → find (is_thread_of process) tasks ≡ None → IsThread tasks process number → ⊥
has_thread tasks process number none is =
    let at = thread_is tasks process number is in
    let no = (found (λ (t : Task). is_thread_of process t ≡ false) (λ t. t.number == number) tasks at.task at.is
    (found_none (is_thread_of process) tasks none)).0 in
    let yes : (at.task.process == process) ≡ true = let of = at.of in grind (arith, nat_tests) in
    let both : true ≡ false = sym yes ∙ no in
    cc

-- with a child that waits, somebody waits
child_shown : (task child : ℕ) (broadcast : Broadcast) → is_open broadcast ≡ true
    → Some (with_child task child broadcast) ≡ shown (record broadcast { waiting = (with_child task child broadcast).waiting })
child_shown task child broadcast some =
    let waits : Broadcast = record broadcast { waiting = in_order (broadcast.waiting ++ child ∷ []) } in
    cond_both (waits_in task broadcast) waits broadcast
    (λ (c : Broadcast). Some c ≡ shown (record broadcast { waiting = c.waiting }))
    (λ is. shown_open waits
    (ap (λ n. not (n == 0)) (length-in_order (broadcast.waiting ++ child ∷ []) ∙ length_push broadcast.waiting child) ∙ (grind (arith, nat_tests))))
    (λ other. shown_open broadcast some)

-- two are open in different processes
pub idle_differs : (s : State) (process idle : ℕ) (broadcast : Broadcast) → broadcast_in s process ≡ Some broadcast → broadcast_in s idle ≡ None
    → process ≢ idle
idle_differs s process idle broadcast is none same =
    let both : Some broadcast ≡ None = sym is ∙ ap (broadcast_in s) same ∙ none in cc

-- ---- one case after another

module _ (P : Credential → Type 0) (kept : Kept P) (script : Script) (s : State) (event : Event) (made : Answer × State) (process : ℕ)
    (broadcast : Broadcast) (sound : IsSound s) (are_made : AreMade script s) (is : broadcast_in s process ≡ Some broadcast)
    (before : Followed P s.creds s.tasks process broadcast.waiting) (own : OwnStep P s event made.0 broadcast) where
  at : IsIn s process broadcast
  at = is_in s process broadcast sound is

  abbrev Goes : Type 0
  Goes = After P s event made process broadcast

  -- the broadcast as it was
  open_still : made.1.broadcasts ≡ s.broadcasts → found_in process made.1.broadcasts ≡ shown broadcast
  open_still same = ap (found_in process) same ∙ is ∙ shown_open broadcast at.under_way.some

  -- with more credentials
  grown : (creds : List SealedCred) → (more : List SealedCred) × (creds ≡ s.creds ++ more) → Followed P creds s.tasks process broadcast.waiting
  grown creds more =
      subst (λ creds. Followed P creds s.tasks process broadcast.waiting) (sym more.1)
      (followed_more P s.creds more.0 s.tasks process broadcast.waiting before)

  -- these tasks, in the event's state
  settled : (tasks : List Task) (waiting : List ℕ) → made.1.tasks ≡ tasks → Followed P made.1.creds tasks process waiting
      → Followed P made.1.creds made.1.tasks process waiting
  settled tasks waiting same = subst (λ ts. Followed P made.1.creds ts process waiting) (sym same)

  -- what the tasks that go on have, whichever end
  abbrev Had : List SealedCred → (Task → Bool) → Type 0
  Had creds ends = Followed P creds (survivors ends s.tasks) process broadcast.waiting

  had : (ends : Task → Bool) (creds : List SealedCred) → (more : List SealedCred) × (creds ≡ s.creds ++ more) → Had creds ends
  had ends creds more =
      All-filter (λ t. not (ends t)) (HasOr P creds process broadcast.waiting) s.tasks (grown creds more)

  -- one of them has a new credential, which P holds of if the task doesn't wait
  renewed : (ends : Task → Bool) (task slot : ℕ) (owner : Task) (c : Credential) (waiting : List ℕ) → task_of s task ≡ Some owner
      → made.1.tasks ≡ with_current (survivors ends s.tasks) task (length s.creds) → made.1.creds ≡ s.creds ++ sealed_cred c slot ∷ []
      → ((n : ℕ) → n ≢ task → waits n waiting ≡ false → waits n broadcast.waiting ≡ false)
      → (owner.process ≡ process → waits owner.number waiting ≡ false → P c) → Followed P made.1.creds made.1.tasks process waiting
  renewed ends task slot owner c waiting found tasks creds fewer new =
      let rest = survivors ends s.tasks in
      let n = length s.creds in
      let now = numbered_last s.creds (sealed_cred c slot) in
      let one = All-filter (λ t. not (ends t)) (λ t. t.number ≡ task → t ≡ owner) s.tasks (the_owner s task owner sound found) in
      settled (with_current rest task n) waiting tasks
      (followed_renewed P made.1.creds rest process waiting task n
      (λ k d lt same of still.
      let t = get_or rest k d in
      let is_owner : t ≡ owner = one k d lt same in (
        record { number = n; cred = c; slot = slot },
        ap (λ creds. numbered creds n) creds ∙ now,
        new (ap (λ (t : Task). t.process) (sym is_owner) ∙ of) (ap (λ (t : Task). waits t.number waiting) (sym is_owner) ∙ still),
      ))
      (λ k d lt other of still. had ends made.1.creds (_, creds) k d lt of (fewer _ other still)))

  -- a task of another process
  beside : (ends : Task → Bool) (task slot : ℕ) (owner : Task) (c : Credential) → task_of s task ≡ Some owner
      → made.1.tasks ≡ with_current (survivors ends s.tasks) task (length s.creds) → made.1.creds ≡ s.creds ++ sealed_cred c slot ∷ []
      → process ≢ owner.process → Followed P made.1.creds made.1.tasks process broadcast.waiting
  beside ends task slot owner c found tasks creds other =
      renewed ends task slot owner c broadcast.waiting found tasks creds (λ n differ still. still) (λ same still. absurd (other (sym same)))

  -- a child of a waiting task waits, and no other does
  abbrev Waiting : ℕ → ℕ → List ℕ
  Waiting task child = (with_child task child broadcast).waiting

  same_creds : made.1.creds ≡ s.creds → (more : List SealedCred) × (made.1.creds ≡ s.creds ++ more)
  same_creds same = ([], same ∙ sym (append-nil s.creds))

  created : (task child of : ℕ) (parent : Numbered) → Creation s event task child of made
      → made.1.tasks ≡ s.tasks ++ first_task child of parent.number ∷ [] → made.1.creds ≡ s.creds → current_of s task ≡ Some parent → Goes
  created task child of parent (BySpawn owner spawns lives own_process broadcasts flags) tasks creds current =
      let waiting = Waiting task child in
      let new = first_task child of parent.number in
      let old : Followed P made.1.creds s.tasks process waiting
      = followed_waiting P made.1.creds s.tasks process broadcast.waiting waiting (λ k d lt. still_with task child broadcast _)
      (grown made.1.creds (same_creds creds)) in
      let by_parent : HasOr P made.1.creds process waiting new
      = λ here still.
      let parents = (found (HasOr P s.creds process broadcast.waiting) (λ t. t.number == task) s.tasks owner lives before).0 in
      let quiet : waits owner.number broadcast.waiting ≡ false
      = ap (λ n. waits n broadcast.waiting) (owner_number s task owner lives) ∙ parent_with task child broadcast still in
      let has = parents (sym own_process ∙ here) quiet in
      let owned : numbered s.creds owner.current ≡ Some parent
      = sym (ap (option_and_then (λ (t : Task). numbered s.creds t.current)) lives) ∙ current in
      let number : parent.number ≡ owner.current = (numbered_is s.creds owner.current parent owned).0 in
      (has.0, ap (λ creds. numbered creds parent.number) creds ∙ ap (numbered s.creds) number ∙ has.1, has.2) in
      Waits waiting (settled (s.tasks ++ new ∷ []) waiting tasks (All-push (HasOr P made.1.creds process waiting) s.tasks new old by_parent))
      (ap (found_in process) broadcasts ∙ joined_open task child process s.broadcasts broadcast is
      ∙ child_shown task child broadcast at.under_way.some)
  created task child of parent (ByFork by forks known unused broadcasts flags) tasks creds current =
      let new = first_task child of parent.number in
      let Had = HasOr P made.1.creds process broadcast.waiting in
      Waits broadcast.waiting
      (settled (s.tasks ++ new ∷ []) broadcast.waiting tasks
      (All-push Had s.tasks new (grown made.1.creds (same_creds creds))
      (λ here still. absurd
      (has_thread s.tasks of broadcast.caller unused (subst (λ p. IsThread s.tasks p broadcast.caller) (at.of ∙ sym here) at.under_way.caller)))))
      (open_still broadcasts)

  -- a task's new credential
  committed_goes : (task slot : ℕ) (owner : Task) (c : Credential) (ends : Task → Bool) (place : ℕ) (p : Prepared) (last : Changed) (change : Change)
      → (label : ℕ) → event ≡ Commit label → last.change ≡ change → slice_get s.prepared place ≡ Some p → p.changed ≡ Some last
      → owner.current ≡ p.base → c ≡ last.cred → ends ≡ ends_with change owner → made.1.broadcasts ≡ broadcasts_left change owner s.broadcasts
      → task_of s task ≡ Some owner → made.1.tasks ≡ with_current (survivors ends s.tasks) task (length s.creds)
      → made.1.creds ≡ s.creds ++ sealed_cred c slot ∷ [] → Goes
  committed_goes task slot owner c ends place p last (Exec file) label commits is_last there changed same cred ending broadcasts lives tasks creds =
      elim (owner.process == process) as (λ b. (owner.process == process) ≡ b → Goes) [
        | true ↦ λ test.
            let own : owner.process ≡ process = eqb-true owner.process process test in
            Dropped (ap (found_in process) broadcasts ∙ ap (λ q. found_in process (dropped q s.broadcasts)) own ∙ dropped_none process s.broadcasts)
            (λ q call completes. subst (λ e. Completes s e made.0 made.1 q call) commits completes)
        | false ↦ λ test.
            let other : process ≢ owner.process = λ same. eqb-false owner.process process test (sym same) in
            Waits broadcast.waiting (beside ends task slot owner c lives tasks creds other)
            (ap (found_in process) broadcasts ∙ dropped_beside process owner.process s.broadcasts broadcast other is ∙ shown_open broadcast at.under_way.some)
      ] refl
  committed_goes task slot owner c ends place p last change label commits is_last there changed same cred ending broadcasts lives tasks creds =
      Waits broadcast.waiting
      (renewed ends task slot owner c broadcast.waiting lives tasks creds (λ n differ still. still)
      (λ here still.
      let has = (found (HasOr P s.creds process broadcast.waiting) (λ t. t.number == task) s.tasks owner lives before).0 here still in
      let old : Numbered = has.0 in
      let one = All-at (IsMade script s.creds) s.prepared place p there are_made in
      let so = subst (λ o. IfSome o (IsChangedFrom script (numbered s.creds p.base))) changed one in
      let base : numbered s.creds p.base ≡ Some old = ap (numbered s.creds) (sym same) ∙ has.1 in
      let by = subst (λ found. IsChangedFrom script found last) base so in
      let stays : AreSame old.cred last.cred
      = change-same by.0 (chain_of script old.cred.ns) old.cred last.change
      (record { answer = by.1; cred = last.cred; gains = last.gains }) (ap is_exec is_last) by.2 in
      subst P (sym cred) (kept old.cred last.cred stays has.2)))
      (open_still broadcasts)

  renews : (task slot : ℕ) (owner : Task) (c : Credential) (ends : Task → Bool) → Cause s event task owner ends c made
      → task_of s task ≡ Some owner → made.1.tasks ≡ with_current (survivors ends s.tasks) task (length s.creds)
      → made.1.creds ≡ s.creds ++ sealed_cred c slot ∷ [] → Goes
  renews task slot owner c ends (ByBegin call old number at_slot begins has ruled unused idle none broadcasts answered flags) lives tasks creds =
      Waits broadcast.waiting
      (beside ends task slot owner c lives tasks creds (idle_differs s process owner.process broadcast is idle))
      (ap (found_in process) broadcasts ∙ begun_beside process s.broadcasts (begun number owner call s.tasks) broadcast is
      ∙ shown_open broadcast at.under_way.some)
  renews task slot owner c ends (ByAct number at_slot in_broadcast old acts opened first has ruled none broadcasts answered flags) lives tasks creds =
      let waiting = filter (λ n. not (n == task)) broadcast.waiting in
      Waits waiting
      (renewed ends task slot owner c waiting lives tasks creds (λ n differ still. still_without n task broadcast.waiting differ still)
      (λ here still.
      let ways = found (IsUnderWay s.tasks) (λ b. b.number == number) s.broadcasts in_broadcast opened sound.under_way in
      let only = found (λ c. c.process ≡ broadcast.process → c ≡ broadcast) (λ b. b.number == number) s.broadcasts in_broadcast opened at.only in
      let waiter : IsThread s.tasks in_broadcast.process task =
      All-at (IsThread s.tasks in_broadcast.process) in_broadcast.waiting 0 task first ways.0.waiting in
      let thread = thread_is s.tasks in_broadcast.process task waiter in
      let both : Some thread.task ≡ Some owner = sym thread.is ∙ lives in
      let one : thread.task ≡ owner = cc in
      let where_it_is : in_broadcast.process ≡ broadcast.process = sym thread.of ∙ ap (λ (t : Task). t.process) one ∙ here ∙ sym at.of in
      let same : in_broadcast ≡ broadcast = only.0 where_it_is in
      own number task _ _ _ old c acts answered (opened ∙ ap Some same) has (ap (λ (b : Broadcast). set_id old.cred b.call) (sym same) ∙ ruled)))
      (ap (found_in process) broadcasts ∙ left_open task process s.broadcasts broadcast sound.processes is)
  renews task slot owner c ends (ByRaw call old at_slot raws has ruled idle none broadcasts answered flags) lives tasks creds =
      Waits broadcast.waiting
      (beside ends task slot owner c lives tasks creds (idle_differs s process owner.process broadcast is idle)) (open_still broadcasts)
  renews task slot owner c ends
      (ByCommit label place at_slot count p last commits first there own changed same cred ending broadcasts answered flags) lives tasks creds =
      committed_goes task slot owner c ends place p last last.change label commits refl there changed same cred ending broadcasts lives tasks creds

  -- tasks end
  fewer : (ends : Task → Bool) → Death s event ends made → made.1.tasks ≡ survivors ends s.tasks → made.1.creds ≡ s.creds → Goes
  fewer ends (ByExit task gone exits known ending idle broadcasts flags) tasks creds =
      let waiting = filter (λ n. not (n == task)) broadcast.waiting in
      let now = survivors ends s.tasks in
      let others : All (λ t. t.number ≢ task) now
      = All-passed (λ t. not (ends t)) (λ t. Unit {0}) (λ t. t.number ≢ task) s.tasks
      (λ t goes_on _.
      let on : not (t.number == task) ≡ true = sym (ap (λ (f : Task → Bool). not (f t)) ending) ∙ goes_on in
      let test : (t.number == task) ≡ false = not_true (t.number == task) on in
      eqb-false t.number task test) (λ k d lt. tt) in
      Waits waiting
      (settled now waiting tasks
      (followed_waiting P made.1.creds now process broadcast.waiting waiting
      (λ k d lt. still_without _ task broadcast.waiting (others k d lt)) (had ends made.1.creds (same_creds creds))))
      (ap (found_in process) broadcasts ∙ left_open task process s.broadcasts broadcast sound.processes is)
  fewer ends (ByAbort number task cause in_broadcast acts ending broadcasts answered flags) tasks creds =
      elim (in_broadcast.process == process) as (λ b. (in_broadcast.process == process) ≡ b → Goes) [
        | true ↦ λ test.
            let own : in_broadcast.process ≡ process = eqb-true in_broadcast.process process test in
            Dropped (ap (found_in process) broadcasts ∙ ap (λ q. found_in process (dropped q s.broadcasts)) own ∙ dropped_none process s.broadcasts)
            (λ q call completes.
            subst (λ a. Completes s (Act number) a made.1 q call) answered
            (subst (λ e. Completes s e made.0 made.1 q call) acts completes))
        | false ↦ λ test.
            let other : process ≢ in_broadcast.process = λ same. eqb-false in_broadcast.process process test (sym same) in
            Waits broadcast.waiting
            (settled (survivors ends s.tasks) broadcast.waiting tasks (had ends made.1.creds (same_creds creds)))
            (ap (found_in process) broadcasts ∙ dropped_beside process in_broadcast.process s.broadcasts broadcast other is
            ∙ shown_open broadcast at.under_way.some)
      ] refl

  pub goes : TasksChange script s event made → (more : List SealedCred) × (made.1.creds ≡ s.creds ++ more) → Goes
  goes (SameTasks same broadcasts flags) more =
      Waits broadcast.waiting (settled s.tasks broadcast.waiting same (grown made.1.creds more)) (open_still broadcasts)
  goes (SetsFlag task value owner flag is found known same broadcasts flags) more =
      Waits broadcast.waiting (settled s.tasks broadcast.waiting same (grown made.1.creds more)) (open_still broadcasts)
  goes (Creates task of user group ns slot inits tasks creds new idle broadcasts flags) more =
      let first = first_task task of (length s.creds) in
      Waits broadcast.waiting
      (settled (s.tasks ++ first ∷ []) broadcast.waiting tasks
      (All-push (HasOr P made.1.creds process broadcast.waiting) s.tasks first (grown made.1.creds more)
      (λ here still. absurd (idle_differs s process of broadcast is idle (sym here)))))
      (open_still broadcasts)
  goes (Shares task child of parent tasks creds current new creation) more = created task child of parent creation tasks creds current
  goes (Renews task slot owner c ends tasks creds lives cause) more = renews task slot owner c ends cause lives tasks creds
  goes (Overrides task numbers tasks refer broadcasts flags) more =
      let Had = HasOr P made.1.creds process broadcast.waiting in
      Waits broadcast.waiting
      (settled (map (overriding task numbers) s.tasks) broadcast.waiting tasks
      (All-kept Had (overriding task numbers) s.tasks (λ t has. overriding_as Had task numbers t has has) (grown made.1.creds more)))
      (open_still broadcasts)
  goes (Fewer ends tasks creds death) more = fewer ends death tasks creds
