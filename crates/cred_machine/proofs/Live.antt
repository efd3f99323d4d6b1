-- Which slots are live after an id call and after a thread's step, by those that were before it.
use Rattle.std.proofs.Common.{◌≡◌, ◌≢◌, ℕ, zero, suc, ◌-◌, ◌<◌, ◌==◌, ◌||◌, not, Bool, true, false, cond, MatchBool, List, [], ◌∷◌, ◌++◌, find}
use Rattle.std.proofs.Common.{length, map, is_some, slice_get, Option, Some, None, Result, Ok, Err, ok_or, refl, sym, ap, ◌∙◌, subst, arith}
use Rattle.std.specs.List.{All, AllPairs, concat, flat_map, list_any}
use Rattle.std.specs.Option.{IfSome, option_map, option_map_or}
use Rattle.std.proofs.lemmas.Bool.Decides.{nat_tests}
use Rattle.std.proofs.lemmas.List.{length-map}
use Rattle.std.proofs.lemmas.List.Elements.{All-head, All-tail}
use Rattle.std.proofs.lemmas.List.Folds.{list_any-append}
use Rattle.cred_record.specs.Credential.{Credential}
use Rattle.cred_rules.specs.SetId.{set_id}
use Rattle.cred_event.specs.declared.answer.Answer.{Answer}
use Rattle.cred_event.specs.declared.answer.AbortCause.TheVariants.{Perm, Full}
use Rattle.cred_event.specs.declared.answer.Answer.TheVariants.{Aborted, Acted, NoBroadcast}
use Rattle.cred_model.specs.Broadcasts.{waits_no_more}
use Rattle.cred_model.specs.Dumpable.{differs, renewed}
use Rattle.cred_model.specs.State.{State, SealedCred, Prepared, ProcessFlag, Task, Broadcast, Numbered, broadcast_of, numbered, task_of}
use Rattle.cred_model.specs.Change.{by_rule}
use Rattle.cred_model.specs.Like.{IsLike}
use Rattle.cred_model.specs.Moves.{replaced, updated, with_current}
use Rattle.cred_model.specs.Slots.{free, is_kept, is_live, least_free, refs, stands_in}
use Rattle.cred_model.specs.CallEvents.{aborted, by_act, follow}
use Rattle.cred_model.specs.Step.{outcome}
use Rattle.cred_model.proofs.Rising.{AllPairs-head, AllPairs-tail}
use Rattle.cred_sound.specs.Sound.{IsSound}
use Rattle.cred_plain.specs.Creds.{slots_of}
use Rattle.cred_machine.specs.Slots.{AreLive, HasTaken, TakesSlot}
use Rattle.cred_machine.specs.Room.{IsCurrentOf, swept_if}
use Rattle.cred_machine.proofs.Free.{free_now}
use Rattle.cred_plain.proofs.Places.{all_left}
use Rattle.cred_machine.proofs.Rooms.{in_free}
use Rattle.cred_ids.specs.Tests.{◌>>=◌}

-- ---- one credential more

-- a number that was sealed before stands where it did
stands_before : (creds : List SealedCred) (x : SealedCred) (slot n : ℕ) → n < length creds → stands_in (creds ++ x ∷ []) slot n ≡ stands_in creds slot n
stands_before [] x slot n within = absurd (omega arith)
stands_before (c ∷ cs) x slot zero within = refl
stands_before (c ∷ cs) x slot (suc n) within = stands_before cs x slot n (omega arith)

-- the new one stands in its slot
pub stands_new : (creds : List SealedCred) (x : SealedCred) (slot : ℕ) → stands_in (creds ++ x ∷ []) slot (length creds) ≡ (x.slot == slot)
stands_new [] x slot = refl
stands_new (c ∷ cs) x slot = stands_new cs x slot

pub any_before : (creds : List SealedCred) (x : SealedCred) (slot : ℕ) (ns : List ℕ) → All (λ n. n < length creds) ns
    → list_any (stands_in (creds ++ x ∷ []) slot) ns ≡ list_any (stands_in creds slot) ns
any_before creds x slot [] within = refl
any_before creds x slot (n ∷ ns) within =
    ap (λ b. b || list_any (stands_in (creds ++ x ∷ []) slot) ns) (stands_before creds x slot n (All-head (λ n. n < length creds) n ns within))
    ∙ ap (λ b. stands_in creds slot n || b) (any_before creds x slot ns (All-tail (λ n. n < length creds) n ns within))

-- ---- one task has another current credential

module _ (task new : ℕ) (p : ℕ → Bool) where
  same_overrides : (tasks : List Task) → flat_map (λ t. t.overrides) (with_current tasks task new) ≡ flat_map (λ t. t.overrides) tasks
  same_overrides [] = refl
  same_overrides (t ∷ ts) =
      elim (t.number == task) as (λ b. (cond b (record t { current = new }) t).overrides ++ flat_map (λ u. u.overrides) (with_current ts task new)
      ≡ t.overrides ++ flat_map (λ u. u.overrides) ts) [
        | true ↦ ap (λ ns. t.overrides ++ ns) (same_overrides ts)
        | false ↦ ap (λ ns. t.overrides ++ ns) (same_overrides ts)
      ]

  others_left : (t : Task) → t.number ≢ task → updated task new t ≡ t
  others_left t other = let test : (t.number == task) ≡ false = grind (arith, nat_tests) in rw test refl

  swap_head : (old rest new : Bool) → ((new || rest) || old) ≡ ((old || rest) || new)
  swap_head true true true = refl
  swap_head true true false = refl
  swap_head true false true = refl
  swap_head true false false = refl
  swap_head false true true = refl
  swap_head false true false = refl
  swap_head false false true = refl
  swap_head false false false = refl

  keep_head : (head before after old new : Bool) → (after || old) ≡ (before || new) → ((head || after) || old) ≡ ((head || before) || new)
  keep_head true before after old new is = refl
  keep_head false before after old new is = is

  currents : (tasks : List Task) (owner : Task) → AllPairs (λ a b. a.number ≢ b.number) tasks → find (λ t. t.number == task) tasks ≡ Some owner
      → (list_any p (map (λ t. t.current) (with_current tasks task new)) || p owner.current) ≡ (list_any p (map (λ t. t.current) tasks) || p new)
  currents [] owner apart found = cc
  currents (t ∷ ts) owner apart found =
      at (t.number == task) refl found (currents ts owner (AllPairs-tail (λ (x y : Task). x.number ≢ y.number) t ts apart))
    where
      at : (b : Bool) → (t.number == task) ≡ b → cond b (Some t) (find (λ u. u.number == task) ts) ≡ Some owner
          → (find (λ u. u.number == task) ts ≡ Some owner
          → (list_any p (map (λ u. u.current) (with_current ts task new)) || p owner.current) ≡ (list_any p (map (λ u. u.current) ts) || p new))
          → (list_any p (map (λ u. u.current) (cond b (record t { current = new }) t ∷ with_current ts task new)) || p owner.current)
          ≡ (list_any p (map (λ u. u.current) (t ∷ ts)) || p new)
      at true test is later =
          let same : t ≡ owner = ap (λ (o : Option Task). option_map_or (λ u. u) o t) is in
          let own : t.number ≡ task = grind (arith, nat_tests) in
          let others = AllPairs-head (λ (x y : Task). x.number ≢ y.number) t ts apart in
          let rest : with_current ts task new ≡ ts
          = all_left (λ (u : Task). u.number) (updated task new) task others_left ts
          (λ k e lt. let differs = others k e lt in λ is'. differs (own ∙ sym is')) in
          ap (λ us. (p new || list_any p (map (λ (u : Task). u.current) us)) || p owner.current) rest
          ∙ ap (λ (u : Task). (p new || list_any p (map (λ v. v.current) ts)) || p u.current) (sym same)
          ∙ swap_head (p t.current) (list_any p (map (λ u. u.current) ts)) (p new)
      at false test is later =
          keep_head (p t.current) (list_any p (map (λ u. u.current) ts)) (list_any p (map (λ u. u.current) (with_current ts task new))) (p owner.current)
          (p new)
          (later is)

-- ---- a credential is replaced

-- the parts of what is live, with what changes first
changes_first : (now rest late old kept : Bool)
    → (((now || rest) || (late || (old || false))) || kept) ≡ ((now || old) || ((rest || late) || kept))
changes_first true rest late old kept = refl
changes_first false true late true kept = refl
changes_first false true late false kept = refl
changes_first false false true true kept = refl
changes_first false false true false kept = refl
changes_first false false false true kept = refl
changes_first false false false false kept = refl

new_last : (was new rest late kept : Bool) → ((was || new) || ((rest || late) || kept)) ≡ ((((was || rest) || late) || kept) || new)
new_last true new rest late kept = refl
new_last false true true late kept = refl
new_last false true false true kept = refl
new_last false true false false true = refl
new_last false true false false false = refl
new_last false false true late kept = refl
new_last false false false true kept = refl
new_last false false false false true = refl
new_last false false false false false = refl

any_parts : (p : ℕ → Bool) (currents rest late : List ℕ)
    → list_any p ((currents ++ rest) ++ late) ≡ ((list_any p currents || list_any p rest) || list_any p late)
any_parts p currents rest late =
    list_any-append p (currents ++ rest) late
    ∙ ap (λ b. b || list_any p late) (list_any-append p currents rest)

module _ (s : State) (sound : IsSound s) (task slot : ℕ) (owner : Task) (made : Credential) (lives : task_of s task ≡ Some owner) where
  abbrev new_cred : SealedCred
  new_cred = record { cred = made; slot = slot }

  -- where the number that is sealed last stands, all others stand where they did
  pub live_replaced : (broadcasts : List Broadcast) (flags : List ProcessFlag) (k : ℕ)
      → is_live (record (replaced s task owner.current made slot) { broadcasts = broadcasts; dumpable = flags }) k ≡ (is_live s k || (slot == k))
  live_replaced broadcasts flags k =
      let p = stands_in (s.creds ++ new_cred ∷ []) k in
      let new = length s.creds in
      let after = with_current s.tasks task new in
      let was = map (λ (t : Task). t.current) s.tasks in
      let now = map (λ (t : Task). t.current) after in
      let others : List (List ℕ)
      = map (λ f. f.opener) s.files ∷ map (λ h. h.number) s.holds ∷ map (λ q. q.base) s.prepared ∷ [] in
      let rest = flat_map (λ (t : Task). t.overrides) s.tasks ++ concat others in
      let late = s.deferred in
      let old = owner.current in
      let kept = is_kept s k in
      let within : All (λ n. n < length s.creds) (refs s)
      = subst (λ (m : ℕ). All (λ n. n < m) (refs s)) (length-map s.creds (λ (c : SealedCred). c.slot)) sound.slots.sealed in
      ap (λ (os : List ℕ). list_any p ((now ++ (os ++ concat others)) ++ (late ++ old ∷ [])) || kept) (same_overrides task new p s.tasks)
      ∙ ap (λ b. b || kept)
      (any_parts p now rest (late ++ old ∷ []) ∙ ap (λ b. (list_any p now || list_any p rest) || b) (list_any-append p late (old ∷ [])))
      ∙ changes_first (list_any p now) (list_any p rest) (list_any p late) (p old) kept
      ∙ ap (λ b. b || ((list_any p rest || list_any p late) || kept)) (currents task new p s.tasks owner sound.tasks lives)
      ∙ new_last (list_any p was) (p new) (list_any p rest) (list_any p late) kept
      ∙ ap (λ b. (b || kept) || p new) (sym (any_parts p was rest late) ∙ any_before s.creds new_cred k (refs s) within)
      ∙ ap (λ b. is_live s k || b) (stands_new s.creds new_cred k)

-- ---- what a step was, by its answer

-- a test that is passed where the answer isn't its refusal
past : {X : Type 0} (s : State) (found : Option X) (refusal : Answer) (next : X → Result (Answer × State) Answer) (answer : Answer) (after : State)
    → refusal ≢ answer → outcome s (ok_or found refusal >>= next) ≡ (answer, after)
    → (x : X) × (found ≡ Some x) × (outcome s (next x) ≡ (answer, after))
past s None refusal next answer after other is = absurd (other (ap (λ (g : Answer × State). g.0) is))
past s (Some x) refusal next answer after other is = (x, refl, is)

-- a thread's step that was made, in a slot that was free without a sweep
pub record IsActed (s : State) (task slot : ℕ) (after : State) : Type 0 where
  pub owner : Task
  pub made : Credential
  pub broadcasts : List Broadcast
  pub flags : List ProcessFlag
  pub lives : task_of s task ≡ Some owner
  pub leads : after ≡ record (replaced s task owner.current made slot) { broadcasts = broadcasts; dumpable = flags }

abbrev task_in : Answer → ℕ
task_in (Acted task cred slot left) = task
task_in answer = 0

abbrev slot_in : Answer → ℕ
slot_in (Acted task cred slot left) = slot
slot_in answer = 0

pub number_is : (creds : List SealedCred) (n : ℕ) (c : Numbered) → numbered creds n ≡ Some c → c.number ≡ n
number_is creds n c is = by (slice_get creds n) is
  where
    by : (o : Option SealedCred) → option_map (λ (x : SealedCred). record { number = n; cred = x.cred; slot = x.slot }) o ≡ Some c → c.number ≡ n
    by None none = cc
    by (Some x) some = sym (ap (λ (o : Option Numbered). option_map_or (λ d. d.number) o n) some)

-- the state after a step that took this slot
stepped : (s : State) (t : ℕ) (owner : Task) (old : Numbered) (c : Credential) (slot : ℕ) → State
stepped s t owner old c slot =
    record (replaced s t old.number c slot) { broadcasts = waits_no_more t s.broadcasts; dumpable = renewed s.dumpable owner.process (differs old.cred c) }

followed : (s after : State) (broadcast : Broadcast) (t : ℕ) (owner : Task) (old : Numbered) (task cred slot left : ℕ) (made : Result Credential Answer)
    → is_some (least_free s) ≡ true → follow s broadcast t owner old made ≡ (Acted task cred slot left, after)
    → (c : Credential) × (t ≡ task) × (after ≡ stepped s t owner old c slot)
unfolding stepped
followed s after broadcast t owner old task cred slot left (Err e) some is =
    let never : Aborted t Perm ≡ Acted task cred slot left = ap (λ (g : Answer × State). g.0) is in cc
followed s after broadcast t owner old task cred slot left (Ok c) some is = by (least_free s) refl
  where
    does : State → ℕ → Answer × State
    does r place = (Acted t (length r.creds) place (length broadcast.waiting - 1), stepped r t owner old c place)

    by : (o : Option ℕ) → least_free s ≡ o
        → (c' : Credential) × (t ≡ task) × (after ≡ stepped s t owner old c' slot)
    by None none = let never : false ≡ true = ap (λ (o : Option ℕ). is_some o) (sym none) ∙ some in cc
    by (Some place) at =
        let here : free s ≡ Some place = sym (free_now s (least_free s) refl some) ∙ at in
        let full : State → Answer × State = λ r. (Aborted t Full, aborted broadcast r) in
        let made : does s place ≡ (Acted task cred slot left, after)
        = sym (in_free s full does false place here (sym (ap not some))) ∙ is in
        let same : place ≡ slot = ap (λ (g : Answer × State). slot_in g.0) made in (
          c,
          ap (λ (g : Answer × State). task_in g.0) made,
          sym (ap (λ (g : Answer × State). g.1) made) ∙ ap (stepped s t owner old c) same,
        )

pub acted : (s after : State) (number task cred slot left : ℕ) → is_some (least_free s) ≡ true
    → outcome s (by_act s number) ≡ (Acted task cred slot left, after) → IsActed s task slot after
unfolding stepped
acted s after number task cred slot left some is =
    let answer = Acted task cred slot left in
    let refusal = NoBroadcast number in
    let a = past s (broadcast_of s number) refusal _ answer after (λ same. cc) is in
    let b = past s (slice_get a.0.waiting 0) refusal _ answer after (λ same. cc) a.2 in
    let c = past s (task_of s b.0) refusal _ answer after (λ same. cc) b.2 in
    let d = past s (numbered s.creds c.0.current) refusal _ answer after (λ same. cc) c.2 in
    let e = followed s after a.0 b.0 c.0 d.0 task cred slot left (by_rule (set_id d.0.cred a.0.call)) some d.2 in
    let own : d.0.number ≡ c.0.current = number_is s.creds c.0.current d.0 d.1 in
    record {
      owner = c.0;
      made = e.0;
      broadcasts = waits_no_more b.0 s.broadcasts;
      flags = renewed s.dumpable c.0.process (differs d.0.cred e.0);
      lives = subst (λ (t : ℕ). task_of s t ≡ Some c.0) e.1 c.1;
      leads =
          e.2
          ∙ ap
          (λ (n : ℕ).
          record (replaced s b.0 n e.0 slot) { broadcasts = waits_no_more b.0 s.broadcasts; dumpable = renewed s.dumpable c.0.process (differs d.0.cred e.0) })
          own
          ∙ ap
          (λ (t : ℕ).
          record (replaced s t c.0.current e.0 slot) {
            broadcasts = waits_no_more b.0 s.broadcasts;
            dumpable = renewed s.dumpable c.0.process (differs d.0.cred e.0);
          })
          e.1;
    }

-- what is live after a step that took its slot without a sweep
pub live_acted : (s after : State) → IsSound s → (task slot : ℕ) → IsActed s task slot after → (k : ℕ) → is_live after k ≡ (is_live s k || (slot == k))
live_acted s after sound task slot step k =
    ap (λ (t : State). is_live t k) step.leads
    ∙ live_replaced s sound task slot step.owner step.made step.lives step.broadcasts step.flags k

found_unswept : (found sweep : Bool) → sweep ≡ not found → sweep ≡ false → found ≡ true
found_unswept true sweep is unswept = refl
found_unswept false sweep is unswept = cc

-- with the slot that the step took, the marks are those of the live slots again
pub known_after : (s after : State) → IsSound s → (number : ℕ) (answer : Answer) (marks : List Bool) (sweep : Bool) (known : Option (List Bool))
    → AreLive marks s → sweep ≡ not (is_some (least_free s)) → outcome s (by_act s number) ≡ (answer, after)
    → IfSome known (λ now. (sweep ≡ false) × TakesSlot marks answer now) → IfSome known (λ now. AreLive now after)
known_after s after sound number answer marks sweep None live is gives takes = tt
known_after s after sound number answer marks sweep (Some now) live is gives takes = λ k h.
    let some = found_unswept (is_some (least_free s)) sweep is takes.0 in
    let slot = takes.1.taken in
    let step = acted s after number takes.1.task takes.1.cred slot takes.1.left some (gives ∙ ap (λ (a : Answer). (a, after)) takes.1.acted) in
    takes.1.marks k h ∙ ap (λ b. b || (slot == k)) (live k h) ∙ sym (live_acted s after sound takes.1.task slot step k)

-- so it is after an id call
pub known_opened : (s after : State) → IsSound s → (task old slot : ℕ) (made : Credential)
    (marks : List Bool) (sweep : Bool) (broadcasts : List Broadcast) (flags : List ProcessFlag)
    (known : Option (List Bool)) → AreLive marks s → IsCurrentOf s task old
    → after ≡ replaced (swept_if sweep (record s { broadcasts = broadcasts })) task old made slot
    → IfSome known (λ now. (sweep ≡ false) × HasTaken marks slot now)
    → IfSome known (λ now. AreLive now (record after { dumpable = flags }))
known_opened s after sound task old slot made marks sweep broadcasts flags None live own leads takes = tt
known_opened s after sound task old slot made marks sweep broadcasts flags (Some now) live own leads takes =
    at (task_of s task) refl own
  where
    at : (o : Option Task) → task_of s task ≡ o → option_map (λ t. t.current) o ≡ Some old
        → AreLive now (record after { dumpable = flags })
    at None lives is = λ k h. cc
    at (Some owner) lives is = λ k h.
        let current : owner.current ≡ old = cc in
        let to : after
        ≡ record (replaced s task owner.current made slot) { broadcasts = broadcasts; dumpable = s.dumpable }
        = leads
        ∙ ap (λ b. replaced (swept_if b (record s { broadcasts = broadcasts })) task old made slot) takes.0
        ∙ ap (λ (n : ℕ). record (replaced s task n made slot) { broadcasts = broadcasts }) (sym current) in
        takes.1 k h
        ∙ ap (λ b. b || (slot == k)) (live k h)
        ∙ sym
        (ap (λ (t : State). is_live (record t { dumpable = flags }) k) to
        ∙ live_replaced s sound task slot owner made lives broadcasts flags k)

-- where a credential stands, by the list of slots
stands_by : (creds : List SealedCred) (slot n : ℕ) → stands_in creds slot n ≡ option_map_or (λ k. k == slot) (slice_get (slots_of creds) n) false
stands_by [] slot n = refl
stands_by (x ∷ xs) slot zero = refl
stands_by (x ∷ xs) slot (suc n) = stands_by xs slot n

any_stands : (bs cs : List SealedCred) (slot : ℕ) → slots_of bs ≡ slots_of cs → (ns : List ℕ)
    → list_any (stands_in bs slot) ns ≡ list_any (stands_in cs slot) ns
any_stands bs cs slot same [] = refl
any_stands bs cs slot same (n ∷ ns) =
    ap (λ b. b || list_any (stands_in bs slot) ns)
    (stands_by bs slot n ∙ ap (λ ss. option_map_or (λ k. k == slot) (slice_get ss n) false) same ∙ sym (stands_by cs slot n))
    ∙ ap (λ b. stands_in cs slot n || b) (any_stands bs cs slot same ns)

-- states that are alike have the same slots live
pub live_like : (a b : State) → IsLike a b → (k : ℕ) → is_live a k ≡ is_live b k
live_like a b like k =
    ap (λ any. any || is_kept a k) (any_stands a.creds b.creds k like.slots (refs a))
    ∙ ap (λ (ns : List ℕ). list_any (stands_in b.creds k) ns || is_kept a k) (same_refs a b like)
    ∙ ap (λ (ps : List Prepared). list_any (stands_in b.creds k) (refs b) || list_any (λ n. n == k) (map (λ p. p.slot) ps)) like.prepared
  where
    same_refs : (a b : State) → IsLike a b → refs a ≡ refs b
    same_refs a b like = rw (like.tasks, like.files, like.holds, like.prepared, like.deferred) refl

pub known_as : (known : Option (List Bool)) (a b : State) → ((k : ℕ) → is_live a k ≡ is_live b k) → IfSome known (λ marks. AreLive marks b)
    → IfSome known (λ marks. AreLive marks a)
known_as None a b same live = tt
known_as (Some marks) a b same live = λ k h. live k h ∙ sym (same k)

pub known_like : (known : Option (List Bool)) (a b : State) → IsLike a b → IfSome known (λ marks. AreLive marks b) → IfSome known (λ marks. AreLive marks a)
known_like known a b like live = known_as known a b (live_like a b like) live

-- where nothing changed, what an event says of the live slots still holds
pub known_still : (acts : Bool) (before now : Option (List Bool)) (s after : State) → MatchBool acts (IfSome now (λ marks. AreLive marks after)) (now ≡ before)
    → after ≡ s → IfSome before (λ marks. AreLive marks s) → IfSome now (λ marks. AreLive marks after)
known_still true before now s after known same live = known
known_still false before now s after kept same live =
    subst (λ (o : Option (List Bool)). IfSome o (λ marks. AreLive marks after)) (sym kept)
    (subst (λ (t : State). IfSome before (λ marks. AreLive marks t)) (sym same) live)
