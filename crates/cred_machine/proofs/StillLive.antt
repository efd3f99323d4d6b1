-- Which slots are live after an event that keeps them so, by those that were before it.
use Rattle.std.proofs.Common.{◌≡◌, ℕ, suc, zero, ◌<◌, ◌==◌, ◌||◌, nat_lt, Bool, true, false, cond, if◌then◌else◌, not, MatchBool, List, [], ◌∷◌, ◌++◌, length}
use Rattle.std.proofs.Common.{map, count_by, position, remove, slice_get, Option, Some, None, ◌⊎◌, inl, inr, refl, sym, ap, ◌∙◌, subst, append_assoc, arith}
use Rattle.std.proofs.Common.{length-append}
use Rattle.std.specs.List.{All, Contains, list_any}
use Rattle.std.specs.Option.{IfSome, option_and_then}
use Rattle.std.proofs.lemmas.Bool.Decides.{nat_tests}
use Rattle.std.proofs.lemmas.List.{length-map, map-append}
use Rattle.std.proofs.lemmas.List.Elements.{All-append, All-cons, All-contains_itself, All-head, All-nil, All-tail, All-weaker, Contains-append_left}
use Rattle.std.proofs.lemmas.List.Elements.{Contains-push}
use Rattle.std.proofs.lemmas.List.Folds.{list_any-append, list_any_at}
use Rattle.cred_ids.specs.Limits.{HOLDS}
use Rattle.cred_record.specs.Credential.{Credential}
use Rattle.cred_event.specs.declared.answer.Answer.{Answer}
use Rattle.cred_event.specs.declared.answer.Answer.TheVariants.{Done, Stale}
use Rattle.cred_event.specs.declared.event.Change.{Change}
use Rattle.cred_event.specs.declared.event.Change.TheVariants.{Exec, SetFs, Adjust, Access}
use Rattle.cred_event.specs.declared.event.Event.{Event}
use Rattle.cred_event.specs.declared.event.Event.TheVariants.{Take, Release, Ask, Prepare, Alter, Commit, Begin, Act}
use Rattle.cred_model.specs.Change.{by_change}
use Rattle.cred_model.specs.Dumpable.{flags_committed}
use Rattle.cred_model.specs.Ends.{ended, left_by}
use Rattle.cred_model.specs.LabelEvents.{broadcasts_after, commit_answer, ends_with, for_task, take_hold, try_commit}
use Rattle.cred_model.specs.Moves.{altered, altered_at, committed, given_up, holding, preparing}
use Rattle.cred_model.specs.Named.{change_files}
use Rattle.cred_model.specs.Script.{Script, chain_of}
use Rattle.cred_model.specs.Slots.{is_kept, is_live, kept, refs, stands_in}
use Rattle.cred_model.specs.State.{State, Changed, Hold, Numbered, Prepared, SealedCred, Task, begun_by, credential_of, held_by, hold_of, info_of, numbered}
use Rattle.cred_model.specs.State.{prepared_of, task_of}
use Rattle.cred_model.specs.Step.{step}
use Rattle.cred_model.proofs.Lists.{All-left, All-remove, map_same}
use Rattle.cred_model.proofs.Numbers.{changed_as}
use Rattle.cred_model.proofs.Referred.{each_changed, each_deferred, each_ended, each_holds, each_prepared, each_ref, each_updated, refs_each}
use Rattle.cred_sound.specs.Sound.{IsSound}
use Rattle.cred_sound.proofs.OnePart.{gives_up}
use Rattle.cred_sound.proofs.Parts.{with_left}
use Rattle.cred_sound.proofs.References.{base_stands, credential_stands, held_stands, owner_stands, own_refs}
use Rattle.cred_sound.proofs.Tests.{IfAllowed, if_fewer, if_idle, if_none, if_ok, if_own, if_some, outcome_has}
use Rattle.cred_machine.specs.Kept.{may_have_swept}
use Rattle.cred_machine.specs.Slots.{AreLive, HasTaken, is_too_late, keeps_marks, takes_slot}
use Rattle.cred_machine.proofs.KeepingTasks.{commits, not_itself}
use Rattle.cred_machine.proofs.KeptByEvents.{CredsKept, Keeps, NoneMore, OneMore, alters, each_creds, releases}
use Rattle.cred_machine.proofs.Live.{any_before, known_as, stands_new}

-- ---- lists with the same elements

any_within : (p : ℕ → Bool) (ms ns : List ℕ) → All (Contains ns) ms → list_any p ms ≡ true → list_any p ns ≡ true
any_within p [] ns each is = cc
any_within p (m ∷ ms) ns each is =
    elim (p m) as (λ b. p m ≡ b → (b || list_any p ms) ≡ true → list_any p ns ≡ true) [
      | true ↦ λ here _. let at = All-head (Contains ns) m ms each in list_any_at p ns at.0 m at.1 (ap p at.2 ∙ here)
      | false ↦ λ here rest. any_within p ms ns (All-tail (Contains ns) m ms each) rest
    ] refl is

either_way : (a b : Bool) → (a ≡ true → b ≡ true) → (b ≡ true → a ≡ true) → a ≡ b
either_way true true to from = refl
either_way true false to from = sym (to refl)
either_way false true to from = from refl
either_way false false to from = refl

any_same : (p : ℕ → Bool) (ms ns : List ℕ) → All (Contains ns) ms → All (Contains ms) ns → list_any p ms ≡ list_any p ns
any_same p ms ns fewer more = either_way (list_any p ms) (list_any p ns) (any_within p ms ns fewer) (any_within p ns ms more)

-- ---- what was referred to, still is

none_fewer : (ds ns : List ℕ) → nat_lt (length (ds ++ ns)) (length ds) ≡ false
none_fewer ds ns = let many = length-append ds ns in grind (arith, nat_tests)

none_less : (ds : List ℕ) → nat_lt (length ds) (length ds) ≡ false
none_less ds = grind (arith, nat_tests)

all_referred : (s : State) (made : Answer × State) → Keeps s made → may_have_swept (length s.deferred) made.0 (length made.1.deferred) ≡ false
    → All (Contains (refs made.1)) (refs s)
all_referred s made keeps unswept = by keeps.swept
  where
    by : (keeps.left ≡ s.deferred) ⊎ (may_have_swept (length s.deferred) made.0 (length made.1.deferred) ≡ true) → All (Contains (refs made.1)) (refs s)
    by (inl same) =
        subst (λ (left : List ℕ). All (Contains (refs made.1)) (refs (with_left s left))) same
        (refs_each (Contains (refs made.1)) (with_left s keeps.left) keeps.each)
    by (inr swept) = let never : true ≡ false = sym swept ∙ unswept in cc

-- Where the same is referred to, and the same is kept, the same slots are live.
same_live : (s t : State) → t.creds ≡ s.creds → kept t ≡ kept s → All (Contains (refs s)) (refs t) → All (Contains (refs t)) (refs s)
    → (k : ℕ) → is_live t k ≡ is_live s k
same_live s t creds slots fewer more k =
    ap (λ (cs : List SealedCred). list_any (stands_in cs k) (refs t) || is_kept t k) creds
    ∙ ap (λ (ns : List ℕ). list_any (stands_in s.creds k) (refs t) || list_any (λ n. n == k) ns) slots
    ∙ ap (λ b. b || is_kept s k) (any_same (stands_in s.creds k) (refs t) (refs s) fewer more)

-- what an event leaves live that takes no slot and gives none back
abbrev pub LivesOn : State → Answer × State → Type 0
LivesOn s made = (k : ℕ) → is_live made.1 k ≡ is_live s k

-- ---- labels that hold

-- a label takes hold of what is referred to
take_lives : (s : State) (label : ℕ) (taken : Numbered) → Contains (refs s) taken.number → IfAllowed (LivesOn s) (take_hold s label taken)
take_lives s label taken stands =
    let Q = LivesOn s in
    let hold : Hold = record { label = label; number = taken.number } in
    let t = holding s label taken.number in
    let own = own_refs s in
    let H = λ (h : Hold). Contains (refs s) h.number in
    if_none Q (hold_of s label) _ _
    (λ new. if_none Q (prepared_of s label) _ _
    (λ unprepared. if_fewer Q (length s.holds) HOLDS _ _
    (same_live s t refl refl
    (refs_each (Contains (refs s)) t
    (each_holds own (s.holds ++ hold ∷ []) (All-append H s.holds (hold ∷ []) own.holds (All-cons H hold [] stands (All-nil H)))))
    (refs_each (Contains (refs t)) s
    (each_holds (own_refs t) s.holds (All-left (λ (h : Hold). Contains (refs t) h.number) s.holds (hold ∷ []) (own_refs t).holds))))))

-- a label drops its hold
release_lives : (s : State) (place : ℕ) (hold : Hold) → slice_get s.holds place ≡ Some hold
    → LivesOn s (Done, record s { holds = remove s.holds place; deferred = s.deferred ++ hold.number ∷ [] })
release_lives s place hold is =
    let t = record s { holds = remove s.holds place; deferred = s.deferred ++ hold.number ∷ [] } in
    let own = own_refs s in
    same_live s t refl refl
    (refs_each (Contains (refs s)) t
    (each_deferred (each_holds own (remove s.holds place) (All-remove (λ (h : Hold). Contains (refs s) h.number) s.holds place own.holds))
    (s.deferred ++ hold.number ∷ []) (gives_up s hold.number (held_stands s place hold is))))
    (all_referred s (Done, t) (releases s place hold is) (none_fewer s.deferred (hold.number ∷ [])))

-- ---- labels that prepare

-- what a label prepares is changed
alter_lives : (s : State) (answer : Answer) (label : ℕ) (to : Changed) → LivesOn s (answer, altered s label to)
alter_lives s answer label to =
    let t = altered s label to in
    same_live s t refl
    (map_same (λ (p : Prepared). p.slot) (altered_at label to) s.prepared (λ p. changed_as (λ q. q.slot ≡ p.slot) label to p (λ test. refl) refl))
    (refs_each (Contains (refs s)) t (each_changed (own_refs s) label to))
    (all_referred s (Done, t) (alters s Done label to) (none_less s.deferred))

one_more : (a b c : Bool) → (a || (c || (b || false))) ≡ ((a || c) || b)
one_more true b c = refl
one_more false true true = refl
one_more false false true = refl
one_more false true false = refl
one_more false false false = refl

-- a label prepares a credential, and keeps the slot for it
prepare_lives : (s : State) (p : Prepared) → Contains (refs s) p.base → (k : ℕ) → is_live (preparing s p) k ≡ (is_live s k || (p.slot == k))
prepare_lives s p stands k =
    let t = preparing s p in
    let own = own_refs s in
    let P = λ (q : Prepared). Contains (refs s) q.base in
    let test = λ (n : ℕ). n == k in
    ap (λ b. b || is_kept t k)
    (any_same (stands_in s.creds k) (refs t) (refs s)
    (refs_each (Contains (refs s)) t
    (each_prepared own (s.prepared ++ p ∷ []) (All-append P s.prepared (p ∷ []) own.bases (All-cons P p [] stands (All-nil P)))))
    (refs_each (Contains (refs t)) s
    (each_prepared (own_refs t) s.prepared (All-left (λ (q : Prepared). Contains (refs t) q.base) s.prepared (p ∷ []) (own_refs t).bases))))
    ∙ ap (λ b. list_any (stands_in s.creds k) (refs s) || b)
    (ap (list_any test) (map-append (λ (q : Prepared). q.slot) s.prepared (p ∷ [])) ∙ list_any-append test (kept s) (p.slot ∷ []))
    ∙ one_more (list_any (stands_in s.creds k) (refs s)) (p.slot == k) (is_kept s k)

-- the marks after it, where it took its slot without a sweep
pub known_prepared : (s : State) (p : Prepared) (prepared : List Prepared) (late : List ℕ) (marks : List Bool) (sweep : Bool) (known : Option (List Bool))
    → AreLive marks s → Contains (refs s) p.base → prepared ≡ s.prepared ++ p ∷ [] → late ≡ (if sweep then [] else s.deferred)
    → IfSome known (λ now. (sweep ≡ false) × HasTaken marks p.slot now)
    → IfSome known (λ now. AreLive now (record s { prepared = prepared; deferred = late }))
known_prepared s p prepared late marks sweep None live stands ps ls takes = tt
known_prepared s p prepared late marks sweep (Some now) live stands ps ls takes = λ k h.
    let unswept : late ≡ s.deferred = ls ∙ ap (λ (b : Bool). if b then [] else s.deferred) takes.0 in
    takes.1 k h
    ∙ ap (λ b. b || (p.slot == k)) (live k h)
    ∙ sym
    (ap (λ (qs : List Prepared). is_live (record s { prepared = qs; deferred = late }) k) ps
    ∙ ap (λ (ns : List ℕ). is_live (record s { prepared = s.prepared ++ p ∷ []; deferred = ns }) k) unswept
    ∙ prepare_lives s p stands k)

-- ---- a label that is committed

swapped : (a b c : Bool) → (a || (b || c)) ≡ (b || (a || c))
swapped true true c = refl
swapped true false c = refl
swapped false true c = refl
swapped false false c = refl

-- the slots that are kept without this label
kept_others : (ps : List Prepared) (place : ℕ) (p : Prepared) → slice_get ps place ≡ Some p → (k : ℕ)
    → list_any (λ n. n == k) (map (λ q. q.slot) ps) ≡ ((p.slot == k) || list_any (λ n. n == k) (map (λ q. q.slot) (remove ps place)))
kept_others [] place p is k = cc
kept_others (q ∷ ps) zero p is k =
    let same : q ≡ p = cc in ap (λ (r : Prepared). (r.slot == k) || list_any (λ n. n == k) (map (λ o. o.slot) ps)) same
kept_others (q ∷ ps) (suc place) p is k =
    ap (λ b. (q.slot == k) || b) (kept_others ps place p is k)
    ∙ swapped (q.slot == k) (p.slot == k) (list_any (λ n. n == k) (map (λ o. o.slot) (remove ps place)))

joined : (a b c : Bool) → ((a || (b || false)) || c) ≡ (a || (b || c))
joined true b c = refl
joined false true c = refl
joined false false c = refl

-- In the slot that was kept for it stands the credential that is sealed there, and all else stands
-- where it did.
module _ (s : State) (sound : IsSound s) (place : ℕ) (p : Prepared) (ends : Task → Bool) (owner : Task) (made : Credential)
    (is : slice_get s.prepared place ≡ Some p) (found : task_of s p.task ≡ Some owner) (on : ends owner ≡ false) where
  abbrev after : State
  after = committed (ended ends s) place p owner.current made

  abbrev new_cred : SealedCred
  new_cred = record { cred = made; slot = p.slot }

  abbrev numbers : List ℕ
  numbers = refs s ++ length s.creds ∷ []

  no_others : All (Contains numbers) (refs after)
  no_others =
      let P = Contains numbers in
      let all : All P (refs s)
      = All-weaker (Contains (refs s)) P (λ n has. Contains-append_left (refs s) (length s.creds ∷ []) n has) (refs s) (All-contains_itself (refs s)) in
      let each = each_ended (each_ref P s all) ends in
      let late = s.deferred ++ left_by ends s.tasks in
      let old : P owner.current = Contains-append_left (refs s) (length s.creds ∷ []) owner.current (owner_stands s p.task owner found) in
      let base : P p.base = Contains-append_left (refs s) (length s.creds ∷ []) p.base (base_stands s place p is) in
      refs_each P after
      (each_creds (each_deferred
      (each_prepared (each_updated each p.task (length s.creds) (Contains-push (refs s) (length s.creds))) (remove s.prepared place)
      (All-remove (λ (q : Prepared). P q.base) s.prepared place each.bases))
      (late ++ owner.current ∷ p.base ∷ [])
      (All-append P late (owner.current ∷ p.base ∷ []) each.deferred (All-cons P owner.current (p.base ∷ []) old (All-cons P p.base [] base (All-nil P)))))
      (s.creds ++ new_cred ∷ []))

  keeps_all : Keeps s (Done, after)
  keeps_all = commits s Done place p ends owner made sound is found on

  no_fewer : All (Contains (refs after)) numbers
  no_fewer =
      let P = Contains (refs after) in
      All-append P (refs s) (length s.creds ∷ [])
      (all_referred s (Done, after) keeps_all
      (ap (λ (ns : List ℕ). nat_lt (length ns) (length s.deferred)) (append_assoc s.deferred (left_by ends s.tasks) (owner.current ∷ p.base ∷ []))
      ∙ none_fewer s.deferred (left_by ends s.tasks ++ owner.current ∷ p.base ∷ [])))
      (All-cons P (length s.creds) [] (there keeps_all.creds) (All-nil P))
    where
      there : CredsKept s after → Contains (refs after) (length s.creds)
      there (NoneMore same) =
          let many = length-append s.creds (new_cred ∷ []) in
          let never : length (s.creds ++ new_cred ∷ []) ≡ length s.creds = ap length same in
          absurd (omega arith)
      there (OneMore new is has) = has

  pub commit_lives : (k : ℕ) → is_live after k ≡ is_live s k
  commit_lives k =
      let q = stands_in (s.creds ++ new_cred ∷ []) k in
      let within : All (λ n. n < length s.creds) (refs s)
      = subst (λ (m : ℕ). All (λ n. n < m) (refs s)) (length-map s.creds (λ (c : SealedCred). c.slot)) sound.slots.sealed in
      let rest = list_any (λ n. n == k) (map (λ (o : Prepared). o.slot) (remove s.prepared place)) in
      ap (λ b. b || rest)
      (any_same q (refs after) numbers no_others no_fewer
      ∙ list_any-append q (refs s) (length s.creds ∷ [])
      ∙ ap (λ b. b || (q (length s.creds) || false)) (any_before s.creds new_cred k (refs s) within)
      ∙ ap (λ b. list_any (stands_in s.creds k) (refs s) || (b || false)) (stands_new s.creds new_cred k))
      ∙ joined (list_any (stands_in s.creds k) (refs s)) (p.slot == k) rest
      ∙ ap (λ b. list_any (stands_in s.creds k) (refs s) || b) (sym (kept_others s.prepared place p is k))

-- broadcasts refer to nothing
broadcasts_live : (change : Change) (owner : Task) (t : State) (k : ℕ) → is_live (broadcasts_after change owner t) k ≡ is_live t k
broadcasts_live (Exec file) owner t k = refl
broadcasts_live (SetFs kind id) owner t k = refl
broadcasts_live (Adjust call) owner t k = refl
broadcasts_live Access owner t k = refl

-- a commit, but for one that comes too late
abbrev LivesUnlessStale : State → Answer × State → Type 0
LivesUnlessStale s made = is_too_late made.0 ≡ false → LivesOn s made

try_commit_lives : (s : State) (place : ℕ) (p : Prepared) (owner : Task) (last : Changed) → IsSound s → slice_get s.prepared place ≡ Some p
    → task_of s p.task ≡ Some owner → LivesUnlessStale s (try_commit s place p owner last)
try_commit_lives s place p owner last sound is found =
    let ends = ends_with last.change owner in
    let t = committed (ended ends s) place p owner.current last.cred in
    elim (owner.current == p.base) as
    (λ b. LivesUnlessStale s
    (cond {A = Answer × State} b (
      commit_answer last (length s.creds) p.slot (count_by ends s.tasks),
      record (broadcasts_after last.change owner t) { dumpable = flags_committed s owner last },
    )
    (Stale p.base owner.current, given_up s place p))) [
      | true ↦ λ fresh k.
          broadcasts_live last.change owner t k
          ∙ commit_lives s sound place p ends owner last.cred is found (not_itself last.change owner) k
      | false ↦ λ stale k. cc
    ]

commit_event_lives : (script : Script) (s : State) (line label : ℕ) → IsSound s → LivesUnlessStale s (step script s line (Commit label))
commit_event_lives script s line label sound =
    let Q = LivesUnlessStale s in
    outcome_has Q s _ (λ answer fresh k. refl)
    (if_some Q (position (λ p. p.label == label) s.prepared) _ _
    (λ place at. if_some Q (slice_get s.prepared place) _ _
    (λ p is. if_some Q (option_and_then for_task p.changed) _ _
    (λ last changed. if_some Q (task_of s p.task) _ _
    (λ owner found. if_idle Q (begun_by s p.task) _
    (λ idle. if_own Q owner _
    (try_commit_lives s place p owner last sound is found)))))))

-- ---- the events

not_both : (stale : Bool) → not stale ≡ true → stale ≡ false
not_both true is = cc
not_both false is = refl

-- Which slots are live stays, where an event takes none and keeps the marks.
event_lives : (script : Script) (s : State) (line : ℕ) (event : Event) → IsSound s → takes_slot event ≡ false
    → keeps_marks event (step script s line event).0 ≡ true → LivesOn s (step script s line event)
event_lives script s line (Take label task side) sound none keeps =
    outcome_has (LivesOn s) s _ (λ answer k. refl)
    (if_some _ (credential_of s task side) _ _ (λ taken is. take_lives s label taken (credential_stands s task side taken is)))
event_lives script s line (Release label) sound none keeps =
    let Q = LivesOn s in
    outcome_has Q s _ (λ answer k. refl)
    (if_some Q (position (λ h. h.label == label) s.holds) _ _
    (λ place at. if_some Q (slice_get s.holds place) _ _
    (λ hold is. release_lives s place hold is)))
event_lives script s line (Ask label query) sound none keeps =
    outcome_has (LivesOn s) s _ (λ answer k. refl)
    (if_some _ (held_by s label) _ _ (λ held is k. refl))
event_lives script s line (Alter label change) sound none keeps =
    let Q = LivesOn s in
    outcome_has Q s _ (λ answer k. refl)
    (if_some Q (prepared_of s label) _ _
    (λ p is. if_some Q (numbered s.creds p.base) _ _
    (λ base at. if_ok Q (by_change (info_of s.inodes (change_files change)) (chain_of script base.cred.ns) base.cred change) _
    (λ made so. alter_lives s made.answer label (record { change = change; cred = made.cred; gains = made.gains })))))
event_lives script s line (Commit label) sound none keeps =
    commit_event_lives script s line label sound (not_both (is_too_late (step script s line (Commit label)).0) keeps)
event_lives script s line (Prepare label task hold) sound none keeps = cc
event_lives script s line (Begin task call) sound none keeps = cc
event_lives script s line (Act number) sound none keeps = cc
event_lives script s line event sound none keeps = cc

-- what is known after an event, by what was known before it and by what the event itself says
pub known_kept : (script : Script) (s after : State) (line : ℕ) (event : Event) (answer : Answer) (before told now : Option (List Bool)) → IsSound s
    → step script s line event ≡ (answer, after) → IfSome before (λ marks. AreLive marks s)
    → MatchBool (takes_slot event) (IfSome told (λ marks. AreLive marks after)) (told ≡ before)
    → now ≡ (if keeps_marks event answer then told else None) → IfSome now (λ marks. AreLive marks after)
known_kept script s after line event answer before told now sound gives known says is =
    by (takes_slot event) refl (keeps_marks event answer) refl says is
  where
    by : (takes : Bool) → takes_slot event ≡ takes → (keeps : Bool) → keeps_marks event answer ≡ keeps
        → MatchBool takes (IfSome told (λ marks. AreLive marks after)) (told ≡ before) → now ≡ (if keeps then told else None)
        → IfSome now (λ marks. AreLive marks after)
    by takes took false kept says is = subst (λ (o : Option (List Bool)). IfSome o (λ marks. AreLive marks after)) (sym is) tt
    by true took true kept says is = subst (λ (o : Option (List Bool)). IfSome o (λ marks. AreLive marks after)) (sym is) says
    by false took true kept says is =
        let answers : keeps_marks event (step script s line event).0 ≡ true
        = ap (λ (g : Answer × State). keeps_marks event g.0) gives ∙ kept in
        let same : (k : ℕ) → is_live after k ≡ is_live s k
        = λ k. ap (λ (g : Answer × State). is_live g.1 k) (sym gives) ∙ event_lives script s line event sound took answers k in
        subst (λ (o : Option (List Bool)). IfSome o (λ marks. AreLive marks after)) (sym (is ∙ says)) (known_as before after s same known)
