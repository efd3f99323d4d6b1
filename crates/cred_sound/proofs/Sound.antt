-- Every state that a kernel comes to is sound.
use Rattle.std.proofs.Common.{◌≡◌, ◌≢◌, ◌==◌, ◌⊎◌, inl, inr, not, ℕ, List, [], ◌∷◌, length, map, fold, None, refl, sym, ap, ◌∙◌, subst, arith}
use Rattle.std.specs.List.{All, AllPairs, Contains, find, remove}
use Rattle.std.proofs.lemmas.List.{length-map, map_push}
use Rattle.std.proofs.lemmas.List.Elements.{All-contains, All-contains_itself, All-filter, All-map, All-nil, All-push, All-weaker}
use Rattle.std.proofs.lemmas.List.Quantifiers.{all_pairs_remove}
use Rattle.std.proofs.lemmas.Option.{slice_get_within}
use Rattle.cred_event.specs.declared.event.Event.{Event}
use Rattle.cred_event.specs.declared.answer.Answer.{Answer}
use Rattle.cred_event.specs.declared.entry.Entry.{Entry}
use Rattle.cred_model.specs.Script.{Script}
use Rattle.cred_model.specs.State.{State, SealedCred, Task, OpenFile, Hold, Prepared, opening}
use Rattle.cred_model.specs.Slots.{in_use, refs, kept}
use Rattle.cred_model.specs.Like.{IsLike}
use Rattle.cred_model.specs.Ends.{survivors}
use Rattle.cred_model.specs.Moves.{updated, overriding, altered_at}
use Rattle.cred_model.specs.Step.{step}
use Rattle.cred_model.proofs.Lists.{All-kept, All-remove, All-unmap, AllPairs-map, AllPairs-unmap, map_same}
use Rattle.cred_model.proofs.Numbers.{updated_as, overriding_as, changed_as}
use Rattle.cred_sound.specs.SlotUse.{SlotUse, slot_use, referred, IsOrderly}
use Rattle.cred_sound.specs.Sound.{IsSound, StatesAreSound}
use Rattle.cred_sound.proofs.Moves.{Apart, fewer, keeps, seals}
use Rattle.cred_model.proofs.Referred.{refs_each, each_deferred}
use Rattle.cred_sound.proofs.References.{own_refs, current_stands}
use Rattle.cred_sound.proofs.Parts.{with_left, Old, OldOrNew, grows, Changes, CredsChange, TasksChange, ListChange, PreparedChange, SameCreds, Seals, SameTasks}
use Rattle.cred_sound.proofs.Parts.{SetsFlag, Creates, Shares, Renews, Overrides, Fewer, Stays, Adds, Removes, SamePrepared, Prepares, Alters, Ends}
use Rattle.cred_sound.proofs.Events.{changes}
use Rattle.cred_sound.specs.Broadcasts.{IsUnderWay}
use Rattle.cred_sound.specs.Flags.{AreFlagged}
use Rattle.cred_sound.proofs.Opened.{broadcasts_open}
use Rattle.cred_sound.proofs.Dumpable.{flags_after}
use Rattle.cred_sound.proofs.Unique.{tasks_differ, list_differs, labels_differ, labels_unheld}

-- ---- what is referred to after an event: what was before it, and the number of what it sealed

-- P holds of what the task refers to
record Refers (P : ℕ → Type 0) (t : Task) : Type 0 where
  current : P t.current
  overrides : All P t.overrides

tasks_refer : {script : Script} → (s : State) (event : Event) (left : List ℕ) (made : Answer × State) → TasksChange script s event made
    → All (Refers (OldOrNew s left made.1)) s.tasks → All (Refers (OldOrNew s left made.1)) made.1.tasks
tasks_refer s event left made (SameTasks same broadcasts flags) old = subst (All (Refers (OldOrNew s left made.1))) (sym same) old
tasks_refer s event left made (SetsFlag task value owner flag is found known same broadcasts flags) old =
    subst (All (Refers (OldOrNew s left made.1))) (sym same) old
tasks_refer s event left made (Creates task process user group ns slot is tasks creds new idle broadcasts flags) old =
    subst (All (Refers (OldOrNew s left made.1))) (sym tasks)
    (All-push (Refers (OldOrNew s left made.1)) s.tasks _ old
    (record { current = inr (grows s made.1 _ creds); overrides = All-nil (OldOrNew s left made.1) }))
tasks_refer s event left made (Shares task child process parent tasks creds current new creation) old =
    subst (All (Refers (OldOrNew s left made.1))) (sym tasks)
    (All-push (Refers (OldOrNew s left made.1)) s.tasks _ old
    (record { current = inl (current_stands (with_left s left) task parent current); overrides = All-nil (OldOrNew s left made.1) }))
tasks_refer s event left made (Renews task slot owner c ends tasks creds found cause) old =
    let P = Refers (OldOrNew s left made.1) in
    let rest = survivors ends s.tasks in
    subst (All P) (sym tasks)
    (All-kept P (updated task (length s.creds)) rest
    (λ t one. updated_as P task (length s.creds) t (record { current = inr (grows s made.1 _ creds); overrides = one.overrides }) one)
    (All-filter (λ t. not (ends t)) P s.tasks old))
tasks_refer s event left made (Overrides task numbers tasks refer broadcasts flags) old =
    let P = Refers (OldOrNew s left made.1) in
    subst (All P) (sym tasks)
    (All-kept P (overriding task numbers) s.tasks
    (λ t one. overriding_as P task numbers t (record { current = one.current; overrides = refer left }) one) old)
tasks_refer s event left made (Fewer ends tasks creds death) old =
    let P = Refers (OldOrNew s left made.1) in
    subst (All P) (sym tasks) (All-filter (λ t. not (ends t)) P s.tasks old)

-- what is referred to by the things of a list
list_refers : {X : Type 0} (name number : X → ℕ) (P : ℕ → Type 0) (IsNew : X → Type 0) (Gone : ℕ → Type 0) (xs ys : List X)
    → ListChange X name IsNew Gone xs ys → ((x : X) → IsNew x → P (number x)) → All (λ x. P (number x)) xs → All (λ x. P (number x)) ys
list_refers name number P IsNew Gone xs ys (Stays same) new old = subst (All (λ x. P (number x))) (sym same) old
list_refers name number P IsNew Gone xs ys (Adds x more none is) new old =
    subst (All (λ x. P (number x))) (sym more) (All-push (λ x. P (number x)) xs x old (new x is))
list_refers name number P IsNew Gone xs ys (Removes gone place x ends less at found) new old =
    subst (All (λ x. P (number x))) (sym less) (All-remove (λ x. P (number x)) xs place old)

abbrev OfBase : State → List ℕ → Prepared → Type 0
OfBase s left p = Old s left p.base

bases_refer : (script : Script) (s : State) (event : Event) (left : List ℕ) (t : State) → PreparedChange script s event left t
    → All (OfBase s left) s.prepared → All (OfBase s left) t.prepared
bases_refer script s event left t (SamePrepared same) old = subst (All (OfBase s left)) (sym same) old
bases_refer script s event left t (Prepares p prepared fresh unheld new has free) old =
    subst (All (OfBase s left)) (sym prepared) (All-push (OfBase s left) s.prepared p old has)
bases_refer script s event left t (Alters label to p base answer prepared is at so acts) old =
    let P = OfBase s left in
    subst (All P) (sym prepared)
    (All-kept P (altered_at label to) s.prepared (λ p one. changed_as P label to p (λ test. one) one) old)
bases_refer script s event left t (Ends label place p ends prepared at is) old =
    subst (All (OfBase s left)) (sym prepared) (All-remove (OfBase s left) s.prepared place old)

all_refer : (script : Script) (s : State) (event : Event) (made : Answer × State) (c : Changes script s event made)
    → All (OldOrNew s c.left made.1) (refs made.1)
all_refer script s event made c =
    let P = OldOrNew s c.left made.1 in
    let old = own_refs (with_left s c.left) in
    let weaker : (numbers : List ℕ) → All (Old s c.left) numbers → All P numbers
    = All-weaker (Old s c.left) P (λ n has. inl has) in
    let tasks = tasks_refer s event c.left made c.tasks
    (λ k d lt. record { current = inl (old.currents k d lt); overrides = weaker _ (old.overrides k d lt) }) in
    refs_each P made.1 (record {
      currents = λ k d lt. (tasks k d lt).current;
      overrides = λ k d lt. (tasks k d lt).overrides;
      openers = λ k d lt. inl (list_refers (λ (f : OpenFile). f.fd) (λ f. f.opener) (Old s c.left) _ _ _ _ c.files (λ f has. has) old.openers k d lt);
      holds = λ k d lt. inl (list_refers (λ (h : Hold). h.label) (λ h. h.number) (Old s c.left) _ _ _ _ c.holds (λ h has. has.1) old.holds k d lt);
      bases = λ k d lt. inl (bases_refer script s event c.left made.1 c.prepared old.bases k d lt);
      deferred = weaker made.1.deferred c.deferred;
    })

-- ---- the use of the slots

-- first the sweep, if there is one
swept_orderly : (s : State) (left : List ℕ) → All (Contains s.deferred) left → IsOrderly (slot_use s) → IsOrderly (slot_use (with_left s left))
swept_orderly s left among order =
    fewer (slot_use s) (in_use s) left (kept s)
    (refs_each (Contains (refs s)) (with_left s left)
    (each_deferred (own_refs s) left
    (All-weaker (Contains s.deferred) (Contains (refs s)) (λ n has. All-contains (Contains (refs s)) s.deferred n (own_refs s).deferred has) left among)))
    (All-contains_itself (kept s)) order.own order

-- then the slots that are kept
abbrev with_kept : SlotUse → List ℕ → SlotUse
with_kept l kept = record l { kept = kept }

abbrev slot_of : Prepared → ℕ
slot_of p = p.slot

kept_orderly : (script : Script) (s : State) (event : Event) (left : List ℕ) (t : State) → PreparedChange script s event left t
    → IsOrderly (slot_use (with_left s left)) → IsOrderly (with_kept (slot_use (with_left s left)) (kept t))
kept_orderly script s event left t (SamePrepared same) order =
    subst (λ k. IsOrderly (with_kept (slot_use (with_left s left)) k)) (ap (map slot_of) (sym same)) order
kept_orderly script s event left t (Prepares p prepared fresh unheld new has free) order =
    subst (λ k. IsOrderly (with_kept (slot_use (with_left s left)) k))
    (sym (ap (map slot_of) prepared ∙ map_push slot_of s.prepared p))
    (keeps (slot_use (with_left s left)) p.slot free.below free.clear free.unkept order)
kept_orderly script s event left t (Alters label to p base answer prepared is at so acts) order =
    subst (λ k. IsOrderly (with_kept (slot_use (with_left s left)) k))
    (sym
    (ap (map slot_of) prepared ∙ map_same slot_of (altered_at label to) s.prepared (λ p. changed_as (λ q. q.slot ≡ p.slot) label to p (λ test. refl) refl)))
    order
kept_orderly script s event left t (Ends label place p ends prepared at is) order =
    let now = slot_use (with_left s left) in
    let rest = remove s.prepared place in
    subst (λ k. IsOrderly (with_kept now k)) (ap (map slot_of) (sym prepared))
    (fewer now (in_use s) left (map slot_of rest) (All-contains_itself (referred now))
    (All-map (Contains (kept s)) slot_of rest
    (All-remove (λ p. Contains (kept s) p.slot) s.prepared place (All-unmap (Contains (kept s)) slot_of s.prepared (All-contains_itself (kept s)))))
    (AllPairs-map Apart slot_of rest
    (all_pairs_remove (λ a b. Apart a.slot b.slot) s.prepared place (slice_get_within s.prepared place p is)
    (AllPairs-unmap Apart slot_of s.prepared order.own)))
    order)

-- then what is sealed, and the references
not_new : (s t : State) (left : List ℕ) (n : ℕ) → t.creds ≡ s.creds → OldOrNew s left t n → Old s left n
not_new s t left n same (inl has) = has
not_new s t left n same (inr new) =
    let long = ap (λ (xs : List SealedCred). length xs) same in
    let more = new.1 in absurd (omega arith)

old_or_new : (s t : State) (left : List ℕ) (n : ℕ) → OldOrNew s left t n → Old s left n ⊎ (n ≡ length (slot_use s).slots)
old_or_new s t left n (inl has) = inl has
old_or_new s t left n (inr new) = inr (new.0 ∙ sym (length-map s.creds (λ (x : SealedCred). x.slot)))

creds_orderly : (s : State) (event : Event) (left : List ℕ) (t : State) → CredsChange s event left t → IsOrderly (slot_use s)
    → All (OldOrNew s left t) (refs t) → IsOrderly (with_kept (slot_use (with_left s left)) (kept t)) → IsOrderly (slot_use t)
creds_orderly s event left t (SameCreds same) before refer order =
    let now = with_kept (slot_use (with_left s left)) (kept t) in
    subst (λ slots. IsOrderly (record (slot_use t) { slots = slots })) (ap (map (λ (x : SealedCred). x.slot)) (sym same))
    (fewer now (in_use t) t.deferred (kept t)
    (All-weaker (OldOrNew s left t) (Old s left) (λ n has. not_new s t left n same has) (refs t) refer)
    (All-contains_itself (kept t)) order.own order)
creds_orderly s event left t (Seals c slot creds fits origin) before refer order =
    let now = with_kept (slot_use (with_left s left)) (kept t) in
    let fit = fits before in
    subst (λ slots. IsOrderly (record (slot_use t) { slots = slots }))
    (sym (ap (map (λ (x : SealedCred). x.slot)) creds ∙ map_push (λ (x : SealedCred). x.slot) s.creds _))
    (seals now slot (in_use t) t.deferred fit.below fit.clear fit.unkept
    (All-weaker (OldOrNew s left t) (λ n. Old s left n ⊎ (n ≡ length now.slots)) (λ n has. old_or_new s t left n has) (refs t) refer)
    order)

changes_orderly : (script : Script) (s : State) (event : Event) (made : Answer × State) → Changes script s event made
    → IsOrderly (slot_use s) → IsOrderly (slot_use made.1)
changes_orderly script s event made c order =
    creds_orderly s event c.left made.1 c.creds order (all_refer script s event made c)
    (kept_orderly script s event c.left made.1 c.prepared (swept_orderly s c.left c.fewer order))

-- ---- a step, and a journal

changes_sound : (script : Script) (s : State) (event : Event) (made : Answer × State) → Changes script s event made → IsSound s
    → IsSound made.1
changes_sound script s event made c sound =
    let open_now = broadcasts_open s event made c.tasks sound in
    record {
      tasks = tasks_differ s event made c.tasks sound.tasks;
      broadcasts = open_now.apart.numbers;
      processes = open_now.apart.processes;
      under_way = open_now.under_way;
      flags = flags_after s event made c.tasks sound;
      files = list_differs (λ (f : OpenFile). f.fd) _ _ s.files made.1.files c.files sound.files;
      holds = list_differs (λ (h : Hold). h.label) _ _ s.holds made.1.holds c.holds sound.holds;
      prepared = labels_differ script s event c.left made.1 c.prepared sound.prepared;
      labels = labels_unheld script s event c.left made.1 c.holds c.prepared sound.labels;
      slots = changes_orderly script s event made c sound.slots;
    }

pub step_sound : (script : Script) (s : State) (line : ℕ) (event : Event) → IsSound s → IsSound (step script s line event).1
step_sound script s line event sound =
    changes_sound script s event (step script s line event) (changes script s line event) sound

pub opening_sound : (script : Script) → IsSound (opening script)
opening_sound script = record {
  tasks = λ i j d lt within. absurd (omega arith);
  broadcasts = λ i j d lt within. absurd (omega arith);
  processes = λ i j d lt within. absurd (omega arith);
  under_way = λ k d lt. absurd (omega arith);
  flags = record { apart = λ i j d lt within. absurd (omega arith); own = λ process. refl };
  files = λ i j d lt within. absurd (omega arith);
  holds = λ i j d lt within. absurd (omega arith);
  prepared = λ i j d lt within. absurd (omega arith);
  labels = λ k d lt. absurd (omega arith);
  slots = record {
    sealed = λ k d lt. absurd (omega arith);
    slotted = λ k d lt. absurd (omega arith);
    apart = λ slot m n has_m has_n at_m at_n. absurd (let lt = has_m.1 in omega arith);
    kept = λ k d lt. absurd (omega arith);
    own = λ i j d lt within. absurd (omega arith);
    clear = λ k d lt. absurd (omega arith);
  };
}

sound_from : (script : Script) (journal : List Entry) (s : State) → IsSound s
    → IsSound (fold (λ (state : State) (entry : Entry). (step script state entry.line entry.event).1) s journal)
sound_from script [] s sound = sound
sound_from script (entry ∷ journal) s sound =
    sound_from script journal (step script s entry.line entry.event).1 (step_sound script s entry.line entry.event sound)

pub sound_after : StatesAreSound
sound_after script journal = sound_from script journal (opening script) (opening_sound script)

-- ---- states that are alike

-- Soundness asks only for what is the same in both.
same_sound : (a b : State) → IsLike a b → slot_use a ≡ slot_use b → IsSound b → IsSound a
same_sound a b like same sound = record {
  tasks = subst (AllPairs (λ a b. a.number ≢ b.number)) (sym like.tasks) sound.tasks;
  broadcasts = subst (AllPairs (λ a b. a.number ≢ b.number)) (sym like.broadcasts) sound.broadcasts;
  processes = subst (AllPairs (λ a b. a.process ≢ b.process)) (sym like.broadcasts) sound.processes;
  under_way = subst (λ ts. All (IsUnderWay ts) a.broadcasts) (sym like.tasks)
      (subst (All (IsUnderWay b.tasks)) (sym like.broadcasts) sound.under_way);
  flags = subst (λ ts. AreFlagged ts a.dumpable) (sym like.tasks) (subst (AreFlagged b.tasks) (sym like.dumpable) sound.flags);
  files = subst (AllPairs (λ a b. a.fd ≢ b.fd)) (sym like.files) sound.files;
  holds = subst (AllPairs (λ a b. a.label ≢ b.label)) (sym like.holds) sound.holds;
  prepared = subst (AllPairs (λ a b. a.label ≢ b.label)) (sym like.prepared) sound.prepared;
  labels = subst (λ hs. All (λ p. find (λ h. h.label == p.label) hs ≡ None) a.prepared) (sym like.holds)
      (subst (All (λ p. find (λ h. h.label == p.label) b.holds ≡ None)) (sym like.prepared) sound.labels);
  slots = subst IsOrderly (sym same) sound.slots;
}

same_ledger : (a b : State) → IsLike a b → slot_use a ≡ slot_use b
same_ledger a b like =
    ap (λ ts. slot_use (record a { tasks = ts })) like.tasks
    ∙ ap (λ fs. slot_use (record a { tasks = b.tasks; files = fs })) like.files
    ∙ ap (λ hs. slot_use (record a { tasks = b.tasks; files = b.files; holds = hs })) like.holds
    ∙ ap (λ ps. slot_use (record b { prepared = ps; deferred = a.deferred; dumpable = a.dumpable; creds = a.creds })) like.prepared
    ∙ ap (λ ds. slot_use (record b { deferred = ds; dumpable = a.dumpable; creds = a.creds })) like.deferred
    ∙ ap (λ slots. record (slot_use b) { slots = slots }) like.slots

pub like_sound : (a b : State) → IsLike a b → IsSound b → IsSound a
like_sound a b like = same_sound a b like (same_ledger a b like)
