-- Tasks and labels have each a name of their own after an event, if they had before it.
use Rattle.std.proofs.Common.{◌≡◌, ◌≢◌, ◌==◌, not, ℕ, List, [], ◌∷◌, ◌++◌, get_or, map, Some, None, false, cond, sym, ap, ◌∙◌, subst, arith}
use Rattle.std.specs.List.{All, AllPairs, find, remove}
use Rattle.std.specs.Option.{option_or}
use Rattle.std.proofs.lemmas.List.Elements.{All-push, All-weaker}
use Rattle.std.proofs.lemmas.List.Folds.{find-append}
use Rattle.std.proofs.lemmas.List.Kept.{AllPairs-filter}
use Rattle.std.proofs.lemmas.List.Quantifiers.{all_pairs_push, all_pairs_remove}
use Rattle.std.proofs.lemmas.Bool.Decides.{nat_tests}
use Rattle.std.proofs.lemmas.Bool.{eqb-false}
use Rattle.std.proofs.lemmas.Option.{slice_get_within}
use Rattle.cred_event.specs.declared.event.Event.{Event}
use Rattle.cred_event.specs.declared.answer.Answer.{Answer}
use Rattle.cred_model.specs.Script.{Script}
use Rattle.cred_model.specs.State.{State, Task, Hold, Prepared}
use Rattle.cred_model.specs.Ends.{survivors}
use Rattle.cred_model.specs.Moves.{updated, overriding, altered_at, first_task}
use Rattle.cred_model.proofs.Lists.{All-kept, All-remove, AllPairs-map, AllPairs-weaker, Differ, found_none, none_found}
use Rattle.cred_model.proofs.Numbers.{updated_number, overriding_number, changed_as, changed_label}
use Rattle.cred_sound.proofs.Parts.{ListChange, TasksChange, HoldsChange, PreparedChange, SameTasks, SetsFlag, Creates, Shares, Renews, Overrides, Fewer, Stays}
use Rattle.cred_sound.proofs.Parts.{Adds, Removes, SamePrepared, Prepares, Alters, Ends}

-- where none is found of a number, each has another
pub none_has : {X : Type 0} (f : X → ℕ) (xs : List X) (n : ℕ) → find (λ x. f x == n) xs ≡ None → All (λ x. f x ≢ n) xs
none_has f xs n none = All-weaker (λ x. (f x == n) ≡ false) (λ x. f x ≢ n) (λ x. eqb-false (f x) n) xs (found_none (λ x. f x == n) xs none)

-- a change of the elements that leaves their numbers
pub differ-map : {X : Type 0} (f : X → ℕ) (g : X → X) (xs : List X) → ((x : X) → f (g x) ≡ f x) → AllPairs (Differ f) xs
    → AllPairs (Differ f) (map g xs)
differ-map f g xs same each =
    AllPairs-map (Differ f) g xs
    (AllPairs-weaker (Differ f) (λ a b. Differ f (g a) (g b)) xs (λ a b apart is. apart (sym (same a) ∙ is ∙ same b)) each)

abbrev number_of : Task → ℕ
number_of t = t.number

abbrev prepared_as : Prepared → ℕ
prepared_as p = p.label

pub tasks_differ : {script : Script} → (s : State) (event : Event) (made : Answer × State) → TasksChange script s event made
    → AllPairs (Differ number_of) s.tasks → AllPairs (Differ number_of) made.1.tasks
tasks_differ s event made (SameTasks same broadcasts flags) differ = subst (AllPairs (Differ number_of)) (sym same) differ
tasks_differ s event made (SetsFlag task value owner flag is found known same broadcasts flags) differ = subst (AllPairs (Differ number_of)) (sym same) differ
tasks_differ s event made (Creates task process user group ns slot is tasks creds new idle broadcasts flags) differ =
    subst (AllPairs (Differ number_of)) (sym tasks)
    (all_pairs_push (Differ number_of) s.tasks (first_task task process _) differ (none_has number_of s.tasks task new))
tasks_differ s event made (Shares task child process parent tasks creds current new creation) differ =
    subst (AllPairs (Differ number_of)) (sym tasks)
    (all_pairs_push (Differ number_of) s.tasks (first_task child process _) differ (none_has number_of s.tasks child new))
tasks_differ s event made (Renews task slot owner c ends tasks creds found cause) differ =
    subst (AllPairs (Differ number_of)) (sym tasks)
    (differ-map number_of (updated task _) (survivors ends s.tasks) (updated_number task _)
    (AllPairs-filter (Differ number_of) (λ t. not (ends t)) s.tasks differ))
tasks_differ s event made (Overrides task numbers tasks refer broadcasts flags) differ =
    subst (AllPairs (Differ number_of)) (sym tasks)
    (differ-map number_of (overriding task numbers) s.tasks (overriding_number task numbers) differ)
tasks_differ s event made (Fewer ends tasks creds death) differ =
    subst (AllPairs (Differ number_of)) (sym tasks)
    (AllPairs-filter (Differ number_of) (λ t. not (ends t)) s.tasks differ)

pub list_differs : {X : Type 0} (name : X → ℕ) (IsNew : X → Type 0) (Gone : ℕ → Type 0) (xs ys : List X)
    → ListChange X name IsNew Gone xs ys → AllPairs (Differ name) xs → AllPairs (Differ name) ys
list_differs name IsNew Gone xs ys (Stays same) differ = subst (AllPairs (Differ name)) (sym same) differ
list_differs name IsNew Gone xs ys (Adds x more new is) differ =
    subst (AllPairs (Differ name)) (sym more) (all_pairs_push (Differ name) xs x differ (none_has name xs (name x) new))
list_differs name IsNew Gone xs ys (Removes number place x ends less at found) differ =
    subst (AllPairs (Differ name)) (sym less) (all_pairs_remove (Differ name) xs place (slice_get_within xs place x found) differ)

pub labels_differ : (script : Script) (s : State) (event : Event) (left : List ℕ) (t : State)
    → PreparedChange script s event left t → AllPairs (Differ prepared_as) s.prepared → AllPairs (Differ prepared_as) t.prepared
labels_differ script s event left t (SamePrepared same) differ = subst (AllPairs (Differ prepared_as)) (sym same) differ
labels_differ script s event left t (Prepares p prepared fresh unheld new stands free) differ =
    subst (AllPairs (Differ prepared_as)) (sym prepared)
    (all_pairs_push (Differ prepared_as) s.prepared p differ (none_has prepared_as s.prepared p.label new))
labels_differ script s event left t (Alters label to p base answer prepared is at so acts) differ =
    subst (AllPairs (Differ prepared_as)) (sym prepared)
    (differ-map prepared_as (altered_at label to) s.prepared (changed_label label to) differ)
labels_differ script s event left t (Ends label place p ends prepared at is) differ =
    subst (AllPairs (Differ prepared_as)) (sym prepared)
    (all_pairs_remove (Differ prepared_as) s.prepared place (slice_get_within s.prepared place p is) differ)

-- ---- no prepared label is a hold's

abbrev IsNotHeld : List Hold → Prepared → Type 0
IsNotHeld holds p = find (λ h. h.label == p.label) holds ≡ None

not_held_with : (holds : List Hold) (hold : Hold) (p : Prepared) → p.label ≢ hold.label → IsNotHeld holds p
    → IsNotHeld (holds ++ hold ∷ []) p
not_held_with holds hold p other none =
    let test : (hold.label == p.label) ≡ false = grind (arith, nat_tests) in
    find-append (λ (h : Hold). h.label == p.label) holds (hold ∷ [])
    ∙ ap (λ o. option_or o (find (λ (h : Hold). h.label == p.label) (hold ∷ []))) none
    ∙ ap (λ b. cond b (Some hold) None) test

not_held_without : (holds : List Hold) (place : ℕ) (p : Prepared) → IsNotHeld holds p → IsNotHeld (remove holds place) p
not_held_without holds place p none =
    none_found (λ (h : Hold). h.label == p.label) (remove holds place)
    (All-remove (λ h. (h.label == p.label) ≡ false) holds place (found_none (λ (h : Hold). h.label == p.label) holds none))

-- next to the other holds
unheld_still : (s : State) (event : Event) (left : List ℕ) (t : State) → HoldsChange s event left t → All (IsNotHeld s.holds) s.prepared
    → All (IsNotHeld t.holds) s.prepared
unheld_still s event left t (Stays same) unheld = subst (λ holds. All (IsNotHeld holds) s.prepared) (sym same) unheld
unheld_still s event left t (Adds hold holds new is) unheld =
    let others = none_has prepared_as s.prepared hold.label is.0 in
    subst (λ holds. All (IsNotHeld holds) s.prepared) (sym holds)
    (λ k d lt. not_held_with s.holds hold (get_or s.prepared k d) (others k d lt) (unheld k d lt))
unheld_still s event left t (Removes label place hold is holds at found) unheld =
    subst (λ holds. All (IsNotHeld holds) s.prepared) (sym holds)
    (All-weaker (IsNotHeld s.holds) (IsNotHeld (remove s.holds place)) (not_held_without s.holds place) s.prepared unheld)

-- of the other prepared labels
unheld_all : (script : Script) (s : State) (event : Event) (left : List ℕ) (t : State) → PreparedChange script s event left t
    → All (IsNotHeld t.holds) s.prepared → All (IsNotHeld t.holds) t.prepared
unheld_all script s event left t (SamePrepared same) unheld = subst (All (IsNotHeld t.holds)) (sym same) unheld
unheld_all script s event left t (Prepares p prepared fresh free_label new stands free) unheld =
    subst (All (IsNotHeld t.holds)) (sym prepared) (All-push (IsNotHeld t.holds) s.prepared p unheld free_label)
unheld_all script s event left t (Alters label to p base answer prepared is at so acts) unheld =
    subst (All (IsNotHeld t.holds)) (sym prepared)
    (All-kept (IsNotHeld t.holds) (altered_at label to) s.prepared
    (λ p none. changed_as (IsNotHeld t.holds) label to p (λ test. none) none) unheld)
unheld_all script s event left t (Ends label place p ends prepared at is) unheld =
    subst (All (IsNotHeld t.holds)) (sym prepared) (All-remove (IsNotHeld t.holds) s.prepared place unheld)

pub labels_unheld : (script : Script) (s : State) (event : Event) (left : List ℕ) (t : State) → HoldsChange s event left t
    → PreparedChange script s event left t → All (IsNotHeld s.holds) s.prepared → All (IsNotHeld t.holds) t.prepared
labels_unheld script s event left t holds prepared unheld =
    unheld_all script s event left t prepared (unheld_still s event left t holds unheld)
