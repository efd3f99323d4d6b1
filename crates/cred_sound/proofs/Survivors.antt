-- The tasks that go on where others end.
use Rattle.std.proofs.Common.{◌≡◌, ◌≢◌, ◌==◌, not, ℕ, List, Option, Some, None, Bool, true, false, refl, sym, ap, ◌∙◌}
use Rattle.std.specs.List.{All, AllPairs, find}
use Rattle.std.proofs.lemmas.List.Elements.{All-filter}
use Rattle.std.proofs.lemmas.Bool.{eqb-true}
use Rattle.cred_model.specs.State.{Task}
use Rattle.cred_model.specs.Ends.{survivors}
use Rattle.cred_model.proofs.Rising.{find-filter}
use Rattle.cred_model.proofs.Lists.{alone, found, found_none, none_found}

-- who isn't found among all isn't found among those that go on
pub find_no_survivor : (ends : Task → Bool) (tasks : List Task) (task : ℕ) → find (λ t. t.number == task) tasks ≡ None
    → find (λ t. t.number == task) (survivors ends tasks) ≡ None
find_no_survivor ends tasks task none =
    none_found (λ (t : Task). t.number == task) (survivors ends tasks)
    (All-filter (λ t. not (ends t)) (λ t. (t.number == task) ≡ false) tasks (found_none (λ (t : Task). t.number == task) tasks none))

found_same : (tasks : List Task) (task : ℕ) (t : Task) (o : Option Task) → find (λ t. t.number == task) tasks ≡ o
    → (o ≢ None) → (t.number == task) ≡ true → All (λ y. y.number ≡ t.number → y ≡ t) tasks
    → find (λ t. t.number == task) tasks ≡ Some t
found_same tasks task t None is some test one = absurd (some refl)
found_same tasks task t (Some x) is some test one =
    let there = found (λ (y : Task). y.number ≡ t.number → y ≡ t) (λ (t : Task). t.number == task) tasks x is one in
    is ∙ ap Some (there.0 (eqb-true x.number task there.1 ∙ sym (eqb-true t.number task test)))

-- Who is found among those that go on is found among all, where no two have one number.
pub find_survivor : (ends : Task → Bool) (tasks : List Task) (task : ℕ) (t : Task) → AllPairs (λ a b. a.number ≢ b.number) tasks
    → find (λ t. t.number == task) (survivors ends tasks) ≡ Some t → find (λ t. t.number == task) tasks ≡ Some t
find_survivor ends tasks task t apart is =
    let Alone : Task → Type 0 = λ x. All (λ (y : Task). y.number ≡ x.number → y ≡ x) tasks in
    let at = found Alone (λ (t : Task). t.number == task) (survivors ends tasks) t is
    (All-filter (λ t. not (ends t)) Alone tasks (alone (λ (t : Task). t.number) tasks apart)) in
    found_same tasks task t (find (λ t. t.number == task) tasks) refl
    (λ none. let gone : None ≡ Some t = sym (find_no_survivor ends tasks task none) ∙ is in cc) at.1 at.0

-- Who is found among all, and doesn't end, is found among those that go on.
pub find_goes_on : (ends : Task → Bool) (tasks : List Task) (task : ℕ) (t : Task) → find (λ t. t.number == task) tasks ≡ Some t
    → ends t ≡ false → (find (λ t. t.number == task) (survivors ends tasks) ≡ Some t) × ((t.number == task) ≡ true)
find_goes_on ends tasks task t is on = (
  find-filter (λ t. t.number == task) (λ t. not (ends t)) tasks t is (ap not on),
  (found (λ (t : Task). Unit {0}) (λ t. t.number == task) tasks t is (λ k d lt. tt)).1,
)
