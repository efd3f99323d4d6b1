-- What was read stays sound with a line more, and as lanes are opened and named.
use Rattle.std.proofs.Common.{◌≡◌, ◌≢◌, ℕ, ◌==◌, ◌≤◌, ◌<◌, Bool, true, false, not, ◌&&◌, ◌||◌, cond, List, [], ◌∷◌, ◌++◌, length, All, AllPairs, Option, Some}
use Rattle.std.proofs.Common.{None, IfSome, refl, sym, ap, subst, ◌∙◌, length-append, arith}
use Rattle.std.specs.List.{cons_option}
use Rattle.std.proofs.lemmas.Bool.{eqb-true}
use Rattle.std.proofs.lemmas.Bool.Decides.{nat_tests}
use Rattle.std.proofs.lemmas.List.Elements.{All-nil, All-push, All-weaker, All-contains}
use Rattle.std.proofs.lemmas.List.Quantifiers.{all_pairs_push}
use Rattle.cred_ids.specs.Limits.{LINE_LIMIT}
use Rattle.cred_event.specs.declared.content.Content.{Content}
use Rattle.cred_model.specs.Script.{Line, Namespace, SetupBefore}
use Rattle.cred_model.specs.FileChanges.{line_changes}
use Rattle.cred_script.specs.Acting.{actor}
use Rattle.cred_names.specs.Labels.{labels}
use Rattle.cred_names.specs.Owners.{Lanes, Owners, KeepsLanes, KeepsOwners, HasAll, owner_of, are_free, may_name, naming}
use Rattle.cred_script.specs.Lanes.{lanes}
use Rattle.cred_grammar.specs.Reading.{Reading, next_line, used_by}
use Rattle.cred_script.specs.Sound.{IsSoundLine, AreApart, ShareNone}
use Rattle.cred_grammar.specs.Sound.{IsNextLine, IsStart, IsTaskLine, IsOwned, AreLinesRead}
use Rattle.cred_names.proofs.OwnedNumbers.{has_all}

-- a sound line more
pub pushed : (reading : Reading) (lines : List Line) (content : Content) → lines ≡ reading.lines ++ next_line reading content ∷ []
    → length reading.lines < LINE_LIMIT
    → AreLinesRead (length reading.files) reading.namespaces reading.lanes reading.lines → IsNextLine reading content
    → AreLinesRead (length reading.files) reading.namespaces reading.lanes lines
pushed reading lines content lines_are room old next =
    let line = next_line reading content in
    rw lines_are (record {
      few = rw (length-append reading.lines (line ∷ [])) (omega arith);
      each =
          All-push (IsSoundLine (length reading.files) reading.namespaces) reading.lines line old.each
          (record { lane = old.lane; labels = next.labels; content = next.named; fixed = next.fixed });
      lane = old.lane;
      setup = λ zero. All-push (λ l. l.lane ≡ 0) reading.lines line (old.setup zero) zero;
      first = all_pairs_push SetupBefore reading.lines line old.first (λ k d lt zero. old.setup zero k d lt);
      owned = All-push (IsOwned reading.lanes) reading.lines line old.owned next.owned;
    })

-- a lane that is opened, which is not the setup
pub opened : (count : ℕ) (declared : List Namespace) (lanes : Lanes) (lines : List Line) (number : ℕ) → 1 ≤ number → number ≤ 16
    → AreLinesRead count declared lanes lines → AreLinesRead count declared (record lanes { current = number }) lines
opened count declared lanes lines number low high old = record {
  few = old.few;
  each = old.each;
  lane = high;
  setup = λ zero. absurd (omega arith);
  first = old.first;
  owned = old.owned;
}

-- whatever had an owner has it still
all_kept : (old new : Owners) (lane : ℕ) (numbers : List ℕ) → KeepsOwners old new → HasAll old lane numbers → HasAll new lane numbers
all_kept old new lane numbers keeps has =
    All-weaker (λ n. owner_of old n ≡ Some lane) (λ n. owner_of new n ≡ Some lane) (λ n is. keeps n lane is) numbers has

pub owned_still : (count : ℕ) (declared : List Namespace) (old new : Lanes) (lines : List Line) → KeepsLanes old new → AreLinesRead count declared old lines
    → AreLinesRead count declared new lines
owned_still count declared old new lines keeps sound = record {
  few = sound.few;
  each = sound.each;
  lane = rw keeps.current sound.lane;
  setup = λ zero. sound.setup (sym keeps.current ∙ zero);
  first = sound.first;
  owned =
      All-weaker (IsOwned old) (IsOwned new)
      (λ line has other.
      (all_kept old.tasks new.tasks line.lane _ keeps.tasks (has other).0, all_kept old.labels new.labels line.lane _ keeps.labels (has other).1))
      lines sound.owned;
}

-- the task that acts is the one that is named
acting : (P : ℕ → Type 0) (a by : Option ℕ) → IfSome a (λ task. by ≡ Some task) → All P (cons_option by []) → All P (cons_option a [])
acting P None by same holds = All-nil P
acting P (Some task) by same holds = subst (λ (o : Option ℕ). All P (cons_option o [])) same holds

both : (a b : Bool) → (a && b) ≡ true → (a ≡ true) × (b ≡ true)
both true b h = (refl, h)
both false b h = absurd (cc)

-- what a line may name is its lane's once it is named
named_by : (lanes : Lanes) (by : Option ℕ) (content : Content) (setup : Bool) → lanes.current ≢ 0 → (lanes.current == 0) ≡ setup
    → may_name lanes by content ≡ true
    → (let after = naming lanes by content in HasAll after.tasks lanes.current (cons_option by []) × HasAll after.labels lanes.current (labels content))
named_by lanes by content true other is apart = absurd (grind (arith, nat_tests))
named_by lanes by content false other is apart =
    let free = rw is at apart in
    let parts = both (are_free lanes.tasks lanes.current (cons_option by [])) (are_free lanes.labels lanes.current (labels content)) free in
    rw is (has_all (cons_option by []) lanes.tasks lanes.current parts.0, has_all (labels content) lanes.labels lanes.current parts.1)

stays_on : (setup : Bool) (lanes : Lanes) (tasks labels : Owners) → (cond setup lanes (record lanes { tasks = tasks; labels = labels })).current ≡ lanes.current
stays_on true lanes tasks labels = refl
stays_on false lanes tasks labels = refl

current_stays : (lanes : Lanes) (by : Option ℕ) (content : Content) → (naming lanes by content).current ≡ lanes.current
current_stays lanes by content = stays_on (lanes.current == 0) lanes _ _

-- where a line that changes a file may stand, the lane is the setup
in_setup : (lanes : Lanes) (b : Bool) → (lanes.current == 0 || not b) ≡ true → b ≡ true → lanes.current ≡ 0
in_setup lanes b may changes =
    let no : (lanes.current == 0 || false) ≡ true = ap (λ b. lanes.current == 0 || not b) (sym changes) ∙ may in
    eqb-true lanes.current 0 (first_of_or (lanes.current == 0) no)
  where
    first_of_or : (a : Bool) → (a || false) ≡ true → a ≡ true
    first_of_or true is = refl
    first_of_or false is = cc

-- a line that may stand is sound as the next one
pub held_next : (reading : Reading) (by : Option ℕ) (content : Content) → IsTaskLine reading by content → IsNextLine (used_by reading by content) content
held_next reading by content held = record {
  labels = held.labels;
  named = held.named;
  fixed = λ changes. current_stays reading.lanes by content ∙ in_setup reading.lanes (line_changes content) held.fixed changes;
  owned = λ other.
      let same = current_stays reading.lanes by content in
      let has = named_by reading.lanes by content (reading.lanes.current == 0) (λ zero. other (same ∙ zero)) refl held.apart in
      rw same (acting (λ n. owner_of (naming reading.lanes by content).tasks n ≡ Some reading.lanes.current) (actor content) by held.actor has.0, has.1);
}

pub start_next : (reading : Reading) (content : Content) → IsStart reading content → IsNextLine reading content
start_next reading content start = record {
  labels = rw start.labels (All-nil _);
  named = start.named;
  fixed = λ changes. absurd (let both : true ≡ false = sym changes ∙ start.changes in cc);
  owned = λ other. (rw start.actor (All-nil _), rw start.labels (All-nil _));
}

-- two lanes have no number in common
share_none : (owners : Owners) (a b : ℕ) (xs ys : List ℕ) → a ≢ b → HasAll owners a xs → HasAll owners b ys → ShareNone xs ys
share_none owners a b xs ys differ of_a of_b number in_xs in_ys =
    let first = All-contains (λ n. owner_of owners n ≡ Some a) xs number of_a in_xs in
    let second = All-contains (λ n. owner_of owners n ≡ Some b) ys number of_b in_ys in
    let both_are : (let o : Option ℕ = Some a in o) ≡ Some b = sym first ∙ second in
    differ (cc)

pub apart : (lanes : Lanes) (lines : List Line) → All (IsOwned lanes) lines → AllPairs AreApart lines
apart lanes lines owned i j d before within other_i other_j differ =
    let of_i = owned i d (omega arith) other_i in
    let of_j = owned j d within other_j in
    (share_none lanes.tasks _ _ _ _ differ of_i.0 of_j.0, share_none lanes.labels _ _ _ _ differ of_i.1 of_j.1)
