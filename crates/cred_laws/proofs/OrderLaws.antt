-- The laws of order.
use Rattle.std.proofs.Common.{◌≡◌, ◌≢◌, ◌==◌, ◌&&◌, not, ℕ, zero, suc, ◌+◌, ◌-◌, List, [], ◌∷◌, take, get_or, slice_get, Option, Some, None, Bool, true, false}
use Rattle.std.proofs.Common.{cond, is_some, refl, sym, ap, ◌∙◌, subst, arith}
use Rattle.std.specs.List.{All, AllPairs}
use Rattle.std.specs.Option.{IfSome, option_map, option_map_or}
use Rattle.std.proofs.lemmas.List.Elements.{All-head, All-tail, All-weaker}
use Rattle.std.proofs.lemmas.Option.{slice_get-get_or}
use Rattle.std.proofs.lemmas.Bool.Decides.{nat_tests}
use Rattle.cred_event.specs.declared.event.Event.{Event}
use Rattle.cred_event.specs.declared.entry.Entry.{Entry}
use Rattle.cred_model.specs.Script.{Script, Line, SetupFirst}
use Rattle.cred_model.specs.Journal.{Due, next_event, first_due, entry_of, due_in, next, lane_of, next_in_order}
use Rattle.cred_model.proofs.Order as order
use Rattle.cred_laws.specs.Order.{OneSequence, SequenceIsLegal, SequenceHasLines}

pub one_sequence : OneSequence
one_sequence script a b h k = order.one_sequence script a b h k

-- ---- one line, and those after it

abbrev due_of : ℕ → Option Event → Option Due → Option Due
due_of n o rest = option_map_or (λ event. Some (record { line = n; event = event })) o rest

abbrev is_setup : Line → Bool
is_setup line = line.lane == 0

-- a list by its first line, where the line's next event is known
first_due_by : (these : Line → Bool) (journal : List Entry) (n : ℕ) (line : Line) (lines : List Line) (o : Option Event)
    → next_event journal n line.content ≡ o
    → first_due these journal n (line ∷ lines) ≡ cond (these line) (due_of n o (first_due these journal (n + 1) lines)) (first_due these journal (n + 1) lines)
first_due_by these journal n line lines o is =
    let rest = first_due these journal (n + 1) lines in ap (λ o. cond (these line) (due_of n o rest) rest) is

-- a line that has ended is passed over
passed : (these : Line → Bool) (journal : List Entry) (n : ℕ) (line : Line) (lines : List Line)
    → next_event journal n line.content ≡ None
    → first_due these journal n (line ∷ lines) ≡ first_due these journal (n + 1) lines
passed these journal n line lines is =
    let rest = first_due these journal (n + 1) lines in
    first_due_by these journal n line lines None is
    ∙ elim (these line) as (λ b. cond b rest rest ≡ rest) [ true ↦ refl | false ↦ refl ]

-- So is one that isn't among those asked for.
skipped : (these : Line → Bool) (journal : List Entry) (n : ℕ) (line : Line) (lines : List Line) → these line ≡ false
    → first_due these journal n (line ∷ lines) ≡ first_due these journal (n + 1) lines
skipped these journal n line lines is =
    let rest = first_due these journal (n + 1) lines in
    ap (λ b. cond b (due_of n (next_event journal n line.content) rest) rest) is

-- where none of these is left
none_left : (these : Line → Bool) (journal : List Entry) (n : ℕ) (lines : List Line) → All (λ line. these line ≡ false) lines
    → first_due these journal n lines ≡ None
none_left these journal n [] none = refl
none_left these journal n (line ∷ lines) none =
    skipped these journal n line lines (All-head (λ line. these line ≡ false) line lines none)
    ∙ none_left these journal (n + 1) lines (All-tail (λ line. these line ≡ false) line lines none)

-- ---- no line is left

ended_by : (these : Line → Bool) (journal : List Entry) (n : ℕ) (line : Line) (lines : List Line) (o : Option Event)
    → next_event journal n line.content ≡ o → first_due (λ l. true) journal n (line ∷ lines) ≡ None
    → (first_due (λ l. true) journal (n + 1) lines ≡ None → first_due these journal (n + 1) lines ≡ None)
    → first_due these journal n (line ∷ lines) ≡ None
ended_by these journal n line lines None is over later =
    passed these journal n line lines is ∙ later (sym (passed (λ l. true) journal n line lines is) ∙ over)
ended_by these journal n line lines (Some event) is over later =
    let now : Due = record { line = n; event = event } in
    let due : Some now ≡ None = sym (first_due_by (λ l. true) journal n line lines (Some event) is) ∙ over in
    cc

pub ended : (these : Line → Bool) (journal : List Entry) (n : ℕ) (lines : List Line)
    → first_due (λ l. true) journal n lines ≡ None → first_due these journal n lines ≡ None
ended these journal n [] over = refl
ended these journal n (line ∷ lines) over =
    ended_by these journal n line lines (next_event journal n line.content) refl over
    (λ later. ended these journal (n + 1) lines later)

-- ---- the first line that is left

-- where it stands, that its lane has no other line before it, and that the setup has none if it
-- isn't of the setup
record IsFirst (journal : List Entry) (n : ℕ) (lines : List Line) (due : Due) : Type 0 where
  place : ℕ
  line : Line
  at : slice_get lines place ≡ Some line
  number : due.line ≡ place + n
  among : (these : Line → Bool) → these line ≡ true → first_due these journal n lines ≡ Some due
  setup : AllPairs (λ earlier later. later.lane ≡ 0 → earlier.lane ≡ 0) lines → line.lane ≢ 0
      → first_due is_setup journal n lines ≡ None

tail_pairs : {X : Type 0} (R : X → X → Type 0) (x : X) (xs : List X) → AllPairs R (x ∷ xs) → AllPairs R xs
tail_pairs R x xs each i j d lt within = each (suc i) (suc j) d (omega arith) (omega arith)

head_pairs : {X : Type 0} (R : X → X → Type 0) (x : X) (xs : List X) → AllPairs R (x ∷ xs) → All (R x) xs
head_pairs R x xs each k d lt = each zero (suc k) d (omega arith) (omega arith)

apart : (n : ℕ) → n ≢ 0 → (n == 0) ≡ false
apart n differ = grind (arith, nat_tests)

first_here : (journal : List Entry) (n : ℕ) (line : Line) (lines : List Line) (event : Event)
    → next_event journal n line.content ≡ Some event
    → IsFirst journal n (line ∷ lines) (record { line = n; event = event })
first_here journal n line lines event is = record {
  place = 0;
  line = line;
  at = refl;
  number = omega arith;
  among = λ these in'.
      let rest = first_due these journal (n + 1) lines in
      first_due_by these journal n line lines (Some event) is
      ∙ ap (λ b. cond b (Some (record { line = n; event = event })) rest) in';
  setup = λ pairs other.
      skipped is_setup journal n line lines (apart line.lane other)
      ∙ none_left is_setup journal (n + 1) lines
      (All-weaker (λ (l : Line). l.lane ≡ 0 → line.lane ≡ 0) (λ l. is_setup l ≡ false) (λ l h. apart l.lane (λ z. other (h z))) lines
      (head_pairs (λ (earlier later : Line). later.lane ≡ 0 → earlier.lane ≡ 0) line lines pairs));
}

first_later : (journal : List Entry) (n : ℕ) (line : Line) (lines : List Line) (due : Due)
    → next_event journal n line.content ≡ None → IsFirst journal (n + 1) lines due → IsFirst journal n (line ∷ lines) due
first_later journal n line lines due is first = record {
  place = suc first.place;
  line = first.line;
  at = first.at;
  number = let there = first.number in omega arith;
  among = λ these in'. passed these journal n line lines is ∙ first.among these in';
  setup = λ pairs other.
      passed is_setup journal n line lines is
      ∙ first.setup (tail_pairs (λ (earlier later : Line). later.lane ≡ 0 → earlier.lane ≡ 0) line lines pairs) other;
}

first_by : (journal : List Entry) (n : ℕ) (line : Line) (lines : List Line) (due : Due) (o : Option Event)
    → next_event journal n line.content ≡ o → first_due (λ l. true) journal n (line ∷ lines) ≡ Some due
    → (first_due (λ l. true) journal (n + 1) lines ≡ Some due → IsFirst journal (n + 1) lines due)
    → IsFirst journal n (line ∷ lines) due
first_by journal n line lines due None is found later =
    first_later journal n line lines due is (later (sym (passed (λ l. true) journal n line lines is) ∙ found))
first_by journal n line lines due (Some event) is found later =
    let both : Some (record { line = n; event = event }) ≡ Some due = sym (first_due_by (λ l. true) journal n line lines (Some event) is) ∙ found in
    let same : record { line = n; event = event } ≡ due = cc in
    subst (IsFirst journal n (line ∷ lines)) same (first_here journal n line lines event is)

first : (journal : List Entry) (n : ℕ) (lines : List Line) (due : Due) → first_due (λ l. true) journal n lines ≡ Some due
    → IsFirst journal n lines due
first journal n [] due found = cc
first journal n (line ∷ lines) due found =
    first_by journal n line lines due (next_event journal n line.content) refl found
    (λ later. first journal (n + 1) lines due later)

-- ---- an entry

lane_at : (script : Script) (number place : ℕ) (line : Line) → number ≡ place + 1 → slice_get script.lines place ≡ Some line
    → lane_of script number ≡ Some line.lane
lane_at script number place line is at =
    let before : number - 1 ≡ place = omega arith in
    let counted : (number == 0) ≡ false = grind (arith, nat_tests) in
    ap (λ b. cond b None (option_map (λ (l : Line). l.lane) (slice_get script.lines (number - 1)))) counted
    ∙ ap (λ k. option_map (λ (l : Line). l.lane) (slice_get script.lines k)) before ∙ ap (option_map (λ (l : Line). l.lane)) at

-- the lane whose next entry it is
pub record IsNextOf (script : Script) (journal : List Entry) (entry : Entry) (lane : ℕ) : Type 0 where
  pub lane_is : lane_of script entry.line ≡ Some lane
  pub next_is : SetupFirst script → next script journal lane ≡ Some entry

next_of_lane : (script : Script) (journal : List Entry) (due : Due) (lane : ℕ) (b : Bool) → (lane == 0) ≡ b
    → due_in script journal lane ≡ Some due → ((lane ≢ 0) → due_in script journal 0 ≡ None)
    → next script journal lane ≡ Some (entry_of script journal due)
next_of_lane script journal due lane true test is none =
    ap (λ b. cond (not b && is_some (due_in script journal 0)) None (option_map (entry_of script journal) (due_in script journal lane))) test
    ∙ ap (option_map (entry_of script journal)) is
next_of_lane script journal due lane false test is none =
    let other : lane ≢ 0 = grind (arith, nat_tests) in
    ap (λ b. cond (not b && is_some (due_in script journal 0)) None (option_map (entry_of script journal) (due_in script journal lane))) test
    ∙ ap (λ o. cond (is_some o) None (option_map (entry_of script journal) (due_in script journal lane))) (none other)
    ∙ ap (option_map (entry_of script journal)) is

eq_itself : (n : ℕ) → (n == n) ≡ true
eq_itself n = grind (arith, nat_tests)

due_next : (script : Script) (journal : List Entry) (due : Due)
    → first_due (λ l. true) journal 1 script.lines ≡ Some due
    → (lane : ℕ) × IsNextOf script journal (entry_of script journal due) lane
due_next script journal due found =
    let at = first journal 1 script.lines due found in (
      at.line.lane,
      record {
        lane_is = lane_at script due.line at.place at.line at.number at.at;
        next_is = λ setup.
            next_of_lane script journal due at.line.lane (at.line.lane == 0) refl
            (at.among (λ line. line.lane == at.line.lane) (eq_itself at.line.lane)) (at.setup setup);
      },
    )

in_order_by : (script : Script) (journal : List Entry) (entry : Entry) (found : Option Due)
    → first_due (λ l. true) journal 1 script.lines ≡ found → option_map (entry_of script journal) found ≡ Some entry
    → (lane : ℕ) × IsNextOf script journal entry lane
in_order_by script journal entry None found is = cc
in_order_by script journal entry (Some due) found is =
    let same : entry_of script journal due ≡ entry = cc in
    subst (λ (e : Entry). (lane : ℕ) × IsNextOf script journal e lane) same (due_next script journal due found)

-- the next entry in order is the next one of its line's lane
pub in_order_next : (script : Script) (journal : List Entry) (entry : Entry) → next_in_order script journal ≡ Some entry
    → (lane : ℕ) × IsNextOf script journal entry lane
in_order_next script journal entry is =
    in_order_by script journal entry (first_due (λ l. true) journal 1 script.lines) refl is

-- ---- a journal

so_far_at : (script : Script) (journal : List Entry) (o : Option Entry) → SetupFirst script → next_in_order script journal ≡ o
    → IfSome o (λ entry. (lane : ℕ) × (lane_of script entry.line ≡ Some lane) × (next script journal lane ≡ Some entry))
so_far_at script journal None setup is = tt
so_far_at script journal (Some entry) setup is =
    let of = in_order_next script journal entry is in
    (of.0, of.1.lane_is, of.1.next_is setup)

none_due : (script : Script) (journal : List Entry) (found : Option Due) → option_map (entry_of script journal) found ≡ None
    → found ≡ None
none_due script journal None is = refl
none_due script journal (Some due) is = cc

pub none_next : (script : Script) (journal : List Entry) (lane : ℕ) → next_in_order script journal ≡ None
    → next script journal lane ≡ None
none_next script journal lane over =
    let none = none_due script journal (first_due (λ l. true) journal 1 script.lines) over in
    let here : due_in script journal lane ≡ None = ended (λ line. line.lane == lane) journal 1 script.lines none in
    ap (λ o. cond (not (lane == 0) && is_some (due_in script journal 0)) None (option_map (entry_of script journal) o)) here
    ∙ elim (not (lane == 0) && is_some (due_in script journal 0)) as (λ b. cond {A = Option Entry} b None None ≡ None) [ true ↦ refl | false ↦ refl ]

pub sequence_is_legal : SequenceIsLegal
sequence_is_legal script journal setup sequence = record {
  so_far = λ k lt. so_far_at script (take k journal) (slice_get journal k) setup (sequence.in_order k lt);
  ended = λ lane. none_next script journal lane sequence.ended;
}

pub sequence_has_lines : SequenceHasLines
sequence_has_lines script journal sequence k d lt =
    let of = in_order_next script (take k journal) (get_or journal k d) (sequence.in_order k lt ∙ slice_get-get_or journal k d lt) in
    ap is_some of.1.lane_is
