-- The numbers of a script of which nothing has run, counted line by line.
use Rattle.std.proofs.Common.{◌≡◌, ℕ, zero, suc, ◌+◌, ◌-◌, ◌<◌, ◌≤◌, ◌==◌, ◌&&◌, Bool, true, false, List, [], ◌∷◌, length, set, drop, get_or, replicate}
use Rattle.std.proofs.Common.{slice_get, All, Option, Some, None, is_none, is_some, refl, sym, ap, ◌∙◌, subst, inl, inr, arith}
use Rattle.std.proofs.lemmas.Bool.{cases_eq, cases_lt}
use Rattle.std.proofs.lemmas.Bool.Decides.{nat_tests}
use Rattle.std.proofs.lemmas.List.{get_or-replicate, get_or-set_other, get_or-set_same, get_or_past, length-replicate, length-set}
use Rattle.std.proofs.lemmas.Option.{get_or_from_slice_get, slice_get_within}
use Rattle.cred_ids.specs.Limits.{LAST_NUMBER, LINE_LIMIT}
use Rattle.cred_event.specs.declared.content.Content.{Content}
use Rattle.cred_model.specs.Script.{Script, Line}
use Rattle.cred_model.specs.Course.{event_at, start}
use Rattle.cred_model.specs.Journal.{next_event}
use Rattle.cred_model.proofs.Courses.{makes_event}
use Rattle.cred_model.proofs.Lists.{slice_get_at}
use Rattle.cred_names.specs.Labels.{labels}
use Rattle.cred_script.specs.Lines.{line_at}
use Rattle.cred_script.specs.Lanes.{lanes}
use Rattle.cred_book.specs.Counts.{AreEnded, count_of, ended_from, ended_of}
use Rattle.cred_book.proofs.Counts.{ended_few, lane_within}

-- ---- lists

drop_here : {A : Type 0} (xs : List A) (i : ℕ) (x : A) → slice_get xs i ≡ Some x → drop i xs ≡ x ∷ drop (suc i) xs
drop_here [] i x at = cc
drop_here (y ∷ ys) zero x at = let same : y ≡ x = cc in ap (λ z. z ∷ ys) same
drop_here (y ∷ ys) (suc i) x at = drop_here ys i x at

drop_past : {A : Type 0} (xs : List A) (i : ℕ) → slice_get xs i ≡ None → drop i xs ≡ []
drop_past [] zero none = refl
drop_past [] (suc i) none = refl
drop_past (x ∷ xs) zero none = cc
drop_past (x ∷ xs) (suc i) none = drop_past xs i none

replicated : (n i d : ℕ) → get_or (replicate n d) i d ≡ d
replicated n i d = elim (cases_lt i n) [
  | inl within ↦ get_or-replicate n i d d within
  | inr past ↦ let long = length-replicate n d in get_or_past (replicate n d) i d (omega (arith, past, long))
]

-- ---- lines

-- no label of its words is one that a line takes for itself
abbrev pub HasSmall : Line → Type 0
HasSmall line = All (λ label. label ≤ LAST_NUMBER) (labels line.content)

-- the lines before this number are counted, and have such labels alone
pub record IsCounted (script : Script) (ended : List ℕ) (number : ℕ) : Type 0 where
  pub first : 1 ≤ number
  pub places : length ended ≡ lanes script.lines + 1
  pub sums : (lane : ℕ) → get_or ended lane 0 + ended_from [] lane number (drop (number - 1) script.lines) ≡ ended_of script [] lane
  pub small : (k : ℕ) (line : Line) → k + 1 < number → slice_get script.lines k ≡ Some line → HasSmall line

pub counted_first : (script : Script) (ended : List ℕ) → ended ≡ replicate (lanes script.lines + 1) 0 → IsCounted script ended 1
counted_first script ended is = record {
  first = omega arith;
  places = ap length is ∙ length-replicate (lanes script.lines + 1) 0;
  sums = λ lane.
      let none = ap (λ (ns : List ℕ). get_or ns lane 0) is ∙ replicated (lanes script.lines + 1) lane 0 in
      omega (arith, none);
  small = λ k line lt at. absurd (omega (arith, lt));
}

-- the line of a number that is not 0
place_of : (script : Script) (number : ℕ) → 1 ≤ number → line_at script number ≡ slice_get script.lines (number - 1)
place_of script number first =
    let above : (number == 0) ≡ false = grind (arith, nat_tests) in
    rw above refl

pub line_place : (script : Script) (number : ℕ) (line : Line) → 1 ≤ number → line_at script number ≡ Some line → slice_get script.lines (number - 1) ≡ Some line
line_place script number line first at = sym (place_of script number first) ∙ at

none_alike : {A B : Type 0} (a : Option A) (b : Option B) → is_some a ≡ is_some b → is_none a ≡ is_none b
none_alike None None same = refl
none_alike None (Some y) same = cc
none_alike (Some x) None same = cc
none_alike (Some x) (Some y) same = refl

-- a line has ended before its first event where its course has no stage
ends_at_once : (number : ℕ) (content : Content) → is_none (next_event [] number content) ≡ is_none (start number content).stage
ends_at_once number content =
    let course = start number content in
    none_alike (event_at content course) course.stage (makes_event content course course.stage refl (record { answers = []; is = refl }))

-- what is left to count, with the next line
left_by : (script : Script) (number lane : ℕ) (line : Line) → 1 ≤ number → line_at script number ≡ Some line
    → ended_from [] lane number (drop (number - 1) script.lines)
    ≡ count_of (line.lane == lane && is_none (start number line.content).stage) + ended_from [] lane (number + 1) (drop (number + 1 - 1) script.lines)
left_by script number lane line first at =
    let up : suc (number - 1) ≡ number + 1 - 1 = omega (arith, first) in
    ap (ended_from [] lane number) (drop_here script.lines (number - 1) line (line_place script number line first at))
    ∙ ap (λ b. count_of (line.lane == lane && b) + ended_from [] lane (number + 1) (drop (suc (number - 1)) script.lines)) (ends_at_once number line.content)
    ∙ ap (λ m. count_of (line.lane == lane && is_none (start number line.content).stage) + ended_from [] lane (number + 1) (drop m script.lines)) up

term_other : (a b : Bool) → b ≡ false → count_of (a && b) ≡ 0
term_other true b is = ap count_of is
term_other false b is = refl

small_more : (script : Script) (ended : List ℕ) (number : ℕ) (line : Line) → IsCounted script ended number → line_at script number ≡ Some line → HasSmall line
    → (k : ℕ) (other : Line) → k + 1 < number + 1 → slice_get script.lines k ≡ Some other → HasSmall other
small_more script ended number line so at small k other lt there = elim (cases_lt (k + 1) number) [
  | inl before ↦ so.small k other before there
  | inr after ↦
      let first = so.first in
      let here : number - 1 ≡ k = omega (arith, lt, after, first) in
      let same : Some line ≡ Some other = sym (line_place script number line so.first at) ∙ ap (slice_get script.lines) here ∙ there in
      let is : line ≡ other = cc in
      subst HasSmall is small
]

-- a line that makes events
pub counted_on : (script : Script) (ended : List ℕ) (number : ℕ) (line : Line) → IsCounted script ended number → line_at script number ≡ Some line
    → HasSmall line → is_none (start number line.content).stage ≡ false → IsCounted script ended (number + 1)
counted_on script ended number line so at small going = record {
  first = omega arith;
  places = so.places;
  sums = λ lane.
      let left = left_by script number lane line so.first at in
      let none = term_other (line.lane == lane) (is_none (start number line.content).stage) going in
      omega (arith, so.sums lane, left, none);
  small = small_more script ended number line so at small;
}

-- one that makes none
pub counted_one : (script : Script) (ended : List ℕ) (number : ℕ) (line : Line) → IsCounted script ended number → line_at script number ≡ Some line
    → HasSmall line → is_none (start number line.content).stage ≡ true → line.lane < length ended
    → IsCounted script (set ended line.lane (get_or ended line.lane 0 + 1)) (number + 1)
counted_one script ended number line so at small over within = record {
  first = omega arith;
  places = length-set ended line.lane (get_or ended line.lane 0 + 1) ∙ so.places;
  sums = by;
  small = small_more script ended number line so at small;
}
  where
    by : (lane : ℕ)
        → get_or (set ended line.lane (get_or ended line.lane 0 + 1)) lane 0 + ended_from [] lane (number + 1) (drop (number + 1 - 1) script.lines)
        ≡ ended_of script [] lane
    by lane =
        let left = left_by script number lane line so.first at in
        elim (cases_eq line.lane lane) [
          | inl same ↦
              let test : (line.lane == lane) ≡ true = grind (arith, nat_tests) in
              let one : count_of (line.lane == lane && is_none (start number line.content).stage) ≡ 1
              = ap (λ b. count_of (b && is_none (start number line.content).stage)) test ∙ ap count_of over in
              let here : get_or (set ended line.lane (get_or ended line.lane 0 + 1)) lane 0 ≡ get_or ended lane 0 + 1
              = subst (λ l. get_or (set ended line.lane (get_or ended line.lane 0 + 1)) l 0 ≡ get_or ended l 0 + 1) same
              (get_or-set_same ended line.lane (get_or ended line.lane 0 + 1) 0 within) in
              omega (arith, so.sums lane, left, one, here)
          | inr differ ↦
              let test : (line.lane == lane) ≡ false = grind (arith, nat_tests) in
              let none : count_of (line.lane == lane && is_none (start number line.content).stage) ≡ 0
              = ap (λ b. count_of (b && is_none (start number line.content).stage)) test in
              let other = get_or-set_other ended line.lane lane (get_or ended line.lane 0 + 1) 0 (λ e. differ (sym e)) in
              omega (arith, so.sums lane, left, none, other)
        ]

-- after the last line
pub counted_all : (script : Script) (ended : List ℕ) (number : ℕ) → IsCounted script ended number → line_at script number ≡ None → AreEnded script [] ended
counted_all script ended number so none lane =
    let left = ap (ended_from [] lane number) (drop_past script.lines (number - 1) (sym (place_of script number so.first) ∙ none)) in
    omega (arith, so.sums lane, left)

pub counted_small : (script : Script) (ended : List ℕ) (number : ℕ) → IsCounted script ended number → line_at script number ≡ None → All HasSmall script.lines
counted_small script ended number so none k d lt =
    let it = slice_get_at script.lines k lt in
    let before : k + 1 < number = elim (cases_lt (k + 1) number) [
      | inl before ↦ before
      | inr after ↦
          let last = slice_get_at script.lines (number - 1) (omega (arith, lt, after, so.first)) in
          let both : None ≡ Some last.0 = sym (sym (place_of script number so.first) ∙ none) ∙ last.1 in
          absurd (cc)
    ] in
    subst HasSmall (sym (get_or_from_slice_get script.lines k it.0 d it.1)) (so.small k it.0 before it.1)

-- ---- bounds

pub counted_few : (script : Script) (ended : List ℕ) (number lane : ℕ) → IsCounted script ended number → length script.lines ≤ LINE_LIMIT
    → get_or ended lane 0 ≤ LINE_LIMIT
counted_few script ended number lane so few = let most = ended_few script [] lane in omega (arith, so.sums lane, most, few)

pub counted_place : (script : Script) (ended : List ℕ) (number : ℕ) (line : Line) → IsCounted script ended number → line_at script number ≡ Some line
    → line.lane < length ended
counted_place script ended number line so at =
    let within = lane_within script.lines (number - 1) line (line_place script number line so.first at) in
    omega (arith, within, so.places)

pub counted_within : (script : Script) (number : ℕ) (line : Line) → 1 ≤ number → line_at script number ≡ Some line
    → length script.lines + 1 - (number + 1) < length script.lines + 1 - number
counted_within script number line first at =
    let within = slice_get_within script.lines (number - 1) line (line_place script number line first at) in
    omega (arith, within, first)
