-- The cursors of a script's lanes.
use Rattle.std.proofs.Common.{◌≡◌, ◌≢◌, ℕ, zero, suc, ◌+◌, ◌<◌, ◌≤◌, true, false, List, [], ◌∷◌, ◌++◌, length, slice_get, set, Option, Some, None, is_some}
use Rattle.std.proofs.Common.{is_none, refl, sym, ap, ◌∙◌, subst, inl, inr, arith}
use Rattle.std.specs.List.{list_all}
use Rattle.std.specs.Option.{IfSome, option_and_then}
use Rattle.cred_model.proofs.Lists.{slice_get-last, slice_get-left}
use Rattle.std.proofs.lemmas.List.{length_push}
use Rattle.std.proofs.lemmas.Option.{slice_get_past, slice_get_within}
use Rattle.std.proofs.lemmas.Bool.{cases_lt}
use Rattle.std.proofs.lemmas.Bool.Decides.{nat_tests}
use Rattle.cred_event.specs.declared.event.Event.{Event}
use Rattle.cred_event.specs.declared.entry.Entry.{Entry}
use Rattle.cred_model.specs.Script.{Script, Line}
use Rattle.cred_model.specs.Course.{Course, event_at}
use Rattle.cred_model.specs.Journal.{due_in, next_event}
use Rattle.cred_script.specs.Lines.{line_at}
use Rattle.cred_script.specs.Lanes.{lanes}
use Rattle.cred_course.specs.Cursor.{IsLaneCursor, is_of}
use Rattle.cred_course.proofs.Lanes.{lane_over, lane_due, lane_makes_due}
use Rattle.cred_course.specs.LaneCursors.{cursor_of}

-- ---- lists

get_set_same : {A : Type 0} (xs : List A) (i : ℕ) (x : A) → i < length xs → slice_get (set xs i x) i ≡ Some x
get_set_same [] i x lt = absurd (omega arith)
get_set_same (y ∷ ys) zero x lt = refl
get_set_same (y ∷ ys) (suc i) x lt = get_set_same ys i x (omega arith)

get_set_other : {A : Type 0} (xs : List A) (i k : ℕ) (x : A) → k ≢ i → slice_get (set xs i x) k ≡ slice_get xs k
get_set_other [] i k x differ = refl
get_set_other (y ∷ ys) zero zero x differ = absurd (differ refl)
get_set_other (y ∷ ys) zero (suc k) x differ = refl
get_set_other (y ∷ ys) (suc i) zero x differ = refl
get_set_other (y ∷ ys) (suc i) (suc k) x differ = get_set_other ys i k x (λ e. differ (omega (arith, e)))

-- ---- before the first event

-- the cursors of the first lanes are those of no journal yet
abbrev pub AreFirst : Script → List (Option Course) → Type 0
AreFirst script cursors = (lane : ℕ) → lane < length cursors → IsLaneCursor script [] lane (cursor_of cursors lane)

pub none_first : (script : Script) → AreFirst script []
none_first script lane lt = absurd (omega arith)

pub one_more_first : (script : Script) (cursors : List (Option Course)) (cursor : Option Course) → AreFirst script cursors
    → IsLaneCursor script [] (length cursors) cursor → AreFirst script (cursors ++ cursor ∷ [])
one_more_first script cursors cursor each here lane lt = elim (cases_lt lane (length cursors)) [
  | inl before ↦
      subst (λ o. IsLaneCursor script [] lane (option_and_then (λ c. c) o)) (sym (slice_get-left cursors (cursor ∷ []) lane before)) (each lane before)
  | inr after ↦
      let long = length_push cursors cursor in
      let last : length cursors ≡ lane = omega (arith, after, lt, long) in
      let found : slice_get (cursors ++ cursor ∷ []) lane ≡ Some cursor
      = ap (slice_get (cursors ++ cursor ∷ [])) (sym last) ∙ slice_get-last cursors cursor in
      subst (λ o. IsLaneCursor script [] lane (option_and_then (λ c. c) o)) (sym found)
      (subst (λ l. IsLaneCursor script [] l cursor) last here)
]

-- no line is of a greater lane
most_lane : (lines : List Line) (k : ℕ) (line : Line) → slice_get lines k ≡ Some line → line.lane ≤ lanes lines
most_lane [] k line at = absurd (cc)
most_lane (first ∷ lines) zero line at =
    let same : first ≡ line = cc in
    let here = ap (λ (l : Line). l.lane) same in
    omega (arith, here)
most_lane (first ∷ lines) (suc k) line at = let later = most_lane lines k line at in omega (arith, later)

-- no line is of a lane past the last
past_last : (script : Script) (lane : ℕ) → lanes script.lines < lane → IsLaneCursor script [] lane None
past_last script lane past = record { ended = λ k lt. by k (slice_get script.lines k) refl }
  where
    by : (k : ℕ) (found : Option Line) → slice_get script.lines k ≡ found
        → IfSome found (λ line. is_of lane line ≡ true → next_event [] (k + 1) line.content ≡ None)
    by k None at = tt
    by k (Some line) at = λ own.
        let within = most_lane script.lines k line at in
        let here : line.lane ≡ lane = grind (arith, nat_tests) in
        absurd (omega (arith, within, past, here))

-- one cursor for each lane up to the last, and none past it
pub all_first : (script : Script) (cursors : List (Option Course)) (lane : ℕ)
    → length cursors ≡ lanes script.lines + 1 → AreFirst script cursors → IsLaneCursor script [] lane (cursor_of cursors lane)
all_first script cursors lane long each = elim (cases_lt lane (length cursors)) [
  | inl before ↦ each lane before
  | inr after ↦
      subst (λ o. IsLaneCursor script [] lane (option_and_then (λ c. c) o)) (sym (slice_get_past cursors lane after))
      (past_last script lane (omega (arith, after, long)))
]

-- ---- after an event

-- the lane's cursor stands in its place
pub cursor_at : (cursors : List (Option Course)) (lane : ℕ) (course : Course) → cursor_of cursors lane ≡ Some course
    → slice_get cursors lane ≡ Some (Some course)
cursor_at cursors lane course is = by (slice_get cursors lane) is
  where
    by : (found : Option (Option Course)) → option_and_then (λ c. c) found ≡ Some course → found ≡ Some (Some course)
    by None is = absurd (cc)
    by (Some cursor) is = ap Some is

pub has_place : (cursors : List (Option Course)) (lane : ℕ) (course : Course) → cursor_of cursors lane ≡ Some course → lane < length cursors
has_place cursors lane course is = slice_get_within cursors lane (Some course) (cursor_at cursors lane course is)

pub cursor_set : (cursors : List (Option Course)) (lane : ℕ) (to : Option Course) → lane < length cursors
    → cursor_of (set cursors lane to) lane ≡ to
cursor_set cursors lane to lt = ap (option_and_then (λ c. c)) (get_set_same cursors lane to lt)

pub other_cursor : (cursors : List (Option Course)) (lane other : ℕ) (to : Option Course) → other ≢ lane
    → cursor_of (set cursors lane to) other ≡ cursor_of cursors other
other_cursor cursors lane other to differ = ap (option_and_then (λ c. c)) (get_set_other cursors lane other to differ)

-- ---- what is due

-- a lane has an event that is due just where it has a cursor
pub is_due : (script : Script) (journal : List Entry) (lane : ℕ) (cursor : Option Course) → IsLaneCursor script journal lane cursor
    → is_some (due_in script journal lane) ≡ is_some cursor
is_due script journal lane None at = ap is_some (lane_over script journal lane at)
is_due script journal lane (Some course) at =
    by (option_and_then (λ (line : Line). event_at line.content course) (line_at script course.line)) refl (lane_makes_due script journal lane course at)
  where
    by : (has : Option Event) → option_and_then (λ (line : Line). event_at line.content course) (line_at script course.line) ≡ has
        → is_some has ≡ true → is_some (due_in script journal lane) ≡ true
    by None is some = absurd (cc)
    by (Some event) is some = ap is_some (lane_due script journal lane course event at is)

-- ---- whether there is one

-- where no cursor stands
pub no_cursor : (cursors : List (Option Course)) → list_all is_none cursors ≡ true → (lane : ℕ) → cursor_of cursors lane ≡ None
no_cursor [] all lane = refl
no_cursor (None ∷ cursors) all zero = refl
no_cursor (None ∷ cursors) all (suc lane) = no_cursor cursors all lane
no_cursor (Some course ∷ cursors) all lane = absurd (cc)

-- where one does
pub some_cursor : (cursors : List (Option Course)) → list_all is_none cursors ≡ false → (lane : ℕ) × (is_some (cursor_of cursors lane) ≡ true)
some_cursor [] all = absurd (cc)
some_cursor (None ∷ cursors) all = let rest = some_cursor cursors all in (suc rest.0, rest.1)
some_cursor (Some course ∷ cursors) all = (0, refl)
