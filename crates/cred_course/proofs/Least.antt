-- The lane of the least line that is left.
use Rattle.std.proofs.Common.{◌≡◌, ℕ, ◌+◌, ◌<◌, ◌≤◌, ◌==◌, ◌&&◌, not, cond, Bool, true, false, List, get_or, length, slice_get, Option, Some, None, is_some}
use Rattle.std.proofs.Common.{inl, inr, refl, sym, ap, ◌∙◌, subst, arith}
use Rattle.std.specs.Option.{IfSome, option_and_then}
use Rattle.std.proofs.lemmas.Bool.{cases_lt}
use Rattle.std.proofs.lemmas.Bool.Decides.{nat_tests}
use Rattle.std.proofs.lemmas.Option.{slice_get_past, slice_get_within, get_or_from_slice_get}
use Rattle.cred_event.specs.declared.event.Event.{Event}
use Rattle.cred_event.specs.declared.entry.Entry.{Entry}
use Rattle.cred_model.specs.Script.{Script, Line, SetupFirst}
use Rattle.cred_model.specs.Course.{Course, event_at}
use Rattle.cred_model.specs.Journal.{first_due, next_event}
use Rattle.cred_script.specs.Lines.{line_at}
use Rattle.cred_course.specs.Cursor.{IsLaneCursor, StandsOn, is_of}
use Rattle.cred_course.specs.LaneCursors.{AreCursors, AreOver, IsEarlier, IsLeast, IsNoLater, cursor_of, due_of}
use Rattle.cred_course.proofs.Courses.{next_is}
use Rattle.cred_course.proofs.Due.{IsEnded, first_due_at, first_due_none}
use Rattle.cred_course.proofs.Lanes.{due_here, same_lane}

-- ---- the search

pub no_later_self : (cursor : Option Course) → IsNoLater cursor cursor
no_later_self None = tt
no_later_self (Some course) = omega arith

pub nothing_later : (cursor : Option Course) → IsNoLater cursor None
nothing_later None = tt
nothing_later (Some course) = tt

pub no_later_trans : (a b c : Option Course) → IsNoLater a b → IsNoLater b c → IsNoLater a c
no_later_trans None b None first then_ = tt
no_later_trans (Some x) b None first then_ = tt
no_later_trans a None (Some z) first then_ = absurd then_
no_later_trans None (Some y) (Some z) first then_ = absurd first
no_later_trans (Some x) (Some y) (Some z) first then_ =
    let before : x.line ≤ y.line = first in
    let after : y.line ≤ z.line = then_ in
    omega (arith, before, after)

-- of two lanes the first is the earlier
pub first_earlier : (cursors : List (Option Course)) (one other : ℕ) → IsNoLater (cursor_of cursors one) (cursor_of cursors other)
    → IsEarlier cursors one other one
first_earlier cursors one other later = record { first = no_later_self (cursor_of cursors one); second = later }

pub second_earlier : (cursors : List (Option Course)) (one other : ℕ) → IsNoLater (cursor_of cursors other) (cursor_of cursors one)
    → IsEarlier cursors one other other
second_earlier cursors one other later = record { first = later; second = no_later_self (cursor_of cursors other) }

pub no_later_by : (one other : Option Course) (course second : Course) → one ≡ Some course → other ≡ Some second → course.line ≤ second.line
    → IsNoLater one other
no_later_by None other course second is other_is le = cc
no_later_by (Some first) None course second is other_is le = cc
no_later_by (Some first) (Some last) course second is other_is le =
    let here : first ≡ course = cc in
    let there : last ≡ second = cc in
    let line = ap (λ (c : Course). c.line) here in
    let other_line = ap (λ (c : Course). c.line) there in
    omega (arith, line, other_line, le)

-- no lane below this number has an earlier line left
abbrev pub IsLeastBelow : List (Option Course) → ℕ → ℕ → Type 0
IsLeastBelow cursors least count = (lane : ℕ) → lane < count → IsNoLater (cursor_of cursors least) (cursor_of cursors lane)

pub least_of_one : (cursors : List (Option Course)) → IsLeastBelow cursors 0 1
least_of_one cursors lane lt =
    let first : 0 ≡ lane = omega (arith, lt) in
    subst (λ l. IsNoLater (cursor_of cursors 0) (cursor_of cursors l)) first (no_later_self (cursor_of cursors 0))

pub least_of_more : (cursors : List (Option Course)) (least count now : ℕ) → IsLeastBelow cursors least count → IsEarlier cursors least count now
    → IsLeastBelow cursors now (count + 1)
least_of_more cursors least count now before is lane lt = elim (cases_lt lane count) [
  | inl below ↦ no_later_trans (cursor_of cursors now) (cursor_of cursors least) (cursor_of cursors lane) is.first (before lane below)
  | inr above ↦
      let here : count ≡ lane = omega (arith, above, lt) in
      subst (λ l. IsNoLater (cursor_of cursors now) (cursor_of cursors l)) here is.second
]

past_none : (cursors : List (Option Course)) (lane : ℕ) → length cursors ≤ lane → cursor_of cursors lane ≡ None
past_none cursors lane past = ap (option_and_then (λ c. c)) (slice_get_past cursors lane past)

-- nor has one past the last
least_of_all : (cursors : List (Option Course)) (least count : ℕ) → length cursors ≤ count → IsLeastBelow cursors least count
    → (lane : ℕ) → IsNoLater (cursor_of cursors least) (cursor_of cursors lane)
least_of_all cursors least count most below lane = elim (cases_lt lane count) [
  | inl within ↦ below lane within
  | inr past ↦
      subst (IsNoLater (cursor_of cursors least)) (sym (past_none cursors lane (omega (arith, most, past)))) (nothing_later (cursor_of cursors least))
]

none_later : (cursor : Option Course) → IsNoLater None cursor → cursor ≡ None
none_later None later = refl
none_later (Some course) later = absurd later

pub least_none : (cursors : List (Option Course)) (least count : ℕ) → length cursors ≤ count → IsLeastBelow cursors least count
    → cursor_of cursors least ≡ None → AreOver cursors
least_none cursors least count most below none lane =
    none_later (cursor_of cursors lane)
    (subst (λ c. IsNoLater c (cursor_of cursors lane)) none (least_of_all cursors least count most below lane))

pub least_some : (cursors : List (Option Course)) (least count : ℕ) (course : Course) → length cursors ≤ count → IsLeastBelow cursors least count
    → cursor_of cursors least ≡ Some course → IsLeast cursors least
least_some cursors least count course most below some = record {
  course = course;
  here = some;
  least = λ lane. subst (λ c. IsNoLater c (cursor_of cursors lane)) some (least_of_all cursors least count most below lane);
}

-- ---- in order

-- all lines, whatever their lane
abbrev pub every : Line → Bool
every line = true

own_lane : (lane : ℕ) → (lane == lane) ≡ true
own_lane lane = grind (arith, nat_tests)

-- a line that stands before the cursor of its lane has ended
before_own : (script : Script) (journal : List Entry) (place : ℕ) (line : Line) (cursor : Option Course) → slice_get script.lines place ≡ Some line
    → IsLaneCursor script journal line.lane cursor → IfSome cursor (λ course. place + 1 < course.line)
    → next_event journal (place + 1) line.content ≡ None
before_own script journal place line None at over earlier =
    subst (λ (o : Option Line). IfSome o (λ l. is_of line.lane l ≡ true → next_event journal (place + 1) l.content ≡ None)) at
    (over.ended place (slice_get_within script.lines place line at)) (own_lane line.lane)
before_own script journal place line (Some course) at stands earlier =
    let number = stands.0.number in
    let before : place + 1 < course.line = earlier in
    subst (λ (o : Option Line). IfSome o (λ l. is_of line.lane l ≡ true → next_event journal (place + 1) l.content ≡ None)) at
    (stands.0.ended place (omega (arith, number, before))) (own_lane line.lane)

still_earlier : (place : ℕ) (course : Course) (cursor : Option Course) → place + 1 < course.line → IsNoLater (Some course) cursor
    → IfSome cursor (λ other. place + 1 < other.line)
still_earlier place course None earlier later = tt
still_earlier place course (Some other) earlier later =
    let most : course.line ≤ other.line = later in
    omega (arith, earlier, most)

-- so each line before the least one has
pub earlier_ended : (script : Script) (journal : List Entry) (cursors : List (Option Course)) (lane : ℕ) → AreCursors script journal cursors
    → (is : IsLeast cursors lane) (place : ℕ) → place + 1 < is.course.line → IsEnded every journal 1 script.lines place
earlier_ended script journal cursors lane at is place earlier = by (slice_get script.lines place) refl
  where
    by : (found : Option Line) → slice_get script.lines place ≡ found
        → IfSome found (λ line. every line ≡ true → next_event journal (place + 1) line.content ≡ None)
    by None here = tt
    by (Some line) here = λ any.
        let own = cursor_of cursors line.lane in
        before_own script journal place line own here (at line.lane) (still_earlier place is.course own earlier (is.least line.lane))

-- the least line that is left makes the next event in order
pub least_due : (script : Script) (journal : List Entry) (cursors : List (Option Course)) (lane : ℕ) (event : Event) → AreCursors script journal cursors
    → (is : IsLeast cursors lane)
    → option_and_then (λ (line : Line). event_at line.content is.course) (line_at script is.course.line) ≡ Some event
    → first_due every journal 1 script.lines ≡ Some (record { line = is.course.line; event = event })
least_due script journal cursors lane event at is has =
    let stands = (subst (IsLaneCursor script journal lane) is.here (at lane)).0 in
    let number = stands.number in
    let due = due_here script journal is.course event stands has in
    first_due_at every journal 1 script.lines stands.place stands.line event
    (λ k lt. earlier_ended script journal cursors lane at is k (omega (arith, number, lt)))
    stands.here refl (next_is script journal is.course stands ∙ due)
    ∙ ap (λ n. Some (record { line = n; event = event })) (sym number)

-- where no lane has a line left, none is
pub none_due : (script : Script) (journal : List Entry) (cursors : List (Option Course)) → AreCursors script journal cursors → AreOver cursors
    → first_due every journal 1 script.lines ≡ None
none_due script journal cursors at over = first_due_none every journal 1 script.lines (λ place lt. by place (slice_get script.lines place) refl)
  where
    by : (place : ℕ) (found : Option Line) → slice_get script.lines place ≡ found
        → IfSome found (λ line. every line ≡ true → next_event journal (place + 1) line.content ≡ None)
    by place None here = tt
    by place (Some line) here = λ any.
        before_own script journal place line None here (subst (IsLaneCursor script journal line.lane) (over line.lane) (at line.lane)) tt

-- ---- the setup

-- a line of the setup has none but such lines before it
setup_before : (script : Script) (i j : ℕ) (earlier later : Line) → SetupFirst script → i < j
    → slice_get script.lines i ≡ Some earlier → slice_get script.lines j ≡ Some later → later.lane ≡ 0 → earlier.lane ≡ 0
setup_before script i j earlier later setup lt first last zero =
    let there : get_or script.lines i earlier ≡ earlier = get_or_from_slice_get script.lines i earlier earlier first in
    let here : get_or script.lines j earlier ≡ later = get_or_from_slice_get script.lines j later earlier last in
    ap (λ (l : Line). l.lane) (sym there)
    ∙ setup i j earlier lt (slice_get_within script.lines j later last) (ap (λ (l : Line). l.lane) here ∙ zero)

-- where the setup has a line left, the least one is of the setup
setup_least : (script : Script) (journal : List Entry) (lane : ℕ) (course first : Course) → SetupFirst script
    → StandsOn script journal lane course → StandsOn script journal 0 first → course.line ≤ first.line
    → lane ≡ 0
setup_least script journal lane course first setup at setup_at least =
    let own : at.line.lane ≡ lane = same_lane at.line.lane lane at.own in
    let zero_lane : setup_at.line.lane ≡ 0 = same_lane setup_at.line.lane 0 setup_at.own in
    let number = at.number in
    let setup_number = setup_at.number in
    elim (cases_lt at.place setup_at.place) [
      | inl before ↦ sym own ∙ setup_before script at.place setup_at.place at.line setup_at.line setup before at.here setup_at.here zero_lane
      | inr past ↦
          let place : at.place ≡ setup_at.place = omega (arith, number, setup_number, least, past) in
          let both : Some at.line ≡ Some setup_at.line = sym at.here ∙ ap (slice_get script.lines) place ∙ setup_at.here in
          let same : at.line ≡ setup_at.line = cc in
          sym own ∙ ap (λ (l : Line). l.lane) same ∙ zero_lane
    ]

never_waits : (lane : ℕ) (first : Option Course) → (is_some first ≡ true → lane ≡ 0) → (not (lane == 0) && is_some first) ≡ false
never_waits lane None from = elim (lane == 0) as (λ b. (not b && false) ≡ false) [ true ↦ refl | false ↦ refl ]
never_waits lane (Some first) from =
    let zero_lane : lane ≡ 0 = from refl in
    let test : (lane == 0) ≡ true = grind (arith, nat_tests) in
    ap (λ b. not b && true) test

-- so the lane of the least line doesn't wait
pub least_is_due : (script : Script) (journal : List Entry) (cursors : List (Option Course)) (lane : ℕ) → SetupFirst script
    → AreCursors script journal cursors → (is : IsLeast cursors lane) → due_of cursors lane ≡ Some is.course
least_is_due script journal cursors lane setup at is =
    ap (λ b. cond b None (cursor_of cursors lane)) (never_waits lane (cursor_of cursors 0) (λ some. by (cursor_of cursors 0) (at 0) (is.least 0) some))
    ∙ is.here
  where
    by : (first : Option Course) → IsLaneCursor script journal 0 first → IsNoLater (Some is.course) first → is_some first ≡ true → lane ≡ 0
    by None setup_at later some = absurd (cc)
    by (Some first) setup_at later some =
        setup_least script journal lane is.course first setup (subst (IsLaneCursor script journal lane) is.here (at lane)).0 setup_at.0 later
