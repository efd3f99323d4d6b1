-- The numbers of a lane, from entry to entry.
use Rattle.std.proofs.Common.{◌≡◌, ◌≢◌, ℕ, zero, suc, ◌+◌, ◌<◌, ◌≤◌, ◌==◌, ◌&&◌, cond, Bool, true, false, List, [], ◌∷◌, ◌++◌, length, slice_get, Option, Some}
use Rattle.std.proofs.Common.{None, is_none, refl, sym, ap, ◌∙◌, subst, arith}
use Rattle.std.specs.List.{sum_by}
use Rattle.std.specs.Option.{IfSome, option_map_or}
use Rattle.std.proofs.lemmas.Bool.Decides.{nat_tests}
use Rattle.std.proofs.lemmas.List.Sums.{sum_by-cons, sum_by_push}
use Rattle.cred_event.specs.declared.event.Event.{Event}
use Rattle.cred_event.specs.declared.entry.Entry.{Entry}
use Rattle.cred_model.specs.Script.{Script, Line}
use Rattle.cred_model.specs.Course.{event_at, leads}
use Rattle.cred_model.specs.Journal.{Due, first_due, lane_of, next_event}
use Rattle.cred_model.proofs.Lines.{answers_of-push_other}
use Rattle.cred_script.specs.Lanes.{lanes}
use Rattle.cred_book.specs.Counts.{count_of, ended_from, ended_of, entered_of}

-- ---- lines

-- the line is the lane's
abbrev own : ℕ → Line → ℕ
own lane line = count_of (line.lane == lane)

-- the line is the lane's, and has ended
abbrev over : List Entry → ℕ → ℕ → Line → ℕ
over journal lane n line = count_of (line.lane == lane && is_none (next_event journal n line.content))

no_more : (a b : Bool) → count_of (a && b) ≤ count_of a
no_more true true = omega arith
no_more true false = omega arith
no_more false b = omega arith

one_at_most : (a : Bool) → count_of a ≤ 1
one_at_most true = omega arith
one_at_most false = omega arith

-- ---- an entry that is of none of the lane's lines

-- of these lines, the first of which has this number
abbrev IsElsewhere : Entry → ℕ → ℕ → List Line → Type 0
IsElsewhere entry lane n lines = (k : ℕ) → IfSome (slice_get lines k) (λ line. (line.lane == lane) ≡ true → entry.line ≢ k + n)

line_stays : (journal : List Entry) (entry : Entry) (lane n : ℕ) (line : Line) → ((line.lane == lane) ≡ true → entry.line ≢ n)
    → over (journal ++ entry ∷ []) lane n line ≡ over journal lane n line
line_stays journal entry lane n line other = by (line.lane == lane) other
  where
    by : (b : Bool) → (b ≡ true → entry.line ≢ n)
        → count_of (b && is_none (next_event (journal ++ entry ∷ []) n line.content)) ≡ count_of (b && is_none (next_event journal n line.content))
    by true other =
        ap (λ answers. count_of (is_none (event_at line.content (leads n line.content answers)))) (answers_of-push_other journal entry n (other refl))
    by false other = refl

elsewhere_behind : (entry : Entry) (lane n : ℕ) (line : Line) (lines : List Line) → IsElsewhere entry lane n (line ∷ lines)
    → IsElsewhere entry lane (n + 1) lines
elsewhere_behind entry lane n line lines other k =
    let up : suc k + n ≡ k + (n + 1) = omega arith in
    subst (λ m. IfSome (slice_get lines k) (λ (l : Line). (l.lane == lane) ≡ true → entry.line ≢ m)) up (other (suc k))

-- leaves the lane's number
ended_stays : (journal : List Entry) (entry : Entry) (lane n : ℕ) (lines : List Line) → IsElsewhere entry lane n lines
    → ended_from (journal ++ entry ∷ []) lane n lines ≡ ended_from journal lane n lines
ended_stays journal entry lane n [] other = refl
ended_stays journal entry lane n (line ∷ lines) other =
    let z : n ≡ 0 + n = omega arith in
    let here = line_stays journal entry lane n line (λ mine e. other 0 mine (e ∙ z)) in
    let rest = ended_stays journal entry lane (n + 1) lines (elsewhere_behind entry lane n line lines other) in
    omega (arith, here, rest)

-- ---- an entry of one of the lane's lines

-- an earlier line has none
earlier_elsewhere : (entry : Entry) (lane n : ℕ) (lines : List Line) → entry.line < n → IsElsewhere entry lane n lines
earlier_elsewhere entry lane n lines lt k = by (slice_get lines k)
  where
    by : (o : Option Line) → IfSome o (λ line. (line.lane == lane) ≡ true → entry.line ≢ k + n)
    by None = tt
    by (Some line) = λ mine e. absurd (omega (arith, lt, e))

line_over : (journal : List Entry) (lane n : ℕ) (line : Line) → (line.lane == lane) ≡ true
    → over journal lane n line ≡ count_of (is_none (next_event journal n line.content))
line_over journal lane n line mine = ap (λ b. count_of (b && is_none (next_event journal n line.content))) mine

-- One that had not ended is counted if it has ended now.
pub ended_grows : (journal : List Entry) (entry : Entry) (lane n : ℕ) (lines : List Line) (place : ℕ) (line : Line)
    → slice_get lines place ≡ Some line → (line.lane == lane) ≡ true → entry.line ≡ place + n
    → is_none (next_event journal entry.line line.content) ≡ false
    → ended_from (journal ++ entry ∷ []) lane n lines
    ≡ ended_from journal lane n lines + count_of (is_none (next_event (journal ++ entry ∷ []) entry.line line.content))
ended_grows journal entry lane n [] place line at mine number going = cc
ended_grows journal entry lane n (l ∷ lines) zero line at mine number going =
    let grown = journal ++ entry ∷ [] in
    let here : n ≡ entry.line = omega (arith, number) in
    let same : l ≡ line = cc in
    let before : over journal lane n l ≡ 0
    = ap (λ m. over journal lane m l) here ∙ ap (over journal lane entry.line) same ∙ line_over journal lane entry.line line mine ∙ ap count_of going in
    let after : over grown lane n l ≡ count_of (is_none (next_event grown entry.line line.content))
    = ap (λ m. over grown lane m l) here ∙ ap (over grown lane entry.line) same ∙ line_over grown lane entry.line line mine in
    let rest = ended_stays journal entry lane (n + 1) lines (earlier_elsewhere entry lane (n + 1) lines (omega (arith, number))) in
    omega (arith, before, after, rest)
ended_grows journal entry lane n (l ∷ lines) (suc place) line at mine number going =
    let head = line_stays journal entry lane n l (λ other e. omega (arith, number, e)) in
    let rest = ended_grows journal entry lane (n + 1) lines place line at mine (omega (arith, number)) going in
    omega (arith, head, rest)

same_lane : (a lane other : ℕ) → (a == lane) ≡ true → (a == other) ≡ true → other ≡ lane
same_lane a lane other mine its = grind (arith, nat_tests)

-- the entry is of none of another lane's lines
elsewhere : (entry : Entry) (lane other n : ℕ) (lines : List Line) (place : ℕ) (line : Line) → slice_get lines place ≡ Some line
    → (line.lane == lane) ≡ true → entry.line ≡ place + n → other ≢ lane → IsElsewhere entry other n lines
elsewhere entry lane other n lines place line at mine number differ k = by (slice_get lines k) refl
  where
    by : (o : Option Line) → slice_get lines k ≡ o → IfSome o (λ l. (l.lane == other) ≡ true → entry.line ≢ k + n)
    by None there = tt
    by (Some l) there = λ its e.
        let same : place ≡ k = omega (arith, number, e) in
        let one : Some line ≡ Some l = sym at ∙ ap (slice_get lines) same ∙ there in
        let is : line ≡ l = cc in
        let test : (line.lane == other) ≡ true = ap (λ (x : Line). x.lane == other) is ∙ its in
        differ (same_lane line.lane lane other mine test)

pub ended_others : (journal : List Entry) (entry : Entry) (lane other n : ℕ) (lines : List Line) (place : ℕ) (line : Line) → slice_get lines place ≡ Some line
    → (line.lane == lane) ≡ true → entry.line ≡ place + n → other ≢ lane
    → ended_from (journal ++ entry ∷ []) other n lines ≡ ended_from journal other n lines
ended_others journal entry lane other n lines place line at mine number differ =
    ended_stays journal entry other n lines (elsewhere entry lane other n lines place line at mine number differ)

-- ---- how many there are

ended_within : (journal : List Entry) (lane n : ℕ) (lines : List Line) → ended_from journal lane n lines ≤ sum_by (own lane) lines
ended_within journal lane n [] = omega arith
ended_within journal lane n (line ∷ lines) =
    let here = no_more (line.lane == lane) (is_none (next_event journal n line.content)) in
    let rest = ended_within journal lane (n + 1) lines in
    omega (arith, here, rest, sum_by-cons (own lane) line lines)

-- where one has not ended
pub ended_fewer : (journal : List Entry) (lane n : ℕ) (lines : List Line) (place number : ℕ) (line : Line)
    → slice_get lines place ≡ Some line → (line.lane == lane) ≡ true → number ≡ place + n
    → is_none (next_event journal number line.content) ≡ false
    → ended_from journal lane n lines < sum_by (own lane) lines
ended_fewer journal lane n [] place number line at mine is going = cc
ended_fewer journal lane n (l ∷ lines) zero number line at mine is going =
    let here : n ≡ number = omega (arith, is) in
    let same : l ≡ line = cc in
    let before : over journal lane n l ≡ 0
    = ap (λ m. over journal lane m l) here ∙ ap (over journal lane number) same ∙ line_over journal lane number line mine ∙ ap count_of going in
    let one : own lane l ≡ 1 = ap (own lane) same ∙ ap count_of mine in
    let rest = ended_within journal lane (n + 1) lines in
    omega (arith, before, one, rest, sum_by-cons (own lane) l lines)
ended_fewer journal lane n (l ∷ lines) (suc place) number line at mine is going =
    let here = no_more (l.lane == lane) (is_none (next_event journal n l.content)) in
    let rest = ended_fewer journal lane (n + 1) lines place number line at mine (omega (arith, is)) going in
    omega (arith, here, rest, sum_by-cons (own lane) l lines)

pub lines_few : (lane : ℕ) (lines : List Line) → sum_by (own lane) lines ≤ length lines
lines_few lane [] = omega arith
lines_few lane (line ∷ lines) =
    let here = one_at_most (line.lane == lane) in
    let rest = lines_few lane lines in
    omega (arith, here, rest, sum_by-cons (own lane) line lines)

-- no more of a lane's lines have ended than there are lines
pub ended_few : (script : Script) (journal : List Entry) (lane : ℕ) → ended_of script journal lane ≤ length script.lines
ended_few script journal lane =
    let most = ended_within journal lane 1 script.lines in
    let few = lines_few lane script.lines in
    omega (arith, most, few)

-- no line is of a greater lane
pub lane_within : (lines : List Line) (k : ℕ) (line : Line) → slice_get lines k ≡ Some line → line.lane ≤ lanes lines
lane_within [] k line at = absurd (cc)
lane_within (first ∷ lines) zero line at =
    let same : first ≡ line = cc in
    let here = ap (λ (l : Line). l.lane) same in
    omega (arith, here)
lane_within (first ∷ lines) (suc k) line at = let later = lane_within lines k line at in omega (arith, later)

-- ---- all have ended

-- where none of these is due
pub ended_all : (journal : List Entry) (lane n : ℕ) (lines : List Line) → first_due (λ line. line.lane == lane) journal n lines ≡ None
    → ended_from journal lane n lines ≡ sum_by (own lane) lines
ended_all journal lane n [] none = refl
ended_all journal lane n (line ∷ lines) none =
    let both = by (line.lane == lane) (next_event journal n line.content) (first_due (λ l. l.lane == lane) journal (n + 1) lines) none in
    let rest = ended_all journal lane (n + 1) lines both.1 in
    omega (arith, both.0, rest, sum_by-cons (own lane) line lines)
  where
    by : (b : Bool) (event : Option Event) (rest : Option Due)
        → cond b (option_map_or (λ event. Some (record { line = n; event = event })) event rest) rest ≡ None
        → (count_of (b && is_none event) ≡ count_of b) × (rest ≡ None)
    by true None rest is = (refl, is)
    by true (Some event) rest is = absurd (cc)
    by false event rest is = (refl, is)

-- ---- entries

pub entered_own : (script : Script) (journal : List Entry) (entry : Entry) (lane : ℕ) → lane_of script entry.line ≡ Some lane
    → entered_of script (journal ++ entry ∷ []) lane ≡ entered_of script journal lane + 1
entered_own script journal entry lane of =
    let test : (lane == lane) ≡ true = grind (arith, nat_tests) in
    sum_by_push (λ (e : Entry). count_of (option_map_or (λ own. own == lane) (lane_of script e.line) false)) journal entry
    ∙ ap (λ o. entered_of script journal lane + count_of (option_map_or (λ own. own == lane) o false)) of
    ∙ ap (λ b. entered_of script journal lane + count_of b) test

pub entered_other : (script : Script) (journal : List Entry) (entry : Entry) (lane other : ℕ) → lane_of script entry.line ≡ Some lane → other ≢ lane
    → entered_of script (journal ++ entry ∷ []) other ≡ entered_of script journal other
entered_other script journal entry lane other of differ =
    let test : (lane == other) ≡ false = grind (arith, nat_tests) in
    sum_by_push (λ (e : Entry). count_of (option_map_or (λ own. own == other) (lane_of script e.line) false)) journal entry
    ∙ ap (λ o. entered_of script journal other + count_of (option_map_or (λ own. own == other) o false)) of
    ∙ ap (λ b. entered_of script journal other + count_of b) test
    ∙ omega arith
