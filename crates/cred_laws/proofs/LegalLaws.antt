-- The legal journals of a script that opens one lane at most.
use Rattle.std.proofs.Common.{◌≡◌, ◌==◌, ◌&&◌, ◌⊎◌, inl, inr, not, ℕ, zero, suc, ◌-◌, List, [], ◌∷◌, take, slice_get, Option, Some, None, Bool, true, false}
use Rattle.std.proofs.Common.{cond, is_some, refl, sym, ap, ◌∙◌, subst, arith}
use Rattle.std.specs.List.{All}
use Rattle.std.specs.Option.{IfSome, option_map}
use Rattle.std.proofs.lemmas.List.Elements.{All-head, All-tail}
use Rattle.std.proofs.lemmas.Bool.Decides.{nat_tests}
use Rattle.cred_event.specs.declared.entry.Entry.{Entry}
use Rattle.cred_model.specs.Script.{Script, Line, SetupFirst}
use Rattle.cred_model.specs.Journal.{Due, entry_of, due_in, next, lane_of, next_in_order}
use Rattle.cred_model.proofs.Lists.{slice_get_at}
use Rattle.cred_laws.specs.Order.{LegalIsSequence}
use Rattle.cred_laws.proofs.OrderLaws.{in_order_next, none_next}

-- it is the setup, or this lane
abbrev IsAmong : ℕ → ℕ → Type 0
IsAmong lane m = (m ≡ 0) ⊎ (m ≡ lane)

abbrev AreAmong : ℕ → List Line → Type 0
AreAmong lane lines = All (λ line. (line.lane ≡ 0) ⊎ (line.lane ≡ lane)) lines

-- the lane of a line
among_lines : (lines : List Line) (k m lane : ℕ) → AreAmong lane lines
    → option_map (λ (line : Line). line.lane) (slice_get lines k) ≡ Some m → IsAmong lane m
among_lines [] k m lane each is = cc
among_lines (line ∷ lines) zero m lane each is =
    let same : line.lane ≡ m = cc in
    subst (IsAmong lane) same (All-head (λ (l : Line). IsAmong lane l.lane) line lines each)
among_lines (line ∷ lines) (suc k) m lane each is =
    among_lines lines k m lane (All-tail (λ (l : Line). IsAmong lane l.lane) line lines each) is

among_by : (script : Script) (number m lane : ℕ) (b : Bool) → AreAmong lane script.lines
    → cond b None (option_map (λ (line : Line). line.lane) (slice_get script.lines (number - 1))) ≡ Some m
    → IsAmong lane m
among_by script number m lane true each is = cc
among_by script number m lane false each is = among_lines script.lines (number - 1) m lane each is

among : (script : Script) (number m lane : ℕ) → AreAmong lane script.lines → lane_of script number ≡ Some m → IsAmong lane m
among script number m lane each is = among_by script number m lane (number == 0) each is

-- the setup alone has a next entry until it has ended
by_due : (script : Script) (journal : List Entry) (m : ℕ) (a b : Entry) (due : Option Due) → due_in script journal 0 ≡ due
    → (m == 0) ≡ false → next script journal m ≡ Some a → next script journal 0 ≡ Some b → m ≡ 0
by_due script journal m a b None is other of_lane of_setup =
    let none : None ≡ Some b = sym (ap (option_map (entry_of script journal)) is) ∙ of_setup in cc
by_due script journal m a b (Some due) is other of_lane of_setup =
    let rest = option_map (entry_of script journal) (due_in script journal m) in
    let none : None ≡ Some a =
    sym (ap (λ t. cond (not t && is_some (due_in script journal 0)) None rest) other ∙ ap (λ o. cond (is_some o) None rest) is)
    ∙ of_lane in
    cc

by_test : (script : Script) (journal : List Entry) (m : ℕ) (a b : Entry) (t : Bool) → (m == 0) ≡ t
    → next script journal m ≡ Some a → next script journal 0 ≡ Some b → m ≡ 0
by_test script journal m a b true is of_lane of_setup = grind (arith, nat_tests)
by_test script journal m a b false is of_lane of_setup = by_due script journal m a b (due_in script journal 0) refl is of_lane of_setup

is_setup : (script : Script) (journal : List Entry) (m : ℕ) (a b : Entry) → next script journal m ≡ Some a
    → next script journal 0 ≡ Some b → m ≡ 0
is_setup script journal m a b of_lane of_setup = by_test script journal m a b (m == 0) refl of_lane of_setup

-- so two lanes that have one are the same
same_lane : (script : Script) (journal : List Entry) (lane m n : ℕ) (a b : Entry) → IsAmong lane m → IsAmong lane n
    → next script journal m ≡ Some a → next script journal n ≡ Some b → m ≡ n
same_lane script journal lane m n a b (inl x) (inl y) p q = x ∙ sym y
same_lane script journal lane m n a b (inr x) (inr y) p q = x ∙ sym y
same_lane script journal lane m n a b (inl x) (inr y) p q =
    x ∙ sym (is_setup script journal n b a q (sym (ap (next script journal) x) ∙ p))
same_lane script journal lane m n a b (inr x) (inl y) p q =
    is_setup script journal m a b p (sym (ap (next script journal) y) ∙ q) ∙ sym y

-- ---- a journal

-- its next entry is the next in order
next_by : (script : Script) (journal : List Entry) (lane : ℕ) (entry : Entry) (found : Option Entry)
    → next_in_order script journal ≡ found → SetupFirst script → AreAmong lane script.lines
    → ((m : ℕ) × (lane_of script entry.line ≡ Some m) × (next script journal m ≡ Some entry))
    → next_in_order script journal ≡ Some entry
next_by script journal lane entry None is setup each of =
    let none : None ≡ Some entry = sym (none_next script journal of.0 is) ∙ of.2 in cc
next_by script journal lane entry (Some other) is setup each of =
    let its = in_order_next script journal other is in
    let same =
    same_lane script journal lane of.0 its.0 entry other (among script entry.line of.0 lane each of.1)
    (among script other.line its.0 lane each its.1.lane_is) of.2 (its.1.next_is setup) in
    is ∙ sym (its.1.next_is setup) ∙ ap (next script journal) (sym same) ∙ of.2

next_at : (script : Script) (journal : List Entry) (lane : ℕ) (o : Option Entry) → ((entry : Entry) × (o ≡ Some entry))
    → SetupFirst script → AreAmong lane script.lines
    → IfSome o (λ entry. (m : ℕ) × (lane_of script entry.line ≡ Some m) × (next script journal m ≡ Some entry))
    → next_in_order script journal ≡ o
next_at script journal lane None some setup each of = let none = some.1 in cc
next_at script journal lane (Some entry) some setup each of =
    next_by script journal lane entry (next_in_order script journal) refl setup each of

-- it ends where no lane has a next entry
ended_by : (script : Script) (journal : List Entry) (found : Option Entry) → next_in_order script journal ≡ found
    → SetupFirst script → ((m : ℕ) → next script journal m ≡ None) → next_in_order script journal ≡ None
ended_by script journal None is setup ended = is
ended_by script journal (Some entry) is setup ended =
    let its = in_order_next script journal entry is in
    let none : None ≡ Some entry = sym (ended its.0) ∙ its.1.next_is setup in
    cc

pub legal_is_sequence : LegalIsSequence
legal_is_sequence script journal lane setup each legal = record {
  in_order = λ k lt.
      next_at script (take k journal) lane (slice_get journal k) (slice_get_at journal k lt) setup each (legal.so_far k lt);
  ended = ended_by script journal (next_in_order script journal) refl setup legal.ended;
}
