-- Each place of the grammar goes on to some text.
use Rattle.std.proofs.Common.{◌≡◌, inl, inr, ℕ, ◌+◌, ◌<◌, ◌≤◌, ◌==◌}
use Rattle.std.proofs.Common.{List, [], ◌∷◌, ◌++◌, length, take, drop, get_or}
use Rattle.std.proofs.Common.{Some, None, refl, sym, ap, subst, ◌∙◌}
use Rattle.std.proofs.Common.{arith}
use Rattle.std.specs.declared.option.Option.{Option}
use Rattle.std.specs.Option.{option_and_then}
use Rattle.std.proofs.lemmas.Bool.{cases_lt}
use Rattle.std.proofs.lemmas.List.{take-append-drop, take-take, take_more, take_all}
use Rattle.std.proofs.lemmas.Option.{cond_some}
use Rattle.cred_caps.specs.Caps.{Caps, empty, full, with}
use Rattle.cred_captext.specs.declared.action.Operator.{Operator}
use Rattle.cred_captext.specs.declared.action.Operator.TheVariants.{Reset, Raise, Lower}
use Rattle.cred_captext.specs.declared.action.Letter.TheVariants as letter
use Rattle.cred_captext.specs.declared.sets.Sets.{Sets}
use Rattle.cred_captext.specs.declared.bytes.TextPlace.{TextPlace}
use Rattle.cred_captext.specs.declared.bytes.TextPlace.TheVariants.{Start, A, Al, All, Name, Sign}
use Rattle.cred_captext.specs.declared.bytes.TextPlace.TheVariants.{Letters}
use Rattle.cred_captext.specs.declared.bytes.Reader.{Reader}
use Rattle.cred_captext.specs.Names.{lowercase_name, cap_of_lowercase_name, begins_name}
use Rattle.cred_captext.specs.Grammar.{Clauses}
use Rattle.cred_captext.specs.Meaning.{none, after_operator, after_letter, sets_of_clauses}
use Rattle.cred_captext.specs.Machine.{reader, place_after, operated, operator_of, letter_of, lettered}
use Rattle.cred_captext.specs.Machine.{separated, longer_name, within_name, word, step_at, after_byte, run, first_reader}
use Rattle.cred_captext.specs.Machine.{sets_at_end, sets_said}
use Rattle.cred_captext.specs.Reading.{SpellsClauses, BeginsSomeText, AreNone}
use Rattle.cred_captext.specs.Stops.{StopsAt}
use Rattle.cred_captext.proofs.Choices.{chosen, either, mapped, bound}
use Rattle.cred_captext.proofs.NameLemmas.{Fronts, begun-by}
use Rattle.cred_captext.proofs.Forward.{name-said, name_operator-said, text-said}
use Rattle.cred_captext.proofs.Tails.{text-read}

-- ---- a place within a name has bytes of one

-- each name begins with no bytes
no-bytes : Fronts []
no-bytes = record { number = 0; rest = lowercase_name 0; cap = omega arith; name = refl }

abbrev IsLive : TextPlace → Type 0
IsLive Start = Unit {0}
IsLive A = Unit {0}
IsLive Al = Unit {0}
IsLive All = Unit {0}
IsLive (Name w) = Fronts w
IsLive (Sign op) = Unit {0}
IsLive (Letters op) = Unit {0}

behind-live : (op : Operator) → IsLive (place_after op)
behind-live Reset = tt
behind-live Raise = tt
behind-live Lower = tt

operated-live : (s : Sets) (list : Caps) (b : ℕ) (r : Reader) → operated s list b ≡ Some r
    → IsLive r.place
operated-live s list b r is =
    let from = mapped (λ op. reader (after_operator list op s) list (place_after op)) (operator_of b) r is in
    subst (λ t. IsLive t.place) from.is (behind-live from.value)

lettered-live : (s : Sets) (list : Caps) (op : Operator) (b : ℕ) (r : Reader)
    → lettered s list op b ≡ Some r → IsLive r.place
lettered-live s list op b r is =
    let from = mapped (λ l. reader (after_letter list op s l) list (Letters op)) (letter_of b) r is in
    subst (λ t. IsLive t.place) from.is tt

longer-live : (s : Sets) (list : Caps) (w : List ℕ) (r : Reader) → longer_name s list w ≡ Some r
    → IsLive r.place
longer-live s list w r is =
    let parts = cond_some (begins_name w) (reader s list (Name w)) r is in
    subst (λ t. IsLive t.place) parts.1 (begun-by w parts.0)

separated-live : (s : Sets) (list : Caps) (b : ℕ) (r : Reader) → separated s list b ≡ Some r
    → IsLive r.place
separated-live s list b r is =
    elim (chosen (b == 44) _ _ _ is) [
      | inl hit ↦
          let same : reader s list (Name []) ≡ r = cc in
          subst (λ t. IsLive t.place) same no-bytes
      | inr miss ↦ operated-live s list b r miss.1
    ]

word-live : (s : Sets) (place : TextPlace) (b : ℕ) (r : Reader) → word s place b ≡ Some r
    → IsLive place → IsLive r.place
word-live s place b r is live =
    subst (λ t. IsLive t.place) (cond_some (b == 108) (reader s full place) r is).1 live

named-live : (s : Sets) (list : Caps) (w : List ℕ) (b : ℕ) (o : Option ℕ) (r : Reader)
    → within_name s list w b o ≡ Some r → IsLive r.place
named-live s list w b None r is = longer-live s list (w ++ b ∷ []) r is
named-live s list w b (Some n) r is = separated-live s (with list n) b r is

step-live : (s : Sets) (list : Caps) (place : TextPlace) (b : ℕ) (r : Reader)
    → step_at s list place b ≡ Some r → IsLive r.place
step-live s list Start b r is =
    elim (chosen (b == 97) _ _ _ is) [
      | inl hit ↦
          let same : reader s full A ≡ r = cc in
          subst (λ t. IsLive t.place) same tt
      | inr miss ↦ elim (chosen (b == 61) _ _ _ miss.1) [
        | inl hit ↦ operated-live s full b r hit.1
        | inr miss ↦ longer-live s empty (b ∷ []) r miss.1
      ]
    ]
step-live s list A b r is = word-live s Al b r is tt
step-live s list Al b r is = word-live s All b r is tt
step-live s list All b r is = operated-live s full b r is
step-live s list (Name w) b r is = named-live s list w b (cap_of_lowercase_name w) r is
step-live s list (Sign op) b r is = lettered-live s list op b r is
step-live s list (Letters op) b r is =
    elim (chosen (b == 32) _ _ _ is) [
      | inl hit ↦
          let same : reader s empty Start ≡ r = cc in
          subst (λ t. IsLive t.place) same tt
      | inr miss ↦ elim (either (operated s list b) (lettered s list op b) r miss.1) [
        | inl operator ↦ operated-live s list b r operator
        | inr letter ↦ lettered-live s list op b r letter
      ]
    ]

run-live : (bytes : List ℕ) (r t : Reader) → IsLive r.place → run r bytes ≡ Some t → IsLive t.place
run-live [] r t live is = let same : r ≡ t = cc in subst (λ u. IsLive u.place) same live
run-live (b ∷ bytes) r t live is =
    let next = bound (λ u. run u bytes) (after_byte r b) t is in
    run-live bytes next.value t (step-live r.sets r.list r.place b next.value next.was) next.is

-- ---- what ends a text there

record Ends (r : Reader) : Type 0 where
  rest : List ℕ
  sets : Sets
  says : sets_said r rest ≡ Some sets

name-ends : (s : Sets) (list : Caps) (w : List ℕ) → Fronts w → Ends (reader s list (Name w))
name-ends s list w prefix = record {
  rest = prefix.rest ++ 61 ∷ [];
  sets = after_operator (with list prefix.number) Reset s;
  says = name-said prefix.number prefix.rest w (61 ∷ []) s list prefix.cap prefix.name
      ∙ name_operator-said prefix.number Reset [] s list prefix.cap;
}

place-ends : (s : Sets) (list : Caps) (place : TextPlace) → IsLive place → Ends (reader s list place)
place-ends s list Start live = record { rest = 61 ∷ []; sets = after_operator full Reset s; says = refl }
place-ends s list A live =
    record { rest = 108 ∷ 108 ∷ 61 ∷ []; sets = after_operator full Reset s; says = refl }
place-ends s list Al live = record { rest = 108 ∷ 61 ∷ []; sets = after_operator full Reset s; says = refl }
place-ends s list All live = record { rest = 61 ∷ []; sets = after_operator full Reset s; says = refl }
place-ends s list (Name w) live = name-ends s list w live
place-ends s list (Sign op) live =
    record { rest = 101 ∷ []; sets = after_letter list op s letter.Effective; says = refl }
place-ends s list (Letters op) live = record { rest = []; sets = s; says = refl }

-- ---- prefixes

pub run-append : (a b : List ℕ) (r : Reader)
    → run r (a ++ b) ≡ option_and_then (λ t. run t b) (run r a)
run-append [] b r = refl
run-append (x ∷ a) b r =
    elim (after_byte r x) as
    (λ o. option_and_then (λ t. run t (a ++ b)) o
    ≡ option_and_then (λ t. run t b) (option_and_then (λ t. run t a) o)) [
      | None ↦ refl
      | Some t ↦ run-append a b t
    ]

pub run-push : (a : List ℕ) (x : ℕ) (r t : Reader) (o : Option Reader) → run r a ≡ Some t
    → after_byte t x ≡ o → run r (a ++ x ∷ []) ≡ o
run-push a x r t o is next =
    run-append a (x ∷ []) r
    ∙ ap (option_and_then (λ u. run u (x ∷ []))) is
    ∙ ap (option_and_then (λ u. run u [])) next
    ∙ elim o as (λ p. option_and_then (λ u. run u []) p ≡ p) [ None ↦ refl | Some u ↦ refl ]

-- what was read begins some text
pub begins : (bytes : List ℕ) (r : Reader) → run first_reader bytes ≡ Some r → BeginsSomeText bytes
begins bytes r is =
    let ends = place-ends r.sets r.list r.place (run-live bytes first_reader r tt is) in
    let all : sets_said first_reader (bytes ++ ends.rest) ≡ Some ends.sets =
    ap (option_and_then sets_at_end)
    (run-append bytes ends.rest first_reader ∙ ap (option_and_then (λ t. run t ends.rest)) is)
    ∙ ends.says in
    let text = text-read (bytes ++ ends.rest) ends.sets all in
    record { rest = ends.rest; clauses = text.clauses; spells = text.spells }

-- and what begins some text is read
read : (bytes : List ℕ) → BeginsSomeText bytes → (r : Reader) × (run first_reader bytes ≡ Some r)
read bytes is =
    let all : sets_said first_reader (bytes ++ is.rest) ≡ Some (sets_of_clauses is.clauses) =
    ap (sets_said first_reader) is.spells.text ∙ text-said is.clauses is.spells.clauses in
    let last = bound sets_at_end (run first_reader (bytes ++ is.rest)) (sets_of_clauses is.clauses) all in
    let prefix = bound (λ t. run t is.rest) (run first_reader bytes) last.value
    (sym (run-append bytes is.rest first_reader) ∙ last.was) in
    (prefix.value, prefix.was)

-- ---- where a reader stops

-- nothing longer is read
no-longer : (bytes : List ℕ) (k n : ℕ) → StopsAt bytes k → n ≤ length bytes → k < n
    → (r : Reader) → run first_reader (take n bytes) ≡ Some r → ⊥
no-longer bytes k n stops within longer_name r is =
    let k_in : k < length bytes = omega arith in
    let k_le : k + 1 ≤ n = omega arith in
    let parts : take n bytes ≡ take (k + 1) bytes ++ drop (k + 1) (take n bytes) =
    sym (take-append-drop (k + 1) (take n bytes))
    ∙ ap (λ x. x ++ drop (k + 1) (take n bytes)) (take-take (k + 1) n bytes k_le) in
    let none : run first_reader (take (k + 1) bytes) ≡ None =
    ap (run first_reader) (take_more bytes k 0 k_in)
    ∙ run-push (take k bytes) (get_or bytes k 0) first_reader stops.reader None stops.read
    (stops.next k_in) in
    let all : run first_reader (take n bytes) ≡ None =
    ap (run first_reader) parts ∙ run-append (take (k + 1) bytes) (drop (k + 1) (take n bytes)) first_reader
    ∙ ap (option_and_then (λ t. run t (drop (k + 1) (take n bytes)))) none in
    cc

no-text : (bytes : List ℕ) (k : ℕ) → StopsAt bytes k → (t : Clauses) → SpellsClauses bytes t → ⊥
no-text bytes k stops t spells =
    let all : sets_said first_reader bytes ≡ Some (sets_of_clauses t) = ap (sets_said first_reader) spells.text
    ∙ text-said t spells.clauses in
    let last = bound sets_at_end (run first_reader bytes) (sets_of_clauses t) all in
    elim (cases_lt k (length bytes)) [
      | inl lt ↦ no-longer bytes k (length bytes) stops (omega arith) lt last.value
          (ap (run first_reader) (take_all (length bytes) bytes (omega arith)) ∙ last.was)
      | inr ge ↦
          let end : k ≡ length bytes = omega (arith, stops.within) in
          let same : run first_reader bytes
          ≡ Some stops.reader = ap (run first_reader) (sym (take_all k bytes ge)) ∙ stops.read in
          let none : sets_at_end stops.reader ≡ None = stops.last end in
          let reader : last.value ≡ stops.reader = let two : Some last.value
          ≡ Some stops.reader = sym last.was ∙ same in cc in
          let some : sets_at_end stops.reader ≡ Some (sets_of_clauses t) = ap sets_at_end (sym reader) ∙ last.is in
          cc
    ]

pub none-there : (bytes : List ℕ) (k : ℕ) → StopsAt bytes k → AreNone bytes k
none-there bytes k stops = record {
  none = no-text bytes k stops;
  within = stops.within;
  begins = begins (take k bytes) stops.reader stops.read;
  longest = λ n within prefix.
      elim (cases_lt k n) [
        | inl longer_name ↦ let known =
            read (take n bytes) prefix in absurd
            (no-longer bytes k n stops within longer_name known.0 known.1)
        | inr le ↦ le
      ];
}
