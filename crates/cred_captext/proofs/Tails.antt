-- What is read to its end is a text: from each place of the grammar, what the bytes behind it are.
use Rattle.std.proofs.Common.{◌≡◌, inl, inr, ℕ, ◌==◌, List, [], ◌∷◌, ◌++◌}
use Rattle.std.proofs.Common.{Some, None, refl, sym, ap, subst, ◌∙◌, append_assoc, arith}
use Rattle.std.specs.Option.{option_and_then}
use Rattle.std.specs.List.{flat_map}
use Rattle.std.proofs.lemmas.Bool.{eqb-true}
use Rattle.std.proofs.lemmas.List.{append-nil}
use Rattle.std.proofs.lemmas.Option.{cond_some}
use Rattle.cred_caps.specs.Caps.{Caps, empty, full, with}
use Rattle.cred_captext.specs.declared.action.Operator.{Operator}
use Rattle.cred_captext.specs.declared.action.Operator.TheVariants.{Reset, Raise, Lower}
use Rattle.cred_captext.specs.declared.action.Letter.{Letter}
use Rattle.cred_captext.specs.declared.action.Letter.TheVariants as letter
use Rattle.cred_captext.specs.declared.sets.Sets.{Sets}
use Rattle.cred_captext.specs.declared.bytes.TextPlace.{TextPlace}
use Rattle.cred_captext.specs.declared.bytes.TextPlace.TheVariants.{Start, A, Al, All, Name, Sign}
use Rattle.cred_captext.specs.declared.bytes.TextPlace.TheVariants.{Letters}
use Rattle.cred_captext.specs.declared.bytes.Reader.{Reader}
use Rattle.cred_captext.specs.Names.{lowercase_name, cap_of_lowercase_name, begins_name}
use Rattle.cred_captext.specs.Grammar.{Listed, Everything, Unsaid, Named, Clauses}
use Rattle.cred_captext.specs.Grammar.{IsListed}
use Rattle.cred_captext.specs.Grammar.{MayBeginClause, operator_byte, letter_byte, listed_text}
use Rattle.cred_captext.specs.Grammar.{action_text}
use Rattle.cred_captext.specs.Meaning.{after_operator, after_letter, caps_in, sets_of_clauses}
use Rattle.cred_captext.specs.Machine.{reader, place_after, operated, operator_of, letter_of, lettered}
use Rattle.cred_captext.specs.Machine.{separated, longer_name, within_name, word, step_at}
use Rattle.cred_captext.specs.Machine.{after_byte, run, first_reader, sets_at, sets_at_end, sets_said}
use Rattle.cred_captext.specs.Reading.{SpellsClauses}
use Rattle.cred_captext.proofs.Choices.{chosen, either, mapped, bound}
use Rattle.cred_captext.proofs.NameLemmas.{named-is}
use Rattle.cred_captext.proofs.Forward.{ends, clause-parts}
use Rattle.cred_captext.proofs.Places.{Acts, More, Signed, Names, Word, Starts, TailAt, Tail}

-- ---- what a byte is

operator-is : (b : ℕ) (op : Operator) → operator_of b ≡ Some op → b ≡ operator_byte op
operator-is b op is =
    elim (chosen (b == 61) _ _ _ is) [
      | inl hit ↦ eqb-true b 61 hit.0 ∙ ap operator_byte (let same : Reset ≡ op = cc in same)
      | inr miss ↦ elim (chosen (b == 43) _ _ _ miss.1) [
        | inl hit ↦ eqb-true b 43 hit.0 ∙ ap operator_byte (let same : Raise ≡ op = cc in same)
        | inr miss ↦ elim (chosen (b == 45) _ _ _ miss.1) [
          | inl hit ↦ eqb-true b 45 hit.0 ∙ ap operator_byte (let same : Lower ≡ op = cc in same)
          | inr miss ↦ cc
        ]
      ]
    ]

letter-is : (b : ℕ) (l : Letter) → letter_of b ≡ Some l → b ≡ letter_byte l
letter-is b l is =
    elim (chosen (b == 101) _ _ _ is) [
      | inl hit ↦ eqb-true b 101 hit.0
          ∙ ap letter_byte (let same : letter.Effective ≡ l = cc in same)
      | inr miss ↦ elim (chosen (b == 105) _ _ _ miss.1) [
        | inl hit ↦ eqb-true b 105 hit.0
            ∙ ap letter_byte (let same : letter.Inheritable ≡ l = cc in same)
        | inr miss ↦ elim (chosen (b == 112) _ _ _ miss.1) [
          | inl hit ↦ eqb-true b 112 hit.0
              ∙ ap letter_byte (let same : letter.Permitted ≡ l = cc in same)
          | inr miss ↦ cc
        ]
      ]
    ]

-- ---- an operator behind a list

acts-behind : (op : Operator) (s : Sets) (list : Caps) (b : ℕ) (bytes : List ℕ) (x : Sets)
    → b ≡ operator_byte op → Tail (reader (after_operator list op s) list (place_after op)) bytes x
    → Acts s list (b ∷ bytes) x
acts-behind Reset s list b bytes x is tail = record {
  first = record { operator = Reset; letters = tail.letters };
  others = tail.others;
  clauses = tail.clauses;
  actions = (tt, tail.actions);
  ends_so = tail.ends_so;
  text = λ i. is i ∷ tail.text i;
  value = tail.value;
}
acts-behind Raise s list b bytes x is tail = record {
  first = record { operator = Raise; letters = tail.first ∷ tail.more.letters };
  others = tail.more.others;
  clauses = tail.more.clauses;
  actions = (tt, tail.more.actions);
  ends_so = tail.more.ends_so;
  text = (λ i. is i ∷ tail.text i) ∙ ap (λ y. 43 ∷ letter_byte tail.first ∷ y) tail.more.text;
  value = tail.more.value;
}
acts-behind Lower s list b bytes x is tail = record {
  first = record { operator = Lower; letters = tail.first ∷ tail.more.letters };
  others = tail.more.others;
  clauses = tail.more.clauses;
  actions = (tt, tail.more.actions);
  ends_so = tail.more.ends_so;
  text = (λ i. is i ∷ tail.text i) ∙ ap (λ y. 45 ∷ letter_byte tail.first ∷ y) tail.more.text;
  value = tail.more.value;
}

acts : (s : Sets) (list : Caps) (b : ℕ) (bytes : List ℕ) (x : Sets) (r : Reader)
    → operated s list b ≡ Some r → Tail r bytes x → Acts s list (b ∷ bytes) x
acts s list b bytes x r is tail =
    let from = mapped (λ op. reader (after_operator list op s) list (place_after op)) (operator_of b) r is in
    acts-behind from.value s list b bytes x (operator-is b from.value from.was)
    (subst (λ t. Tail t bytes x) (sym from.is) tail)

-- ---- each place

more-letters : (s : Sets) (list : Caps) (op : Operator) (b : ℕ) (bytes : List ℕ) (x : Sets)
    (r : Reader)
    → lettered s list op b ≡ Some r → Tail r bytes x → Signed s list op (b ∷ bytes) x
more-letters s list op b bytes x r is tail =
    let from = mapped (λ l. reader (after_letter list op s l) list (Letters op)) (letter_of b) r is in
    record {
      first = from.value;
      rest = bytes;
      text = ap (λ y. y ∷ bytes) (letter-is b from.value from.was);
      more = subst (λ t. Tail t bytes x) (sym from.is) tail;
    }

-- the first letter is one of more
joined : (s : Sets) (list : Caps) (op : Operator) (bytes : List ℕ) (x : Sets)
    → Signed s list op bytes x → More s list op bytes x
joined s list op bytes x is = record {
  letters = is.first ∷ is.more.letters;
  others = is.more.others;
  clauses = is.more.clauses;
  actions = is.more.actions;
  ends_so = is.more.ends_so;
  text = is.text ∙ ap (λ y. letter_byte is.first ∷ y) is.more.text;
  value = is.more.value;
}

-- actions are no letters and these actions
no-letters : (s : Sets) (list : Caps) (op : Operator) (bytes : List ℕ) (x : Sets)
    → Acts s list bytes x → More s list op bytes x
no-letters s list op bytes x is = record {
  letters = [];
  others = is.first ∷ is.others;
  clauses = is.clauses;
  actions = is.actions;
  ends_so = is.ends_so;
  text = is.text
      ∙ sym (append_assoc (action_text is.first) (flat_map action_text is.others)
      (ends is.clauses));
  value = is.value;
}

-- clauses are no letters, no actions and these clauses
no-actions : (s : Sets) (list : Caps) (op : Operator) (b : ℕ) (bytes : List ℕ) (x : Sets)
    → b ≡ 32 → Starts s bytes x → More s list op (b ∷ bytes) x
unfolding ends
no-actions s list op b bytes x is tail = record {
  letters = [];
  others = [];
  clauses = tail.first ∷ tail.others;
  actions = tt;
  ends_so = tail.clauses;
  text = λ i. is i ∷ tail.text i;
  value = tail.value;
}

at-letters : (s : Sets) (list : Caps) (op : Operator) (b : ℕ) (bytes : List ℕ) (x : Sets)
    (r : Reader)
    → step_at s list (Letters op) b ≡ Some r → Tail r bytes x → More s list op (b ∷ bytes) x
at-letters s list op b bytes x r is tail =
    elim (chosen (b == 32) _ _ _ is) [
      | inl hit ↦
          let same : reader s empty Start ≡ r = cc in
          no-actions s list op b bytes x (eqb-true b 32 hit.0)
          (subst (λ t. Tail t bytes x) (sym same) tail)
      | inr miss ↦ elim (either (operated s list b) (lettered s list op b) r miss.1) [
        | inl operator ↦ no-letters s list op (b ∷ bytes) x (acts s list b bytes x r operator tail)
        | inr letter ↦
            joined s list op (b ∷ bytes) x (more-letters s list op b bytes x r letter tail)
      ]
    ]

-- a name that goes on
going-on : (s : Sets) (list : Caps) (w : List ℕ) (b : ℕ) (bytes : List ℕ) (x : Sets) (r : Reader)
    → longer_name s list (w ++ b ∷ []) ≡ Some r → Tail r bytes x → Names s list w (b ∷ bytes) x
going-on s list w b bytes x r is tail =
    let same = (cond_some (begins_name (w ++ b ∷ []))
    (reader s list (Name (w ++ b ∷ []))) r is).1 in
    let rest : Names s list (w ++ b ∷ []) bytes x = subst (λ t. Tail t bytes x) (sym same) tail in
    record {
      number = rest.number;
      v = b ∷ rest.v;
      others = rest.others;
      rest = rest.rest;
      caps = rest.caps;
      name = sym (append_assoc w (b ∷ []) rest.v) ∙ rest.name;
      text = ap (λ y. b ∷ y) rest.text;
      acts = rest.acts;
    }

-- a name that ends
ending : (s : Sets) (list : Caps) (w : List ℕ) (n b : ℕ) (bytes : List ℕ) (x : Sets) (r : Reader)
    → cap_of_lowercase_name w ≡ Some n → separated s (with list n) b ≡ Some r → Tail r bytes x
    → Names s list w (b ∷ bytes) x
ending s list w n b bytes x r name is tail =
    let known = named-is w n name in
    let whole : w ++ [] ≡ lowercase_name n = append-nil w ∙ sym known.name in
    elim (chosen (b == 44) _ _ _ is) [
      | inl hit ↦
          let same : reader s (with list n) (Name []) ≡ r = cc in
          let next : Names s (with list n) [] bytes x =
          subst (λ t. Tail t bytes x) (sym same) tail in
          let flat = flat_map (λ m. 44 ∷ lowercase_name m) next.others in
          record {
            number = n;
            v = [];
            others = next.number ∷ next.others;
            rest = next.rest;
            caps = (known.cap, next.caps);
            name = whole;
            text = (λ i. eqb-true b 44 hit.0 i ∷ next.text i)
                ∙ ap (λ y. 44 ∷ (y ++ (flat ++ next.rest))) next.name
                ∙ ap (λ y. 44 ∷ y) (sym (append_assoc (lowercase_name next.number) flat next.rest));
            acts = next.acts;
          }
      | inr miss ↦ record {
        number = n;
        v = [];
        others = [];
        rest = b ∷ bytes;
        caps = (known.cap, tt);
        name = whole;
        text = refl;
        acts = acts s (with list n) b bytes x r miss.1 tail;
      }
    ]

at-name : (s : Sets) (list : Caps) (w : List ℕ) (b : ℕ) (bytes : List ℕ) (x : Sets) (r : Reader)
    → step_at s list (Name w) b ≡ Some r → Tail r bytes x → Names s list w (b ∷ bytes) x
at-name s list w b bytes x r is tail =
    elim (cap_of_lowercase_name w) as
    (λ o. cap_of_lowercase_name w ≡ o → within_name s list w b o ≡ Some r → Names s list w (b ∷ bytes) x) [
      | None ↦ λ _ go. going-on s list w b bytes x r go tail
      | Some n ↦ λ name go. ending s list w n b bytes x r name go tail
    ] refl is

-- ---- before a clause

-- the text of a clause is its list's and its actions'
starts : (l : Listed) (s : Sets) (bytes rest : List ℕ) (x : Sets) (a : Acts s (caps_in l) rest x)
    → IsListed l → MayBeginClause l a.first.operator → bytes ≡ listed_text l ++ rest → Starts s bytes x
starts l s bytes rest x a is may text = record {
  first = record { listed = l; first = a.first; others = a.others };
  others = a.clauses;
  clauses = (record { listed = is; begins = may; actions = a.actions }, a.ends_so);
  text = text
      ∙ ap (λ y. listed_text l ++ y) a.text
      ∙ sym (clause-parts (listed_text l) a.first a.others (ends a.clauses));
  value = a.value;
}

resets : (op : Operator) → operator_byte op ≡ 61 → op ≡ Reset
resets Reset is = refl
resets Raise is = absurd (omega arith)
resets Lower is = absurd (omega arith)

-- the first byte of actions
head-is : (a b : ℕ) (xs ys : List ℕ) → a ∷ xs ≡ b ∷ ys → b ≡ a
head-is a b xs ys same = cc

starts-name : (s : Sets) (b : ℕ) (bytes : List ℕ) (x : Sets) → Names s empty [] (b ∷ bytes) x
    → Starts s (b ∷ bytes) x
starts-name s b bytes x is =
    let flat = flat_map (λ m. 44 ∷ lowercase_name m) is.others in
    starts (Named is.number is.others) s (b ∷ bytes) is.rest x is.acts is.caps tt
    (is.text
    ∙ ap (λ y. y ++ (flat ++ is.rest)) is.name
    ∙ sym (append_assoc (lowercase_name is.number) flat is.rest))

at-start : (s : Sets) (list : Caps) (b : ℕ) (bytes : List ℕ) (x : Sets) (r : Reader)
    → step_at s list Start b ≡ Some r → Tail r bytes x → Starts s (b ∷ bytes) x
at-start s list b bytes x r is tail =
    elim (chosen (b == 97) _ _ _ is) [
      | inl hit ↦
          let same : reader s full A ≡ r = cc in
          let next : Word (108 ∷ 108 ∷ []) s bytes x =
          subst (λ t. Tail t bytes x) (sym same) tail in
          starts Everything s (b ∷ bytes) next.rest x next.acts tt tt
          (λ i. eqb-true b 97 hit.0 i ∷ next.text i)
      | inr miss ↦ elim (chosen (b == 61) _ _ _ miss.1) [
        | inl hit ↦
            let all = acts s full b bytes x r hit.1 tail in
            let byte = head-is b (operator_byte all.first.operator) bytes _ all.text
            ∙ eqb-true b 61 hit.0 in
            starts Unsaid s (b ∷ bytes) (b ∷ bytes) x all tt (resets all.first.operator byte) refl
        | inr miss ↦ starts-name s b bytes x (going-on s empty [] b bytes x r miss.1 tail)
      ]
    ]

-- a letter of the word `all`
spelled : (s : Sets) (place : TextPlace) (b : ℕ) (r : Reader) → word s place b ≡ Some r
    → (b ≡ 108) × (reader s full place ≡ r)
spelled s place b r is =
    let parts = cond_some (b == 108) (reader s full place) r is in
    (eqb-true b 108 parts.0, parts.1)

tail-step : (s : Sets) (list : Caps) (place : TextPlace) (b : ℕ) (bytes : List ℕ) (x : Sets)
    (r : Reader)
    → step_at s list place b ≡ Some r → Tail r bytes x → TailAt s list place (b ∷ bytes) x
tail-step s list Start b bytes x r is tail = at-start s list b bytes x r is tail
tail-step s list A b bytes x r is tail =
    let parts = spelled s Al b r is in
    let next : Word (108 ∷ []) s bytes x = subst (λ t. Tail t bytes x) (sym parts.1) tail in
    record { rest = next.rest; text = λ i. parts.0 i ∷ next.text i; acts = next.acts }
tail-step s list Al b bytes x r is tail =
    let parts = spelled s All b r is in
    record {
      rest = bytes;
      text = ap (λ y. y ∷ bytes) parts.0;
      acts =
          subst (λ t. Tail t bytes x) (sym parts.1) tail;
    }
tail-step s list All b bytes x r is tail = acts s full b bytes x r is tail
tail-step s list (Name w) b bytes x r is tail = at-name s list w b bytes x r is tail
tail-step s list (Sign op) b bytes x r is tail = more-letters s list op b bytes x r is tail
tail-step s list (Letters op) b bytes x r is tail = at-letters s list op b bytes x r is tail

-- ---- to the end

tail-end : (s : Sets) (list : Caps) (place : TextPlace) (x : Sets) → sets_at s place ≡ Some x
    → TailAt s list place [] x
unfolding ends
tail-end s list Start x is = cc
tail-end s list A x is = cc
tail-end s list Al x is = cc
tail-end s list All x is = cc
tail-end s list (Name w) x is = cc
tail-end s list (Sign op) x is = cc
tail-end s list (Letters op) x is = record {
  letters = [];
  others = [];
  clauses = [];
  actions = tt;
  ends_so = tt;
  text = refl;
  value = let same : s ≡ x = cc in sym same;
}

tail : (bytes : List ℕ) (r : Reader) (x : Sets) → sets_said r bytes ≡ Some x → Tail r bytes x
tail [] r x is = tail-end r.sets r.list r.place x is
tail (b ∷ bytes) r x is =
    let last = bound sets_at_end (run r (b ∷ bytes)) x is in
    let next = bound (λ t. run t bytes) (after_byte r b) last.value last.was in
    tail-step r.sets r.list r.place b bytes x next.value next.was
    (tail bytes next.value x (ap (option_and_then sets_at_end) next.is ∙ last.is))

-- what is read to its end is a text
pub record IsText (bytes : List ℕ) (x : Sets) : Type 0 where
  pub clauses : Clauses
  pub spells : SpellsClauses bytes clauses
  pub value : x ≡ sets_of_clauses clauses

pub text-read : (bytes : List ℕ) (x : Sets) → sets_said first_reader bytes ≡ Some x → IsText bytes x
unfolding ends
text-read bytes x is =
    let found = tail bytes first_reader x is in
    record {
      clauses = record { first = found.first; others = found.others };
      spells = record { clauses = found.clauses; text = found.text };
      value = found.value;
    }
