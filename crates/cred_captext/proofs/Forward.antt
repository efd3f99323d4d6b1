-- Each text is read to its end, and says what its clauses do.
use Rattle.std.proofs.Common.{◌≡◌, ℕ, List, [], ◌∷◌, ◌++◌, map, Some, None}
use Rattle.std.proofs.Common.{refl, sym, ap, ◌∙◌, cond, append_assoc}
use Rattle.std.specs.declared.option.Option.{Option}
use Rattle.std.specs.Option.{option_and_then}
use Rattle.std.specs.List.{flat_map, fold, AllByRecursion}
use Rattle.std.proofs.lemmas.List.{append-nil}
use Rattle.cred_caps.specs.Caps.{Caps, IsCap, empty, with}
use Rattle.cred_captext.specs.declared.action.Operator.{Operator}
use Rattle.cred_captext.specs.declared.action.Operator.TheVariants.{Reset, Raise, Lower}
use Rattle.cred_captext.specs.declared.action.Letter.{Letter}
use Rattle.cred_captext.specs.declared.action.Letter.TheVariants as letter
use Rattle.cred_captext.specs.declared.sets.Sets.{Sets}
use Rattle.cred_captext.specs.declared.bytes.TextPlace.TheVariants.{Start, Name, Sign, Letters}
use Rattle.cred_captext.specs.declared.bytes.Reader.{Reader}
use Rattle.cred_captext.specs.Names.{lowercase_name}
use Rattle.cred_captext.specs.Grammar.{Listed, Everything, Unsaid, Named, Action, Clause, Clauses}
use Rattle.cred_captext.specs.Grammar.{IsListed, IsAction, AreActions, IsClause, AreClauses}
use Rattle.cred_captext.specs.Grammar.{MayBeginClause, operator_byte, letter_byte, listed_text}
use Rattle.cred_captext.specs.Grammar.{action_text, clause_text, clauses_text}
use Rattle.cred_captext.specs.Meaning.{none, after_operator, after_letter, after_action, after_clause, caps_in, sets_of_clauses}
use Rattle.cred_captext.specs.Machine.{reader, operated, run, first_reader, sets_at_end, sets_said, within_name}
use Rattle.cred_captext.proofs.NameLemmas.{unfinished, begins, first-byte}
use Rattle.cred_captext.proofs.NameLemmas as known

-- what is said behind a step
abbrev pub saying : Option Reader → List ℕ → Option Sets
saying o bytes = option_and_then sets_at_end (option_and_then (λ r. run r bytes) o)

-- ---- letters

letter-said : (l : Letter) (s : Sets) (list : Caps) (op : Operator) (bytes : List ℕ)
    → sets_said (reader s list (Letters op)) (letter_byte l ∷ bytes)
    ≡ sets_said (reader (after_letter list op s l) list (Letters op)) bytes
letter-said letter.Effective s list op bytes = refl
letter-said letter.Inheritable s list op bytes = refl
letter-said letter.Permitted s list op bytes = refl

pub sign-said : (l : Letter) (s : Sets) (list : Caps) (op : Operator) (bytes : List ℕ)
    → sets_said (reader s list (Sign op)) (letter_byte l ∷ bytes)
    ≡ sets_said (reader (after_letter list op s l) list (Letters op)) bytes
sign-said letter.Effective s list op bytes = refl
sign-said letter.Inheritable s list op bytes = refl
sign-said letter.Permitted s list op bytes = refl

letters-said : (ls : List Letter) (s : Sets) (list : Caps) (op : Operator) (bytes : List ℕ)
    → sets_said (reader s list (Letters op)) (map letter_byte ls ++ bytes)
    ≡ sets_said (reader (fold (after_letter list op) s ls) list (Letters op)) bytes
letters-said [] s list op bytes = refl
letters-said (l ∷ ls) s list op bytes =
    letter-said l s list op (map letter_byte ls ++ bytes)
    ∙ letters-said ls (after_letter list op s l) list op bytes

-- ---- actions

action-said : (op : Operator) (ls : List Letter) (s : Sets) (list : Caps) (bytes : List ℕ)
    → IsAction op ls
    → saying (operated s list (operator_byte op)) (map letter_byte ls ++ bytes)
    ≡ sets_said (reader (fold (after_letter list op) (after_operator list op s) ls) list (Letters op)) bytes
action-said Reset ls s list bytes is = letters-said ls (after_operator list Reset s) list Reset bytes
action-said Raise [] s list bytes is = absurd is
action-said Lower [] s list bytes is = absurd is
action-said Raise (l ∷ ls) s list bytes is =
    sign-said l s list Raise (map letter_byte ls ++ bytes)
    ∙ letters-said ls (after_letter list Raise s l) list Raise bytes
action-said Lower (l ∷ ls) s list bytes is =
    sign-said l s list Lower (map letter_byte ls ++ bytes)
    ∙ letters-said ls (after_letter list Lower s l) list Lower bytes

operator-said : (op here : Operator) (s : Sets) (list : Caps) (bytes : List ℕ)
    → sets_said (reader s list (Letters here)) (operator_byte op ∷ bytes)
    ≡ saying (operated s list (operator_byte op)) bytes
operator-said Reset here s list bytes = refl
operator-said Raise here s list bytes = refl
operator-said Lower here s list bytes = refl

-- bytes behind a clause say this of the sets there
abbrev pub Behind : List ℕ → (Sets → Sets) → Type 0
Behind bytes f =
    (s : Sets) (list : Caps) (op : Operator) → sets_said (reader s list (Letters op)) bytes ≡ Some (f s)

actions-said : (actions : List Action) (bytes : List ℕ) (f : Sets → Sets) → AreActions actions
    → Behind bytes f → (s : Sets) (list : Caps) (op : Operator)
    → sets_said (reader s list (Letters op)) (flat_map action_text actions ++ bytes)
    ≡ Some (f (fold (after_action list) s actions))
actions-said [] bytes f are behind s list op = behind s list op
actions-said (a ∷ actions) bytes f are behind s list op =
    let rest = flat_map action_text actions ++ bytes in
    ap (sets_said (reader s list (Letters op)))
    (append_assoc (action_text a) (flat_map action_text actions) bytes)
    ∙ operator-said a.operator op s list (map letter_byte a.letters ++ rest)
    ∙ action-said a.operator a.letters s list rest are.0
    ∙ actions-said actions bytes f are.1 behind (after_action list s a) list a.operator

-- an action and more, behind a list
pub acts-said : (a : Action) (actions : List Action) (bytes : List ℕ) (f : Sets → Sets)
    → AreActions (a ∷ actions) → Behind bytes f → (s : Sets) (list : Caps)
    → saying (operated s list (operator_byte a.operator))
    (map letter_byte a.letters ++ (flat_map action_text actions ++ bytes))
    ≡ Some (f (fold (after_action list) s (a ∷ actions)))
acts-said a actions bytes f are behind s list =
    action-said a.operator a.letters s list (flat_map action_text actions ++ bytes) are.0
    ∙ actions-said actions bytes f are.1 behind (after_action list s a) list a.operator

-- ---- names

-- a byte more of a name
longer-said : (n b : ℕ) (w v bytes : List ℕ) (s : Sets) (list : Caps) → IsCap n
    → w ++ b ∷ v ≡ lowercase_name n
    → sets_said (reader s list (Name w)) (b ∷ bytes) ≡ sets_said (reader s list (Name (w ++ b ∷ []))) bytes
longer-said n b w v bytes s list cap is =
    let prefix : (w ++ b ∷ []) ++ v ≡ lowercase_name n = append_assoc w (b ∷ []) v ∙ is in
    ap (λ o. saying (within_name s list w b o) bytes) (unfinished n b w v cap is)
    ∙ ap (λ t. saying (cond t (Some (reader s list (Name (w ++ b ∷ [])))) None) bytes)
    (begins n (w ++ b ∷ []) v cap prefix)

pub name-said : (n : ℕ) (v w bytes : List ℕ) (s : Sets) (list : Caps) → IsCap n → w ++ v ≡ lowercase_name n
    → sets_said (reader s list (Name w)) (v ++ bytes) ≡ sets_said (reader s list (Name (lowercase_name n))) bytes
name-said n [] w bytes s list cap is =
    ap (λ x. sets_said (reader s list (Name x)) bytes) (sym (append-nil w) ∙ is)
name-said n (b ∷ v) w bytes s list cap is =
    longer-said n b w v (v ++ bytes) s list cap is
    ∙ name-said n v (w ++ b ∷ []) bytes s list cap (append_assoc w (b ∷ []) v ∙ is)

-- a comma behind a name
comma-said : (n : ℕ) (bytes : List ℕ) (s : Sets) (list : Caps) → IsCap n
    → sets_said (reader s list (Name (lowercase_name n))) (44 ∷ bytes)
    ≡ sets_said (reader s (with list n) (Name [])) bytes
comma-said n bytes s list cap =
    ap (λ o. saying (within_name s list (lowercase_name n) 44 o) bytes) (known.named n cap)

-- an operator behind a name
pub name_operator-said : (n : ℕ) (op : Operator) (bytes : List ℕ) (s : Sets) (list : Caps) → IsCap n
    → sets_said (reader s list (Name (lowercase_name n))) (operator_byte op ∷ bytes)
    ≡ saying (operated s (with list n) (operator_byte op)) bytes
name_operator-said n Reset bytes s list cap =
    ap (λ o. saying (within_name s list (lowercase_name n) 61 o) bytes) (known.named n cap)
name_operator-said n Raise bytes s list cap =
    ap (λ o. saying (within_name s list (lowercase_name n) 43 o) bytes) (known.named n cap)
name_operator-said n Lower bytes s list cap =
    ap (λ o. saying (within_name s list (lowercase_name n) 45 o) bytes) (known.named n cap)

-- names behind a name, and then an operator
names-said : (ms : List ℕ) (n : ℕ) (op : Operator) (bytes : List ℕ) (s : Sets) (list : Caps)
    → AllByRecursion IsCap (n ∷ ms)
    → sets_said (reader s list (Name (lowercase_name n)))
    (flat_map (λ m. 44 ∷ lowercase_name m) ms ++ operator_byte op ∷ bytes)
    ≡ saying (operated s (fold with list (n ∷ ms)) (operator_byte op)) bytes
names-said [] n op bytes s list are = name_operator-said n op bytes s list are.0
names-said (m ∷ ms) n op bytes s list are =
    let rest = flat_map (λ k. 44 ∷ lowercase_name k) ms ++ operator_byte op ∷ bytes in
    ap (sets_said (reader s list (Name (lowercase_name n))))
    (append_assoc (44 ∷ lowercase_name m) (flat_map (λ k. 44 ∷ lowercase_name k) ms) (operator_byte op ∷ bytes))
    ∙ comma-said n (lowercase_name m ++ rest) s list are.0
    ∙ name-said m (lowercase_name m) [] rest s (with list n) are.1.0 refl
    ∙ names-said ms m op bytes s (with list n) are.1

-- the first name of a clause
first-said : (n : ℕ) (bytes : List ℕ) (s : Sets) (list : Caps) → IsCap n
    → sets_said (reader s list Start) (lowercase_name n ++ bytes)
    ≡ sets_said (reader s empty (Name (lowercase_name n))) bytes
first-said n bytes s list cap =
    let c = first-byte n cap in
    let again : sets_said (reader s list Start) (99 ∷ (c.rest ++ bytes))
    ≡ sets_said (reader s empty (Name (99 ∷ []))) (c.rest ++ bytes) =
    ap (λ t. saying (cond t (Some (reader s empty (Name (99 ∷ [])))) None) (c.rest ++ bytes))
    (begins n (99 ∷ []) c.rest cap c.name) in
    ap (λ x. sets_said (reader s list Start) (x ++ bytes)) (sym c.name)
    ∙ again
    ∙ name-said n c.rest (99 ∷ []) bytes s empty cap c.name

-- ---- clauses

-- a list, and then an operator
listed-said : (l : Listed) (op : Operator) (bytes : List ℕ) (s : Sets) (list : Caps)
    → IsListed l → MayBeginClause l op
    → sets_said (reader s list Start) (listed_text l ++ operator_byte op ∷ bytes)
    ≡ saying (operated s (caps_in l) (operator_byte op)) bytes
listed-said Everything op bytes s list is may = refl
listed-said Unsaid Reset bytes s list is may = refl
listed-said Unsaid Raise bytes s list is may = cc
listed-said Unsaid Lower bytes s list is may = cc
listed-said (Named n ms) op bytes s list is may =
    let rest = flat_map (λ m. 44 ∷ lowercase_name m) ms in
    ap (sets_said (reader s list Start)) (append_assoc (lowercase_name n) rest (operator_byte op ∷ bytes))
    ∙ first-said n (rest ++ operator_byte op ∷ bytes) s list is.0
    ∙ names-said ms n op bytes s empty is

-- the parts of a clause and what follows
pub clause-parts : (l : List ℕ) (a : Action) (actions : List Action) (bytes : List ℕ)
    → (l ++ flat_map action_text (a ∷ actions)) ++ bytes
    ≡ l ++ (action_text a ++ (flat_map action_text actions ++ bytes))
clause-parts l a actions bytes =
    append_assoc l (flat_map action_text (a ∷ actions)) bytes
    ∙ ap (λ x. l ++ x) (append_assoc (action_text a) (flat_map action_text actions) bytes)

clause-said : (c : Clause) (bytes : List ℕ) (f : Sets → Sets) → IsClause c → Behind bytes f
    → (s : Sets) (list : Caps)
    → sets_said (reader s list Start) (clause_text c ++ bytes) ≡ Some (f (after_clause s c))
clause-said c bytes f is behind s list =
    let rest = map letter_byte c.first.letters ++ (flat_map action_text c.others ++ bytes) in
    ap (sets_said (reader s list Start)) (clause-parts (listed_text c.listed) c.first c.others bytes)
    ∙ listed-said c.listed c.first.operator rest s list is.listed is.begins
    ∙ acts-said c.first c.others bytes f is.actions behind s (caps_in c.listed)

-- further clauses
unfoldable pub ends : List Clause → List ℕ
ends clauses = flat_map (λ c. 32 ∷ clause_text c) clauses

ends-said : (clauses : List Clause) → AreClauses clauses
    → Behind (ends clauses) (λ s. fold after_clause s clauses)
unfolding ends
ends-said [] are s list op = refl
ends-said (c ∷ clauses) are s list op =
    clause-said c (ends clauses) (λ t. fold after_clause t clauses) are.0
    (ends-said clauses are.1) s empty

pub text-said : (t : Clauses) → AreClauses (t.first ∷ t.others)
    → sets_said first_reader (clauses_text t) ≡ Some (sets_of_clauses t)
unfolding ends
text-said t are =
    clause-said t.first (ends t.others) (λ s. fold after_clause s t.others) are.0
    (ends-said t.others are.1) none empty
