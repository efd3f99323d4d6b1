-- What may stand behind each place of the grammar, where some sets are said in the end.
use Rattle.std.proofs.Common.{◌≡◌, ℕ, List, [], ◌∷◌, ◌++◌}
use Rattle.std.proofs.Common.{map}
use Rattle.std.specs.List.{flat_map, fold, AllByRecursion}
use Rattle.cred_caps.specs.Caps.{Caps, IsCap, full, with}
use Rattle.cred_captext.specs.declared.action.Operator.{Operator}
use Rattle.cred_captext.specs.declared.action.Letter.{Letter}
use Rattle.cred_captext.specs.declared.sets.Sets.{Sets}
use Rattle.cred_captext.specs.declared.bytes.TextPlace.{TextPlace}
use Rattle.cred_captext.specs.declared.bytes.TextPlace.TheVariants.{Start, A, Al, All, Name, Sign}
use Rattle.cred_captext.specs.declared.bytes.TextPlace.TheVariants.{Letters}
use Rattle.cred_captext.specs.declared.bytes.Reader.{Reader}
use Rattle.cred_captext.specs.Names.{lowercase_name}
use Rattle.cred_captext.specs.Grammar.{Action, Clause}
use Rattle.cred_captext.specs.Grammar.{AreActions, AreClauses}
use Rattle.cred_captext.specs.Grammar.{letter_byte}
use Rattle.cred_captext.specs.Grammar.{action_text, clause_text}
use Rattle.cred_captext.specs.Meaning.{after_letter, after_action, after_clause}
use Rattle.cred_captext.proofs.Forward.{ends}

-- behind a list: actions and clauses
pub record Acts (s : Sets) (list : Caps) (bytes : List ℕ) (x : Sets) : Type 0 where
  pub first : Action
  pub others : List Action
  pub clauses : List Clause
  pub actions : AreActions (first ∷ others)
  pub ends_so : AreClauses clauses
  pub text : bytes ≡ action_text first ++ (flat_map action_text others ++ ends clauses)
  pub value : x ≡ fold after_clause (fold (after_action list) s (first ∷ others)) clauses

-- behind an operator and letters: more letters, actions and clauses
pub record More (s : Sets) (list : Caps) (op : Operator) (bytes : List ℕ) (x : Sets) : Type 0 where
  pub letters : List Letter
  pub others : List Action
  pub clauses : List Clause
  pub actions : AreActions others
  pub ends_so : AreClauses clauses
  pub text : bytes ≡ map letter_byte letters ++ (flat_map action_text others ++ ends clauses)
  pub value : x ≡ fold after_clause (fold (after_action list) (fold (after_letter list op) s letters) others) clauses

-- behind an operator that needs a letter
pub record Signed (s : Sets) (list : Caps) (op : Operator) (bytes : List ℕ) (x : Sets)
    : Type 0 where
  pub first : Letter
  pub rest : List ℕ
  pub text : bytes ≡ letter_byte first ∷ rest
  pub more : More (after_letter list op s first) list op rest x

-- within a name: its rest, more names, and what may stand behind a list
pub record Names (s : Sets) (list : Caps) (w bytes : List ℕ) (x : Sets) : Type 0 where
  pub number : ℕ
  pub v : List ℕ
  pub others : List ℕ
  pub rest : List ℕ
  pub caps : AllByRecursion IsCap (number ∷ others)
  pub name : w ++ v ≡ lowercase_name number
  pub text : bytes ≡ v ++ (flat_map (λ m. 44 ∷ lowercase_name m) others ++ rest)
  pub acts : Acts s (fold with list (number ∷ others)) rest x

-- behind letters of the word `all`, further ones, and what may stand behind a list
pub record Word (letters : List ℕ) (s : Sets) (bytes : List ℕ) (x : Sets) : Type 0 where
  pub rest : List ℕ
  pub text : bytes ≡ letters ++ rest
  pub acts : Acts s full rest x

-- before a clause
pub record Starts (s : Sets) (bytes : List ℕ) (x : Sets) : Type 0 where
  pub first : Clause
  pub others : List Clause
  pub clauses : AreClauses (first ∷ others)
  pub text : bytes ≡ clause_text first ++ ends others
  pub value : x ≡ fold after_clause s (first ∷ others)

abbrev pub TailAt : Sets → Caps → TextPlace → List ℕ → Sets → Type 0
TailAt s list Start bytes x = Starts s bytes x
TailAt s list A bytes x = Word (108 ∷ 108 ∷ []) s bytes x
TailAt s list Al bytes x = Word (108 ∷ []) s bytes x
TailAt s list All bytes x = Acts s full bytes x
TailAt s list (Name w) bytes x = Names s list w bytes x
TailAt s list (Sign op) bytes x = Signed s list op bytes x
TailAt s list (Letters op) bytes x = More s list op bytes x

abbrev pub Tail : Reader → List ℕ → Sets → Type 0
Tail r bytes x = TailAt r.sets r.list r.place bytes x
