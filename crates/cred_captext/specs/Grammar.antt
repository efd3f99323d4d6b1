-- The text of file capabilities, as setcap(8) takes it: its clauses, and how they are spelled
-- (cap_text_formats(7), formerly in cap_from_text(3), "Textual Representation").
use Rattle.std.specs.Prelude.{◌≡◌, ℕ, List, [], ◌∷◌, ◌++◌, ⊤, map, codes}
use Rattle.std.specs.List.{flat_map, AllByRecursion}
use Rattle.cred_caps.specs.Caps.{IsCap}
use Rattle.cred_captext.specs.declared.action.Operator.{Operator}
use Rattle.cred_captext.specs.declared.action.Operator.TheVariants.{Reset, Raise, Lower}
use Rattle.cred_captext.specs.declared.action.Letter.{Letter}
use Rattle.cred_captext.specs.declared.action.Letter.TheVariants as letter
use Rattle.cred_captext.specs.Names.{lowercase_name}

-- ---- what a text consists of

-- the capabilities that a clause is about: the word `all`, no word, which means all too, or the
-- names of one capability and of others
pub data Listed : Type 0 where
  Everything : Listed
  Unsaid : Listed
  Named : ℕ → List ℕ → Listed

-- an operator, and the sets that it is for
pub record Action : Type 0 where
  pub operator : Operator
  pub letters : List Letter

-- a list, and at least one action
pub record Clause : Type 0 where
  pub listed : Listed
  pub first : Action
  pub others : List Action

-- at least one clause
pub record Clauses : Type 0 where
  pub first : Clause
  pub others : List Clause

-- ---- what may stand where

-- each number in the list is a capability
abbrev pub IsListed : Listed → Type 0
IsListed (Named n ns) = AllByRecursion IsCap (n ∷ ns)
IsListed Everything = ⊤
IsListed Unsaid = ⊤

-- "The operators, '+' and '-' both require .. one or more explicit trailing flags."
abbrev pub IsAction : Operator → List Letter → Type 0
IsAction Reset letters = ⊤
IsAction Raise [] = ⊥
IsAction Raise (letter ∷ letters) = ⊤
IsAction Lower [] = ⊥
IsAction Lower (letter ∷ letters) = ⊤

abbrev pub AreActions : List Action → Type 0
AreActions actions = AllByRecursion (λ a. IsAction a.operator a.letters) actions

-- "In the case that the leading operator is '=', and no list of capabilities is provided, the
-- action-list is assumed to refer to 'all' capabilities." The two others "require an explicit
-- preceding capability list".
abbrev pub MayBeginClause : Listed → Operator → Type 0
MayBeginClause Unsaid operator = operator ≡ Reset
MayBeginClause Everything operator = ⊤
MayBeginClause (Named n ns) operator = ⊤

pub record IsClause (c : Clause) : Type 0 where
  pub listed : IsListed c.listed
  pub begins : MayBeginClause c.listed c.first.operator
  pub actions : AreActions (c.first ∷ c.others)

abbrev pub AreClauses : List Clause → Type 0
AreClauses clauses = AllByRecursion IsClause clauses

-- ---- how it is spelled

-- `=`, `+` and `-`
abbrev pub operator_byte : Operator → ℕ
operator_byte Reset = 61
operator_byte Raise = 43
operator_byte Lower = 45

-- `e`, `i` and `p`
abbrev pub letter_byte : Letter → ℕ
letter_byte letter.Effective = 101
letter_byte letter.Inheritable = 105
letter_byte letter.Permitted = 112

-- names with a comma between two
abbrev pub listed_text : Listed → List ℕ
listed_text Everything = codes "all"
listed_text Unsaid = []
listed_text (Named n ns) = lowercase_name n ++ flat_map (λ m. codes "," ++ lowercase_name m) ns

abbrev pub action_text : Action → List ℕ
action_text a = operator_byte a.operator ∷ map letter_byte a.letters

abbrev pub clause_text : Clause → List ℕ
clause_text c = listed_text c.listed ++ flat_map action_text (c.first ∷ c.others)

-- one space between two clauses
abbrev pub clauses_text : Clauses → List ℕ
clauses_text t = clause_text t.first ++ flat_map (λ c. codes " " ++ clause_text c) t.others
