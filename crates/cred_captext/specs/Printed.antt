-- The text that is written for an attribute of a file: one that cap_text_formats(7) allows.
use Rattle.std.specs.Prelude.{◌≡◌, ◌≢◌, ℕ, Bool, true, false, List, [], ◌∷◌, ◌++◌, filter}
use Rattle.std.specs.List.{range_with_len}
use Rattle.cred_caps.specs.Caps.{Caps, empty, has, union, meet, less}
use Rattle.cred_rules.specs.Attribute.{Attribute}
use Rattle.cred_captext.specs.declared.action.Operator.TheVariants.{Reset}
use Rattle.cred_captext.specs.declared.action.Letter.{Letter}
use Rattle.cred_captext.specs.declared.action.Letter.TheVariants.{Effective, Inheritable}
use Rattle.cred_captext.specs.declared.action.Letter.TheVariants.{Permitted}
use Rattle.cred_captext.specs.Grammar.{Listed, Unsaid, Named, Clause, Clauses}

-- the capabilities of a set below a number, in order
unfoldable pub cap_numbers_below : ℕ → Caps → List ℕ
cap_numbers_below n set = filter (has set) (range_with_len 0 n)

-- those of a set
abbrev pub cap_numbers : Caps → List ℕ
cap_numbers set = cap_numbers_below 41 set

-- an effective flag is a letter more in each clause
abbrev pub with_flag : Bool → List Letter → List Letter
with_flag true letters = Effective ∷ letters
with_flag false letters = letters

-- the clause of this list, with `=` and these letters
abbrev pub clause : Listed → List Letter → Clause
clause listed letters = record {
  listed = listed;
  first = record { operator = Reset; letters = letters };
  others = [];
}

-- the clause of these capabilities, if there is one
abbrev pub clauses_of : List ℕ → List Letter → List Clause
clauses_of [] letters = []
clauses_of (n ∷ ns) letters = clause (Named n ns) letters ∷ []

-- first what is permitted alone, then what is in both sets, then what is inheritable alone
abbrev pub clauses : Attribute → List Clause
clauses a =
    clauses_of (cap_numbers (less a.perm a.inh)) (with_flag a.effective (Permitted ∷ [])) ++
    (clauses_of (cap_numbers (meet a.perm a.inh))
    (with_flag a.effective (Inheritable ∷ Permitted ∷ [])) ++
    clauses_of (cap_numbers (less a.inh a.perm)) (with_flag a.effective (Inheritable ∷ [])))

-- where there is none, the text is `=`
abbrev pub some_clauses : List Clause → Clauses
some_clauses [] = record { first = clause Unsaid []; others = [] }
some_clauses (c ∷ cs) = record { first = c; others = cs }

-- the clauses of the text of an attribute
abbrev pub printed : Attribute → Clauses
printed a = some_clauses (clauses a)

-- No text says that the effective flag is set and both sets are empty.
abbrev pub HasText : Attribute → Type 0
HasText a = (a.version ≡ 2) × (a.effective ≡ true → union a.perm a.inh ≢ empty)
