-- What a text of file capabilities says: its clauses, one after another, on three sets that start
-- out empty (cap_text_formats(7): "the set starts out with all capabilities lowered, and the
-- meaning of the string is the state of the capability set after all the clauses have been applied
-- in order").
use Rattle.std.specs.Prelude.{◌==◌, ◌||◌, Bool, not, ◌∷◌, if◌then◌else◌, Result, Ok, Err}
use Rattle.std.specs.List.{fold}
use Rattle.cred_caps.specs.Caps.{Caps, empty, full, union, less, with}
use Rattle.cred_rules.specs.Attribute.{Attribute}
use Rattle.cred_captext.specs.declared.action.Operator.{Operator}
use Rattle.cred_captext.specs.declared.action.Operator.TheVariants.{Reset, Raise, Lower}
use Rattle.cred_captext.specs.declared.action.Letter.{Letter}
use Rattle.cred_captext.specs.declared.action.Letter.TheVariants as letter
use Rattle.cred_captext.specs.declared.refusal.TextRefusal.{TextRefusal}
use Rattle.cred_captext.specs.declared.refusal.TextRefusal.TheVariants.{Mixed}
use Rattle.cred_captext.specs.declared.sets.Sets.{Sets}
use Rattle.cred_captext.specs.Grammar.{Listed, Everything, Unsaid, Named, Action, Clause, Clauses}

-- no capability in any of the three
abbrev pub none : Sets
none = record { effective = empty; inheritable = empty; permitted = empty }

-- the capabilities that a clause is about
abbrev pub caps_in : Listed → Caps
caps_in Everything = full
caps_in Unsaid = full
caps_in (Named n ns) = fold with empty (n ∷ ns)

-- "The '=' operator indicates that the listed capabilities are first reset in all three capability
-- sets."
abbrev pub after_operator : Caps → Operator → Sets → Sets
after_operator list Reset s = record {
  effective = less s.effective list;
  inheritable = less s.inheritable list;
  permitted = less s.permitted list;
}
after_operator list Raise s = s
after_operator list Lower s = s

-- a set after the operator: it raises the listed capabilities there, or lowers them
abbrev pub moved : Caps → Operator → Caps → Caps
moved list Reset set = union set list
moved list Raise set = union set list
moved list Lower set = less set list

-- the three sets after the operator at one of them
abbrev pub after_letter : Caps → Operator → Sets → Letter → Sets
after_letter list operator s letter.Effective =
    record s { effective = moved list operator s.effective }
after_letter list operator s letter.Inheritable =
    record s { inheritable = moved list operator s.inheritable }
after_letter list operator s letter.Permitted =
    record s { permitted = moved list operator s.permitted }

-- "the actions are performed in left to right order"
abbrev pub after_action : Caps → Sets → Action → Sets
after_action list s a =
    fold (after_letter list a.operator) (after_operator list a.operator s) a.letters

abbrev pub after_clause : Sets → Clause → Sets
after_clause s c = fold (after_action (caps_in c.listed)) s (c.first ∷ c.others)

-- the three sets that a text says
abbrev pub sets_of_clauses : Clauses → Sets
sets_of_clauses t = fold after_clause none (t.first ∷ t.others)

-- A file has an effective flag in place of an effective set (capabilities(7), "File capabilities"):
-- so either no capability of a text is effective, or each that is permitted or inheritable.
abbrev pub is_whole : Sets → Bool
is_whole s =
    (s.effective == empty) || (s.effective == union s.permitted s.inheritable)

-- the attribute of version 2 of these sets
abbrev pub attribute_of_sets : Sets → Attribute
attribute_of_sets s = record {
  version = 2;
  perm = s.permitted;
  inh = s.inheritable;
  effective = not (s.effective == empty);
  root = 0;
}

-- what these sets are for a file
abbrev pub attribute_or_mixed : Sets → Result Attribute TextRefusal
attribute_or_mixed s = if is_whole s then Ok (attribute_of_sets s) else Err Mixed
