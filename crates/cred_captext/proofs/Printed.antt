-- A text that was written says the attribute that it was written for.
use Rattle.std.proofs.Common.{◌≡◌, ◌≢◌, ℕ, ◌==◌, not, Bool, true, false, List, []}
use Rattle.std.proofs.Common.{◌∷◌, refl, sym, ap, ◌∙◌, arith}
use Rattle.std.specs.List.{fold, AllByRecursion}
use Rattle.std.proofs.lemmas.Bool.{eq-eqb, ne_eqb, or_right}
use Rattle.cred_caps.specs.Caps.{Caps, IsCap, IsCaps, empty, union, meet, less}
use Rattle.cred_rules.specs.Attribute.{Attribute}
use Rattle.cred_captext.specs.declared.action.Letter.{Letter}
use Rattle.cred_captext.specs.declared.action.Letter.TheVariants.{Inheritable, Permitted}
use Rattle.cred_captext.specs.declared.sets.Sets.{Sets}
use Rattle.cred_captext.specs.Grammar.{Clause, IsClause, AreClauses, clauses_text}
use Rattle.cred_captext.specs.Meaning.{none, after_clause, sets_of_clauses, is_whole, attribute_of_sets}
use Rattle.cred_captext.specs.Printed.{cap_numbers, with_flag, clauses_of, clauses, some_clauses}
use Rattle.cred_captext.specs.Printed.{printed, HasText}
use Rattle.cred_captext.specs.Reading.{TextSays}
use Rattle.cred_captext.proofs.Members.{members-are, all-append}
use Rattle.cred_captext.proofs.ThreeSets.{reset, three, less-caps, meet-caps, said-with}
use Rattle.cred_captext.proofs.ThreeSets.{said-without}

-- ---- its clauses are some

are-of : (ns : List ℕ) (letters : List Letter) → AllByRecursion IsCap ns
    → AreClauses (clauses_of ns letters)
are-of [] letters are = tt
are-of (n ∷ ns) letters are = (record { listed = are; begins = tt; actions = (tt, tt) }, tt)

are-some : (cs : List Clause) → AreClauses cs
    → AreClauses ((some_clauses cs).first ∷ (some_clauses cs).others)
are-some [] are = (record { listed = tt; begins = refl; actions = (tt, tt) }, tt)
are-some (c ∷ cs) are = are

are-members : (set : Caps) (letters : List Letter) → AreClauses (clauses_of (cap_numbers set) letters)
are-members set letters = are-of (cap_numbers set) letters (members-are 41 set (omega arith))

are-printed : (a : Attribute) → AreClauses ((printed a).first ∷ (printed a).others)
are-printed a =
    are-some (clauses a)
    (all-append IsClause _ _
    (are-members (less a.perm a.inh) (with_flag a.effective (Permitted ∷ [])))
    (all-append IsClause _ _
    (are-members (meet a.perm a.inh) (with_flag a.effective (Inheritable ∷ Permitted ∷ [])))
    (are-members (less a.inh a.perm) (with_flag a.effective (Inheritable ∷ [])))))

-- ---- what they say

some-say : (cs : List Clause) → sets_of_clauses (some_clauses cs) ≡ fold after_clause none cs
some-say [] = refl
some-say (c ∷ cs) = refl

-- the sets that were written
abbrev written : Bool → Caps → Caps → Sets
written true p i = record { effective = union p i; inheritable = i; permitted = p }
written false p i = record { effective = empty; inheritable = i; permitted = p }

flag-said : (flag : Bool) (p i : Caps) → IsCaps p → IsCaps i
    → reset (less i p) (with_flag flag (Inheritable ∷ []))
    (reset (meet p i) (with_flag flag (Inheritable ∷ Permitted ∷ []))
    (reset (less p i) (with_flag flag (Permitted ∷ [])) none))
    ≡ written flag p i
flag-said true p i p_caps i_caps = said-with p i p_caps i_caps
flag-said false p i p_caps i_caps = said-without p i p_caps i_caps

printed-say : (a : Attribute) → IsCaps a.perm → IsCaps a.inh
    → sets_of_clauses (printed a) ≡ written a.effective a.perm a.inh
printed-say a p_caps i_caps =
    some-say (clauses a)
    ∙ three (less a.perm a.inh) (meet a.perm a.inh) (less a.inh a.perm) _ _ _
    (less-caps a.perm a.inh p_caps) (meet-caps a.perm a.inh p_caps)
    (less-caps a.inh a.perm i_caps)
    ∙ flag-said a.effective a.perm a.inh p_caps i_caps

-- ---- it is read as what was written

record IsRead (flag : Bool) (p i : Caps) : Type 0 where
  whole : is_whole (written flag p i) ≡ true
  effective : flag ≡ not ((written flag p i).effective == empty)
  perm : p ≡ (written flag p i).permitted
  inh : i ≡ (written flag p i).inheritable

is-read : (flag : Bool) (p i : Caps) → (flag ≡ true → union p i ≢ empty) → IsRead flag p i
is-read true p i some = record {
  whole = or_right (union p i == empty) (union p i == union p i)
      (eq-eqb (union p i) (union p i) refl);
  effective = ap not (sym (ne_eqb (union p i) empty (some refl)));
  perm = refl;
  inh = refl;
}
is-read false p i some = record { whole = refl; effective = refl; perm = refl; inh = refl }

pub printed-says : (text : List ℕ) (a : Attribute) → text ≡ clauses_text (printed a) → IsCaps a.perm
    → IsCaps a.inh → a.root ≡ 0 → HasText a → TextSays text a
printed-says text a is p_caps i_caps root has =
    let sets = printed-say a p_caps i_caps in
    let read = is-read a.effective a.perm a.inh has.1 in
    record {
      clauses = printed a;
      spells = record { clauses = are-printed a; text = is };
      whole = ap is_whole sets ∙ read.whole;
      value = (λ k. record {
        version = has.0 k;
        perm = read.perm k;
        inh = read.inh k;
        effective = read.effective k;
        root = root k;
      }) ∙ ap attribute_of_sets (sym sets);
    }
