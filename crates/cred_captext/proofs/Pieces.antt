-- Clauses written one after another are a text.
use Rattle.std.proofs.Common.{◌≡◌, ℕ, ◌+◌, ◌<◌, Bool, true, false, List, []}
use Rattle.std.proofs.Common.{◌∷◌, ◌++◌, length, map, refl, sym, ap, ◌∙◌, append_assoc}
use Rattle.std.proofs.Common.{arith}
use Rattle.std.specs.List.{flat_map, fold}
use Rattle.std.proofs.lemmas.List.{append-nil, length-append, flat_map_more}
use Rattle.cred_captext.specs.declared.action.Operator.TheVariants.{Reset}
use Rattle.cred_captext.specs.declared.action.Letter.{Letter}
use Rattle.cred_captext.specs.declared.action.Letter.TheVariants.{Inheritable, Permitted}
use Rattle.cred_captext.specs.Grammar.{Named, Clause, letter_byte}
use Rattle.cred_captext.specs.Grammar.{listed_text, action_text, clause_text, clauses_text}
use Rattle.cred_caps.specs.Caps.{Caps, IsCaps, empty, meet, less, with}
use Rattle.cred_rules.specs.Attribute.{Attribute}
use Rattle.cred_captext.specs.Printed.{cap_numbers_below, cap_numbers, with_flag, clause, clauses_of}
use Rattle.cred_captext.specs.Printed.{clauses, some_clauses}
use Rattle.cred_captext.specs.Pieces.{comma_names, spaced, action_with, clause_with, with_clause}
use Rattle.cred_captext.specs.Pieces.{or_none}
use Rattle.cred_captext.proofs.Members.{members-set}

-- the text of clauses, also of none
abbrev pub texts : List Clause → List ℕ
texts [] = []
texts (c ∷ cs) = clause_text c ++ flat_map (λ d. 32 ∷ clause_text d) cs

-- a space stands behind what is there
pub spaced-some : (bytes : List ℕ) → 0 < length bytes → spaced bytes ≡ bytes ++ 32 ∷ []
spaced-some [] some = absurd (omega arith)
spaced-some (byte ∷ bytes) some = refl

-- a clause has bytes: those of its operator
clause-some : (c : Clause) → 0 < length (clause_text c)
clause-some c =
    let size = length-append (listed_text c.listed) (flat_map action_text (c.first ∷ c.others)) in
    omega arith

texts-some : (c : Clause) (cs : List Clause) → 0 < length (texts (c ∷ cs))
texts-some c cs =
    let size = length-append (clause_text c) (flat_map (λ d. 32 ∷ clause_text d) cs) in
    omega (arith, clause-some c)

-- one clause more
texts-more : (cs : List Clause) (c : Clause)
    → spaced (texts cs) ++ clause_text c ≡ texts (cs ++ c ∷ [])
texts-more [] c = sym (append-nil (clause_text c))
texts-more (d ∷ cs) c =
    ap (λ x. x ++ clause_text c) (spaced-some (texts (d ∷ cs)) (texts-some d cs))
    ∙ append_assoc (texts (d ∷ cs)) (32 ∷ []) (clause_text c)
    ∙ flat_map_more (λ e. 32 ∷ clause_text e) (clause_text d) cs c

-- the letters of an action
action-is : (effective : Bool) (letters : List Letter)
    → action_with effective (map letter_byte letters)
    ≡ action_text (record { operator = Reset; letters = with_flag effective letters })
action-is true letters = refl
action-is false letters = refl

-- the clause of some capabilities
pub clause-more : (cs : List Clause) (ns : List ℕ) (effective : Bool) (letters : List Letter)
    → clause_with (texts cs) ns effective (map letter_byte letters)
    ≡ texts (cs ++ clauses_of ns (with_flag effective letters))
clause-more cs [] effective letters = ap texts (sym (append-nil cs))
clause-more cs (n ∷ ns) effective letters =
    let action = action_text (record { operator = Reset; letters = with_flag effective letters }) in
    append_assoc (spaced (texts cs)) (comma_names (n ∷ ns))
    (action_with effective (map letter_byte letters))
    ∙ ap (λ x. spaced (texts cs) ++ (comma_names (n ∷ ns) ++ x))
    (action-is effective letters ∙ sym (append-nil action))
    ∙ texts-more cs (clause (Named n ns) (with_flag effective letters))

-- a text of no clause is `=`
or-some : (bytes : List ℕ) → 0 < length bytes → or_none bytes ≡ bytes
or-some [] some = absurd (omega arith)
or-some (byte ∷ bytes) some = refl

pub none-is : (cs : List Clause) → or_none (texts cs) ≡ clauses_text (some_clauses cs)
none-is [] = refl
none-is (c ∷ cs) = or-some (texts (c ∷ cs)) (texts-some c cs)

-- the three clauses of an attribute, one after another
pub three-more : (a : Attribute) (first second third : List ℕ)
    → first ≡ with_clause [] (less a.perm a.inh) a.effective (112 ∷ [])
    → second ≡ with_clause first (meet a.perm a.inh) a.effective (105 ∷ 112 ∷ [])
    → third ≡ with_clause second (less a.inh a.perm) a.effective (105 ∷ [])
    → third ≡ texts (clauses a)
three-more a first second third one two three =
    let e = a.effective in
    let p = clauses_of (cap_numbers (less a.perm a.inh)) (with_flag e (Permitted ∷ [])) in
    let ip = clauses_of (cap_numbers (meet a.perm a.inh))
    (with_flag e (Inheritable ∷ Permitted ∷ [])) in
    let i = clauses_of (cap_numbers (less a.inh a.perm)) (with_flag e (Inheritable ∷ [])) in
    let at_first : first ≡ texts p =
    one ∙ clause-more [] (cap_numbers (less a.perm a.inh)) e (Permitted ∷ []) in
    let at_second : second ≡ texts (p ++ ip) =
    two ∙ ap (λ x. with_clause x (meet a.perm a.inh) e (105 ∷ 112 ∷ [])) at_first
    ∙ clause-more p (cap_numbers (meet a.perm a.inh)) e (Inheritable ∷ Permitted ∷ []) in
    three ∙ ap (λ x. with_clause x (less a.inh a.perm) e (105 ∷ [])) at_second
    ∙ clause-more (p ++ ip) (cap_numbers (less a.inh a.perm)) e (Inheritable ∷ [])
    ∙ ap texts (append_assoc p ip i)

-- ---- the clause of a set

-- without a capability it has no members
pub no-members : (set : Caps) → set ≡ 0 → cap_numbers set ≡ []
unfolding cap_numbers_below
no-members set none = ap cap_numbers none

some-members : (set : Caps) → IsCaps set → (set ≡ 0 → ⊥) → cap_numbers set ≡ [] → ⊥
some-members set caps some none = some (sym (members-set set caps) ∙ ap (fold with empty) none)

clause-written : (before ns : List ℕ) (effective : Bool) (letters : List ℕ) → (ns ≡ [] → ⊥)
    → (spaced before ++ comma_names ns) ++ action_with effective letters
    ≡ clause_with before ns effective letters
clause-written before [] effective letters some = absurd (some refl)
clause-written before (n ∷ ns) effective letters some = refl

pub clause-behind : (before : List ℕ) (set : Caps) (effective : Bool) (letters : List ℕ)
    → IsCaps set → (set ≡ 0 → ⊥)
    → (spaced before ++ comma_names (cap_numbers set)) ++ action_with effective letters
    ≡ with_clause before set effective letters
clause-behind before set effective letters caps some =
    clause-written before (cap_numbers set) effective letters (some-members set caps some)
