-- What a text that was written says of the three sets.
use Rattle.std.proofs.Common.{◌≡◌, inl, inr, ℕ, ◌-◌, ◌^◌, ◌<◌, ◌≤◌, ◌==◌, ◌&&◌, ◌||◌}
use Rattle.std.proofs.Common.{not, Bool, true, false, List, [], ◌∷◌, ◌++◌, refl, sym, ap}
use Rattle.std.proofs.Common.{◌∙◌, arith}
use Rattle.std.specs.List.{fold}
use Rattle.std.proofs.Math.Nat.{mod-eq_of_lt}
use Rattle.std.proofs.lemmas.Bool.{cases_lt}
use Rattle.std.proofs.lemmas.Nat.{and_mask, and_le_l}
use Rattle.std.proofs.lemmas.Nat.Bits.{bit_at_above}
use Rattle.cred_caps.specs.Caps.{Caps, IsCap, IsCaps, empty, has, union, meet, less, with}
use Rattle.cred_caps.proofs.CapsLemmas.{IsCaps-union, IsCaps-less}
use Rattle.cred_caps.proofs.SetLaws.{has-union, has-meet, has-less, has-empty, same_caps}
use Rattle.cred_captext.specs.declared.action.Operator.TheVariants.{Reset}
use Rattle.cred_captext.specs.declared.action.Letter.{Letter}
use Rattle.cred_captext.specs.declared.action.Letter.TheVariants.{Effective, Inheritable, Permitted}
use Rattle.cred_captext.specs.declared.sets.Sets.{Sets}
use Rattle.cred_captext.specs.Meaning.{none, after_operator, after_letter, after_clause}
use Rattle.cred_captext.specs.Printed.{cap_numbers, clauses_of}
use Rattle.cred_captext.proofs.Members.{members-set, fold-append}

-- ---- sets of capabilities

record AreSets (s : Sets) : Type 0 where
  effective : IsCaps s.effective
  inheritable : IsCaps s.inheritable
  permitted : IsCaps s.permitted

-- the sets behind a clause `LIST=LETTERS`
abbrev pub reset : Caps → List Letter → Sets → Sets
reset set letters s = fold (after_letter set Reset) (after_operator set Reset s) letters

pub less-caps : (a b : Caps) → IsCaps a → IsCaps (less a b)
less-caps a b caps = IsCaps-less a (2 ^ 64 - 1 - b) caps

begun-caps : (set : Caps) (s : Sets) → AreSets s → AreSets (after_operator set Reset s)
begun-caps set s are = record {
  effective = less-caps s.effective set are.effective;
  inheritable = less-caps s.inheritable set are.inheritable;
  permitted = less-caps s.permitted set are.permitted;
}

flagged-caps : (set : Caps) (s : Sets) (l : Letter) → IsCaps set → AreSets s
    → AreSets (after_letter set Reset s l)
flagged-caps set s Effective caps are = record {
  effective = IsCaps-union s.effective set are.effective caps;
  inheritable = are.inheritable;
  permitted = are.permitted;
}
flagged-caps set s Inheritable caps are = record {
  effective = are.effective;
  inheritable = IsCaps-union s.inheritable set are.inheritable caps;
  permitted = are.permitted;
}
flagged-caps set s Permitted caps are = record {
  effective = are.effective;
  inheritable = are.inheritable;
  permitted = IsCaps-union s.permitted set are.permitted caps;
}

letters-caps : (letters : List Letter) (set : Caps) (s : Sets) → IsCaps set → AreSets s
    → AreSets (fold (after_letter set Reset) s letters)
letters-caps [] set s caps are = are
letters-caps (l ∷ letters) set s caps are =
    letters-caps letters set (after_letter set Reset s l) caps (flagged-caps set s l caps are)

reset-caps : (set : Caps) (letters : List Letter) (s : Sets) → IsCaps set → AreSets s
    → AreSets (reset set letters s)
reset-caps set letters s caps are =
    letters-caps letters set (after_operator set Reset s) caps (begun-caps set s are)

-- ---- no capability changes nothing

or-false : (x : Bool) → (x || false) ≡ x
or-false true = refl
or-false false = refl

less-none : (a : Caps) → IsCaps a → less a empty ≡ a
less-none a caps =
    let small : a < 2 ^ 64 = omega (arith, caps) in
    and_mask a 64 ∙ mod-eq_of_lt small

union-none : (a : Caps) → union a empty ≡ a
union-none a = same_caps (union a empty) a (λ n.
    has-union a empty n ∙ ap (λ t. has a n || t) (has-empty n) ∙ or-false (has a n))

flagged-none : (s : Sets) (l : Letter) → after_letter empty Reset s l ≡ s
flagged-none s Effective = λ i. record s { effective = union-none s.effective i }
flagged-none s Inheritable = λ i. record s { inheritable = union-none s.inheritable i }
flagged-none s Permitted = λ i. record s { permitted = union-none s.permitted i }

letters-none : (letters : List Letter) (s : Sets) → fold (after_letter empty Reset) s letters ≡ s
letters-none [] s = refl
letters-none (l ∷ letters) s =
    ap (λ t. fold (after_letter empty Reset) t letters) (flagged-none s l) ∙ letters-none letters s

begun-none : (s : Sets) → AreSets s → after_operator empty Reset s ≡ s
begun-none s are = λ i. record {
  effective = less-none s.effective are.effective i;
  inheritable = less-none s.inheritable are.inheritable i;
  permitted = less-none s.permitted are.permitted i;
}

reset-none : (letters : List Letter) (s : Sets) → AreSets s → reset empty letters s ≡ s
reset-none letters s are = letters-none letters (after_operator empty Reset s) ∙ begun-none s are

-- ---- the clause of a set

clause-of : (ns : List ℕ) (set : Caps) (letters : List Letter) (s : Sets) → fold with empty ns ≡ set
    → AreSets s → fold after_clause s (clauses_of ns letters) ≡ reset set letters s
clause-of [] set letters s is are =
    sym (ap (λ x. reset x letters s) (sym is) ∙ reset-none letters s are)
clause-of (n ∷ ns) set letters s is are = ap (λ x. reset x letters s) is

none-sets : AreSets none
none-sets = record { effective = omega arith; inheritable = omega arith; permitted = omega arith }

-- three clauses, of three sets
pub three : (a b c : Caps) (j k l : List Letter) → IsCaps a → IsCaps b → IsCaps c
    → fold after_clause none
    (clauses_of (cap_numbers a) j ++ (clauses_of (cap_numbers b) k ++ clauses_of (cap_numbers c) l))
    ≡ reset c l (reset b k (reset a j none))
three a b c j k l a_caps b_caps c_caps =
    let first = reset-caps a j none a_caps none-sets in
    let second = reset-caps b k (reset a j none) b_caps first in
    fold-append after_clause none (clauses_of (cap_numbers a) j)
    (clauses_of (cap_numbers b) k ++ clauses_of (cap_numbers c) l)
    ∙ ap (λ s. fold after_clause s (clauses_of (cap_numbers b) k ++ clauses_of (cap_numbers c) l))
    (clause-of (cap_numbers a) a j none (members-set a a_caps) none-sets)
    ∙ fold-append after_clause (reset a j none) (clauses_of (cap_numbers b) k) (clauses_of (cap_numbers c) l)
    ∙ ap (λ s. fold after_clause s (clauses_of (cap_numbers c) l))
    (clause-of (cap_numbers b) b k (reset a j none) (members-set b b_caps) first)
    ∙ clause-of (cap_numbers c) c l (reset b k (reset a j none)) (members-set c c_caps) second

-- ---- what is in them

above : (a : Caps) (n : ℕ) → IsCaps a → 41 ≤ n → has a n ≡ false
above a n caps past = ap (λ d. d == 1) (bit_at_above a 41 n caps past)

-- two sets with the same capabilities are one
same_below : (a b : Caps) → IsCaps a → IsCaps b → ((n : ℕ) → IsCap n → has a n ≡ has b n) → a ≡ b
same_below a b a_caps b_caps same = same_caps a b (λ n.
    elim (cases_lt n 41) [
      | inl lt ↦ same n (omega arith)
      | inr past ↦ above a n a_caps past ∙ sym (above b n b_caps past)
    ])

add : (a b : Caps) (n : ℕ) (x y : Bool) → has a n ≡ x → has b n ≡ y → has (union a b) n ≡ (x || y)
add a b n x y is other = has-union a b n ∙ ap (λ t. t || has b n) is ∙ ap (λ t. x || t) other

cut : (a b : Caps) (n : ℕ) (x y : Bool) → IsCaps b → IsCap n → has a n ≡ x → has b n ≡ y
    → has (less a b) n ≡ (x && not y)
cut a b n x y caps cap is other =
    has-less a b n caps cap ∙ ap (λ t. t && not (has b n)) is ∙ ap (λ t. x && not t) other

-- ---- the parts of two sets: what is in the first alone, in both, and in the second alone

first-table : (x y : Bool)
    → ((((((false && not (x && not y)) || (x && not y)) && not (x && y)) || (x && y)) && not
    (y && not x)) ≡ x)
first-table true true = refl
first-table true false = refl
first-table false true = refl
first-table false false = refl

last-table : (x y : Bool)
    → (((((((false && not (x && not y)) && not (x && y)) || (x && y)) && not (y && not x)) ||
    (y && not x))) ≡ y)
last-table true true = refl
last-table true false = refl
last-table false true = refl
last-table false false = refl

all-table : (x y : Bool)
    → (((((((false && not (x && not y)) || (x && not y)) && not (x && y)) || (x && y)) && not
    (y && not x)) || (y && not x)) ≡ (x || y))
all-table true true = refl
all-table true false = refl
all-table false true = refl
all-table false false = refl

none-table : (x y : Bool)
    → ((((false && not (x && not y)) && not (x && y)) && not (y && not x)) ≡ false)
none-table x y = refl

pub meet-caps : (p i : Caps) → IsCaps p → IsCaps (meet p i)
meet-caps p i caps = omega (arith, and_le_l p i, caps)

-- a set that the first two clauses name
in-first : (p i : Caps) → IsCaps p → IsCaps i
    → less (union (less (union (less empty (less p i)) (less p i)) (meet p i)) (meet p i))
    (less i p) ≡ p
in-first p i p_caps i_caps =
    let a = less-caps p i p_caps in
    let b = meet-caps p i p_caps in
    let c = less-caps i p i_caps in
    let one = IsCaps-union (less empty (less p i)) (less p i)
    (less-caps empty (less p i) (omega arith)) a in
    let two = IsCaps-union (less (union (less empty (less p i)) (less p i)) (meet p i)) (meet p i)
    (less-caps _ (meet p i) one) b in
    same_below _ p (less-caps _ (less i p) two) p_caps (λ n cap.
    let x = has-less p i n i_caps cap in
    let y = has-meet p i n in
    let z = has-less i p n p_caps cap in
    cut _ (less i p) n _ _ c cap
    (add _ (meet p i) n _ _
    (cut _ (meet p i) n _ _ b cap
    (add _ (less p i) n _ _ (cut empty (less p i) n _ _ a cap (has-empty n) x) x) y) y) z
    ∙ first-table (has p n) (has i n))

-- a set that the last two name
in-last : (p i : Caps) → IsCaps p → IsCaps i
    → union (less (union (less (less empty (less p i)) (meet p i)) (meet p i)) (less i p))
    (less i p) ≡ i
in-last p i p_caps i_caps =
    let a = less-caps p i p_caps in
    let b = meet-caps p i p_caps in
    let c = less-caps i p i_caps in
    let one = less-caps empty (less p i) (omega arith) in
    let two = IsCaps-union (less (less empty (less p i)) (meet p i)) (meet p i)
    (less-caps _ (meet p i) one) b in
    same_below _ i (IsCaps-union _ (less i p) (less-caps _ (less i p) two) c) i_caps (λ n cap.
    let x = has-less p i n i_caps cap in
    let y = has-meet p i n in
    let z = has-less i p n p_caps cap in
    add _ (less i p) n _ _
    (cut _ (less i p) n _ _ c cap
    (add _ (meet p i) n _ _
    (cut _ (meet p i) n _ _ b cap (cut empty (less p i) n _ _ a cap (has-empty n) x) y) y)
    z) z
    ∙ last-table (has p n) (has i n))

-- a set that all three name
in-all : (p i : Caps) → IsCaps p → IsCaps i
    → union (less (union (less (union (less empty (less p i)) (less p i)) (meet p i)) (meet p i))
    (less i p)) (less i p)
    ≡ union p i
in-all p i p_caps i_caps =
    let a = less-caps p i p_caps in
    let b = meet-caps p i p_caps in
    let c = less-caps i p i_caps in
    let one = IsCaps-union (less empty (less p i)) (less p i)
    (less-caps empty (less p i) (omega arith)) a in
    let two = IsCaps-union (less (union (less empty (less p i)) (less p i)) (meet p i)) (meet p i)
    (less-caps _ (meet p i) one) b in
    same_below _ (union p i) (IsCaps-union _ (less i p) (less-caps _ (less i p) two) c)
    (IsCaps-union p i p_caps i_caps) (λ n cap.
    let x = has-less p i n i_caps cap in
    let y = has-meet p i n in
    let z = has-less i p n p_caps cap in
    add _ (less i p) n _ _
    (cut _ (less i p) n _ _ c cap
    (add _ (meet p i) n _ _
    (cut _ (meet p i) n _ _ b cap
    (add _ (less p i) n _ _ (cut empty (less p i) n _ _ a cap (has-empty n) x) x) y) y) z)
    z
    ∙ all-table (has p n) (has i n)
    ∙ sym (has-union p i n))

-- a set that none names
in-none : (p i : Caps) → IsCaps p → IsCaps i
    → less (less (less empty (less p i)) (meet p i)) (less i p) ≡ empty
in-none p i p_caps i_caps =
    let a = less-caps p i p_caps in
    let b = meet-caps p i p_caps in
    let c = less-caps i p i_caps in
    let none : IsCaps empty = omega arith in
    same_below _ empty
    (less-caps _ (less i p) (less-caps _ (meet p i) (less-caps empty (less p i) none))) none
    (λ n cap.
    cut _ (less i p) n _ _ c cap
    (cut _ (meet p i) n _ _ b cap
    (cut empty (less p i) n _ _ a cap (has-empty n) (has-less p i n i_caps cap))
    (has-meet p i n))
    (has-less i p n p_caps cap)
    ∙ sym (has-empty n))

-- the three sets that a text says which was written with the flag, and without it
pub said-with : (p i : Caps) → IsCaps p → IsCaps i
    → reset (less i p) (Effective ∷ Inheritable ∷ [])
    (reset (meet p i) (Effective ∷ Inheritable ∷ Permitted ∷ [])
    (reset (less p i) (Effective ∷ Permitted ∷ []) none))
    ≡ record { effective = union p i; inheritable = i; permitted = p }
said-with p i p_caps i_caps = λ k. record {
  effective = in-all p i p_caps i_caps k;
  inheritable = in-last p i p_caps i_caps k;
  permitted = in-first p i p_caps i_caps k;
}

pub said-without : (p i : Caps) → IsCaps p → IsCaps i
    → reset (less i p) (Inheritable ∷ [])
    (reset (meet p i) (Inheritable ∷ Permitted ∷ []) (reset (less p i) (Permitted ∷ []) none))
    ≡ record { effective = empty; inheritable = i; permitted = p }
said-without p i p_caps i_caps = λ k. record {
  effective = in-none p i p_caps i_caps k;
  inheritable = in-last p i p_caps i_caps k;
  permitted = in-first p i p_caps i_caps k;
}
