-- Lists of views, of passes and of rows.
use Rattle.std.proofs.Common.{◌≡◌, ◌≢◌, ℕ, zero, suc, ◌-◌, ◌<◌, List, [], ◌∷◌, ◌++◌, length, set, false, true≢false, refl, sym, ap, ◌∙◌, subst, arith}
use Rattle.std.specs.List.{AllByRecursion}
use Rattle.std.proofs.lemmas.List.{get_or-set_same, get_or-set_other}
use Rattle.std.proofs.Math.ListN.{length-set}
use mathlib.Core.Option.{some}
use lib.ListN.{get_elem?}
use Rattle.cred_turn.specs.declared.numbers.LaneNumbers.{LaneNumbers}
use Rattle.cred_turn.specs.declared.view.LaneRow.{LaneRow}
use Rattle.cred_turn.specs.declared.view.LentPass.{LentPass}
use Rattle.cred_turn.specs.declared.view.TurnView.{TurnView}
use Rattle.cred_turn.specs.declared.view.TurnView.TheVariants.{Roll, Pass, Spent}
use Rattle.cred_turn.specs.Rows.{fresh, home_row, lent_row, HasRow, row_of, with_row}
use Rattle.cred_turn.specs.Rule.{lent_pass, passes, IsOfRow, LanesApart}

module _ {A : Type 0} where
  pub all_snoc : (P : A → Type 0) (xs : List A) (y : A) → AllByRecursion P xs → P y → AllByRecursion P (xs ++ y ∷ [])
  all_snoc P [] y h p = (p, tt)
  all_snoc P (x ∷ xs) y h p = (h.0, all_snoc P xs y h.1 p)

  pub all_set : (P : A → Type 0) (xs : List A) (j : ℕ) (y : A) → AllByRecursion P xs → P y → AllByRecursion P (set xs j y)
  all_set P [] j y h p = tt
  all_set P (x ∷ xs) zero y h p = (p, h.1)
  all_set P (x ∷ xs) (suc j) y h p = (h.0, all_set P xs j y h.1 p)

  pub all_then : (P Q : A → Type 0) (xs : List A) → ((x : A) → P x → Q x) → AllByRecursion P xs → AllByRecursion Q xs
  all_then P Q [] f h = tt
  all_then P Q (x ∷ xs) f h = (f x h.0, all_then P Q xs f h.1)

  pub all_both : (P Q R : A → Type 0) (xs : List A) → ((x : A) → P x → Q x → R x) → AllByRecursion P xs → AllByRecursion Q xs → AllByRecursion R xs
  all_both P Q R [] f h i = tt
  all_both P Q R (x ∷ xs) f h i = (f x h.0 i.0, all_both P Q R xs f h.1 i.1)

-- Passes among views

pub passes-snoc : (vs : List TurnView) (p : LentPass) → passes (vs ++ Pass p ∷ []) ≡ passes vs ++ p ∷ []
passes-snoc [] p = refl
passes-snoc (Roll rows kept ∷ vs) p = passes-snoc vs p
passes-snoc (Pass q ∷ vs) p = ap (λ ps. q ∷ ps) (passes-snoc vs p)
passes-snoc (Spent ∷ vs) p = passes-snoc vs p

-- q has another lane than p
abbrev pub Other : LentPass → LentPass → Type 0
Other p q = q.lane ≢ p.lane

pub apart_snoc : (ps : List LentPass) (p : LentPass) → LanesApart ps → AllByRecursion (Other p) ps → LanesApart (ps ++ p ∷ [])
apart_snoc [] p h i = (tt, tt)
apart_snoc (q ∷ ps) p h i = (all_snoc (Other q) ps p h.0 (λ e. i.0 (sym e)), apart_snoc ps p h.1 i.1)

-- what holds of each pass holds of the one at j, and of the others once it is spent
pub spent_all : (P : LentPass → Type 0) (vs : List TurnView) (j : ℕ) (p : LentPass) → get_elem? vs j ≡ some (Pass p) → AllByRecursion P (passes vs)
    → P p × AllByRecursion P (passes (set vs j Spent))
spent_all P [] j p e h = absurd (cc)
spent_all P (Roll rows kept ∷ vs) zero p e h = absurd (cc)
spent_all P (Roll rows kept ∷ vs) (suc j) p e h = spent_all P vs j p e h
spent_all P (Pass q ∷ vs) zero p e h = let same : q ≡ p = cc in (subst P same h.0, h.1)
spent_all P (Pass q ∷ vs) (suc j) p e h = let r = spent_all P vs j p e h.1 in (r.0, (h.0, r.1))
spent_all P (Spent ∷ vs) zero p e h = absurd (cc)
spent_all P (Spent ∷ vs) (suc j) p e h = spent_all P vs j p e h

pub spent_apart : (vs : List TurnView) (j : ℕ) (p : LentPass) → get_elem? vs j ≡ some (Pass p)
    → LanesApart (passes vs) → LanesApart (p ∷ passes (set vs j Spent))
spent_apart [] j p e h = absurd (cc)
spent_apart (Roll rows kept ∷ vs) zero p e h = absurd (cc)
spent_apart (Roll rows kept ∷ vs) (suc j) p e h = spent_apart vs j p e h
spent_apart (Pass q ∷ vs) zero p e h = let same : q ≡ p = cc in subst (λ r. LanesApart (r ∷ passes vs)) same h
spent_apart (Pass q ∷ vs) (suc j) p e h =
    let r = spent_apart vs j p e h.1 in
    let s = spent_all (Other q) vs j p e h.0 in
    (((λ same. s.0 (sym same)), r.0), (s.1, r.1))
spent_apart (Spent ∷ vs) zero p e h = absurd (cc)
spent_apart (Spent ∷ vs) (suc j) p e h = spent_apart vs j p e h

-- Rows

-- a row that is not lent is no pass's
pub home_is_nobodys : (rows : List LaneRow) (lane : ℕ) (p : LentPass) → (row_of rows lane).lent ≡ false → IsOfRow rows p → p.lane ≢ lane
home_is_nobodys rows lane p home h same = true≢false (ap (λ (r : LaneRow). r.lent) (sym h.1 ∙ ap (row_of rows) same) ∙ home)

-- the row of a pass stays where another lane's is changed
pub row_stays : (rows : List LaneRow) (lane : ℕ) (x : LaneRow) (p : LentPass) → HasRow rows lane → IsOfRow rows p
    → p.lane ≢ lane → IsOfRow (with_row rows lane x) p
row_stays rows lane x p here h other =
    let old = h.0 in
    let n : p.lane - 1 ≢ lane - 1 = λ e. other (let a = old.0 in let b = here.0 in omega arith) in
    ((old.0, omega (arith, old.1, length-set rows (lane - 1) x)), get_or-set_other rows (lane - 1) (p.lane - 1) x (home_row fresh) n ∙ h.1)

-- and a row that is lent is its pass's
pub row_is_lent : (rows : List LaneRow) (lane : ℕ) (n : LaneNumbers) → HasRow rows lane → IsOfRow (with_row rows lane (lent_row n)) (lent_pass lane n)
row_is_lent rows lane n here =
    let a = here.0 in
    let b = here.1 in
    let small : lane - 1 < length rows = omega arith in
    ((here.0, omega (arith, here.1, length-set rows (lane - 1) (lent_row n))), get_or-set_same rows (lane - 1) (lent_row n) (home_row fresh) small)
