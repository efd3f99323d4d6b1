-- The rule, point by point.
use Rattle.std.proofs.Common.{◌≡◌, ◌≢◌, ℕ, zero, suc, List, [], ◌∷◌, Option, Some, refl, sym, ap, ◌∙◌, subst}
use Rattle.std.specs.Prelude.{slice_get}
use Rattle.std.specs.List.{AllByRecursion}
use Rattle.std.proofs.lemmas.Option.{same_Some}
use Rattle.cred_turn.specs.declared.view.LaneRow.{LaneRow}
use Rattle.cred_turn.specs.declared.view.LentPass.{LentPass}
use Rattle.cred_turn.specs.declared.view.TurnView.{TurnView}
use Rattle.cred_turn.specs.declared.view.TurnView.TheVariants.{Roll, Pass, Spent}
use Rattle.cred_turn.specs.Points.{pass_in, HasPass, PassHasPoints, PassRuleHasPoints}
use Rattle.cred_turn.specs.Rule.{passes, pass_aside, IsNoRoll, IsOfRow, LanesApart, KeepsPasses}

no_roll_at : (vs : List TurnView) (i : ℕ) (r : List LaneRow) (k : Option LentPass) → AllByRecursion IsNoRoll vs → slice_get vs i ≡ Some (Roll r k) → ⊥
no_roll_at [] i r k h at = absurd (cc)
no_roll_at (Roll r' k' ∷ vs) zero r k h at = h.0
no_roll_at (Pass p ∷ vs) zero r k h at = let same : Pass p ≡ Roll r k = same_Some _ _ at in absurd (cc)
no_roll_at (Spent ∷ vs) zero r k h at = let same : Spent ≡ Roll r k = same_Some _ _ at in absurd (cc)
no_roll_at (v ∷ vs) (suc i) r k h at = no_roll_at vs i r k h.1 at

no_other : (rows : List LaneRow) (kept : Option LentPass) (others : List TurnView) → AllByRecursion IsNoRoll others
    → (i : ℕ) (r : List LaneRow) (k : Option LentPass) → slice_get (Roll rows kept ∷ others) i ≡ Some (Roll r k) → i ≡ 0
no_other rows kept others h zero r k at = refl
no_other rows kept others h (suc i) r k at = absurd (no_roll_at others i r k h at)

-- what holds of each pass holds of the one at i
pass_at : (P : LentPass → Type 0) (vs : List TurnView) (i : ℕ) (p : LentPass) → slice_get vs i ≡ Some (Pass p) → AllByRecursion P (passes vs) → P p
pass_at P [] i p at h = absurd (cc)
pass_at P (Roll r k ∷ vs) zero p at h = let same : Roll r k ≡ Pass p = same_Some _ _ at in absurd (cc)
pass_at P (Roll r k ∷ vs) (suc i) p at h = pass_at P vs i p at h
pass_at P (Pass q ∷ vs) zero p at h =
    let whole : Pass q ≡ Pass p = same_Some _ _ at in
    let same : q ≡ p = cc in
    subst P same h.0
pass_at P (Pass q ∷ vs) (suc i) p at h = pass_at P vs i p at h.1
pass_at P (Spent ∷ vs) zero p at h = let same : Spent ≡ Pass p = same_Some _ _ at in absurd (cc)
pass_at P (Spent ∷ vs) (suc i) p at h = pass_at P vs i p at h

-- two places with passes of one lane are one place
one_place : (vs : List TurnView) (i j : ℕ) (p q : LentPass) → slice_get vs i ≡ Some (Pass p) → slice_get vs j ≡ Some (Pass q) → p.lane ≡ q.lane
    → LanesApart (passes vs) → i ≡ j
one_place [] i j p q at at' same a = absurd (cc)
one_place (v ∷ vs) zero zero p q at at' same a = refl
one_place (Roll r k ∷ vs) zero (suc j) p q at at' same a = let whole : Roll r k ≡ Pass p = same_Some _ _ at in absurd (cc)
one_place (Roll r k ∷ vs) (suc i) zero p q at at' same a = let whole : Roll r k ≡ Pass q = same_Some _ _ at' in absurd (cc)
one_place (Roll r k ∷ vs) (suc i) (suc j) p q at at' same a = ap suc (one_place vs i j p q at at' same a)
one_place (Pass o ∷ vs) zero (suc j) p q at at' same a =
    let whole : Pass o ≡ Pass p = same_Some _ _ at in
    let is : o ≡ p = cc in
    absurd (pass_at (λ x. x.lane ≢ o.lane) vs j q at' a.0 (sym same ∙ ap (λ (x : LentPass). x.lane) (sym is)))
one_place (Pass o ∷ vs) (suc i) zero p q at at' same a =
    let whole : Pass o ≡ Pass q = same_Some _ _ at' in
    let is : o ≡ q = cc in
    absurd (pass_at (λ x. x.lane ≢ o.lane) vs i p at a.0 (same ∙ ap (λ (x : LentPass). x.lane) (sym is)))
one_place (Pass o ∷ vs) (suc i) (suc j) p q at at' same a = ap suc (one_place vs i j p q at at' same a.1)
one_place (Spent ∷ vs) zero (suc j) p q at at' same a = let whole : Spent ≡ Pass p = same_Some _ _ at in absurd (cc)
one_place (Spent ∷ vs) (suc i) zero p q at at' same a = let whole : Spent ≡ Pass q = same_Some _ _ at' in absurd (cc)
one_place (Spent ∷ vs) (suc i) (suc j) p q at at' same a = ap suc (one_place vs i j p q at at' same a)

-- a view that is not the roll's and has a pass is a pass's
is_pass : (v : TurnView) (p : LentPass) → IsNoRoll v → pass_in v ≡ Some p → v ≡ Pass p
is_pass (Roll r k) p other has = absurd other
is_pass (Pass q) p other has = let same : q ≡ p = same_Some _ _ has in ap Pass same
is_pass Spent p other has = absurd (cc)

view_at : (vs : List TurnView) (i : ℕ) (v : TurnView) → AllByRecursion IsNoRoll vs → slice_get vs i ≡ Some v → IsNoRoll v
view_at [] i v h at = absurd (cc)
view_at (u ∷ vs) zero v h at = subst IsNoRoll (same_Some _ _ at) h.0
view_at (u ∷ vs) (suc i) v h at = view_at vs i v h.1 at

-- where the roll keeps a pass aside, it stands in the roll's place
aside_is : (kept : Option LentPass) (p : LentPass) → kept ≡ Some p → pass_aside kept ≡ Pass p
aside_is kept p e = ap pass_aside e

stands : (rows : List LaneRow) (kept : Option LentPass) (others : List TurnView) (i : ℕ) (p : LentPass) → AllByRecursion IsNoRoll others
    → HasPass (Roll rows kept ∷ others) i p → slice_get (pass_aside kept ∷ others) i ≡ Some (Pass p)
stands rows kept others zero p h (v, at, has) =
    let is : Roll rows kept ≡ v = same_Some _ _ at in
    ap Some (aside_is kept p (ap pass_in is ∙ has))
stands rows kept others (suc i) p h (v, at, has) = at ∙ ap Some (is_pass v p (view_at others i v h at) has)

has_points : (words : List ℕ) (rows : List LaneRow) (kept : Option LentPass) (others : List TurnView)
    → KeepsPasses words (Roll rows kept ∷ others) rows kept others → PassHasPoints words (Roll rows kept ∷ others)
has_points words rows kept others k =
    let row : (i : ℕ) (p : LentPass) → HasPass (Roll rows kept ∷ others) i p → IsOfRow rows p =
    λ i p has. pass_at (IsOfRow rows) (pass_aside kept ∷ others) i p (stands rows kept others i p k.one_roll has) k.of_rows in
    record {
      word = k.word;
      rows = rows;
      kept = kept;
      one_roll = record { is_there = refl; no_other = no_other rows kept others k.one_roll };
      of_rows = record {
        has_row = λ i p has. (row i p has).0;
        same_numbers = λ i p has. (row i p has).1;
        apart = λ i j p q has has' same.
            one_place (pass_aside kept ∷ others) i j p q (stands rows kept others i p k.one_roll has) (stands rows kept others j q k.one_roll has') same
            k.apart;
      };
    }

pub rule_has_points : PassRuleHasPoints
rule_has_points words views (rows, kept, others, k) =
    subst (PassHasPoints words) (sym k.views_are)
    (has_points words rows kept others (subst (λ (vs : List TurnView). KeepsPasses words vs rows kept others) k.views_are k))
