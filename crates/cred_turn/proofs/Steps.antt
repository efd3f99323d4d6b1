-- Each of the three kinds of step keeps the rule.
use Rattle.std.proofs.Common.{◌≡◌, ℕ, zero, suc, List, [], ◌∷◌, ◌++◌, set, Option, Some, None, false, refl, sym, ap, ◌∙◌, subst}
use Rattle.std.specs.Prelude.{slice_index, slice_set}
use Rattle.std.specs.List.{AllByRecursion}
use mathlib.Core.Option.{some, some-injective}
use lib.ListN.{get_elem?}
use Rattle.atomic_table.specs.Table.{State, Allows, Splits, Joins, keeps}
use Rattle.cred_turn.specs.declared.numbers.LaneNumbers.{LaneNumbers}
use Rattle.cred_turn.specs.declared.view.LaneRow.{LaneRow}
use Rattle.cred_turn.specs.declared.view.LentPass.{LentPass}
use Rattle.cred_turn.specs.declared.view.TurnView.{TurnView}
use Rattle.cred_turn.specs.declared.view.TurnView.TheVariants.{Roll, Pass, Spent}
use Rattle.cred_turn.specs.Rows.{home_row, lent_row, HasRow, row_of, with_row}
use Rattle.cred_turn.specs.Rule.{lent_pass, passes, IsNoRoll, IsOfRow, LanesApart, KeepsPasses, PassRuleHolds}
use Rattle.cred_turn.specs.Rule.{first_roll, after_lending_pass, pass_of, after_return_of_pass, LearnedPass}
use Rattle.cred_turn.proofs.Lists.{all_snoc, all_set, all_then, all_both, passes-snoc, Other, apart_snoc, spent_all, spent_apart, home_is_nobodys, row_stays}
use Rattle.cred_turn.proofs.Lists.{row_is_lent}

abbrev pub Held : Type 0
Held = TurnView × List (ℕ × Unit {0})

abbrev pub Kept : State (Unit {0}) TurnView → Type 0
Kept s = PassRuleHolds s.words s.views

-- The rule holds when the table is made

pub opens : (lanes : ℕ) → PassRuleHolds (0 ∷ []) (first_roll lanes ∷ [])
opens lanes = (_, None, [], record { word = refl; views_are = refl; one_roll = tt; of_rows = tt; apart = tt })

-- The parts of the rule at a seat that has the roll's view
others_kept : (words : List ℕ) (views : List TurnView) (rows : List LaneRow) (kept : Option LentPass) → get_elem? views 0 ≡ some (Roll rows kept)
    → PassRuleHolds words views → (others : List TurnView) × KeepsPasses words views rows kept others
others_kept words views rows kept at (rows', kept', others, k) =
    let whole : Roll rows' kept' ≡ Roll rows kept = some-injective _ _ (ap (λ (vs : List TurnView). get_elem? vs 0) (sym k.views_are) ∙ at) in
    let same : rows' ≡ rows = cc in
    let aside' : kept' ≡ kept = cc in
    (others, subst (λ (x : List LaneRow × Option LentPass). KeepsPasses words views x.0 x.1 others) (λ i. (same i, aside' i)) k)

-- 1. Lend a pass

pub lends : (rows : List LaneRow) (lane : ℕ) (n : LaneNumbers) → HasRow rows lane → (row_of rows lane).lent ≡ false
    → Splits {S = Unit {0}} Kept 0 (Roll rows None) (after_lending_pass lane n (Roll rows None)) (pass_of lane n)
lends rows lane n here home s h at =
    let f = others_kept s.words s.views rows None at h in
    let k = f.1 in
    let now : List LaneRow = with_row rows lane (lent_row n) in
    let p : LentPass = lent_pass lane n in
    let others : AllByRecursion (Other p) (passes f.0) = all_then (IsOfRow rows) (Other p) (passes f.0) (λ q. home_is_nobodys rows lane q home) k.of_rows in
    let old : AllByRecursion (IsOfRow now) (passes f.0) =
    all_both (IsOfRow rows) (Other p) (IsOfRow now) (passes f.0) (λ q. row_stays rows lane (lent_row n) q here) k.of_rows others in (
      now,
      None,
      f.0 ++ Pass p ∷ [],
      record {
        word = k.word;
        views_are = ap (λ (vs : List TurnView). slice_set vs 0 (Roll now None) ++ Pass p ∷ []) k.views_are;
        one_roll = all_snoc IsNoRoll f.0 (Pass p) k.one_roll tt;
        of_rows = subst (AllByRecursion (IsOfRow now)) (sym (passes-snoc f.0 p)) (all_snoc (IsOfRow now) (passes f.0) p old (row_is_lent rows lane n here));
        apart = subst LanesApart (sym (passes-snoc f.0 p)) (apart_snoc (passes f.0) p k.apart others);
      },
    )

-- 2. Return a pass

pub returns : (rows : List LaneRow) (other : ℕ) (p : LentPass)
    → Joins {S = Unit {0}} Kept 0 (Roll rows None) other (Pass p) (after_return_of_pass (Roll rows None) (Pass p)) Spent
returns rows zero p s h at apart there = absurd (apart refl)
returns rows (suc j) p s h at apart there =
    let f = others_kept s.words s.views rows None at h in
    let k = f.1 in
    let place : get_elem? f.0 j ≡ some (Pass p) =
    ap (λ (vs : List TurnView). get_elem? (slice_set vs 0 (Roll rows (Some p))) (suc j)) (sym k.views_are) ∙ there in (
      rows,
      Some p,
      set f.0 j Spent,
      record {
        word = k.word;
        views_are = ap (λ (vs : List TurnView). slice_set (slice_set vs 0 (Roll rows (Some p))) (suc j) Spent) k.views_are;
        one_roll = all_set IsNoRoll f.0 j Spent k.one_roll tt;
        of_rows = spent_all (IsOfRow rows) f.0 j p place k.of_rows;
        apart = spent_apart f.0 j p place k.apart;
      },
    )

-- 3. The load after a return

pub learns : (rows : List LaneRow) (p : LentPass) (slots : ℕ)
    → Allows {S = Unit {0}} Kept slots 0 (Roll rows (Some p), []) 0 (λ n. n) (λ _ w. LearnedPass (Roll rows (Some p)) w.0 × (w.1 ≡ []))
learns rows p slots s h homes at range =
    let f = others_kept s.words s.views rows (Some p) at h in
    let k = f.1 in
    let mine : IsOfRow rows p = k.of_rows.0 in
    let now : List LaneRow = with_row rows p.lane (home_row p.numbers) in (
      Roll now None,
      keeps,
      tt,
      (
        now,
        None,
        f.0,
        record {
          word = ap (λ (ws : List ℕ). slice_set ws 0 (slice_index ws 0)) k.word;
          views_are = ap (λ (vs : List TurnView). slice_set vs 0 (Roll now None)) k.views_are;
          one_roll = k.one_roll;
          of_rows =
              all_both (IsOfRow rows) (Other p) (IsOfRow now) (passes f.0) (λ q. row_stays rows p.lane (home_row p.numbers) q mine.0) k.of_rows.1 k.apart.0;
          apart = k.apart.1;
        },
      ),
      ((mine, refl), refl),
    )
