-- The steps at a seat whose number and view are known by equations.
use Rattle.std.proofs.Common.{◌≡◌, ℕ, List, [], Some, None, false, sym, ap, subst}
use Rattle.atomic_table.specs.Table.{Allows, Splits, Joins}
use Rattle.cred_turn.specs.declared.numbers.LaneNumbers.{LaneNumbers}
use Rattle.cred_turn.specs.declared.view.LaneRow.{LaneRow}
use Rattle.cred_turn.specs.declared.view.LentPass.{LentPass}
use Rattle.cred_turn.specs.declared.view.TurnView.{TurnView}
use Rattle.cred_turn.specs.declared.view.TurnView.TheVariants.{Roll, Pass, Spent}
use Rattle.cred_turn.specs.Rows.{HasRow, row_of}
use Rattle.cred_turn.specs.Rule.{after_lending_pass, pass_of, after_return_of_pass, LearnedPass}
use Rattle.cred_turn.proofs.Steps.{Held, Kept, lends, returns, learns}

abbrev pub held : TurnView → Held
held v = (v, [])

pub lends_as : (id : ℕ) (me : Held) (rows : List LaneRow) (lane : ℕ) (n : LaneNumbers) → id ≡ 0 → me ≡ held (Roll rows None) → HasRow rows lane
    → (row_of rows lane).lent ≡ false → Splits Kept id me.0 (after_lending_pass lane n me.0) (pass_of lane n)
lends_as id me rows lane n z is here home =
    let P : ℕ × Held → Type 0 = λ x. Splits Kept x.0 x.1.0 (after_lending_pass lane n x.1.0) (pass_of lane n) in
    subst P (λ i. (sym z i, sym is i)) (lends rows lane n here home)

pub returns_as : (id other : ℕ) (me them : Held) (rows : List LaneRow) (p : LentPass) → id ≡ 0 → me ≡ held (Roll rows None) → them ≡ held (Pass p)
    → Joins Kept id me.0 other them.0 (after_return_of_pass me.0 them.0) Spent
returns_as id other me them rows p z is they =
    let P : ℕ × Held × Held → Type 0 = λ x. Joins Kept x.0 x.1.0 other x.2.0 (after_return_of_pass x.1.0 x.2.0) Spent in
    subst P (λ i. (sym z i, sym is i, sym they i)) (returns rows other p)

pub learns_as : (id : ℕ) (me : Held) (rows : List LaneRow) (p : LentPass) (n : ℕ) → id ≡ 0 → me ≡ held (Roll rows (Some p))
    → Allows Kept n id me 0 (λ m. m) (λ _ w. LearnedPass me.0 w.0 × (w.1 ≡ me.1))
learns_as id me rows p n z is =
    let P : ℕ × Held → Type 0 = λ x. Allows Kept n x.0 x.1 0 (λ m. m) (λ _ w. LearnedPass x.1.0 w.0 × (w.1 ≡ x.1.1)) in
    subst P (λ i. (sym z i, sym is i)) (learns rows p n)

-- the roll's view after a return
pub came_back : (me them : Held) (rows : List LaneRow) (p : LentPass) → me ≡ held (Roll rows None) → them ≡ held (Pass p)
    → (let back : Held = (after_return_of_pass me.0 them.0, me.1) in back) ≡ held (Roll rows (Some p))
came_back me them rows p is they =
    let R : Held → Held → Held = λ v u. (after_return_of_pass v.0 u.0, v.1) in
    subst (λ (v : Held). R v them ≡ held (Roll rows (Some p))) (sym is) (ap (R (held (Roll rows None))) they)
