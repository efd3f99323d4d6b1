-- The row of a lane is lent again, with the numbers that the lane has now.
use Rattle.std.proofs.Common.{◌≡◌, ◌≢◌, ℕ, ◌-◌, ◌<◌, List, length, sym, ap, subst, ◌∙◌, arith}
use Rattle.std.proofs.lemmas.List.{get_or-set_same, get_or-set_other, length-set}
use mathlib.Core.Logic.{dite}
use native.Mathlib.Decide.{ℕ_discrete}
use Rattle.atomic_table.specs.Seated.{TableId}
use Rattle.cred_record.specs.File.{File}
use Rattle.cred_model.specs.Script.{Script}
use Rattle.cred_script.specs.Lanes.{lanes}
use Rattle.cred_turn.specs.declared.numbers.LaneNumbers.{LaneNumbers}
use Rattle.cred_turn.specs.declared.view.LaneRow.{LaneRow}
use Rattle.cred_turn.specs.Rows.{fresh, home_row, lent_row, with_row, HasRow, row_of}
use Rattle.cred_turn.specs.Seen.{Passed, Rolled, pass}
use Rattle.cred_book.specs.Book.{Recorded, inodes_in}
use Rattle.cred_book.specs.Cursor.{BookStands}
use Rattle.cred_kernel.specs.Locks.{AreLent, IsLocked, numbers_in}
use Rattle.cred_kernel.proofs.Stepping.{IsMoved}

-- the rows, of which one came back and was lent again
abbrev pub lent_again : List LaneRow → ℕ → LaneRow → LaneNumbers → List LaneRow
lent_again rows lane back now = with_row (with_row rows lane back) lane (lent_row now)

row_there : (rows : List LaneRow) (lane : ℕ) (back : LaneRow) (now : LaneNumbers) → HasRow rows lane
    → row_of (lent_again rows lane back now) lane ≡ lent_row now
row_there rows lane back now here =
    get_or-set_same (with_row rows lane back) (lane - 1) (lent_row now) (home_row fresh)
    (omega (arith, here.0, here.1, length-set rows (lane - 1) back))

row_elsewhere : (rows : List LaneRow) (lane other : ℕ) (back : LaneRow) (now : LaneNumbers) → 0 < lane → 0 < other → other ≢ lane
    → row_of (lent_again rows lane back now) other ≡ row_of rows other
row_elsewhere rows lane other back now some also apart =
    let differ : other - 1 ≢ lane - 1 = λ same. apart (omega (arith, some, also, same)) in
    get_or-set_other (with_row rows lane back) (lane - 1) (other - 1) (lent_row now) (home_row fresh) differ
    ∙ get_or-set_other rows (lane - 1) (other - 1) back (home_row fresh) differ

lent_after : (before after : Recorded) (rows : List LaneRow) (lane : ℕ) (back : LaneRow) (now : LaneNumbers) → AreLent before rows
    → IsMoved before after lane now → after.script ≡ before.script → HasRow rows lane → AreLent after (lent_again rows lane back now)
lent_after before after rows lane back now lent moved script here =
    let len : length (lent_again rows lane back now) ≡ length rows
    = length-set (with_row rows lane back) (lane - 1) (lent_row now) ∙ length-set rows (lane - 1) back in
    record {
      count = len ∙ lent.count ∙ ap (λ (s : Script). lanes s.lines) (sym script);
      each = λ other has.
          dite (ℕ_discrete other lane)
          (λ (same : other ≡ lane).
          subst (λ (l : ℕ). row_of (lent_again rows lane back now) l ≡ lent_row (numbers_in after l)) (sym same)
          (row_there rows lane back now here ∙ ap lent_row moved.own))
          (λ (apart : other ≢ lane).
          row_elsewhere rows lane other back now here.0 has.0 apart
          ∙ lent.each other (has.0, omega (arith, has.1, len))
          ∙ ap lent_row (sym (moved.others other apart)));
    }

-- the roll, where this is now the row of a lane
abbrev pub relent : Rolled → ℕ → LaneRow → Rolled
relent roll lane row = record { id = roll.id; rows = with_row roll.rows lane row }

-- A pass came back, a step was made, and the row was lent again: all is as it must be where the lock is free.
pub locked_after : (script : Script) (id cells : TableId) (inodes : List File) (before after : Recorded) (roll taken lent : Rolled) (back : Passed)
    (lane : ℕ) (was now : LaneNumbers)
    → IsLocked script id cells inodes before roll → IsMoved before after lane now → after.script ≡ before.script → after.words.id ≡ before.words.id
    → inodes_in after ≡ inodes_in before → BookStands after → back ≡ pass id lane was → HasRow roll.rows back.lane
    → taken ≡ relent roll back.lane (home_row back.numbers)
    → lent ≡ relent taken lane (lent_row now) → IsLocked script id cells inodes after lent
locked_after script id cells inodes before after roll taken lent back lane was now is moved same own files stands its here took gave =
    let there : HasRow roll.rows lane = subst (λ (p : Passed). HasRow roll.rows p.lane) its here in
    let again : lent ≡ relent (relent roll lane (home_row was)) lane (lent_row now)
    = gave ∙ ap (λ (r : Rolled). relent r lane (lent_row now)) (took ∙ ap (λ (p : Passed). relent roll p.lane (home_row p.numbers)) its) in
    record {
      script_is = same ∙ is.script_is;
      cells_are = own ∙ is.cells_are;
      inodes_are = files ∙ is.inodes_are;
      roll_is = ap (λ (r : Rolled). r.id) again ∙ is.roll_is;
      stands = stands;
      set_up = moved.set_up is.set_up;
      lent = subst (λ (r : Rolled). AreLent after r.rows) (sym again) (lent_after before after roll.rows lane (home_row was) now is.lent moved same there);
    }
