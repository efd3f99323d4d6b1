-- What a kernel is made of, and what holds of it whenever its lock is free.
use Rattle.std.specs.Prelude.{◌≡◌, ℕ, ◌+◌, ◌<◌, List, length, replicate, None}
use Rattle.atomic_table.specs.Seated.{TableId}
use Rattle.cred_record.specs.File.{File}
use Rattle.cred_event.specs.declared.entry.Entry.{Entry}
use Rattle.cred_model.specs.Script.{Script}
use Rattle.cred_script.specs.Lanes.{lanes}
use Rattle.cred_turn.specs.declared.numbers.LaneNumbers.{LaneNumbers}
use Rattle.cred_turn.specs.declared.view.LaneRow.{LaneRow}
use Rattle.cred_turn.specs.Rows.{fresh, home_row, lent_row, HasRow, row_of}
use Rattle.cred_turn.specs.Seen.{Rolled}
use Rattle.cred_book.specs.Book.{Recorded, inodes_in, out_of}
use Rattle.cred_book.specs.Counts.{IsSetUp, decided_of, ended_of, entered_of}
use Rattle.cred_book.specs.Cursor.{BookStands}
use Rattle.cred_kernel.specs.Turns.{SeenTurn, turn_at}

-- the parts of a kernel: the book's script, the identities of the roll and of the cells, and the
-- files as they stand
pub record KernelParts : Type 0 where
  pub script : Script
  pub roll : TableId
  pub cells : TableId
  pub inodes : List File

-- the numbers of a lane in a book, and the line of it whose work is out
abbrev pub numbers_in : Recorded → ℕ → LaneNumbers
numbers_in book lane = record {
  entered = entered_of book.script book.journal lane;
  decided = decided_of book.script book.journal lane;
  ended = ended_of book.script book.journal lane;
  out = out_of book lane;
}

-- no lane but the setup has an entry, and no work of it is out
pub record IsFirst (book : Recorded) : Type 0 where
  pub entered : (lane : ℕ) → 0 < lane → entered_of book.script book.journal lane ≡ 0
  pub decided : (lane : ℕ) → 0 < lane → decided_of book.script book.journal lane ≡ 0
  pub outs : (lane : ℕ) → 0 < lane → out_of book lane ≡ None

-- the setup has ended, and nothing was done for any other lane
pub record IsReadyBook (book : Recorded) : Type 0 where
  pub stands : BookStands book
  pub set_up : IsSetUp book
  pub first : IsFirst book

-- the book is ready, and the roll has a row for each of the script's lanes, none of them lent
pub record IsNewKernel (book : Recorded) (roll : Rolled) : Type 0 where
  pub ready : IsReadyBook book
  pub rows : roll.rows ≡ replicate (lanes book.script.lines) (home_row fresh)

-- what lies under the lock: the journal, those of its entries that are of earlier parts, and the
-- rows
pub record Contents : Type 0 where
  pub journal : List Entry
  pub earlier : List Entry
  pub rows : List LaneRow

-- each of the script's lanes has a row, which is lent and has the lane's numbers in the book
pub record AreLent (book : Recorded) (rows : List LaneRow) : Type 0 where
  pub count : length rows ≡ lanes book.script.lines
  pub each : (lane : ℕ) → HasRow rows lane → row_of rows lane ≡ lent_row (numbers_in book lane)

-- The book is of this script and of these cells, and the roll is this one. The journal is one that
-- the script may have so far, and the setup has ended: the files stand as it left them. Each lane's
-- row has the lane's numbers in the book.
pub record IsLocked
    (script : Script) (roll_id cells : TableId) (inodes : List File)
    (book : Recorded) (roll : Rolled) : Type 0 where
  pub script_is : book.script ≡ script
  pub cells_are : book.words.id ≡ cells
  pub inodes_are : inodes_in book ≡ inodes
  pub roll_is : roll.id ≡ roll_id
  pub stands : BookStands book
  pub set_up : IsSetUp book
  pub lent : AreLent book roll.rows

-- each turn's row was lent with the turn's numbers
abbrev pub AreTheirs : List LaneRow → List SeenTurn → Type 0
AreTheirs rows turns =
    (k : ℕ) → k < length turns → row_of rows (k + 1) ≡ lent_row (turn_at turns k).numbers
