-- What a turn is seen as, and what is said of the turns of all lanes.
use Rattle.std.specs.Prelude.{◌≡◌, ℕ, ◌+◌, ◌<◌, ◌≤◌, List, [], length, slice_index_or}
use Rattle.std.specs.Prelude.{Option, Some, None}
use Rattle.atomic_table.specs.Seated.{TableId}
use Rattle.cred_event.specs.declared.entry.Entry.{Entry}
use Rattle.cred_model.specs.Script.{Script}
use Rattle.cred_script.specs.Lanes.{lanes}
use Rattle.cred_turn.specs.declared.numbers.LaneNumbers.{LaneNumbers}
use Rattle.cred_turn.specs.Rows.{fresh}
use Rattle.cred_turn.specs.Seen.{Passed, pass}
use Rattle.cred_book.specs.Counts.{entered_of, lines_in}

-- the script of no kernel
abbrev pub no_script : Script
no_script = record { files = []; namespaces = []; lines = [] }

-- the identity of no roll
abbrev pub no_table : TableId
no_table = record {
  words = 0;
  slots = 0;
  views_name = 0;
  atom = 0;
  block = 0;
  offset = 0;
  slot_names = [];
}

-- a turn: its lane, and how far the lane has come
pub record SeenTurn : Type 0 where
  pub lane : ℕ
  pub numbers : LaneNumbers

-- the script has the lane, and the turn its pass, which has its numbers
pub record IsTurn
    (script : Script) (roll : TableId)
    (its_pass : Option Passed) (lane : ℕ) (numbers : LaneNumbers) : Type 0 where
  pub is_lane : (0 < lane) × (lane ≤ lanes script.lines)
  pub pass_is : its_pass ≡ Some (pass roll lane numbers)

-- all lines of the turn's lane have ended, and none of them is being decided
abbrev pub LaneHasEnded : Script → SeenTurn → Type 0
LaneHasEnded script turn =
    (turn.numbers.ended ≡ lines_in script turn.lane) × (turn.numbers.out ≡ None)

-- nothing was entered by the turn, and no line of it is being decided
pub record IsFresh (turn : SeenTurn) : Type 0 where
  pub entered : turn.numbers.entered ≡ 0
  pub decided : turn.numbers.decided ≡ 0
  pub out : turn.numbers.out ≡ None

-- the turn at this place, which is that of the lane of the next number
abbrev pub turn_at : List SeenTurn → ℕ → SeenTurn
turn_at turns place = slice_index_or turns place (record { lane = 0; numbers = fresh })

-- one turn for each lane, in order, the first of which is lane 1
pub record AreAllTurns (script : Script) (turns : List SeenTurn) : Type 0 where
  pub count : length turns ≡ lanes script.lines
  pub in_order : (k : ℕ) → k < length turns → (turn_at turns k).lane ≡ k + 1

-- the same, and nothing was entered yet
abbrev pub AreFresh : Script → List SeenTurn → Type 0
AreFresh script turns =
    AreAllTurns script turns × ((k : ℕ) → k < length turns → IsFresh (turn_at turns k))

-- no line is being decided
abbrev pub NoWorkIsOut : List SeenTurn → Type 0
NoWorkIsOut turns = (k : ℕ) → k < length turns → (turn_at turns k).numbers.out ≡ None

-- all lines of all lanes have ended
abbrev pub HaveEnded : Script → List SeenTurn → Type 0
HaveEnded script turns = (k : ℕ) → k < length turns → LaneHasEnded script (turn_at turns k)

-- the journal has as many entries of each lane as the lane's turn has entered
abbrev pub AreCounted : Script → List Entry → List SeenTurn → Type 0
AreCounted script journal turns =
    (k : ℕ) → k < length turns
    → entered_of script journal (k + 1) ≡ (turn_at turns k).numbers.entered
