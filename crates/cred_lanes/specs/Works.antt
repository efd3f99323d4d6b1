-- What the workers give back.
use Rattle.std.specs.Prelude.{◌≡◌, ℕ, ◌+◌, ◌<◌, List, length, slice_index_or, Result, IfOk}
use Rattle.std.specs.Prelude.{Some, None}
use Rattle.atomic_table.specs.Seated.{TableId}
use Rattle.cred_record.specs.File.{File}
use Rattle.cred_model.specs.Script.{Script}
use Rattle.cred_book.specs.Works.{IsWorkOf}
use Rattle.cred_book.specs.declared.step.Step.{Step}
use Rattle.cred_book.specs.declared.step.Step.TheVariants.{More, Ended}
use Rattle.cred_book.specs.declared.step.Step.TheVariants as step
use Rattle.cred_kernel.specs.Deciding.{WasDecided}
use Rattle.cred_kernel.specs.Turns.{SeenTurn}

-- the turn of the same lane, and no line of it is being decided
abbrev pub HasStopped : SeenTurn → SeenTurn → Type 0
HasStopped turn stopped = (stopped.lane ≡ turn.lane) × (stopped.numbers.out ≡ None)

-- of each lane from 1 on, in order, out of memory or its turn, of which no line is being decided
abbrev pub AllStopped : {E : Type 0} → List (Result SeenTurn E) → Type 0
AllStopped {E} stopped =
    (k : ℕ) (d : Result SeenTurn E) → k < length stopped
    → IfOk (slice_index_or stopped k d) (λ turn. (turn.lane ≡ k + 1) × (turn.numbers.out ≡ None))

-- What a worker comes back to the lock with, by what its last step came to: the work of its lane
-- that is out, which is decided, or nothing where none is out.
abbrev pub IsReturn : Script → List File → TableId → SeenTurn → Step → Type 0
IsReturn script inodes cells turn More = turn.numbers.out ≡ None
IsReturn script inodes cells turn (step.Work work) =
    (turn.numbers.out ≡ Some work.line) × WasDecided script inodes cells work work
IsReturn script inodes cells turn Ended = turn.numbers.out ≡ None

-- How a worker leaves the lock: no work of its lane is out, or one is, and it has it.
abbrev pub HasGoneOn : Script → List File → TableId → SeenTurn → SeenTurn → Step → Type 0
HasGoneOn script inodes cells old new More = (new.lane ≡ old.lane) × (new.numbers.out ≡ None)
HasGoneOn script inodes cells old new (step.Work work) =
    (new.lane ≡ old.lane) × (new.numbers.out ≡ Some work.line) × IsWorkOf script inodes cells work
HasGoneOn script inodes cells old new Ended = (new.lane ≡ old.lane) × (new.numbers.out ≡ None)
