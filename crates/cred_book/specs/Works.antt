-- The works of a book's lanes: which are out, what is lent for them, and what is true of one.
use Rattle.std.specs.Prelude.{◌≡◌, ◌≢◌, ℕ, true, List, [], ◌++◌, length, set, Some, None, IfSome}
use Rattle.std.specs.Prelude.{◌≤◌, All, false, is_some, if◌then◌else◌, slice_set}
use Rattle.std.specs.declared.option.Option.{Option}
use Rattle.std.specs.List.{AllPairs, flat_map, range_with_len}
use Rattle.std.specs.Option.{option_map_or}
use Rattle.atomic_table.specs.Seated.{TableId}
use Rattle.cred_ids.specs.Limits.{LAST_NUMBER}
use Rattle.cred_record.specs.Credential.{Credential}
use Rattle.cred_record.specs.File.{File}
use Rattle.cred_event.specs.declared.content.Stage.{Stage}
use Rattle.cred_event.specs.declared.event.Event.{Event}
use Rattle.cred_model.specs.Script.{Script, Line}
use Rattle.cred_model.specs.Course.{event_in}
use Rattle.cred_model.specs.Named.{event_files}
use Rattle.cred_model.specs.Journal.{due_in, replay}
use Rattle.cred_model.specs.State.{info_of}
use Rattle.cred_names.specs.Labels.{labels}
use Rattle.cred_script.specs.Lines.{line_at}
use Rattle.cred_script.specs.Sound.{AreApart}
use Rattle.cred_hold.specs.Tokens.{Loan}
use Rattle.cred_work.specs.Decisions.{AreOf, work_event}
use Rattle.cred_work.specs.declared.pending.Pending.{Pending}
use Rattle.cred_work.specs.declared.pending.Pending.TheVariants.{Altering}
use Rattle.cred_work.specs.Work.{Work}
use Rattle.cred_work.specs.DecidedWorks.{IsUndecided}
use Rattle.cred_tables.specs.Out.{AreBack, tokens_in, needs_tokens}
use Rattle.cred_state.specs.TokensOut.{AreTaken, IsChain, loans_of}
use Rattle.cred_book.specs.Book.{Recorded, inodes_in, out_of, with_event}

-- No label stands in the words of lines of two lanes, neither of which is the setup. And none of
-- them is one that a line takes for itself.
pub record AreNamedApart (lines : List Line) : Type 0 where
  pub apart : AllPairs AreApart lines
  pub small : All (λ line. All (λ label. label ≤ LAST_NUMBER) (labels line.content)) lines

-- the tokens of the work that is out of a lane: those of its next event
abbrev pub lane_tokens : Recorded → ℕ → List Loan
lane_tokens book lane =
    if is_some (out_of book lane)
    then option_map_or (λ due. tokens_in (replay book.script book.journal) due.event)
    (due_in book.script book.journal lane) []
    else []

-- the tokens of all works that are out
abbrev pub tokens_out : Recorded → List Loan
tokens_out book = flat_map (λ lane. lane_tokens book lane) (range_with_len 0 (length book.outs))

-- The lane's next event is one of this line, and waits for a decision. The setup has ended, or the
-- lane is the setup's.
pub record IsOutOf (book : Recorded) (lane line : ℕ) : Type 0 where
  pub event : Event
  pub due : due_in book.script book.journal lane ≡ Some (record { line = line; event = event })
  pub waits : needs_tokens (replay book.script book.journal) event ≡ true
  pub set_up : lane ≢ 0 → due_in book.script book.journal 0 ≡ None

-- the line may make this event at some stage
abbrev pub MayMake : Script → ℕ → Event → Type 0
MayMake script number event =
    IfSome (line_at script number) (λ line.
    (stage : Stage) × (event_in number line.content stage ≡ Some event))

-- A work of some line of the script, where these are its files as they stand: its tokens are of
-- these cells, its line may make its event, and its file and its root ids are those that the event
-- is decided by.
pub record IsWorkOf (script : Script) (inodes : List File) (cells : TableId) (work : Work) : Type 0
  where
    pub own : AreOf cells work.lent
    pub made : MayMake script work.line (work_event work.lent)
    pub file : work.file ≡ info_of inodes (event_files (work_event work.lent))
    pub chain : IsChain script work.lent work.chain

-- The work is the lane's: it is one of the book's script and cells, its file is as it stands now,
-- and its line is the one whose work is out.
pub record IsOfLane (book : Recorded) (lane : ℕ) (work : Work) : Type 0 where
  pub of : IsWorkOf book.script (inodes_in book) book.words.id work
  pub out : out_of book lane ≡ Some work.line

-- what stands in the slots once these tokens are lent: in one that is lent to be written, nothing
abbrev pub places_of : Pending → List (Option Credential) → List (Option Credential)
places_of (Altering base writer change made) places = slice_set places writer.slot None
places_of lent places = places

-- the book of which these tokens are lent for this line of the lane
abbrev pub with_out : Recorded → ℕ → ℕ → Pending → Recorded
with_out book lane line lent = record book {
  outs = set book.outs lane (Some line);
  words = record book.words { out = loans_of lent ++ book.words.out };
  places = places_of lent book.places;
}

-- the book of which the lane's work is out
abbrev pub with_work : Recorded → ℕ → Work → Recorded
with_work book lane work = with_out book lane work.line work.lent

-- the root ids that the event is decided by, on what is lent for it after the book's journal
abbrev pub IsChainFor : Recorded → Event → List ℕ → Type 0
IsChainFor book event chain =
    (lent : Pending) → work_event lent ≡ event
    → loans_of lent ≡ tokens_in (replay book.script book.journal) event
    → IsChain book.script lent chain

-- The lane's event, which is of this line, goes out as this work. It waits for a decision, and the
-- work has what that needs. Nothing else is lent.
pub record GoesOut (before after : Recorded) (lane n : ℕ) (asked : Event) (work : Work) : Type 0
  where
    pub line : work.line ≡ n
    pub event : work_event work.lent ≡ asked
    pub undecided : IsUndecided work
    pub waits : needs_tokens (replay before.script before.journal) asked ≡ true
    pub own : AreOf before.words.id work.lent
    pub tokens : loans_of work.lent ≡ tokens_in (replay before.script before.journal) asked
    pub file : work.file ≡ info_of (inodes_in before) (event_files asked)
    pub chain : IsChainFor before asked work.chain
    pub lent : after ≡ with_work before lane work

-- What becomes of the lane's event of this line: it goes out where it waits for a decision. Else
-- the book is as it was.
abbrev pub IsHanded : Recorded → Recorded → ℕ → ℕ → Event → Option Work → Type 0
IsHanded before after lane line event (Some work) = GoesOut before after lane line event work
IsHanded before after lane line event None =
    (needs_tokens (replay before.script before.journal) event ≡ false) × (after ≡ before)

-- the lane's work has come back: nothing else was lent or taken back
pub record IsBack (before after : Recorded) (lane : ℕ) (work : Work) : Type 0 where
  pub outs : after.outs ≡ set before.outs lane None
  pub words : AreBack (loans_of work.lent) before.words after.words

-- The work's event was entered, and its tokens have come back. All else stays, but for what stands
-- in the slots.
pub record IsEntered (before after : Recorded) (work : Work) : Type 0 where
  pub same :
      after ≡ record (with_event before work.line (work_event work.lent)) {
        words = after.words;
        places = after.places;
      }
  pub words : AreBack (loans_of work.lent) before.words after.words
  pub taken : AreTaken (loans_of work.lent) before.words.out after.words.out
