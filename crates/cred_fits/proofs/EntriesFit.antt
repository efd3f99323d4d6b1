-- Each entry of a script's journals fits it.
use Rattle.std.proofs.Common.{◌≡◌, ℕ, zero, suc, ◌+◌, ◌<◌, ◌≤◌, List, length, take, slice_get, Some, Ok, sym, ap, ◌∙◌, subst, arith}
use Rattle.std.specs.List.{All}
use Rattle.std.specs.Option.{IfSome}
use Rattle.std.proofs.lemmas.List.Elements.{All-nil}
use Rattle.cred_ids.specs.Limits.{LINE_LIMIT}
use Rattle.cred_event.specs.declared.entry.Entry.{Entry}
use Rattle.cred_model.specs.Script.{Script}
use Rattle.cred_model.specs.State.{State, opening}
use Rattle.cred_model.specs.Step.{step}
use Rattle.cred_model.specs.Journal.{SoFar}
use Rattle.cred_model.proofs.Lists.{All-at, slice_get_at}
use Rattle.cred_grammar.specs.Grammar.{script_of}
use Rattle.cred_laws.specs.States.{state_at}
use Rattle.cred_laws.proofs.AnsweredLaws.{so_far_is_answered}
use Rattle.cred_laws.proofs.States.{step_at}
use Rattle.cred_sound.proofs.TaskCount.{few_after}
use Rattle.cred_sound.proofs.Sound.{sound_after}
use Rattle.cred_reader.specs.Fits.{IsLong, Fits, FitsAnswer}
use Rattle.cred_answers.specs.Rows.{CanAnswer}
use Rattle.cred_reader.proofs.Lists.{one_list}
use Rattle.cred_fits.specs.Content.{FitsFile}
use Rattle.cred_fits.specs.Fitting.{EventFits, EntriesFit, OneFittingList}
use Rattle.cred_fits.proofs.EventsFit.{each_at, events_fit}
use Rattle.cred_fits.proofs.InodesFit.{step_inodes, opening_inodes}
use Rattle.cred_fits.proofs.Ranges.{FitsSealed, FitsTask, FitsBroadcast, FitsPrepared, IsInRange, Good, some_fits}
use Rattle.cred_fits.proofs.RowLaws.{answers_are_of_their_rows}
use Rattle.cred_fits.proofs.ScriptFits.{script_fits}
use Rattle.cred_fits.proofs.Spent.{few_sealed, short}
use Rattle.cred_fits.proofs.StateFits.{IsKnown}
use Rattle.cred_fits.proofs.TaskFits.{step_fits}

opening_range : (script : Script) → IsInRange (opening script)
opening_range script = record {
  creds = All-nil FitsSealed;
  tasks = All-nil FitsTask;
  broadcasts = All-nil FitsBroadcast;
  prepared = All-nil FitsPrepared;
}

-- what stands in a state, and its files, are in range
abbrev IsFit : State → Type 0
IsFit s = IsInRange s × All FitsFile s.inodes

-- a script, and a journal so far of it
record IsGiven (script : Script) (journal : List Entry) : Type 0 where
  bytes : List ℕ
  read : script_of bytes ≡ Ok script
  few : length script.lines ≤ LINE_LIMIT
  so_far : SoFar script journal

-- fewer credentials are sealed than 64 bits count
creds_few : (script : Script) (journal : List Entry) (k : ℕ) → IsGiven script journal → k ≤ length journal → IsLong (length (state_at script journal k).creds)
creds_few script journal k given le =
    let few = given.few in omega (arith, few, le, few_sealed script journal k le, short script journal given.so_far)

known_by : (script : Script) (journal : List Entry) (k : ℕ) → IsGiven script journal → k ≤ length journal → IsFit (state_at script journal k)
    → IsKnown (state_at script journal k)
known_by script journal k given le fit = record {
  sound = sound_after script (take k journal);
  range = fit.0;
  creds = creds_few script journal k given le;
  tasks = few_after script (take k journal);
  inodes = fit.1;
}

event_at : (script : Script) (journal : List Entry) (k : ℕ) (entry : Entry) → IsGiven script journal → k < length journal → slice_get journal k ≡ Some entry
    → EventFits script entry
event_at script journal k entry given lt is =
    All-at (EventFits script) journal k entry is (events_fit given.bytes script journal given.read given.few given.so_far)

-- the step of an entry
stepped : (script : Script) (journal : List Entry) (k : ℕ) (entry : Entry) → IsGiven script journal → IsFit (state_at script journal k)
    → k < length journal → slice_get journal k ≡ Some entry → Good (step script (state_at script journal k) entry.line entry.event)
stepped script journal k entry given fit lt is =
    let fits = event_at script journal k entry given lt is in
    step_fits script (state_at script journal k) entry.line entry.event
    (known_by script journal k given (omega (arith, lt)) fit) fits.line fits.event

range_at : (script : Script) (journal : List Entry) (k : ℕ) → IsGiven script journal → k ≤ length journal → IsFit (state_at script journal k)
range_at script journal zero given le = (opening_range script, opening_inodes script (script_fits given.bytes script given.read).inodes)
range_at script journal (suc k) given le =
    let lt : k < length journal = omega (arith, le) in
    let at = slice_get_at journal k lt in
    let fit = range_at script journal k given (omega (arith, le)) in
    let entry = event_at script journal k at.0 given lt at.1 in
    let next : k + 1 ≡ suc k = omega arith in
    let after : state_at script journal (suc k) ≡ (step script (state_at script journal k) at.0.line at.0.event).1
    = ap (state_at script journal) (sym next) ∙ step_at script journal k at.0 at.1 in
    subst IsFit (sym after) (
      (stepped script journal k at.0 given fit lt at.1).1,
      step_inodes script (state_at script journal k) at.0.line at.0.event entry.event fit.1,
    )

entry_at : (script : Script) (journal : List Entry) (k : ℕ) (entry : Entry) → IsGiven script journal → k < length journal → slice_get journal k ≡ Some entry
    → Fits script entry
entry_at script journal k entry given lt is =
    let fits = event_at script journal k entry given lt is in
    let range = range_at script journal k given (omega (arith, lt)) in
    let answer : entry.answer ≡ (step script (state_at script journal k) entry.line entry.event).0
    = some_fits (λ e. e.answer ≡ (step script (state_at script journal k) e.line e.event).0) (slice_get journal k) entry
    (so_far_is_answered script journal given.so_far k lt) is in
    record {
      line = fits.line;
      event = fits.event;
      answer = subst FitsAnswer (sym answer) (stepped script journal k entry given range lt is).0;
      sound = record {
        names = fits.names;
        row = subst (CanAnswer entry.event) (sym answer) (answers_are_of_their_rows script (state_at script journal k) entry.line entry.event);
      };
    }

pub entries_fit : EntriesFit
entries_fit bytes script journal read few so_far =
    each_at (Fits script) journal (λ k lt.
    let at = slice_get_at journal k lt in
    subst (λ o. IfSome o (Fits script)) (sym at.1)
    (entry_at script journal k at.0 (record { bytes = bytes; read = read; few = few; so_far = so_far }) lt at.1))

pub one_fitting_list : OneFittingList
one_fitting_list bytes script journal read few so_far =
    let fits = entries_fit bytes script journal read few so_far in
    record { fits = fits; only = λ other others same. one_list script other journal others fits same }
