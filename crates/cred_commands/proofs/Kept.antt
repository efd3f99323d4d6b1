-- A run in order whose entries are written as they come.
use Rattle.std.proofs.Common.{◌≡◌, ℕ, ◌+◌, ◌≤◌, List, [], ◌++◌, length, take, Option, Result, Ok, Err, refl, sym, ap, ◌∙◌, subst, append_assoc, arith}
use Rattle.std.proofs.lemmas.List.Concat.{flat_map-append}
use Rattle.std.specs.Io.KnownBytes.{Appends}
use Rattle.std.proofs.KnownBytes.{Appends-nil}
use Rattle.cred_io.specs.declared.sink.SinkRefusal.{SinkRefusal}
use Rattle.cred_commands.proofs.Order.{begins_sequence, nothing_past}
use Rattle.cred_output.proofs.Prefixes.{refused_apart, whole}
use Rattle.std.specs.Result.{OnOk, OnErr}
use Rattle.cred_io.specs.Ends.{AppendsPrefix}
use Rattle.cred_io.proofs.Known.{appends_more}
use Rattle.cred_event.specs.declared.entry.Entry.{Entry}
use Rattle.cred_model.specs.Script.{Script}
use Rattle.cred_model.specs.State.{State, opening}
use Rattle.cred_commands.specs.Order.{HasRun, IsAfter}
use Rattle.cred_commands.proofs.Ends.{goes_to_end, is_whole, nothing_run}
use Rattle.cred_report.specs.Text.{entry_text, text}
use Rattle.cred_report.proofs.Journals.{take_past}
use Rattle.cred_output.specs.Ends.{status_after}
use Rattle.cred_output.specs.declared.status.Status.TheVariants as status
use Rattle.cred_commands.specs.Sequences.{AppendsSequence, WritesSequenceStart, HandsOver}
use Rattle.cred_commands.specs.Writing.{WritesLine}

-- So many lines have run, and the text of their entries was written, but for what is kept.
pub record Kept (script : Script) (past : ℕ) (state : State) (kept : List ℕ) (before now : Option (List ℕ)) : Type 0 where
  pub journal : List Entry
  pub after : IsAfter script journal past state
  pub done : List ℕ
  pub all : text script journal ≡ done ++ kept
  pub written : Appends before now done

pub kept_has_run : (script : Script) (past : ℕ) (state : State) (kept : List ℕ) (before now : Option (List ℕ))
    → Kept script past state kept before now → HasRun script past state
kept_has_run script past state kept before now is = (is.journal, is.after)

pub kept_first : (script : Script) (state : State) (before : Option (List ℕ)) → state ≡ opening script → Appends before before []
    → Kept script 0 state [] before before
kept_first script state before is none = record {
  journal = [];
  after = nothing_run script state is;
  done = [];
  all = refl;
  written = none;
}

text-append : (script : Script) (a b : List Entry) → text script (a ++ b) ≡ text script a ++ text script b
text-append script a b = flat_map-append (entry_text script) a b

-- a line more
pub kept_more : (script : Script) (past : ℕ) (first after : State) (had has : List ℕ) (before now : Option (List ℕ))
    → Kept script past first had before now → WritesLine script past first after had has → Kept script (past + 1) after has before now
kept_more script past first after had has before now is writes = record {
  journal = is.journal ++ writes.made;
  after = subst (λ js. IsAfter script (is.journal ++ js) (past + 1) after) (sym writes.runs.has_is) (writes.runs.leads is.journal is.after);
  done = is.done;
  all = text-append script is.journal writes.made ∙ ap (λ bs. bs ++ text script writes.made) is.all
      ∙ append_assoc is.done had (text script writes.made) ∙ ap (λ bs. is.done ++ bs) (sym writes.written);
  written = is.written;
}

-- some was written
pub kept_fewer : (script : Script) (past : ℕ) (state : State) (had has : List ℕ) (before now later : Option (List ℕ))
    → Kept script past state had before now → HandsOver had has now later → Kept script past state has before later
kept_fewer script past state had has before now later is hands = record {
  journal = is.journal;
  after = is.after;
  done = is.done ++ hands.those;
  all = is.all ∙ ap (λ bs. is.done ++ bs) hands.are ∙ sym (append_assoc is.done hands.those has);
  written = appends_more before now later is.done hands.those is.written hands.written;
}

-- a prefix of a text that goes on
prefix_on : (before now later : Option (List ℕ)) (done kept more whole : List ℕ)
    → whole ≡ done ++ (kept ++ more) → Appends before now done → AppendsPrefix now later kept → AppendsPrefix before later whole
prefix_on before now later done kept more whole all first second = record {
  count = length done + length (take second.count kept);
  written = subst (Appends before later) (sym (ap (take (length done + length (take second.count kept))) all ∙ take_past second.count done kept more))
      (appends_more before now later done (take second.count kept) first second.written);
}

-- what was written begins the text of the sequence
pub kept_begins : (script : Script) (past : ℕ) (state : State) (kept : List ℕ) (before now later : Option (List ℕ))
    → Kept script past state kept before now → AppendsPrefix now later kept → WritesSequenceStart script before later
kept_begins script past state kept before now later is prefix =
    let rest = goes_to_end script is.journal past state is.after in
    let more : List ℕ = text script rest.more in
    let all : text script (is.journal ++ rest.more) ≡ is.done ++ (kept ++ more)
    = text-append script is.journal rest.more ∙ ap (λ bs. bs ++ more) is.all ∙ append_assoc is.done kept more in
    (is.journal ++ rest.more, rest.sequence, prefix_on before now later is.done kept more _ all is.written prefix)

-- where all lines have run, and all was written, it is the sequence's
pub kept_whole : (script : Script) (past : ℕ) (state : State) (kept : List ℕ) (before now later : Option (List ℕ))
    → Kept script past state kept before now → length script.lines ≤ past → Appends now later kept → AppendsSequence script before later
kept_whole script past state kept before now later is all rest = (
  is.journal,
  is_whole script is.journal past state is.after all,
  subst (Appends before later) (sym is.all) (appends_more before now later is.done kept is.written rest),
)

-- ---- what it leaves

no_more : (now : Option (List ℕ)) (bytes : List ℕ) → AppendsPrefix now now bytes
no_more now bytes = record { count = 0; written = Appends-nil now }

-- where nothing was written since
pub kept_stops : (script : Script) (past : ℕ) (state : State) (kept : List ℕ) (before now : Option (List ℕ))
    → Kept script past state kept before now → WritesSequenceStart script before now
kept_stops script past state kept before now is = kept_begins script past state kept before now now is (no_more now kept)

-- where nothing has run
pub none_begins : (script : Script) (before : Option (List ℕ)) → WritesSequenceStart script before before
none_begins script before =
    let rest = begins_sequence script [] 0 (nothing_past script) (λ k lt. absurd (omega (arith, lt))) in
    (rest.more, rest.sequence, no_more before (text script rest.more))

pub begins_either : (script : Script) (before now : Option (List ℕ)) (r : Result (Unit {0}) SinkRefusal) → OnOk r (AppendsSequence script before now)
    → OnErr r (WritesSequenceStart script before now) → WritesSequenceStart script before now
begins_either script before now (Ok done) wrote begun = (wrote.0, wrote.1, whole before now (text script wrote.0) wrote.2)
begins_either script before now (Err refusal) wrote begun = begun

-- a sequence's text whose writing was answered by Done was written
pub sequence_done : (script : Script) (before now : Option (List ℕ)) (r : Result (Unit {0}) SinkRefusal) → OnOk r (AppendsSequence script before now)
    → status_after r status.Done ≡ status.Done → AppendsSequence script before now
sequence_done script before now (Ok done) all is = all
sequence_done script before now (Err refusal) all is = absurd (refused_apart refusal is)
