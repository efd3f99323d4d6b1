-- Prefixes of a text that was to be written.
use Rattle.std.proofs.Common.{◌≡◌, ℕ, ◌+◌, List, ◌++◌, length, take, drop, slice_range, ◌≤◌, Option, Result, Ok, Err, refl, arith}
use Rattle.std.proofs.lemmas.List.{take_all, take_at}
use Rattle.std.specs.Io.KnownBytes.{Appends, Keeps}
use Rattle.std.specs.Result.{OnOk, OnErr}
use Rattle.cred_io.specs.Ends.{AppendsPrefix}
use Rattle.cred_io.specs.declared.sink.SinkRefusal.{SinkRefusal}
use Rattle.cred_io.proofs.Known.{appends_more, appends_kept}
use Rattle.cred_event.specs.declared.entry.Entry.{Entry}
use Rattle.cred_io.specs.declared.sink.SinkRefusal.TheVariants as sink
use Rattle.cred_model.specs.Script.{Script}
use Rattle.cred_output.specs.Ends.{status_after}
use Rattle.cred_output.specs.declared.status.Status.TheVariants as status
use Rattle.cred_report.specs.Text.{text}
use Rattle.cred_report.proofs.Journals.{text_at, take_past}

-- a whole text is one of its prefixes
pub whole : (a b : Option (List ℕ)) (bytes : List ℕ) → Appends a b bytes → AppendsPrefix a b bytes
whole a b bytes all = record { count = length bytes; written = rw (take_all (length bytes) bytes (omega arith)) all }

pub prefix_either : (a b : Option (List ℕ)) (bytes : List ℕ) (r : Result (Unit {0}) SinkRefusal) → OnOk r (Appends a b bytes)
    → OnErr r (AppendsPrefix a b bytes) → AppendsPrefix a b bytes
prefix_either a b bytes (Ok done) all prefix = whole a b bytes all
prefix_either a b bytes (Err refusal) all prefix = prefix

-- a whole text that was written, and then kept
pub whole_kept : (a b c : Option (List ℕ)) (bytes : List ℕ) → Appends a b bytes → Keeps b c → AppendsPrefix a c bytes
whole_kept a b c bytes all kept = whole a c bytes (appends_kept a b c bytes all kept)

-- the entries before one, and a prefix of the text of some from there on
pub prefix_at : (a b c : Option (List ℕ)) (script : Script) (journal : List Entry) (at end : ℕ) → at ≤ end
    → Appends a b (text script (take at journal)) → AppendsPrefix b c (text script (slice_range journal at end))
    → AppendsPrefix a c (text script journal)
prefix_at a b c script journal at end le before this =
    let done : List ℕ = text script (take at journal) in
    let more : List ℕ = text script (slice_range journal at end) in
    let some : List ℕ = take this.count more in
    let here : take (length done + length some) (text script journal) ≡ done ++ some
    = rw (text_at script journal at end le) (take_past this.count done more (text script (drop end journal))) in
    record { count = length done + length some; written = rw here (appends_more a b c done some before this.written) }

-- the entries before one
pub prefix_before : (a b : Option (List ℕ)) (script : Script) (journal : List Entry) (at : ℕ)
    → Appends a b (text script (take at journal)) → AppendsPrefix a b (text script journal)
prefix_before a b script journal at before =
    let done : List ℕ = text script (take at journal) in
    let here : take (length done) (text script journal) ≡ done = rw (text_at script journal at at (omega arith)) (take_at done _ _ refl) in
    record { count = length done; written = rw here before }

-- what a flush after the whole text leaves
pub flushed : (a b c : Option (List ℕ)) (bytes : List ℕ) (r : Result (Unit {0}) SinkRefusal) → Appends a b bytes → Keeps b c
    → OnErr r (AppendsPrefix a c bytes)
flushed a b c bytes (Ok done) all kept = tt
flushed a b c bytes (Err refusal) all kept = whole_kept a b c bytes all kept

-- a text that was refused isn't done
pub refused_apart : (refusal : SinkRefusal) → status_after (Err refusal) status.Done ≡ status.Done → ⊥
refused_apart sink.Failed is = cc
refused_apart sink.Memory is = cc

-- a text whose writing was answered by Done was written
pub done_written : (a b : Option (List ℕ)) (bytes : List ℕ) (r : Result (Unit {0}) SinkRefusal) → OnOk r (Appends a b bytes)
    → status_after r status.Done ≡ status.Done → Appends a b bytes
done_written a b bytes (Ok done) all is = all
done_written a b bytes (Err refusal) all is = absurd (refused_apart refusal is)
