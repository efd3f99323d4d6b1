-- What a run of the bytes of a script leaves, by what came of the bytes.
use Rattle.std.proofs.Common.{◌≡◌, ℕ, inr, List, Option, Result, Err, sym, subst, ◌∙◌}
use Rattle.std.specs.Prelude.{IfOk, IfSome}
use Rattle.std.specs.Io.KnownBytes.{Appends}
use Rattle.std.proofs.KnownBytes.{Consumes-whole}
use Rattle.std.proofs.lemmas.Result.{IfOk-weaker, MatchResult-weaker}
use Rattle.cred_event.specs.declared.entry.Entry.{Entry}
use Rattle.cred_fits.proofs.EntriesFit.{one_fitting_list}
use Rattle.cred_io.specs.Ends.{AppendsPrefix, ReadsAll}
use Rattle.cred_laws.proofs.AnsweredLaws.{so_far_is_answered}
use Rattle.cred_laws.proofs.Lawful.{lawful}
use Rattle.cred_model.specs.Journal.{IsLegal}
use Rattle.cred_model.specs.Script.{Script}
use Rattle.cred_report.specs.Text.{text}
use Rattle.cred_grammar.specs.Grammar.{script_of}
use Rattle.cred_grammar.specs.ReadAnswers.{ReadsAs}
use Rattle.cred_grammar.specs.declared.refusal.ScriptRefusal.{ScriptRefusal}
use Rattle.cred_grammar.specs.declared.refusal.ScriptRefusal.TheVariants as refusal
use Rattle.cred_spelling.specs.declared.reason.Reason.{Reason}
use Rattle.cred_output.specs.Ends.{BeginsOne, IsForText, IsWhole, IsWithinLimits, Reports, Suits}
use Rattle.cred_output.specs.Cuts.{Cuts}
use Rattle.cred_output.specs.Leaves.{IsReading, LeavesReport, RunsBytes}
use Rattle.cred_output.specs.Scripts.{IsScript, NoJournal, ReadsScript}
use Rattle.cred_output.specs.Messages.{SaysRefusal, WritesMessage}
use Rattle.cred_output.specs.Texts.{bad_text}
use Rattle.cred_output.specs.declared.message.Message.{Message}
use Rattle.cred_output.specs.declared.status.Status.{Status}
use Rattle.cred_output.specs.declared.status.Status.TheVariants as status
use Rattle.cred_output.proofs.Cuts.{cut_written}
use Rattle.cred_output.proofs.Finished.{for_text_apart}
use Rattle.cred_output.proofs.Messages.{WroteOne, by_ends, or_so, same_or_so, told_one}

-- a whole report that was written, of one of these journals, which the script may have
reported : (These : Script → List Entry → Type 0) (a b : Option (List ℕ)) (bytes : List ℕ) (script : Script) (journal : List Entry)
    → IsScript bytes script → These script journal → IsLegal script journal → Appends a b (text script journal)
    → Reports These a b bytes
reported These a b bytes script journal is one legal all = record {
  script = script;
  read = is.read;
  journal = journal;
  one = one;
  legal = legal;
  only = one_fitting_list bytes script journal is.read is.few legal.so_far;
  lawful = lawful script journal (so_far_is_answered script journal legal.so_far);
  written = all;
}

-- the status of the text of bytes that are a script suits them
for_text_suits : (bytes : List ℕ) (script : Script) (answer : Status) → IsScript bytes script → IsForText answer → Suits bytes answer
for_text_suits bytes script status.Done is text = (is.within, rw is.read tt)
for_text_suits bytes script status.WriteFault is text = is.within
for_text_suits bytes script status.Memory is text = tt
for_text_suits bytes script status.Usage is text = absurd text
for_text_suits bytes script status.Bad is text = absurd text
for_text_suits bytes script status.ReadFault is text = absurd text
for_text_suits bytes script status.TooLarge is text = absurd text
for_text_suits bytes script status.NotLegal is text = absurd text

-- where they are a script, of which a report of one of these journals was to be written
ran_script : (These : Script → List Entry → Type 0) (bytes : List ℕ) (script : Script) (answer : Status) (a b : Option (List ℕ)) (untouched : Type 0)
    → IsScript bytes script → ((journal : List Entry) → These script journal → IsLegal script journal)
    → (answer ≡ status.Done → (journal : List Entry) × These script journal × Appends a b (text script journal))
    → (journal : List Entry) × These script journal × AppendsPrefix a b (text script journal)
    → IsForText answer → RunsBytes These bytes answer a b untouched
ran_script These bytes script answer a b untouched is legal all begun only = record {
  done = λ done. let wrote = all done in reported These a b bytes script wrote.0 is wrote.1 (legal wrote.0 wrote.1) wrote.2;
  bad = λ e. absurd (for_text_apart answer status.Bad only (λ t. t) e);
  too_large = λ e. absurd (for_text_apart answer status.TooLarge only (λ t. t) e);
  no_read_fault = for_text_apart answer status.ReadFault only (λ t. t);
  suits = for_text_suits bytes script answer is only;
  prefix = inr (is.within, rw is.read begun);
  cut = inr (is.within, rw is.read (cut_written a b script begun.0 (legal begun.0 begun.1).so_far begun.2));
}

-- what is said of bytes that are no script
record IsBad (bytes : List ℕ) (its : Status) (said : List ℕ) : Type 0 where
  bad : ℕ × Reason
  its_is : its ≡ status.Bad
  read : script_of bytes ≡ Err bad
  said_is : said ≡ bad_text bad

is_bad : (bytes : List ℕ) (r : ScriptRefusal) (its : Status) (said : List ℕ) → ReadsAs (λ (s : Script). s) (Err r) (script_of bytes)
    → SaysRefusal r its said → IsBad bytes its said
is_bad bytes (refusal.Bad line reason) its said given says = record { bad = (line, reason); its_is = says.0; read = given; said_is = says.1 }
is_bad bytes refusal.Memory its said given says = absurd says

pub refusal_whole : (r : ScriptRefusal) (its : Status) (said : List ℕ) → SaysRefusal r its said → IsWhole its
refusal_whole (refusal.Bad line reason) its said says = subst IsWhole (sym says.0) tt
refusal_whole refusal.Memory its said says = absurd says

bad_suits : (bytes : List ℕ) (bad : ℕ × Reason) → IsWithinLimits bytes → script_of bytes ≡ Err bad → Suits bytes status.Bad
bad_suits bytes bad within read = (within, rw read tt)

bad_begins : (a b : Option (List ℕ)) (bytes : List ℕ) (bad : ℕ × Reason) → script_of bytes ≡ Err bad
    → AppendsPrefix a b (bad_text bad) → BeginsOne NoJournal a b bytes
bad_begins a b bytes bad read prefix = rw read prefix

bad_cuts : (a b : Option (List ℕ)) (bytes : List ℕ) (bad : ℕ × Reason) → script_of bytes ≡ Err bad
    → AppendsPrefix a b (bad_text bad) → Cuts a b bytes
bad_cuts a b bytes bad read prefix = rw read prefix

-- where what is said of such bytes was to be said
bad_said : (bytes : List ℕ) (answer : Status) (a b : Option (List ℕ)) (untouched : Type 0)
    → IsWithinLimits bytes → WroteOne (IsBad bytes) answer a b untouched → RunsBytes NoJournal bytes answer a b untouched
bad_said bytes answer a b untouched within one = record {
  done = λ e. let all = one.whole (subst IsWhole (sym e) tt) in let no : status.Bad ≡ status.Done = sym all.1.its_is ∙ e in cc;
  bad = λ e.
      let all = one.whole (subst IsWhole (sym e) tt) in
      record { bad = all.1.bad; read = all.1.read; written = subst (Appends a b) all.1.said_is all.2 };
  too_large = λ e. absurd (one.no_too_large e);
  no_read_fault = one.no_read_fault;
  suits = by_ends (Suits bytes) answer one.ends
      (λ is. subst (Suits bytes) (sym is.1.its_is) (bad_suits bytes is.1.bad within is.1.read)) within tt;
  prefix = or_so (λ some. (within, bad_begins a b bytes some.2.bad some.2.read (subst (AppendsPrefix a b) some.2.said_is some.3))) one.prefix;
  cut = or_so (λ some. (within, bad_cuts a b bytes some.2.bad some.2.read (subst (AppendsPrefix a b) some.2.said_is some.3))) one.prefix;
}

-- where no script was read of them
pub ran_refused : {E : Type 0} (bytes : List ℕ) (r : ScriptRefusal) (said : Result Message E) (answer : Status) (a b : Option (List ℕ)) (untouched : Type 0)
    → IsWithinLimits bytes → ReadsAs (λ (s : Script). s) (Err r) (script_of bytes)
    → IfOk said (λ s. SaysRefusal r s.status s.text.items) → WritesMessage said answer a b untouched → RunsBytes NoJournal bytes answer a b untouched
ran_refused bytes r said answer a b untouched within given says tells =
    let bad : IfOk said (λ s. IsBad bytes s.status s.text.items) = IfOk-weaker said _ _ (λ s is. is_bad bytes r s.status s.text.items given is) says in
    let has : IfOk said (λ s. IsWhole s.status) = IfOk-weaker said _ _ (λ s is. subst IsWhole (sym is.its_is) tt) bad in
    bad_said bytes answer a b untouched within (told_one (IsBad bytes) said answer a b untouched bad has tells)

-- ---- what a command leaves that has read the bytes to their end

pub leaves_report : (These : Script → List Entry → Type 0) (before after a b : Option (List ℕ)) (bytes : List ℕ) (answer : Status) (untouched : Type 0)
    → (untouched → b ≡ a) → ReadsAll before after bytes → RunsBytes These bytes answer a b untouched → LeavesReport These answer before after a b
leaves_report These before after a b bytes answer untouched same read runs = record {
  done = λ e. record { input = bytes; read = read; within = (subst (Suits bytes) e runs.suits).0; so = runs.done e };
  bad = λ e. record { input = bytes; read = read; within = (subst (Suits bytes) e runs.suits).0; so = runs.bad e };
  no_usage = λ e. subst (Suits bytes) e runs.suits;
  no_not_legal = λ e. subst (Suits bytes) e runs.suits;
  too_large = λ e. inr (record { input = bytes; read = read; above = (runs.too_large e).0 });
  write_fault = λ e. record { input = bytes; read = read; within = subst (Suits bytes) e runs.suits; so = tt };
  suits = λ input is. subst (λ o. IfSome o (λ i. Suits i answer)) is (Consumes-whole before after bytes (λ i. Suits i answer) read.taken read.ended runs.suits);
  prefix = same_or_so same (λ some. record { input = bytes; read = read; within = some.0; so = some.1 }) runs.prefix;
  cut = same_or_so same (λ some. record { input = bytes; read = read; within = some.0; so = some.1 }) runs.cut;
}

-- where what was left is a script, of which a report of one of these journals was to be written
pub leaves_script : (These : Script → List Entry → Type 0) (before after a b : Option (List ℕ)) (script : Script) (answer : Status)
    → ReadsScript before after script → ((journal : List Entry) → These script journal → IsLegal script journal)
    → (answer ≡ status.Done → (journal : List Entry) × These script journal × Appends a b (text script journal))
    → (journal : List Entry) × These script journal × AppendsPrefix a b (text script journal)
    → IsForText answer → LeavesReport These answer before after a b
leaves_script These before after a b script answer has legal all begun only =
    leaves_report These before after a b has.input answer (b ≡ a) (λ same. same) has.read
    (ran_script These has.input script answer a b (b ≡ a) has.is legal all begun only)

begins_any : (These : Script → List Entry → Type 0) (a b : Option (List ℕ)) (bytes : List ℕ) → BeginsOne NoJournal a b bytes → BeginsOne These a b bytes
begins_any These a b bytes begins = MatchResult-weaker (script_of bytes) begins (λ script some. absurd some.1) (λ bad prefix. prefix)

-- where no script was read no journal was begun, whichever may come about
pub leaves_any : (These : Script → List Entry → Type 0) (answer : Status) (before after a b : Option (List ℕ))
    → LeavesReport NoJournal answer before after a b → LeavesReport These answer before after a b
leaves_any These answer before after a b is = record {
  done = λ e. absurd (is.done e).so.one;
  bad = is.bad;
  no_usage = is.no_usage;
  no_not_legal = is.no_not_legal;
  too_large = is.too_large;
  write_fault = is.write_fault;
  suits = is.suits;
  prefix = or_so (λ some. record { input = some.input; read = some.read; within = some.within; so = begins_any These a b some.input some.so }) is.prefix;
  cut = is.cut;
}

-- no text is told as a fault of the source
pub reads_on : (limit : ℕ) (answer : Status) (before after : Option (List ℕ)) (faults now : ℕ) → IsForText answer
    → IsReading limit status.Done before after faults now → IsReading limit answer before after faults now
reads_on limit answer before after faults now only is = record {
  cause = record {
    rose = λ e. absurd (for_text_apart answer status.ReadFault only (λ t. t) e);
    stayed = λ no_fault. is.cause.stayed (λ e. cc);
    later = is.cause.later;
  };
  fault = λ e. absurd (for_text_apart answer status.ReadFault only (λ t. t) e);
  no_more = is.no_more;
}
