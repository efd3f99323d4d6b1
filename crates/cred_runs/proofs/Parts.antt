-- A run in threads whose parts are written as they come.
use Rattle.std.proofs.Common.{◌≡◌, ℕ, ◌+◌, List, [], ◌++◌, length, take, Option, Result, Ok, Err, refl, sym, ap, ◌∙◌, subst, append_assoc}
use Rattle.std.proofs.lemmas.List.{take_at}
use Rattle.std.proofs.lemmas.List.Concat.{flat_map-append}
use Rattle.std.specs.Io.KnownBytes.{Appends}
use Rattle.std.specs.Result.{OnOk, OnErr}
use Rattle.std.proofs.KnownBytes.{Appends-nil}
use Rattle.cred_io.specs.Ends.{AppendsPrefix}
use Rattle.cred_io.specs.declared.sink.SinkRefusal.{SinkRefusal}
use Rattle.cred_io.proofs.Known.{appends_more}
use Rattle.cred_event.specs.declared.entry.Entry.{Entry}
use Rattle.cred_model.specs.Script.{Script}
use Rattle.cred_model.specs.Journal.{IsLegal}
use Rattle.cred_report.specs.Text.{entry_text, text}
use Rattle.cred_report.proofs.Journals.{take_past}
use Rattle.cred_output.specs.Ends.{status_after}
use Rattle.cred_output.specs.declared.status.Status.TheVariants as status
use Rattle.cred_output.proofs.Prefixes.{refused_apart, whole}
use Rattle.cred_book.specs.Parts.{BeginsLegal}
use Rattle.cred_book.proofs.Rest.{begins_at_all}
use Rattle.cred_runs.specs.Legal.{AppendsLegal, BeginsLegalText}

text-append : (script : Script) (a b : List Entry) → text script (a ++ b) ≡ text script a ++ text script b
text-append script a b = flat_map-append (entry_text script) a b

no_more : (now : Option (List ℕ)) (bytes : List ℕ) → AppendsPrefix now now bytes
no_more now bytes = record { count = 0; written = Appends-nil now }

-- one part more was written
pub written_more : (script : Script) (journal earlier part : List Entry) (before now later : Option (List ℕ)) → journal ≡ earlier ++ part
    → Appends before now (text script earlier) → Appends now later (text script part) → Appends before later (text script journal)
written_more script journal earlier part before now later is first second =
    subst (Appends before later) (sym (ap (text script) is ∙ text-append script earlier part))
    (appends_more before now later (text script earlier) (text script part) first second)

-- a prefix of a part was written, after which the lanes can go on
pub begun : (script : Script) (journal earlier part : List Entry) (before now later : Option (List ℕ)) → journal ≡ earlier ++ part
    → BeginsLegal script journal → Appends before now (text script earlier) → AppendsPrefix now later (text script part)
    → BeginsLegalText script before later
begun script journal earlier part before now later is goes first second =
    let a : List ℕ = text script earlier in
    let b : List ℕ = text script part in
    let c : List ℕ = text script goes.more in
    let all : text script (journal ++ goes.more) ≡ a ++ (b ++ c)
    = text-append script journal goes.more ∙ ap (λ bs. bs ++ c) (ap (text script) is ∙ text-append script earlier part) ∙ append_assoc a b c in (
      journal ++ goes.more,
      goes.legal,
      record {
        count = length a + length (take second.count b);
        written = subst (Appends before later) (sym (ap (take (length a + length (take second.count b))) all ∙ take_past second.count a b c))
            (appends_more before now later a (take second.count b) first second.written);
      },
    )

-- the parts so far were written, after which the lanes can go on
pub stopped : (script : Script) (earlier : List Entry) (before now : Option (List ℕ)) → BeginsLegal script earlier
    → Appends before now (text script earlier) → BeginsLegalText script before now
stopped script earlier before now goes first = (
  earlier ++ goes.more,
  goes.legal,
  record {
    count = length (text script earlier);
    written = subst (Appends before now)
        (sym (ap (take (length (text script earlier))) (text-append script earlier goes.more) ∙ take_at (text script earlier) _ _ refl)) first;
  },
)

-- where nothing has run
pub none_written : (script : Script) (before : Option (List ℕ)) → BeginsLegalText script before before
none_written script before =
    let rest = begins_at_all script in
    (rest.more, rest.legal, no_more before (text script rest.more))

-- all parts were written
pub all_written : (script : Script) (journal earlier part : List Entry) (before now later : Option (List ℕ)) → journal ≡ earlier ++ part
    → IsLegal script journal → Appends before now (text script earlier) → Appends now later (text script part) → AppendsLegal script before later
all_written script journal earlier part before now later is legal first second =
    (journal, legal, written_more script journal earlier part before now later is first second)

pub begins_either : (script : Script) (before now : Option (List ℕ)) (r : Result (Unit {0}) SinkRefusal) → OnOk r (AppendsLegal script before now)
    → OnErr r (BeginsLegalText script before now) → BeginsLegalText script before now
begins_either script before now (Ok done) wrote begun = (wrote.0, wrote.1, whole before now (text script wrote.0) wrote.2)
begins_either script before now (Err refusal) wrote begun = begun

-- a text whose writing was answered by Done was written
pub legal_done : (script : Script) (before now : Option (List ℕ)) (r : Result (Unit {0}) SinkRefusal) → OnOk r (AppendsLegal script before now)
    → status_after r status.Done ≡ status.Done → AppendsLegal script before now
legal_done script before now (Ok done) all is = all
legal_done script before now (Err refusal) all is = absurd (refused_apart refusal is)
