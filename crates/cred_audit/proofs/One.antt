-- A text is that of one journal so far at most.
use Rattle.std.proofs.Common.{◌≡◌, ℕ, ◌+◌, ◌≤◌, List, [], ◌∷◌, ◌++◌, length, inl, inr, refl, sym, ap, ◌∙◌, arith}
use Rattle.std.proofs.lemmas.Bool.{cases_lt}
use Rattle.std.proofs.lemmas.List.{append-nil, length-append}
use Rattle.cred_ids.specs.Limits.{LINE_LIMIT}
use Rattle.cred_event.specs.declared.entry.Entry.{Entry}
use Rattle.cred_model.specs.Script.{Script}
use Rattle.cred_model.specs.Journal.{SoFar}
use Rattle.cred_report.specs.Text.{entry_text, text}
use Rattle.cred_audit.specs.One.{OneJournal}
use Rattle.cred_audit.specs.Report.{IsOneJournal, IsReport}
use Rattle.cred_audit.specs.Run.{RunHasEnded}
use Rattle.cred_audit.specs.declared.run.Run.{Run}
use Rattle.cred_audit.proofs.Prefixes.{Extends, longer_begins}
use Rattle.cred_audit.proofs.Reports.{Compared, entry_text-some, nothing_left, text_append}

-- only no entries have an empty text
no_entries : (script : Script) (entries : List Entry) → length (text script entries) ≡ 0 → entries ≡ []
no_entries script [] none = refl
no_entries script (entry ∷ entries) none =
    let long : length (text script (entry ∷ entries)) ≡ length (entry_text script entry) + length (text script entries)
    = length-append (entry_text script entry) (text script entries) in
    absurd (omega (arith, long, none, entry_text-some script entry))

-- a journal that begins with another, and has its text, is the other
is_begun : (script : Script) (a b : List Entry) → Extends a b → text script a ≡ text script b → b ≡ a
is_begun script a b more is =
    let all : text script a ≡ text script a ++ text script more.tail = is ∙ ap (text script) more.is ∙ text_append script a more.tail in
    let counts : length (text script a) ≡ length (text script a) + length (text script more.tail)
    = ap length all ∙ length-append (text script a) (text script more.tail) in
    more.is ∙ ap (λ (es : List Entry). a ++ es) (no_entries script more.tail (omega (arith, counts))) ∙ append-nil a

no_longer : (script : Script) (a b : List Entry) → length script.lines ≤ LINE_LIMIT → SoFar script a → SoFar script b
    → text script a ≡ text script b → length a ≤ length b → b ≡ a
no_longer script a b few h k is le = is_begun script a b (longer_begins script a b [] [] few h k (ap (λ bs. bs ++ []) is) le) is

pub one_journal : OneJournal
one_journal script journal few so_far other other_so_far is =
    elim (cases_lt (length journal) (length other)) [
      | inl longer ↦ no_longer script journal other few so_far other_so_far (sym is) (omega (arith, longer))
      | inr shorter ↦ sym (no_longer script other journal few other_so_far so_far is shorter)
    ]

only_report : (script : Script) (bytes : List ℕ) → length script.lines ≤ LINE_LIMIT → IsReport script bytes → IsOneJournal script bytes
only_report script bytes few report = record {
  report = report;
  only = one_journal script report.journal few report.legal.so_far;
}

-- where a report and its run have ended, no other journal has the report's text
pub one_left : (script : Script) (bytes rest : List ℕ) (number : ℕ) (run : Run) → Compared script bytes rest number run
    → rest ≡ [] → RunHasEnded run → IsOneJournal script bytes
one_left script bytes rest number run so none ended =
    only_report script bytes so.after.few (nothing_left script bytes rest number run so none ended)
