-- What is known of a report of which some entries were compared.
use Rattle.std.proofs.Common.{◌≡◌, ◌≢◌, ℕ, ◌+◌, ◌<◌, ◌≤◌, ◌==◌, true, false, List, [], ◌∷◌, ◌++◌, length, take, drop, Option, Some, None, is_some, Result, Ok}
use Rattle.std.proofs.Common.{Err, Bor, codes, decimal, inl, inr, refl, sym, ap, ◌∙◌, subst, append_assoc, arith}
use Rattle.std.specs.Option.{MatchOption}
use Rattle.std.specs.Result.{IfOk}
use Rattle.std.proofs.lemmas.Bool.{cases_lt}
use Rattle.std.proofs.lemmas.Bool.Decides.{nat_tests}
use Rattle.std.proofs.lemmas.List.{append-nil, append_cancel_left, length-append, length-take-le, take-append-drop}
use Rattle.std.proofs.lemmas.List.Concat.{flat_map-append}
use Rattle.cred_ids.specs.Limits.{LINE_LIMIT}
use Rattle.cred_event.specs.declared.entry.Entry.{Entry}
use Rattle.cred_model.specs.Script.{Script}
use Rattle.cred_model.specs.Journal.{next, SoFar}
use Rattle.cred_report.specs.Text.{entry_text, text}
use Rattle.cred_report.specs.Events.{event_text}
use Rattle.cred_report.specs.Answers.{answer_text}
use Rattle.cred_audit.specs.Report.{IsReport, Begins, IsFault}
use Rattle.cred_audit.specs.Next.{ComesNext, IsLaneAt}
use Rattle.cred_audit.specs.Run.{IsRunAfter, IsRun, GoesOn, ReadsEntry, GoesWrong, RunHasEnded, IsLeft}
use Rattle.cred_audit.specs.declared.run.Run.{Run}
use Rattle.cred_audit.proofs.Prefixes.{longer_begins}
use Rattle.cred_laws.proofs.Prefixes.{so_far_prefix, comes_behind}

-- ---- texts

pub text_append : (script : Script) (a b : List Entry) → text script (a ++ b) ≡ text script a ++ text script b
text_append script a b = flat_map-append (entry_text script) a b

text_push : (script : Script) (journal : List Entry) (entry : Entry)
    → text script (journal ++ entry ∷ []) ≡ text script journal ++ entry_text script entry
text_push script journal entry =
    text_append script journal (entry ∷ []) ∙ ap (λ bs. text script journal ++ bs) (append-nil (entry_text script entry))

-- no text of an entry is empty
pub entry_text-some : (script : Script) (entry : Entry) → 0 < length (entry_text script entry)
entry_text-some script entry =
    let line_text = decimal entry.line ++ codes " " ++ event_text script entry.event ++ codes " -> " ++ answer_text entry.answer in
    let long : length (entry_text script entry) ≡ length line_text + length (codes "\n") = length-append line_text (codes "\n") in
    let one : length (codes "\n") ≡ 1 = refl in
    omega (arith, long, one)

-- ---- the entry after those that were compared

-- the rest begins with the text of an entry that comes next
record GoesRight (script : Script) (journal : List Entry) (rest : List ℕ) : Type 0 where
  entry : Entry
  next : ComesNext script journal entry
  more : List ℕ
  is : rest ≡ entry_text script entry ++ more

-- the report ends where the journal does
record IsWhole (script : Script) (journal : List Entry) (rest : List ℕ) : Type 0 where
  over : (lane : ℕ) → next script journal lane ≡ None
  none : rest ≡ []

right_by : (script : Script) (bytes : List ℕ) (journal : List Entry) (rest : List ℕ) (other tail : List Entry) (behind : List ℕ)
    → SoFar script other → length journal < length other → other ≡ journal ++ tail
    → bytes ≡ text script journal ++ rest → bytes ≡ text script other ++ behind
    → GoesRight script journal rest
right_by script bytes journal rest other [] behind so_far longer is here there =
    let same : length other ≡ length journal = ap length (is ∙ append-nil journal) in
    absurd (omega (arith, longer, same))
right_by script bytes journal rest other (entry ∷ entries) behind so_far longer is here there =
    let own = text script journal in
    let all : text script other ≡ own ++ (entry_text script entry ++ text script entries)
    = ap (text script) is ∙ text_append script journal (entry ∷ entries) in
    let both : own ++ rest ≡ own ++ ((entry_text script entry ++ text script entries) ++ behind)
    = sym here ∙ there ∙ ap (λ bs. bs ++ behind) all
    ∙ append_assoc own (entry_text script entry ++ text script entries) behind in
    record {
      entry = entry;
      next = comes_behind script journal entry entries (subst (SoFar script) is so_far);
      more = text script entries ++ behind;
      is = append_cancel_left own rest ((entry_text script entry ++ text script entries) ++ behind) both
          ∙ append_assoc (entry_text script entry) (text script entries) behind;
    }

-- where the bytes begin with a longer journal so far
right : (script : Script) (bytes : List ℕ) (journal : List Entry) (rest : List ℕ) (other : List Entry) (behind : List ℕ)
    → length script.lines ≤ LINE_LIMIT → SoFar script journal → SoFar script other → length journal < length other
    → bytes ≡ text script journal ++ rest → bytes ≡ text script other ++ behind
    → GoesRight script journal rest
right script bytes journal rest other behind few so_far other_so_far longer here there =
    let more = longer_begins script journal other rest behind few so_far other_so_far (sym here ∙ there) (omega (arith, longer)) in
    right_by script bytes journal rest other more.tail behind other_so_far longer more.is here there

whole_by : (script : Script) (bytes : List ℕ) (journal : List Entry) (rest : List ℕ) (other tail : List Entry)
    → SoFar script journal → ((lane : ℕ) → next script other lane ≡ None) → journal ≡ other ++ tail
    → bytes ≡ text script journal ++ rest → bytes ≡ text script other
    → IsWhole script journal rest
whole_by script bytes journal rest other [] so_far over is here there =
    let same : journal ≡ other = is ∙ append-nil other in
    let own = text script journal in
    let both : own ++ rest ≡ own ++ []
    = sym here ∙ there ∙ ap (text script) (sym same) ∙ sym (append-nil own) in
    record {
      over = λ lane. ap (λ (es : List Entry). next script es lane) same ∙ over lane;
      none = append_cancel_left own rest [] both;
    }
whole_by script bytes journal rest other (entry ∷ entries) so_far over is here there =
    let comes = comes_behind script other entry entries (subst (SoFar script) is so_far) in
    let both : Some entry ≡ None = sym comes.2 ∙ over comes.0 in
    cc

-- ---- verdicts

prefix_begins : (script : Script) (bytes : List ℕ) (journal : List Entry) (rest : List ℕ) (count : ℕ)
    → SoFar script journal → bytes ≡ text script journal ++ rest → count ≤ length journal → Begins script bytes count
prefix_begins script bytes journal rest count so_far is le =
    let begun = take count journal in
    let split : begun ++ drop count journal ≡ journal = take-append-drop count journal in
    record {
      journal = begun;
      so_far = so_far_prefix script begun (drop count journal) (subst (SoFar script) (sym split) so_far);
      counts = length-take-le count journal le;
      rest = text script (drop count journal) ++ rest;
      is = is ∙ ap (λ (es : List Entry). text script es ++ rest) (sym split)
          ∙ ap (λ bs. bs ++ rest) (text_append script begun (drop count journal))
          ∙ append_assoc (text script begun) (text script (drop count journal)) rest;
    }

-- where the report neither goes on with an entry that comes next nor ends with the journal, it goes wrong here
fault : (script : Script) (bytes : List ℕ) (journal : List Entry) (rest : List ℕ) → length script.lines ≤ LINE_LIMIT → SoFar script journal
    → bytes ≡ text script journal ++ rest → (GoesRight script journal rest → ⊥) → (IsWhole script journal rest → ⊥)
    → IsFault script bytes (length journal + 1)
fault script bytes journal rest few so_far is not_right not_whole = record {
  other = λ report.
      let all = text script report.journal in
      let ends : bytes ≡ all ++ [] = report.is ∙ sym (append-nil all) in
      elim (cases_lt (length journal) (length report.journal)) [
        | inl longer ↦ not_right (right script bytes journal rest report.journal [] few so_far report.legal.so_far longer is ends)
        | inr shorter ↦
            let more = longer_begins script report.journal journal [] rest few report.legal.so_far so_far (sym ends ∙ is) shorter in
            not_whole (whole_by script bytes journal rest report.journal more.tail so_far report.legal.ended more.is is report.is)
      ];
  before = λ count lt. prefix_begins script bytes journal rest count so_far is (omega (arith, lt));
  wrong = λ begins.
      not_right (right script bytes journal rest begins.journal begins.rest few so_far begins.so_far
      (omega (arith, begins.counts)) is begins.is);
}

-- ---- the pass over a report

-- The bytes begin with the journal that the run has come to, whose entries are one fewer than this
-- number, and these are left.
pub record Compared (script : Script) (bytes rest : List ℕ) (entry : ℕ) (run : Run) : Type 0 where
  pub journal : List Entry
  pub after : IsRunAfter script journal run
  pub counts : length journal + 1 ≡ entry
  pub is : bytes ≡ text script journal ++ rest
  pub few : entry + length rest ≤ length bytes + 1

pub nothing_compared : (script : Script) (bytes : List ℕ) (run : Run) → IsRunAfter script [] run → Compared script bytes bytes 1 run
nothing_compared script bytes run after = record {
  journal = [];
  after = after;
  counts = omega arith;
  is = refl;
  few = omega arith;
}

-- the run has come to some journal
pub is_run : (script : Script) (bytes rest : List ℕ) (number : ℕ) (run : Run) → Compared script bytes rest number run → IsRun script run
is_run script bytes rest number run so = (so.journal, so.after)

pub shorter_behind : (script : Script) (before after : Run) (rest behind : List ℕ) → ReadsEntry script before after rest behind
    → length behind < length rest
shorter_behind script before after rest behind passes =
    let shorter : length rest ≡ length (entry_text script passes.entry) + length behind
    = ap length passes.is ∙ length-append (entry_text script passes.entry) behind in
    omega (arith, shorter, entry_text-some script passes.entry)

pub one_more_compared : (script : Script) (bytes rest : List ℕ) (number : ℕ) (before after : Run) (behind : List ℕ)
    → Compared script bytes rest number before → ReadsEntry script before after rest behind
    → Compared script bytes behind (number + 1) after
one_more_compared script bytes rest number before after behind so passes =
    let entry = passes.entry in
    let fewer = shorter_behind script before after rest behind passes in
    let long = length-append so.journal (entry ∷ []) in
    let counted = so.counts in
    let few = so.few in
    record {
      journal = so.journal ++ entry ∷ [];
      after = passes.leads so.journal so.after;
      counts = omega (arith, long, counted);
      is = so.is ∙ ap (λ bs. text script so.journal ++ bs) passes.is
          ∙ sym (append_assoc (text script so.journal) (entry_text script entry) behind)
          ∙ ap (λ bs. bs ++ behind) (sym (text_push script so.journal entry));
      few = omega (arith, fewer, few);
    }

-- where the entry's text follows, the pass goes on; where it doesn't, no entry that comes next has the text
pub followed_by : {E : Type 0} (script : Script) (bytes : List ℕ) (before after : Run) (lane : ℕ) (entry : Entry)
    (result : Result (Option (Bor (List ℕ))) E) → GoesOn script lane before after (Some entry) → IsLaneAt script bytes (Some lane)
    → IfOk result (λ found. MatchOption found ((rest : List ℕ) → bytes ≢ entry_text script entry ++ rest) (λ rest. bytes ≡ entry_text script entry ++ rest.now))
    → IfOk result (λ found. MatchOption found (GoesWrong script before bytes) (λ rest. ReadsEntry script before after bytes rest.now))
followed_by script bytes before after lane entry (Err e) on at is = tt
followed_by script bytes before after lane entry (Ok (Some rest)) on at is = record { entry = entry; leads = on.leads; is = is }
followed_by script bytes before after lane entry (Ok None) on at differs = λ journal is other rest comes begins.
    let both : Some lane ≡ Some comes.0 = at other rest comes.0 comes.1 begins in
    let one : lane ≡ comes.0 = cc in
    let nexts : Some other ≡ Some entry = sym comes.2 ∙ ap (next script journal) (sym one) ∙ on.next journal is in
    let same : other ≡ entry = cc in
    differs rest (begins ∙ ap (λ (e : Entry). entry_text script e ++ rest) same)

-- where bytes are left, and the text of no entry that comes next follows
pub wrong_entry : (script : Script) (bytes rest : List ℕ) (number : ℕ) (run : Run) → Compared script bytes rest number run
    → rest ≢ [] → GoesWrong script run rest → IsFault script bytes number
wrong_entry script bytes rest number run so some wrong =
    subst (IsFault script bytes) so.counts
    (fault script bytes so.journal rest so.after.few so.after.so_far so.is
    (λ right. wrong so.journal so.after right.entry right.more right.next right.is)
    (λ whole. some whole.none))

-- where no bytes are left, and some lane has a next entry
pub stops_early : (script : Script) (bytes rest : List ℕ) (number : ℕ) (run : Run) → Compared script bytes rest number run
    → rest ≡ [] → IsLeft run → IsFault script bytes number
stops_early script bytes rest number run so none left =
    subst (IsFault script bytes) so.counts
    (fault script bytes so.journal rest so.after.few so.after.so_far so.is
    (λ right.
    let long : length rest ≡ length (entry_text script right.entry) + length right.more
    = ap length right.is ∙ length-append (entry_text script right.entry) right.more in
    let empty : length rest ≡ 0 = ap length none in
    absurd (omega (arith, long, empty, entry_text-some script right.entry)))
    (λ whole.
    let lane = left script so.journal so.after in
    let test : is_some (next script so.journal lane.0) ≡ false = ap is_some (whole.over lane.0) in
    let both : true ≡ false = sym lane.1 ∙ test in
    cc))

-- where neither is left
pub nothing_left : (script : Script) (bytes rest : List ℕ) (number : ℕ) (run : Run) → Compared script bytes rest number run
    → rest ≡ [] → RunHasEnded run → IsReport script bytes
nothing_left script bytes rest number run so none ended = record {
  journal = so.journal;
  legal = record { so_far = so.after.so_far; ended = ended script so.journal so.after };
  is = so.is ∙ ap (λ bs. text script so.journal ++ bs) none ∙ append-nil (text script so.journal);
}

-- ---- the test for bytes that are left

pub empty_by_test : (bytes : List ℕ) → (length bytes == 0) ≡ true → bytes ≡ []
empty_by_test [] test = refl
empty_by_test (b ∷ bytes) test = let none : length (b ∷ bytes) ≡ 0 = grind (arith, nat_tests) in absurd (omega (arith, none))

pub some_by_test : (bytes : List ℕ) → (length bytes == 0) ≡ false → bytes ≡ [] → ⊥
some_by_test bytes test none =
    let zero_long : (length bytes == 0) ≡ true = ap (λ (bs : List ℕ). length bs == 0) none in
    let both : false ≡ true = sym test ∙ zero_long in
    cc
