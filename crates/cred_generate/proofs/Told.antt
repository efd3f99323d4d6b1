-- What is told of entries a few at a time.
use Rattle.std.proofs.Common.{◌≡◌, ℕ, ◌+◌, ◌<◌, ◌≤◌, ◌^◌, Bool, true, false, cond, List, [], ◌∷◌, ◌++◌, length, sym, ap, ap₂, ◌∙◌, arith}
use Rattle.std.specs.List.{fold, count_by}
use Rattle.std.proofs.lemmas.List.{length-append}
use Rattle.std.proofs.lemmas.List.Sums.{count_by-le-length, fold-append, sum_by-append}
use Rattle.cred_event.specs.declared.entry.Entry.{Entry}
use Rattle.cred_model.specs.Journal.{IsAnswered}
use Rattle.cred_model.specs.Script.{Script}
use Rattle.cred_generate.specs.Sealed.{count_with, is_next}
use Rattle.cred_generate.specs.Summary.{HasRoom, is_refused, nothing_told, summary, told_on}
use Rattle.cred_generate.specs.declared.summing.Summary.{Summary}
use Rattle.cred_generate.proofs.Counted.{sealed_count}

-- a summary by its counts
abbrev counts : ℕ → ℕ → ℕ → ℕ → Summary
counts lines entries credentials refusals = record { lines = lines; entries = entries; credentials = credentials; refusals = refusals }

counts_are : (lines : ℕ) (e e' c c' r r' : ℕ) → e ≡ e' → c ≡ c' → r ≡ r' → counts lines e c r ≡ counts lines e' c' r'
counts_are lines e e' c c' r r' es cs rs =
    ap₂ (λ m n. counts lines m n r) es cs ∙ ap (counts lines e' c') rs

abbrev seals : ℕ → Entry → ℕ
seals count entry = count_with count entry.answer

-- some entries, and then others
pub told_on-append : (told : Summary) (a b : List Entry) → told_on (told_on told a) b ≡ told_on told (a ++ b)
told_on-append told a b =
    let all : length (a ++ b) ≡ length a + length b = length-append a b in
    let refused : count_by is_refused (a ++ b) ≡ count_by is_refused a + count_by is_refused b
    = sum_by-append (λ (e : Entry). cond (is_refused e) 1 0) a b in
    counts_are told.lines _ _ _ _ _ _ (omega (arith, all)) (sym (fold-append seals told.credentials a b)) (omega (arith, refused))

-- of a whole journal it is the summary
pub told_whole : (script : Script) (journal : List Entry) → IsAnswered script journal → told_on (nothing_told script) journal ≡ summary script journal
told_whole script journal answered =
    counts_are (length script.lines) _ _ _ _ _ _ (omega arith) (sealed_count script journal answered) (omega arith)

one_at_most : (count : ℕ) (b : Bool) → cond b (count + 1) count ≤ count + 1
one_at_most count true = omega arith
one_at_most count false = omega arith

-- no entry seals more than one
few_seals : (count : ℕ) (entries : List Entry) → fold seals count entries ≤ count + length entries
few_seals count [] = omega arith
few_seals count (entry ∷ entries) =
    let here = one_at_most count (is_next count entry.answer) in
    let rest = few_seals (seals count entry) entries in
    omega (arith, here, rest)

-- no count is above that of the entries
pub room_for : (script : Script) (journal : List Entry) (more : ℕ) → length journal + more < 2 ^ 64 → HasRoom (told_on (nothing_told script) journal) more
room_for script journal more few =
    let refused = count_by-le-length is_refused journal in
    record {
      entries = omega (arith, few);
      credentials = few_seals 0 journal;
      refusals = omega (arith, refused);
    }
