-- The definition of a script refuses the first bad line.
use Rattle.std.proofs.Common.{◌≡◌, ℕ, suc, ◌+◌, ◌-◌, ◌<◌, List, [], ◌∷◌, length, take, Result, Ok, Err, true, refl, sym, ap, subst, arith}
use Rattle.std.specs.Result.{is_ok}
use Rattle.cred_model.specs.Script.{Script}
use Rattle.cred_spelling.specs.declared.reason.Reason.{Reason}
use Rattle.cred_ids.specs.Tests.{◌>>=◌}
use Rattle.cred_grammar.specs.declared.refusal.ScriptRefusal.{ScriptRefusal}
use Rattle.cred_grammar.specs.declared.refusal.ScriptRefusal.TheVariants.{Bad, Memory}
use Rattle.cred_grammar.specs.Grammar.{at_line, add_line, add_lines}
use Rattle.cred_grammar.specs.Reading.{Reading, nothing, script}
use Rattle.cred_grammar.specs.ReadAnswers.{ReadsAs}
use Rattle.cred_grammar.specs.FirstBad.{IsFirstBad, ReportsFirstBad}
use Rattle.cred_grammar.proofs.Steps.{longer}

abbrev Read : Type 0
Read = Result Reading (ℕ × Reason)

-- the bad line stands after k good ones
record StandsAfter (reading : Reading) (texts : List (List ℕ)) (line : ℕ) (reason : Reason) : Type 0 where
  k : ℕ
  place : line ≡ length reading.lines + 1 + k
  inside : k < length texts
  before : is_ok (add_lines reading (take k texts)) ≡ true
  bad : add_lines reading (take (suc k) texts) ≡ Err (line, reason)

-- the lines after one whose reading is known
abbrev step : Reading → Result Reading Reason → List (List ℕ) → Read
step reading found texts = at_line (length reading.lines + 1) found >>= λ next. add_lines next texts

same_line : (a b : ℕ) (q r : Reason) → (let e : Read = Err (a, q) in e) ≡ Err (b, r) → a ≡ b
same_line a b q r h = let pair : (let p : ℕ × Reason = (a, q) in p) ≡ (b, r) = cc in ap (λ (p : ℕ × Reason). p.0) pair

by_found : (found : Result Reading Reason) (reading : Reading) (text : List ℕ) (texts : List (List ℕ)) (line : ℕ) (reason : Reason)
    → add_line reading text ≡ found → step reading found texts ≡ Err (line, reason)
    → ((next : Reading) → add_lines next texts ≡ Err (line, reason) → StandsAfter next texts line reason)
    → StandsAfter reading (text ∷ texts) line reason
by_found (Err why) reading text texts line reason is h later = record {
  k = 0;
  place = let e = same_line (length reading.lines + 1) line why reason h in omega arith;
  inside = omega arith;
  before = refl;
  bad = rw is h;
}
by_found (Ok next) reading text texts line reason is h later =
    let s = later next h in
    record {
      k = suc s.k;
      place = let e = s.place in let more = longer reading next text is in omega arith;
      inside = let e = s.inside in omega arith;
      before = rw is s.before;
      bad = rw is s.bad;
    }

first_bad : (texts : List (List ℕ)) (reading : Reading) (line : ℕ) (reason : Reason)
    → add_lines reading texts ≡ Err (line, reason) → StandsAfter reading texts line reason
first_bad [] reading line reason h = absurd (cc)
first_bad (text ∷ texts) reading line reason h =
    by_found (add_line reading text) reading text texts line reason refl h (λ next e. first_bad texts next line reason e)

is_first : (texts : List (List ℕ)) (line : ℕ) (reason : Reason) → StandsAfter nothing texts line reason → IsFirstBad texts line reason
is_first texts line reason s =
    let place : line ≡ suc s.k = let e = s.place in omega arith in
    let past : line - 1 ≡ s.k = omega arith in
    record {
      above = omega arith;
      within = let e = s.inside in omega arith;
      before = rw past s.before;
      bad = subst (λ (n : ℕ). add_lines nothing (take n texts) ≡ Err (line, reason)) (sym place) s.bad;
    }

refused : (given : Read) (e : ℕ × Reason) → (given >>= λ reading. Ok (script reading)) ≡ Err e → given ≡ Err e
refused (Ok reading) e h = absurd (cc)
refused (Err d) e h = let same : d ≡ e = cc in ap (λ (x : ℕ × Reason). let r : Read = Err x in r) same

pub tells_first : (texts : List (List ℕ)) (result : Result Script ScriptRefusal)
    → ReadsAs (λ (given : Script). given) result (add_lines nothing texts >>= λ reading. Ok (script reading)) → ReportsFirstBad texts result
tells_first texts (Ok given) h = tt
tells_first texts (Err (Bad line reason)) h =
    is_first texts line reason (first_bad texts nothing line reason (refused (add_lines nothing texts) (line, reason) h))
tells_first texts (Err Memory) h = tt
