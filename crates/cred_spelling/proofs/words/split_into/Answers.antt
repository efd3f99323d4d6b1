use Rattle.std.proofs.Common.{◌≡◌, ℕ, List, Option, Result, OnOk, ◌++◌, map, ap, ◌∙◌, not, length, ◌==◌, rules, tests}
use Rattle.std.specs.Borrow.{Bor}
use Rattle.std.specs.Result.{MatchResult}
use Rattle.std.specs.Iterator.{Drains, Yields}
use Rattle.std.proofs.lemmas.Iterator.{YieldsList}
use Rattle.std.proofs.lemmas.Iterator.Adapters.{fact_from_extend}
use Rattle.std.proofs.lemmas.Iterator.Consumers.{YieldsList-at, YieldsList-from_filter}
use Rattle.std.proofs.lemmas.Iterator.Splits.{YieldsList-from_slice_split}
use Rattle.cred_spelling.proofs.words.split_into.Goals as goal

-- what `extend` adds, where v reads each item
extended : {T A C E Q : Type 0} {steps : T → Option A → T → Type 0} {all : List C} {P : List A → Type 0} {s : T} (v : A → C) (r : Result (Unit {0}) E)
    → ((it : T) × (xs : List A) × (it ≡ s) × P xs × MatchResult r (λ _. Drains steps it xs) (λ _. (t : T) × Yields steps it xs t))
    → YieldsList steps v s all → ((xs : List A) → map v xs ≡ all → P xs → Q) → OnOk r Q
extended v r ran road then = fact_from_extend v r ran (λ it is. YieldsList-at is road) then

pub returns : goal.returns
returns c = extended (λ (word : Bor (List ℕ)). word.now) c.extend.result c.extend.ensures.ran
    (YieldsList-from_filter _ (λ word. not (length {A = ℕ} word == 0))
    (YieldsList-at c.filter.ensures.source (YieldsList-from_slice_split _ (λ b. b == 32) c.args.line.now c.split.ensures.rest c.split.ensures.done
    c.split.ensures.closure (λ x r q k. search (rules, tests))))
    c.filter.ensures.closure (λ x r q k. search (rules, tests)))
    (λ xs all gives. ap (map (λ (word : Bor (List ℕ)). word.now)) (gives.0 ∙ ap (λ ws. ws ++ xs) c.clear.ensures.items) ∙ all)
