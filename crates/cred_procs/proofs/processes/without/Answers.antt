use Rattle.std.proofs.Common.{◌≡◌, ℕ, ◌==◌, ◌&&◌, Bool, true, false, not, cond, List, [], ◌∷◌, filter, refl, sym, ◌∙◌, rules, tests}
use Rattle.std.specs.List.{list_all}
use Rattle.std.proofs.lemmas.Iterator.{YieldsList-from_slice}
use Rattle.std.proofs.lemmas.Iterator.Search.{all_from_yields_List}
use Rattle.cred_procs.proofs.processes.without.Goals as goal

none_other : (task : ℕ) (ns : List ℕ) → list_all (λ n. n == task) ns ≡ true → filter (λ n. not (n == task)) ns ≡ []
none_other task [] all = refl
none_other task (n ∷ ns) all = step (n == task) all (none_other task ns)
  where
    step : (b : Bool) → (b && list_all (λ n. n == task) ns) ≡ true → (list_all (λ n. n == task) ns ≡ true → filter (λ n. not (n == task)) ns ≡ [])
        → cond (not b) (n ∷ filter (λ n. not (n == task)) ns) (filter (λ n. not (n == task)) ns) ≡ []
    step true rest none = none rest
    step false rest none = cc

pub returns-then-all : goal.returns-then-all
returns-then-all c = c.new.ensures.items ∙ sym (none_other c.args.task c.args.tasks.now
    (sym
    (all_from_yields_List (λ (n : ℕ). n == c.args.task) _ _ c.all.result c.all.ensures.ran (YieldsList-from_slice _ c.iter.ensures.rest)
    (λ x b q k. search (rules, tests)))
    ∙ c.if-all.true))
