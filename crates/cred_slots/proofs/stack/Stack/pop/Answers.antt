use Rattle.std.proofs.Common.{ℕ, zero, suc, ◌≡◌, ◌+◌, ◌-◌, ◌<◌, ◌≤◌, ◌∙◌, List, length, take, drop, reverse, refl, sym, ap, arith}
use Rattle.std.proofs.lemmas.List.{take_more, reverse-append}
use Rattle.cred_slots.proofs.stack.Stack.pop.Goals as goal

-- the list without its last item, turned round
without_last : (xs : List ℕ) (n : ℕ) → n < length xs → reverse (take n xs) ≡ drop 1 (reverse (take (n + 1) xs))
without_last xs n within =
    sym (ap (drop 1) (ap reverse (take_more xs n 0 within) ∙ reverse-append (take n xs) _))

without_top : (xs : List ℕ) (depth : ℕ) → depth ≤ length xs → reverse (take (depth - 1) xs) ≡ drop 1 (reverse (take depth xs))
without_top xs zero within = refl
without_top xs (suc n) within =
    let one : n + 1 ≡ suc n = omega arith in
    let before : suc n - 1 ≡ n = omega arith in
    ap (λ m. reverse (take m xs)) before
    ∙ without_last xs n (omega arith)
    ∙ ap (λ m. drop 1 (reverse (take m xs))) one

pub returns-clause-stack : goal.returns-clause-stack
returns-clause-stack c = rw (← c.self.view_is) (without_top c.self.inside.numbers c.self.inside.depth (omega arith))
