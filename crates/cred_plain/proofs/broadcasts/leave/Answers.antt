use Rattle.std.proofs.Common.{◌≡◌, ℕ, List, ◌++◌, drop, length, map, take, arith, sym, ap, ◌∙◌, append-nil, rules, tests}
use Rattle.std.specs.List.{filter}
use Rattle.std.proofs.lemmas.Fn.{filter_same}
use Rattle.std.proofs.lemmas.List.{drop_all, take_all}
use Rattle.std.proofs.lemmas.List.Edits.{map_over_more}
use Rattle.cred_model.specs.Broadcasts.{is_open, without_waiter}
use Rattle.cred_plain.proofs.broadcasts.leave.Goals as goal

-- what was written over a whole list
written : {X : Type 0} (now before : List X) (n : ℕ) → length now ≡ length before → n ≡ length now
    → take n (now ++ drop (length now) before) ≡ now
written now before n same is =
    ap (λ xs. take n (now ++ xs)) (drop_all (length now) before (omega arith))
    ∙ ap (take n) (append-nil now)
    ∙ take_all n now (omega arith)

pub loop-broadcast-preserved : goal.loop-broadcast-preserved
loop-broadcast-preserved c =
    rw (c.leave.ensures ∙ ap (without_waiter c.args.task) (sym c.broadcast-item.is))
    (map_over_more (without_waiter c.args.task) c.deref_mut-broadcast-items.result.now c.loop-broadcast.broadcast-items c.loop-broadcast.broadcast-index
    c.broadcast-item.result
    c.loop-broadcast-test.true c.loop-broadcast.invariant c.broadcast-item.is)

pub returns : goal.returns
returns c =
    let f = without_waiter c.args.task in
    let before = c.deref_mut-broadcast-items.result.now in
    let i = c.loop-broadcast.broadcast-index in
    let each : c.loop-broadcast.broadcast-items ≡ map f c.args.broadcasts.now.items
    = c.loop-broadcast.invariant
    ∙ ap (λ bs. map f bs ++ drop i before) (take_all i before c.loop-broadcast-test.false)
    ∙ ap (λ bs. map f before ++ bs) (drop_all i before c.loop-broadcast-test.false)
    ∙ append-nil (map f before)
    ∙ ap (map f) c.deref_mut-broadcast-items.ensures.value in
    filter_same _ is_open _ (λ x b f' k. search (rules, tests)) _ _ c.retain.ensures.filtered
    ∙ ap (filter is_open)
    (written c.loop-broadcast.broadcast-items c.args.broadcasts.now.items c.args.broadcasts.now.len
    (c.loop-broadcast.auto.broadcast-items ∙ ap length c.deref_mut-broadcast-items.ensures.value)
    (sym c.deref_mut-broadcast-items.ensures.len ∙ sym c.loop-broadcast.auto.broadcast-items)
    ∙ each)
