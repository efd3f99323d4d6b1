use Rattle.std.proofs.Common.{ℕ, List, ◌++◌, sym, ap, ◌∙◌, subst, append-nil, refl}
use Rattle.std.proofs.lemmas.List.{take_all}
use Rattle.cred_slots.specs.Table.{IsSameBag}
use Rattle.cred_tables.proofs.Ending.{still-held, one-less, table-more}
use Rattle.cred_tables.proofs.seal.drop_all.Goals as goal

pub loop-number-init : goal.loop-number-init
loop-number-init c =
    let t = c.args.slots.now in
    record {
      held = record { counts = λ test. refl };
      table = ap (λ (ds : List ℕ). record t { deferred = ds }) (sym (append-nil t.deferred));
    }

pub loop-number-preserved : goal.loop-number-preserved
loop-number-preserved c =
    let t = c.args.slots.now in
    let ns = c.args.numbers.now in
    let i = c.loop-number.number-index in
    record {
      held =
          one-less ns t.held c.requires c.loop-number.slots.held i 0 c.loop-number-test.true c.loop-number.invariant.held c.drop_later.new.self.held
          c.drop_later.ensures.held;
      table = table-more t c.loop-number.slots c.drop_later.new.self ns i 0 c.loop-number-test.true c.loop-number.invariant.table c.drop_later.ensures.table;
    }

pub drop_later-requires : goal.drop_later-requires
drop_later-requires c =
    still-held c.args.numbers.now c.args.slots.now.held c.requires c.loop-number.slots.held c.loop-number.number-index 0 c.loop-number-test.true
    c.loop-number.invariant.held

pub returns-clause-held : goal.returns-clause-held
returns-clause-held c =
    subst (λ (ns : List ℕ). IsSameBag c.args.slots.now.held (ns ++ c.loop-number.slots.held))
    (take_all c.loop-number.number-index c.args.numbers.now c.loop-number-test.false) c.loop-number.invariant.held

pub returns-clause-table : goal.returns-clause-table
returns-clause-table c =
    let t = c.args.slots.now in
    c.loop-number.invariant.table
    ∙ ap (λ (ns : List ℕ). record t { held = c.loop-number.slots.held; deferred = t.deferred ++ ns })
    (take_all c.loop-number.number-index c.args.numbers.now c.loop-number-test.false)
