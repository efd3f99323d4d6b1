use Rattle.std.proofs.Common.{◌++◌, ◌∷◌, [], false, length, slice_set, ap, ◌∙◌, subst}
use Rattle.cred_slots.specs.Table.{Table, IsSameBag}
use Rattle.cred_slots.proofs.Tables.{kept_again}
use Rattle.cred_tables.proofs.Keeps.{free-not_kept}
use Rattle.cred_tables.proofs.seal.seal_next.Goals as goal

pub returns : goal.returns
returns c =
    let before = c.args.slots.now in
    let after = c.seal.new.self in
    let slot = c.args.slot in
    let takes = c.requires.free in
    let claimed = c.claim.ensures.table in
    let made = c.seal.ensures.table in
    record {
      takes = takes;
      in_table = c.seal.ensures.in_table;
      alone = c.seal.ensures.alone;
      counted = c.seal.ensures.number ∙ ap (λ (t : Table). length t.sealed) claimed;
      held = subst (λ (t : Table). IsSameBag after.held (c.seal.result ∷ t.held)) claimed c.seal.ensures.held;
      sealed = ap (λ (t : Table). t.sealed) made ∙ ap (λ (t : Table). t.sealed ++ slot ∷ []) claimed;
      deferred = ap (λ (t : Table). t.deferred) made ∙ ap (λ (t : Table). t.deferred) claimed;
      kept = ap (λ (t : Table). t.kept) made ∙ ap (λ (t : Table). slice_set t.kept slot false) claimed
          ∙ kept_again before.kept slot (free-not_kept before slot takes);
    }
