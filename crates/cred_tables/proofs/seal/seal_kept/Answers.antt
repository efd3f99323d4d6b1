use Rattle.std.proofs.Common.{◌++◌, ◌∷◌, [], sym, ap, ◌∙◌}
use Rattle.cred_slots.specs.Table.{Table}
use Rattle.cred_tables.proofs.Bags.{bag-keeps}
use Rattle.cred_tables.proofs.Sealing.{drops, alone_later}
use Rattle.cred_tables.proofs.seal.seal_kept.Goals as goal

pub drop_later-requires : goal.drop_later-requires
drop_later-requires c = bag-keeps c.args.kept.base c.seal-number.ensures.held c.requires.base

pub returns : goal.returns
returns c =
    let made = c.seal-number.ensures.table in
    let less = drops c.drop_later.ensures.held c.drop_later.ensures.table in
    record {
      in_table = c.seal-number.ensures.in_table;
      alone = alone_later less c.seal-number.ensures.alone;
      counted = c.seal-number.ensures.number;
      held = record { counts = λ test. sym (less.held.counts test) ∙ c.seal-number.ensures.held.counts test };
      sealed = less.sealed ∙ ap (λ (t : Table). t.sealed) made;
      deferred = less.deferred ∙ ap (λ (t : Table). t.deferred ++ c.args.kept.base ∷ []) made;
      kept = less.kept ∙ ap (λ (t : Table). t.kept) made;
    }
