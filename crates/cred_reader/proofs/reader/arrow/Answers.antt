use Rattle.std.proofs.Common.{◌∙◌, ℕ, List, Bor, sym, rules, tests}
use Rattle.std.proofs.lemmas.Iterator.{YieldsList-from_slice}
use Rattle.std.proofs.lemmas.Iterator.Search.{position_from_yields_List}
use Rattle.cred_reader.specs.Entry.{is_arrow}
use Rattle.cred_reader.proofs.Arrows.{position_nows}
use Rattle.cred_reader.proofs.reader.arrow.Goals as goal

pub returns-clause-place : goal.returns-clause-place
returns-clause-place c =
    position_from_yields_List (λ (word : Bor (List ℕ)). is_arrow word.now) _ _ c.position.result c.position.ensures.ran
    (YieldsList-from_slice _ c.iter.ensures.rest) (λ x b q k. search (rules, tests))
    ∙ sym (position_nows c.args.words.now)
