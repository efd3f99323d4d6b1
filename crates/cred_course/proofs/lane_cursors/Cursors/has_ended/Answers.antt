use Rattle.std.proofs.Common.{is_none, ap, ◌∙◌, rules, tests}
use Rattle.std.specs.List.{list_all}
use Rattle.std.specs.declared.option.Option.{Option}
use Rattle.std.proofs.lemmas.Iterator.{YieldsList-from_slice}
use Rattle.std.proofs.lemmas.Iterator.Search.{all_from_yields_List}
use Rattle.cred_model.specs.Course.{Course}
use Rattle.cred_course.proofs.lane_cursors.Cursors.has_ended.Goals as goal

pub returns : goal.returns
returns c =
    all_from_yields_List (λ (cursor : Option Course). is_none cursor) _ _ c.all.result c.all.ensures.ran (YieldsList-from_slice _ c.iter.ensures.rest)
    (λ x b q k. search (rules, tests))
    ∙ ap (list_all (λ (cursor : Option Course). is_none cursor)) (c.deref.ensures.value ∙ c.self.view_is)
