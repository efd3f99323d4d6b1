use Rattle.std.proofs.Common.{List, Bool, false, get_or, ap, ◌∙◌}
use Rattle.cred_ids.specs.Limits.{SLOTS}
use Rattle.cred_machine.proofs.Marks.{unmarked}
use Rattle.cred_machine.proofs.slots.Marks.new.Goals as goal

pub returns : goal.returns
returns c = λ slot. ap (λ (marks : List Bool). get_or marks slot false) (c.in_ok-vec.ensures.items_if_clones_equal (λ y same. same)) ∙ unmarked SLOTS slot
