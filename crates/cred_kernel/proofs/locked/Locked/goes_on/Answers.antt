use Rattle.std.proofs.Common.{◌≡◌, ◌++◌, List, subst}
use Rattle.cred_event.specs.declared.entry.Entry.{Entry}
use Rattle.cred_model.specs.Script.{Script}
use Rattle.cred_book.specs.Parts.{BeginsLegal}
use Rattle.cred_book.proofs.Rest.{goes_to_end, goes_from_part}
use Rattle.cred_kernel.proofs.locked.Locked.goes_on.Goals as goal

pub returns-clause-journal : goal.returns-clause-journal
returns-clause-journal g c =
    rw (← c.self.view_is)
    (subst (λ (s : Script). BeginsLegal s c.self.inside.book.journal) c.self.invariant.script_is (goes_to_end c.self.inside.book c.self.invariant.stands))

pub returns-clause-earlier : goal.returns-clause-earlier
returns-clause-earlier g c =
    rw (← c.self.view_is)
    (subst (λ (s : Script). BeginsLegal s c.self.inside.book.earlier) c.self.invariant.script_is
    (goes_from_part c.self.inside.book.script c.self.inside.book.journal c.self.inside.book.earlier c.entries.result.now c.entries.ensures
    (goes_to_end c.self.inside.book c.self.invariant.stands)))
