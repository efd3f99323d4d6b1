use Rattle.std.proofs.Common.{Option, List, [], ℕ, subst}
use Rattle.std.proofs.lemmas.List.Elements.{All-head}
use Rattle.cred_attr.specs.Exactly.{AnswersExactly}
use Rattle.cred_record.specs.File.{IsMode}
use Rattle.cred_rules.specs.Files.{set_attr}
use Rattle.cred_machine.proofs.Written.{made_by, made_exactly, no_other}
use Rattle.cred_machine.proofs.file_events.calls.changed.Goals as goal

pub returns-in-Chown : goal.returns-in-Chown
returns-in-Chown c = rw c.in-Chown.is (made_by _ _ c.chown.ensures)

pub returns-in-Chmod : goal.returns-in-Chmod
returns-in-Chmod c = rw c.in-Chmod.is (made_by _ _ c.chmod.ensures)

pub chmod-requires : goal.chmod-requires
chmod-requires c = All-head (λ (mode : ℕ). IsMode mode) _ [] (rw c.in-Chmod.is at c.requires.modes)

pub returns-in_ok-copy_attr-in-SetAttr : goal.returns-in_ok-copy_attr-in-SetAttr
returns-in_ok-copy_attr-in-SetAttr c =
    rw c.in-SetAttr.is
    (made_exactly _ _
    (subst (λ (a : Option (List ℕ)). AnswersExactly c.set_attr.result (set_attr c.args.cred.now c.args.file.now a))
    c.in_ok-copy_attr-in-SetAttr.ensures.equal c.set_attr.ensures))

pub unreachable-requires : goal.unreachable-requires
unreachable-requires c =
    no_other c.args.event.now c.requires.changes c.in_default.not-Chown c.in_default.not-Chmod c.in_default.not-SetAttr
