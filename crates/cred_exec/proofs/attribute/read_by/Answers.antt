use Rattle.std.proofs.Common.{◌≡◌, ◌∙◌, Some, None, Err, if◌then◌else◌, ap, rules}
use Rattle.cred_rules.specs.Attribute.{attribute_of}
use Rattle.cred_rules.specs.Exec.{SpellsNothing, read_by}
use Rattle.cred_exec.proofs.Reading.{read_by-spelled, read_by-not_spelled}
use Rattle.cred_exec.proofs.attribute.read_by.Goals as goal
use Rattle.cred_exec.proofs.attribute.read_by.Goals.{then-counts, else-counts}

pub returns-in_err-caps-clause-refusal : goal.returns-in_err-caps-clause-refusal
returns-in_err-caps-clause-refusal c =
    let none : read_by c.args.chain.now (attribute_of c.args.bytes.now) ≡ Err SpellsNothing =
    read_by-not_spelled c.args.chain.now c.args.bytes.now
    (λ a spells. let other = c.in_err-caps.ensures.each_value a spells in cc) in
    search (rules, none)

pub returns-clause-value : goal.returns-clause-value
returns-clause-value c =
    let a = c.in_ok-caps.caps in
    elim c.if-counts.branch [
      | then-counts w ↦
          read_by-spelled c.args.chain.now c.args.bytes.now a _ c.in_ok-caps.ensures.value
          (w.result-is ∙ ap (λ b. if b then Some a else None) w.if-counts.ensures)
      | else-counts w ↦
          read_by-spelled c.args.chain.now c.args.bytes.now a _ c.in_ok-caps.ensures.value
          (w.result-is ∙ ap (λ b. if b then Some a else None) w.if-counts.ensures)
    ]
