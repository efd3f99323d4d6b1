use Rattle.std.proofs.Common.{ℕ, replicate, ap, ◌∙◌}
use Rattle.cred_model.specs.Script.{Script}
use Rattle.cred_script.specs.Lanes.{lanes}
use Rattle.cred_turn.specs.Rows.{fresh, home_row}
use Rattle.cred_kernel.proofs.parts.KernelParts.new.Goals as goal

pub invariant_of-result : goal.invariant_of-result
invariant_of-result c = (
  record {
    ready = c.in_ok-book.ensures.ready;
    rows = c.in-Ok.ensures.rows
        ∙ ap (λ (n : ℕ). replicate n (home_row fresh))
        (c.lanes.ensures.greatest ∙ ap (λ (s : Script). lanes s.lines) c.script.ensures);
  },
  c.in_ok-book.ensures.own,
  c.in_ok-book.ensures.earlier,
)

pub returns : goal.returns
returns c = record { script = c.in_ok-book.ensures.script }
