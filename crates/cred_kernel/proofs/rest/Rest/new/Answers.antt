use Rattle.std.proofs.Common.{ap, ◌∙◌}
use Rattle.cred_kernel.specs.Locks.{KernelParts}
use Rattle.cred_kernel.proofs.rest.Rest.new.Goals as goal

pub invariant_of-locked : goal.invariant_of-locked
invariant_of-locked g c = record {
  script_is = ap (λ (m : KernelParts). m.script) c.parts.view_is ∙ c.requires.script;
  cells_are = c.parts.invariant.1 ∙ ap (λ (m : KernelParts). m.cells) c.parts.view_is ∙ c.requires.cells;
  inodes_are = ap (λ (m : KernelParts). m.inodes) c.parts.view_is ∙ c.requires.inodes;
  roll_is = c.lend_all.ensures.roll ∙ ap (λ (m : KernelParts). m.roll) c.parts.view_is ∙ c.requires.roll;
  stands = c.parts.invariant.0.ready.stands;
  set_up = c.parts.invariant.0.ready.set_up;
  lent = c.in-Ok.ensures.rows;
}

pub returns-clause-fresh : goal.returns-clause-fresh
returns-clause-fresh g c = c.in-Ok.ensures.turns
