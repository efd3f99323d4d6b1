use Rattle.cred_script.proofs.Fixed.{fixes}
use Rattle.cred_script.proofs.script.Script.lines.Goals as goal

pub returns-clause-fixed : goal.returns-clause-fixed
returns-clause-fixed c = rw (← c.self.view_is) (fixes _ _ _ c.self.invariant.each)
