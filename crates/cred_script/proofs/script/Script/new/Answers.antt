use Rattle.cred_script.proofs.Fixed.{fixes}
use Rattle.cred_script.proofs.script.Script.new.Goals as goal

pub returns-clause-fixed : goal.returns-clause-fixed
returns-clause-fixed c = fixes _ _ _ c.requires.each
