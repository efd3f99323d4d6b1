-- Where a mode has the bits of a class.
use Rattle.std.specs.Prelude.{ℕ}
use Rattle.cred_access.specs.declared.class.Class.{Class}
use Rattle.cred_access.specs.declared.class.Class.TheVariants as class
use Rattle.cred_rules.specs.Access.{OWNER, GROUP, OTHERS}

-- the place of the class's execute bit
abbrev pub class_place : Class → ℕ
class_place class.Owner = OWNER
class_place class.Group = GROUP
class_place class.Others = OTHERS
