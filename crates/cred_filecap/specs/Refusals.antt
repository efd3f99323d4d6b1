-- How the reason why bytes are no attribute is reported.
use Rattle.cred_rules.specs.Attribute.{Fault, WrongLength, WrongRevision}
use Rattle.cred_filecap.specs.declared.refusal.AttrRefusal.{AttrRefusal}
use Rattle.cred_filecap.specs.declared.refusal.AttrRefusal.TheVariants.{BadLength, BadRevision}

-- the refusal that reports a fault
abbrev pub attr_refusal_of : Fault → AttrRefusal
attr_refusal_of (WrongLength n) = BadLength n
attr_refusal_of (WrongRevision n) = BadRevision n
