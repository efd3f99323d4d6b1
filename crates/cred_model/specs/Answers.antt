-- The answer that reports a rule's refusal, and the answers to questions.
use Rattle.std.specs.Prelude.{Bool, Some, None, if◌then◌else◌}
use Rattle.std.specs.declared.option.Option.{Option}
use Rattle.cred_record.specs.Credential.{Credential}
use Rattle.cred_record.specs.File.{File}
use Rattle.cred_record.specs.declared.want.Want.{Want}
use Rattle.cred_record.specs.declared.refusal.Denial.{Denial}
use Rattle.cred_record.specs.declared.refusal.Denial.TheVariants.{Perm, Invalid}
use Rattle.cred_rules.specs.Adjust.{read_in, bset_read, amb_is_set}
use Rattle.cred_rules.specs.Access.{may}
use Rattle.cred_event.specs.declared.answer.Answer.{Answer}
use Rattle.cred_event.specs.declared.answer.Answer.TheVariants as answer
use Rattle.cred_event.specs.declared.answer.Told.TheVariants as told
use Rattle.cred_event.specs.declared.event.Query.{Query}
use Rattle.cred_event.specs.declared.event.Query.TheVariants.{Ids, Caps, Groups, Bits, Capable}
use Rattle.cred_event.specs.declared.event.Query.TheVariants.{Bset, AmbIs, Check}

-- a rule's refusal, as the manual's error
abbrev pub refusal : Denial → Answer
refusal Perm = answer.Eperm
refusal Invalid = answer.Einval

-- the answer to a question about one capability: a number that is no capability's is refused
abbrev pub flag : Option Bool → Answer
flag None = answer.Einval
flag (Some is) = answer.Told (told.Flag is)

-- the answer to a check of a file; there always is a file, since a question names a declared one
abbrev pub checked : Credential → Option File → Want → Answer
checked c None asked = answer.Eacces
checked c (Some file) asked = if may c file asked then answer.Done else answer.Eacces

-- The answer to a question about a credential, where this is the file that it names, if any.
abbrev pub reply : Option File → Credential → Query → Answer
reply file c Ids = answer.Told (told.Ids c.uid c.gid)
reply file c Caps = answer.Told (told.Caps c.perm c.inh c.eff c.bound c.amb)
reply file c Groups = answer.Told (told.Groups c.groups)
reply file c Bits = answer.Told (told.Bits c.bits c.nnp)
reply file c (Capable n) = flag (read_in c.eff n)
reply file c (Bset n) = flag (bset_read c n)
reply file c (AmbIs n) = flag (amb_is_set c n)
reply file c (Check place asked) = checked c file asked
