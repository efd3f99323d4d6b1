use Rattle.cred_slots.proofs.Words.{flags_of-or_words}
use Rattle.cred_slots.proofs.flags.Flags.union.Goals as goal

pub returns : goal.returns
returns c = rw (← c.self.view_is, ← c.other.view_is) (flags_of-or_words c.self.inside.words c.other.inside.words)
