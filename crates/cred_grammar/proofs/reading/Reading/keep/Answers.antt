use Rattle.cred_grammar.proofs.MoreNamespaces.{sound_with_file, still_sound}
use Rattle.cred_grammar.proofs.reading.Reading.keep.Goals as goal

pub invariant_of-self-in-File : goal.invariant_of-self-in-File
invariant_of-self-in-File c = sound_with_file _ _ _ _ _ _ c.in_ok-add-in-File.ensures.ok c.self.invariant

pub invariant_of-self-in-Namespace : goal.invariant_of-self-in-Namespace
invariant_of-self-in-Namespace c = still_sound _ _ _ _ _ _ c.in_ok-add-in-Namespace.ensures.ok c.self-in-Namespace.invariant
