-- When a decision may run out of memory.
use Rattle.std.specs.Prelude.{None, Bool, true, false}
use Rattle.std.specs.declared.option.Option.{Option}
use Rattle.cred_record.specs.File.{File}
use Rattle.cred_event.specs.declared.event.Change.{Change}
use Rattle.cred_event.specs.declared.event.Change.TheVariants.{Exec}

-- a change makes a credential, but for an execve of no file
abbrev pub makes_credential : Option File → Change → Bool
makes_credential None (Exec place) = false
makes_credential file change = true
