-- The exit status of each way in which the program ends.
use Rattle.std.specs.Prelude.{ℕ}
use Rattle.cred_output.specs.declared.status.Status.{Status}
use Rattle.cred_output.specs.declared.status.Status.TheVariants.{Done, Usage, Bad, ReadFault}
use Rattle.cred_output.specs.declared.status.Status.TheVariants.{WriteFault, Memory, TooLarge}
use Rattle.cred_output.specs.declared.status.Status.TheVariants.{NotLegal}

abbrev pub code_of : Status → ℕ
code_of Done = 0
code_of Usage = 1
code_of Bad = 2
code_of ReadFault = 3
code_of WriteFault = 4
code_of Memory = 5
code_of TooLarge = 6
code_of NotLegal = 7
