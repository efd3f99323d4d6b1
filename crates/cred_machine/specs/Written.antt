-- What was made of a file, where a rule decides and memory may run out.
use Rattle.std.specs.Prelude.{◌≡◌, ⊤, Result, Ok, Err}
use Rattle.cred_record.specs.File.{File}
use Rattle.cred_record.specs.declared.refusal.Denial.{Denial}
use Rattle.cred_record.specs.declared.refusal.Denial.TheVariants as denial
use Rattle.cred_record.specs.declared.refusal.Refusal.{Refusal}
use Rattle.cred_record.specs.declared.refusal.Refusal.TheVariants as refusal

-- what was made is what the rule gives, or the reason for which it denies
abbrev pub IsMadeBy : Result File Denial → Result File Refusal → Type 0
IsMadeBy given (Ok file) = given ≡ Ok file
IsMadeBy given (Err refusal.Perm) = given ≡ Err denial.Perm
IsMadeBy given (Err refusal.Invalid) = given ≡ Err denial.Invalid
IsMadeBy given (Err refusal.Memory) = ⊤
