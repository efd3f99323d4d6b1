-- What a change makes of a credential, and what that gains.
use Rattle.std.specs.Prelude.{ℕ, List, Some, None, Result, Ok, Err}
use Rattle.std.specs.declared.option.Option.{Option}
use Rattle.cred_caps.specs.Caps.{Caps, empty, union}
use Rattle.cred_record.specs.Credential.{Credential}
use Rattle.cred_record.specs.File.{File}
use Rattle.cred_record.specs.declared.gains.Gains.{Gains}
use Rattle.cred_record.specs.declared.refusal.Denial.{Denial}
use Rattle.cred_rules.specs.SetFs.{set_fs, old_fs}
use Rattle.cred_rules.specs.Access.{access_credential}
use Rattle.cred_rules.specs.Adjust.{adjust}
use Rattle.cred_rules.specs.Exec.{Executed, NoExec, exec}
use Rattle.cred_rules.specs.Exec.NoExec.{MayNotExecute, SpellsNothing, GivesTooLittle}
use Rattle.cred_event.specs.declared.event.Change.{Change}
use Rattle.cred_event.specs.declared.event.Change.TheVariants.{SetFs, Adjust, Exec, Access}
use Rattle.cred_event.specs.declared.answer.Answer.{Answer}
use Rattle.cred_event.specs.declared.answer.Answer.TheVariants as answer
use Rattle.cred_model.specs.Answers.{refusal}

-- What a change makes of a credential: its answer, the new credential, and what that one gains over
-- the old.
pub record Made : Type 0 where
  pub answer : Answer
  pub cred : Credential
  pub gains : Gains

-- Only an execve adds to the permitted set.
abbrev pub no_gains : Gains
no_gains = record { file = empty; inherit = empty; root = empty }

-- a change that gains nothing
abbrev pub made : Answer → Credential → Made
made answer c = record { answer = answer; cred = c; gains = no_gains }

-- what a rule gives, or its refusal
abbrev pub by_rule : {X : Type 0} → Result X Denial → Result X Answer
by_rule (Ok c) = Ok c
by_rule (Err denial) = Err (refusal denial)

-- the same, as what a change makes
abbrev pub made_by_rule : Result Credential Denial → Result Made Answer
made_by_rule (Ok c) = Ok (made answer.Done c)
made_by_rule (Err denial) = Err (refusal denial)

-- the manual's error for a refused execve
abbrev pub exec_refusal : NoExec → Answer
exec_refusal MayNotExecute = answer.Eacces
exec_refusal SpellsNothing = answer.Einval
exec_refusal GivesTooLittle = answer.Eperm

-- what the rule of execve gives, or the manual's error
abbrev pub made_by_exec : Result Executed NoExec → Result Made Answer
made_by_exec (Ok e) = Ok (record { answer = answer.Done; cred = e.cred; gains = e.gains })
made_by_exec (Err why) = Err (exec_refusal why)

-- what the execve of a file makes; there always is a file, since a change names a declared one
abbrev pub made_by_execve : Option File → List ℕ → Credential → Result Made Answer
made_by_execve None chain c = Err answer.Eacces
made_by_execve (Some file) chain c = made_by_exec (exec c file chain)

-- What a change makes of a base credential, or its refusal. It sees the file that it names, if any,
-- and the root ids of the base's namespace and of that one's ancestors. The change of access(2) is
-- never refused.
abbrev pub by_change : Option File → List ℕ → Credential → Change → Result Made Answer
by_change file chain c (SetFs kind id) = Ok (made (answer.Was (old_fs c kind)) (set_fs c kind id))
by_change file chain c (Adjust call) = made_by_rule (adjust c call)
by_change file chain c (Exec place) = made_by_execve file chain c
by_change file chain c Access = Ok (made answer.Done (access_credential c))

-- what the permitted set gained, as the answer reports it
abbrev pub gain_told : Answer → Caps
gain_told (answer.Executed cred slot ended gains) =
    union gains.file (union gains.inherit gains.root)
gain_told answer = empty
