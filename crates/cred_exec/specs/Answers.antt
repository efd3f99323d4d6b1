-- What an execve answers where a rule decides and memory may run out.
use Rattle.std.specs.Prelude.{◌≡◌, ◌⊎◌, Result, Ok, Err}
use Rattle.cred_record.specs.Credential.{Credential}
use Rattle.cred_record.specs.declared.gains.Gains.{Gains}
use Rattle.cred_rules.specs.Exec.{Executed, NoExec, MayNotExecute, SpellsNothing, GivesTooLittle}
use Rattle.cred_exec.specs.declared.refusal.ExecRefusal.{ExecRefusal}
use Rattle.cred_exec.specs.declared.refusal.ExecRefusal.TheVariants as refusal

-- the refusal that reports why a file is not executed
abbrev pub exec_refusal_of : NoExec → ExecRefusal
exec_refusal_of MayNotExecute = refusal.Access
exec_refusal_of SpellsNothing = refusal.BadAttribute
exec_refusal_of GivesTooLittle = refusal.Perm

-- the call refuses just where the rule does, and for that reason, whether or not memory is left;
-- elsewhere it gives the rule's credential and gains, or memory has run out
abbrev pub AnswersExec : Result (Credential × Gains) ExecRefusal → Result Executed NoExec → Type 0
AnswersExec result (Ok e) = (result ≡ Ok (e.cred, e.gains)) ⊎ (result ≡ Err refusal.Memory)
AnswersExec result (Err reason) = result ≡ Err (exec_refusal_of reason)
