-- The text of an answer.
use Rattle.std.specs.Prelude.{ℕ, List, ◌++◌, codes, decimal}
use Rattle.cred_event.specs.declared.answer.Named.{Named}
use Rattle.cred_event.specs.declared.answer.Named.TheVariants.{Task, Process, Label, File}
use Rattle.cred_event.specs.declared.answer.Named.TheVariants.{Broadcast}
use Rattle.cred_event.specs.declared.answer.Counted.{Counted}
use Rattle.cred_event.specs.declared.answer.Counted.TheVariants.{Tasks, Files, Holds, Prepared}
use Rattle.cred_event.specs.declared.answer.AbortCause.{AbortCause}
use Rattle.cred_event.specs.declared.answer.AbortCause.TheVariants.{Perm, Full}
use Rattle.cred_event.specs.declared.answer.Answer.{Answer}
use Rattle.cred_event.specs.declared.answer.Answer.TheVariants.{Done, Sealed, Kept, Was, Executed}
use Rattle.cred_event.specs.declared.answer.Answer.TheVariants.{Began, Acted, Told, Eperm, Einval}
use Rattle.cred_event.specs.declared.answer.Answer.TheVariants.{Eacces, Ebadf, NoTask, NoHold}
use Rattle.cred_event.specs.declared.answer.Answer.TheVariants.{NoPrepared, NoBroadcast, Busy}
use Rattle.cred_event.specs.declared.answer.Answer.TheVariants.{Exists, Overridden, NotOverridden}
use Rattle.cred_event.specs.declared.answer.Answer.TheVariants.{TooDeep, Stale, TooMany, TableFull}
use Rattle.cred_event.specs.declared.answer.Answer.TheVariants.{Aborted}
use Rattle.cred_report.specs.Numbers.{set_text}
use Rattle.cred_report.specs.Told.{told_text}

-- a sealed credential's number and its slot
abbrev pub sealed_text : ℕ → ℕ → List ℕ
sealed_text cred slot = codes " c" ++ decimal cred ++ codes " s" ++ decimal slot

-- what comes before the number of a thing that is there already
abbrev pub exists_text : Named → List ℕ
exists_text Task = codes "exists t"
exists_text Process = codes "exists p"
exists_text Label = codes "exists h"
exists_text File = codes "exists f"
exists_text Broadcast = codes "exists k"

abbrev pub too_many_text : Counted → List ℕ
too_many_text Tasks = codes "too many tasks"
too_many_text Files = codes "too many files"
too_many_text Holds = codes "too many holds"
too_many_text Prepared = codes "too many prepared"

abbrev pub cause_text : AbortCause → List ℕ
cause_text Perm = codes " eperm"
cause_text Full = codes " full"

abbrev pub answer_text : Answer → List ℕ
answer_text Done = codes "ok"
answer_text (Sealed cred slot) = codes "ok" ++ sealed_text cred slot
answer_text (Kept slot) = codes "ok s" ++ decimal slot
answer_text (Was previous) = codes "ok was " ++ decimal previous
answer_text (Executed cred slot ended gains) =
    codes "ok" ++ sealed_text cred slot ++ codes " ended " ++ decimal ended
    ++ codes " gain" ++ set_text gains.file ++ set_text gains.inherit ++ set_text gains.root
answer_text (Began cred slot left) =
    codes "ok" ++ sealed_text cred slot ++ codes " left " ++ decimal left
answer_text (Acted task cred slot left) =
    codes "ok t" ++ decimal task ++ sealed_text cred slot ++ codes " left " ++ decimal left
answer_text (Told told) = codes "ok" ++ told_text told
answer_text Eperm = codes "eperm"
answer_text Einval = codes "einval"
answer_text Eacces = codes "eacces"
answer_text Ebadf = codes "ebadf"
answer_text (NoTask task) = codes "no task t" ++ decimal task
answer_text (NoHold label) = codes "no hold h" ++ decimal label
answer_text (NoPrepared label) = codes "no prepared h" ++ decimal label
answer_text (NoBroadcast broadcast) = codes "no broadcast " ++ decimal broadcast
answer_text (Busy broadcast) = codes "busy " ++ decimal broadcast
answer_text (Exists what number) = exists_text what ++ decimal number
answer_text (Overridden depth) = codes "overridden " ++ decimal depth
answer_text NotOverridden = codes "not overridden"
answer_text TooDeep = codes "too deep"
answer_text (Stale base now) = codes "stale c" ++ decimal base ++ codes " c" ++ decimal now
answer_text (TooMany counted) = too_many_text counted
answer_text TableFull = codes "table full"
answer_text (Aborted task cause) = codes "aborted t" ++ decimal task ++ cause_text cause
