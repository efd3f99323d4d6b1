-- What no call on a credential undoes (capabilities(7), prctl(2)), and which of them adds to what
-- is permitted.
use Rattle.std.specs.Prelude.{◌≡◌, ℕ, Bool, true, false, List, Result, Ok}
use Rattle.std.specs.declared.option.Option.{Option}
use Rattle.cred_caps.specs.declared.secure.Flag.{Flag}
use Rattle.cred_caps.specs.declared.secure.Flag.TheVariants.{KeepCaps}
use Rattle.cred_caps.specs.Caps.{Caps, IsWithin, empty, less, union}
use Rattle.cred_caps.specs.Secure.{is_set, is_locked}
use Rattle.cred_record.specs.declared.id_call.IdCall.{IdCall}
use Rattle.cred_record.specs.Credential.{Credential}
use Rattle.cred_record.specs.File.{File}
use Rattle.cred_rules.specs.SetId.{set_id}
use Rattle.cred_event.specs.declared.answer.Answer.{Answer}
use Rattle.cred_event.specs.declared.event.Change.{Change}
use Rattle.cred_event.specs.declared.event.Change.TheVariants.{Exec}
use Rattle.cred_model.specs.Change.{Made, made_by_rule, by_change}

-- A call that may change the credential of the task that makes it: one that sets ids, or a change
-- of a prepared credential, which sees the file that it names, if any, and the root ids of the
-- credential's namespace and of that one's ancestors.
pub data Call : Type 0 where
  SetIds : IdCall → Call
  Changes : Option File → List ℕ → Change → Call

-- what the call makes of the credential, or its refusal
abbrev pub after_call : Credential → Call → Result Made Answer
after_call c (SetIds call) = made_by_rule (set_id c call)
after_call c (Changes file chain change) = by_change file chain c change

-- one call makes this of c
pub record IsNext (c : Credential) (next : Made) : Type 0 where
  pub call : Call
  pub made : after_call c call ≡ Ok next

-- an execve clears KEEP_CAPS, locked or not ("The securebits flags")
abbrev pub clears : Call → Flag → Bool
clears (Changes file chain (Exec place)) KeepCaps = true
clears call f = false

-- from the old to the new securebits, a lock that is set stays set, and then its flag stays as it
-- is, unless the call clears it
pub record KeepsLocked (call : Call) (old new : ℕ) : Type 0 where
  pub lock : (f : Flag) → is_locked old f ≡ true → is_locked new f ≡ true
  pub flag : (f : Flag) → is_locked old f ≡ true → clears call f ≡ false
      → is_set new f ≡ is_set old f

-- no lock is undone, and nothing that is locked changes but what an execve clears
abbrev pub LocksStaySet : Type 0
LocksStaySet =
    (c : Credential) (next : Made) (call : Call)
    → after_call c call ≡ Ok next → KeepsLocked call c.bits next.cred.bits

-- nothing is added to the bounding set
abbrev pub BoundingNeverGrows : Type 0
BoundingNeverGrows =
    (c : Credential) (next : Made) → IsNext c next → IsWithin next.cred.bound c.bound

-- what a call may add to the permitted set: an execve what it says that it gained, and every other
-- call nothing
abbrev pub added : Call → Made → Caps
added (Changes file chain (Exec place)) next =
    union next.gains.file (union next.gains.inherit next.gains.root)
added call next = empty

-- just that is added to the permitted set
abbrev pub PermittedGrowsByExecve : Type 0
PermittedGrowsByExecve =
    (c : Credential) (next : Made) (call : Call)
    → after_call c call ≡ Ok next → less next.cred.perm c.perm ≡ added call next

-- no_new_privs, once set, stays set
abbrev pub NoNewPrivsStays : Type 0
NoNewPrivsStays =
    (c : Credential) (next : Made) → IsNext c next → c.nnp ≡ true → next.cred.nnp ≡ true
