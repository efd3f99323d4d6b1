-- Who may look into whom (ptrace(2), "Ptrace access mode checking").
use Rattle.std.specs.Prelude.{ℕ, Bool, ◌==◌, ◌&&◌, ◌||◌}
use Rattle.cred_ids.specs.declared.id.Ids4.{Ids4}
use Rattle.cred_caps.specs.Caps.{Caps, is_within}
use Rattle.cred_caps.specs.Numbers.{SYS_PTRACE}
use Rattle.cred_record.specs.Credential.{Credential, capable}
use Rattle.cred_record.specs.declared.mode.PtraceMode.{PtraceMode}
use Rattle.cred_record.specs.declared.mode.PtraceMode.TheVariants.{Fs, Real}

-- the user id that a task asks by: with PTRACE_MODE_FSCREDS its filesystem user id, and with
-- PTRACE_MODE_REALCREDS its real one (step 2)
abbrev pub asking_user : PtraceMode → Credential → ℕ
asking_user Fs c = c.uid.fs
asking_user Real c = c.uid.real

-- the group id that it asks by, likewise
abbrev pub asking_group : PtraceMode → Credential → ℕ
asking_group Fs c = c.gid.fs
asking_group Real c = c.gid.real

-- the capabilities that it asks by: its effective set, or its permitted one (step 5.1)
abbrev pub asking_caps : PtraceMode → Credential → Caps
asking_caps Fs c = c.eff
asking_caps Real c = c.perm

-- The real, the effective and the saved id are this one.
abbrev pub are_all : ℕ → Ids4 → Bool
are_all id ids = (ids.real == id) && (ids.effective == id) && (ids.saved == id)

-- The target's real, effective and saved user id are all the one that is asked by, and its group
-- ids likewise (step 3).
abbrev pub has_asking_ids : Credential → Credential → PtraceMode → Bool
has_asking_ids from to mode =
    are_all (asking_user mode from) to.uid && are_all (asking_group mode from) to.gid

-- Both are in one user namespace, and what is permitted to the target is among the capabilities
-- that are asked by (step 5.2).
abbrev pub is_no_stronger : Credential → Credential → PtraceMode → Bool
is_no_stronger from to mode = (from.ns == to.ns) && is_within to.perm (asking_caps mode from)

-- The one that asks has CAP_SYS_PTRACE in the user namespace of the target: it has the capability,
-- and its own namespace is that one or an ancestor of it (`reach`; user_namespaces(7)).
abbrev pub has_sys_ptrace : Credential → Bool → Bool
has_sys_ptrace from reach = capable from SYS_PTRACE && reach

-- A task with the one credential may look into a task with the other. Within one process (`same`)
-- it always may (step 1). Else it has to pass three tests, each of which CAP_SYS_PTRACE passes: by
-- the ids (step 3), by whether the target's process is dumpable (step 4), and by the capabilities
-- (step 5).
abbrev pub may_trace : Credential → Credential → Bool → Bool → Bool → PtraceMode → Bool
may_trace from to same reach dumpable mode =
    let capable = has_sys_ptrace from reach in
    same
    || (capable || has_asking_ids from to mode)
    && (capable || dumpable)
    && (capable || is_no_stronger from to mode)
