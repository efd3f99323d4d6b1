-- The names of the capabilities, by number (capabilities(7), linux/capability.h).
use Rattle.std.specs.Prelude.{ℕ, List, [], ◌∷◌, codes}

-- the name of number n is at place n
unfoldable pub cap_names : List (List ℕ)
cap_names =
    codes "CAP_CHOWN" ∷
    codes "CAP_DAC_OVERRIDE" ∷
    codes "CAP_DAC_READ_SEARCH" ∷
    codes "CAP_FOWNER" ∷
    codes "CAP_FSETID" ∷
    codes "CAP_KILL" ∷
    codes "CAP_SETGID" ∷
    codes "CAP_SETUID" ∷
    codes "CAP_SETPCAP" ∷
    codes "CAP_LINUX_IMMUTABLE" ∷
    codes "CAP_NET_BIND_SERVICE" ∷
    codes "CAP_NET_BROADCAST" ∷
    codes "CAP_NET_ADMIN" ∷
    codes "CAP_NET_RAW" ∷
    codes "CAP_IPC_LOCK" ∷
    codes "CAP_IPC_OWNER" ∷
    codes "CAP_SYS_MODULE" ∷
    codes "CAP_SYS_RAWIO" ∷
    codes "CAP_SYS_CHROOT" ∷
    codes "CAP_SYS_PTRACE" ∷
    codes "CAP_SYS_PACCT" ∷
    codes "CAP_SYS_ADMIN" ∷
    codes "CAP_SYS_BOOT" ∷
    codes "CAP_SYS_NICE" ∷
    codes "CAP_SYS_RESOURCE" ∷
    codes "CAP_SYS_TIME" ∷
    codes "CAP_SYS_TTY_CONFIG" ∷
    codes "CAP_MKNOD" ∷
    codes "CAP_LEASE" ∷
    codes "CAP_AUDIT_WRITE" ∷
    codes "CAP_AUDIT_CONTROL" ∷
    codes "CAP_SETFCAP" ∷
    codes "CAP_MAC_OVERRIDE" ∷
    codes "CAP_MAC_ADMIN" ∷
    codes "CAP_SYSLOG" ∷
    codes "CAP_WAKE_ALARM" ∷
    codes "CAP_BLOCK_SUSPEND" ∷
    codes "CAP_AUDIT_READ" ∷
    codes "CAP_PERFMON" ∷
    codes "CAP_BPF" ∷
    codes "CAP_CHECKPOINT_RESTORE" ∷
    []
