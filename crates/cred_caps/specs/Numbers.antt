-- The numbers of the capabilities that the rules name (capabilities(7), linux/capability.h).
use Rattle.std.specs.Prelude.{ℕ}

-- the greatest number of a capability
abbrev pub LAST : ℕ
LAST = 40

abbrev pub CHOWN : ℕ
CHOWN = 0

abbrev pub DAC_OVERRIDE : ℕ
DAC_OVERRIDE = 1

abbrev pub DAC_READ_SEARCH : ℕ
DAC_READ_SEARCH = 2

abbrev pub FOWNER : ℕ
FOWNER = 3

abbrev pub FSETID : ℕ
FSETID = 4

abbrev pub KILL : ℕ
KILL = 5

abbrev pub SETGID : ℕ
SETGID = 6

abbrev pub SETUID : ℕ
SETUID = 7

abbrev pub SETPCAP : ℕ
SETPCAP = 8

abbrev pub LINUX_IMMUTABLE : ℕ
LINUX_IMMUTABLE = 9

abbrev pub SYS_PTRACE : ℕ
SYS_PTRACE = 19

abbrev pub MKNOD : ℕ
MKNOD = 27

abbrev pub SETFCAP : ℕ
SETFCAP = 31

abbrev pub MAC_OVERRIDE : ℕ
MAC_OVERRIDE = 32
