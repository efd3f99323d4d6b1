-- The limits: how many there may be of each thing. Definitions cite these numbers, and no others;
-- the constants of the code are proved to be them.
use Rattle.std.specs.Prelude.{ℕ, List}
use Rattle.std.specs.List.{range_with_len}

-- ---- of a script

-- its bytes
abbrev pub BYTE_LIMIT : ℕ
BYTE_LIMIT = 1048576

-- its lines, and so the greatest number of a line
abbrev pub LINE_LIMIT : ℕ
LINE_LIMIT = 20000

-- the bytes of an input of `audit`: a script and its report, the longest of which fits
abbrev pub AUDIT_LIMIT : ℕ
AUDIT_LIMIT = 402653184

-- the files that it declares
abbrev pub FILES : ℕ
FILES = 256

-- the last number of a lane; the first is 1
abbrev pub LAST_LANE : ℕ
LAST_LANE = 16

-- the last number of a user namespace; the initial one is 0
abbrev pub LAST_NAMESPACE : ℕ
LAST_NAMESPACE = 15

-- the last number that it gives a task, a process, a label or a descriptor; the first is 1
abbrev pub LAST_NUMBER : ℕ
LAST_NUMBER = 99999

-- the labels that a line takes for itself: the first label of line 0, and how many each line has
abbrev pub FIRST_LINE_LABEL : ℕ
FIRST_LINE_LABEL = 100000

abbrev pub LABELS_A_LINE : ℕ
LABELS_A_LINE = 10

-- how often a line tries to change a credential, at most
abbrev pub TRIES : ℕ
TRIES = 8

-- ---- of a run

-- the supplementary groups of a task (setgroups(2)), where Linux has 65536
abbrev pub GROUP_LIMIT : ℕ
GROUP_LIMIT = 1024

-- the tasks that are alive
abbrev pub TASKS : ℕ
TASKS = 64

-- the overrides of one task
abbrev pub DEPTH : ℕ
DEPTH = 8

-- the files that are open
abbrev pub OPEN_FILES : ℕ
OPEN_FILES = 256

-- the labels that hold a credential
abbrev pub HOLDS : ℕ
HOLDS = 512

-- the labels that prepare one
abbrev pub PREPARED : ℕ
PREPARED = 64

-- the slots that credentials stand in
abbrev pub SLOTS : ℕ
SLOTS = 256

-- 0 to 255
unfoldable pub slots : List ℕ
slots = range_with_len 0 SLOTS

-- the words of 64 bits that a credential is laid out in: 12, and one for each two groups
abbrev pub WORDS : ℕ
WORDS = 524
