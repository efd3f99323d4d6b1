-- How many bytes numbers, ids, sets and flags take at most, and the parts of an entry, but for
-- names of files and lists of ids. A word counts with the spaces that stand in it.
use Rattle.std.specs.Prelude.{ℕ, ◌+◌, ◌*◌}

-- ---- numbers, ids, sets and flags

-- the decimal digits of the greatest number of 64 bits
abbrev pub NUMBER : ℕ
NUMBER = 20

-- an id or an argument: a space, and a number
abbrev pub ARG : ℕ
ARG = 1 + NUMBER

-- a set: a space, and the hexadecimal digits of a number of 64 bits
abbrev pub SET : ℕ
SET = 1 + 16

-- three sets
abbrev pub SETS : ℕ
SETS = 3 * SET

-- a flag: a space, and a digit
abbrev pub FLAG : ℕ
FLAG = 2

-- ---- the parts of an entry

-- the four ids of a kind
abbrev pub IDS : ℕ
IDS = 4 * ARG

-- the letters of what is wanted
abbrev pub LETTERS : ℕ
LETTERS = 3

-- the longest of the words that are chosen for an answer: `too many prepared`
abbrev pub WORD : ℕ
WORD = 17

-- a sealed credential: its number, ` s` and its slot
abbrev pub SEALED : ℕ
SEALED = NUMBER + 2 + NUMBER

-- what an execve ended and gained: ` ended ` and a number, ` gain` and three sets
abbrev pub GAINS : ℕ
GAINS = 7 + NUMBER + 5 + SETS

-- a mode: a space, and four digits
abbrev pub MODE : ℕ
MODE = 5

-- the longest answer: `ok`, and the ids of users and of groups
abbrev pub ANSWER : ℕ
ANSWER = 2 + 2 * IDS

-- the longest call or change: `setresuid`, and three arguments
abbrev pub CALL : ℕ
CALL = 9 + 3 * ARG

-- the longest event: `init t`, ` p` and ` n`, each with a number, and two ids
abbrev pub EVENT : ℕ
EVENT = 6 + 2 + 2 + 3 * NUMBER + 2 * ARG

-- what stands before an event: the number of its line, and a space
abbrev pub BEFORE_EVENT : ℕ
BEFORE_EVENT = NUMBER + 1

-- what stands before a call, a change or a question: at most `change h`, a number and a space
-- before an event's start
abbrev pub BEFORE_CALL : ℕ
BEFORE_CALL = BEFORE_EVENT + 8 + NUMBER + 1

-- what stands before the name of a file: at most `check ` in a question
abbrev pub BEFORE_FILE : ℕ
BEFORE_FILE = BEFORE_CALL + 6

-- what stands before an answer: the event, and ` -> `
abbrev pub BEFORE_ANSWER : ℕ
BEFORE_ANSWER = BEFORE_EVENT + EVENT + 4
