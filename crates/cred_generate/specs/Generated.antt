-- The script that is made from a number: one task of root, and as many calls of it, five in turn,
-- the last of which is refused.
use Rattle.std.specs.Prelude.{ℕ, ◌%◌, ◌==◌, List, [], ◌∷◌, ◌++◌, map, codes, if◌then◌else◌}
use Rattle.std.specs.List.{flat_map, range_with_len}

-- how many calls it may have: its lines are then fewer than a script may have
abbrev pub CALLS : ℕ
CALLS = 19000

-- the line that creates the task
abbrev pub FIRST : List ℕ
FIRST = codes "init t1 p1 0 0 n0"

-- the line of the call with this number, by the remainder that 5 leaves of it
abbrev pub call_by : ℕ → List ℕ
call_by remainder =
    if remainder == 1 then codes "t1 setresuid 0 0 0"
    else if remainder == 2 then codes "t1 keepcaps 1"
    else if remainder == 3 then codes "t1 capable 21"
    else if remainder == 4 then codes "t1 setfsuid 1000"
    else codes "t1 ambraise 0"

-- the line of the call with this number
abbrev pub call : ℕ → List ℕ
call number = call_by (number % 5)

-- the lines: the first one, and the calls from number 1 to number n
abbrev pub generated : ℕ → List (List ℕ)
generated n = FIRST ∷ map call (range_with_len 1 n)

-- the text of lines, each of which ends with LF
abbrev pub text_of : List (List ℕ) → List ℕ
text_of lines = flat_map (λ line. line ++ 10 ∷ []) lines
