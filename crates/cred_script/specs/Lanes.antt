-- The lanes of a script's lines.
use Rattle.std.specs.Prelude.{ℕ, List, [], ◌∷◌, max}
use Rattle.cred_model.specs.Script.{Line}

-- The greatest number of a lane that a lane line names, 0 where there is none: such a line belongs
-- to the lane that it opens.
abbrev pub lanes : List Line → ℕ
lanes [] = 0
lanes (line ∷ lines) = max line.lane (lanes lines)
