-- No lane of a script is greater than the last, and where there is none all lines are the setup's.
use Rattle.std.proofs.Common.{◌≡◌, ℕ, ◌≤◌, List, [], ◌∷◌, All, arith}
use Rattle.std.proofs.lemmas.List.Elements.{All-nil, All-cons, All-head, All-tail}
use Rattle.cred_ids.specs.Limits.{LAST_LANE}
use Rattle.cred_model.specs.Script.{Line, Namespace}
use Rattle.cred_script.specs.Lanes.{lanes}
use Rattle.cred_script.specs.Sound.{IsSoundLine}

-- no lane is greater than the last
pub lanes_small : (count : ℕ) (declared : List Namespace) (lines : List Line) → All (IsSoundLine count declared) lines → lanes lines ≤ LAST_LANE
lanes_small count declared [] all = omega arith
lanes_small count declared (line ∷ lines) all =
    let head = (All-head (IsSoundLine count declared) line lines all).lane in
    let tail = lanes_small count declared lines (All-tail (IsSoundLine count declared) line lines all) in
    omega arith

-- where none is named all lines are the setup's
pub setup_only : (lines : List Line) → lanes lines ≡ 0 → All (λ line. line.lane ≡ 0) lines
setup_only [] none = All-nil _
setup_only (line ∷ lines) none = All-cons (λ (l : Line). l.lane ≡ 0) line lines (omega arith) (setup_only lines (omega arith))
