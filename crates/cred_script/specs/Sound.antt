-- What is true of the lines of every script.
use Rattle.std.specs.Prelude.{◌≢◌, ℕ, ◌≤◌, List, [], length, All, AllPairs, Contains}
use Rattle.std.specs.List.{cons_option}
use Rattle.cred_ids.specs.Limits.{LINE_LIMIT, LAST_LANE, LAST_NUMBER}
use Rattle.cred_model.specs.Script.{Line, Namespace, SetupBefore}
use Rattle.cred_model.specs.Named.{IsContentOf}
use Rattle.cred_model.specs.FileChanges.{ChangesInSetup}
use Rattle.cred_script.specs.Acting.{actor}
use Rattle.cred_names.specs.Labels.{labels}

-- what is true of each line of a script that declares `count` files, and these namespaces
pub record IsSoundLine (count : ℕ) (declared : List Namespace) (line : Line) : Type 0 where
  pub lane : line.lane ≤ LAST_LANE
  pub labels : All (λ label. label ≤ LAST_NUMBER) (labels line.content)
  pub content : IsContentOf count declared line.content
  pub fixed : ChangesInSetup line

-- the lists have no number in common
abbrev pub ShareNone : List ℕ → List ℕ → Type 0
ShareNone xs ys = (number : ℕ) → Contains xs number → Contains ys number → ⊥

-- Lines of two lanes, neither of which is the setup, have no task that acts by both and no label in
-- common.
abbrev pub AreApart : Line → Line → Type 0
AreApart earlier later =
    earlier.lane ≢ 0 → later.lane ≢ 0 → earlier.lane ≢ later.lane
    → ShareNone (cons_option (actor earlier.content) []) (cons_option (actor later.content) [])
    × ShareNone (labels earlier.content) (labels later.content)

-- what is true of the lines of a script that declares `count` files, and these namespaces
pub record IsSoundScript (count : ℕ) (declared : List Namespace) (lines : List Line)
    : Type 0 where
  pub few : length lines ≤ LINE_LIMIT
  pub each : All (IsSoundLine count declared) lines
  pub first : AllPairs SetupBefore lines
  pub apart : AllPairs AreApart lines
