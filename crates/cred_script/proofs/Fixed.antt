-- A script whose lines are sound fixes its files.
use Rattle.std.proofs.Common.{ℕ, List}
use Rattle.std.specs.List.{All}
use Rattle.std.proofs.lemmas.List.Elements.{All-weaker}
use Rattle.cred_model.specs.FileChanges.{ChangesInSetup}
use Rattle.cred_model.specs.Script.{Line, Namespace}
use Rattle.cred_script.specs.Sound.{IsSoundLine}

pub fixes : (count : ℕ) (declared : List Namespace) (lines : List Line) → All (IsSoundLine count declared) lines → All ChangesInSetup lines
fixes count declared lines each = All-weaker (IsSoundLine count declared) ChangesInSetup (λ line sound. sound.fixed) lines each
