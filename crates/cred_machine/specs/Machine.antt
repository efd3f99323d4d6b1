-- A script that runs.
use Rattle.cred_model.specs.Script.{Script}
use Rattle.cred_model.specs.State.{State}

-- a script, and the state that some events of it led to
pub record Running : Type 0 where
  pub script : Script
  pub state : State
