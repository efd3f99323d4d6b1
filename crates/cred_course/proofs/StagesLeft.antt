-- A course that has not ended has a stage.
use Rattle.std.proofs.Common.{◌≡◌, Option, Some, None, is_some, true, refl}
use Rattle.cred_event.specs.declared.content.Stage.{Stage}
use Rattle.cred_model.specs.Course.{Course}

pub record HasStage (course : Course) : Type 0 where
  pub stage : Stage
  pub is : course.stage ≡ Some stage

pub stage_is : (course : Course) → is_some course.stage ≡ true → HasStage course
stage_is course going = by course.stage refl going
  where
    by : (o : Option Stage) → course.stage ≡ o → is_some o ≡ true → HasStage course
    by None is none = cc
    by (Some stage) is some = record { stage = stage; is = is }
