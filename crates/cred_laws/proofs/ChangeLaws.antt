-- What a change of a prepared credential permits that its base doesn't is what its commit answers.
use Rattle.std.proofs.Common.{◌≡◌, ℕ, List, Option, Ok}
use Rattle.cred_caps.specs.Caps.{less}
use Rattle.cred_record.specs.Credential.{Credential}
use Rattle.cred_record.specs.File.{File}
use Rattle.cred_event.specs.declared.event.Change.{Change}
use Rattle.cred_event.specs.declared.event.Change.TheVariants.{SetFs, Adjust, Exec, Access}
use Rattle.cred_model.specs.State.{Changed}
use Rattle.cred_model.specs.Change.{Made, by_change, gain_told}
use Rattle.cred_model.specs.LabelEvents.{commit_answer}
use Rattle.cred_laws.specs.Calls.{Changes}
use Rattle.cred_laws.proofs.CallLaws.{permitted_grows_by_execve}

abbrev committed_as : Change → Made → Changed
committed_as change made = record { change = change; cred = made.cred; gains = made.gains }

pub change_gains : (file : Option File) (chain : List ℕ) (c : Credential) (change : Change) (to : Made) (number slot count : ℕ)
    → by_change file chain c change ≡ Ok to
    → less to.cred.perm c.perm ≡ gain_told (commit_answer (committed_as change to) number slot count)
change_gains file chain c (SetFs kind id) to number slot count is =
    permitted_grows_by_execve c to (Changes file chain (SetFs kind id)) is
change_gains file chain c (Adjust adj) to number slot count is =
    permitted_grows_by_execve c to (Changes file chain (Adjust adj)) is
change_gains file chain c (Exec place) to number slot count is =
    permitted_grows_by_execve c to (Changes file chain (Exec place)) is
change_gains file chain c Access to number slot count is =
    permitted_grows_by_execve c to (Changes file chain Access) is
