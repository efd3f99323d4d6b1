-- A process without threads has no flag.
use Rattle.std.proofs.Common.{◌≡◌, ℕ, find, is_some, false, Option, Some, None, refl, ap, ◌∙◌}
use Rattle.cred_model.specs.State.{State}
use Rattle.cred_model.specs.Dumpable.{flag_in}
use Rattle.cred_model.specs.Ends.{is_thread_of}
use Rattle.cred_sound.specs.Sound.{IsSound}

none_of : {A : Type 0} (o : Option A) → is_some o ≡ false → o ≡ None
none_of None is = refl
none_of (Some a) is = cc

pub unflagged : (s : State) (process : ℕ) → IsSound s → find (is_thread_of process) s.tasks ≡ None → flag_in s.dumpable process ≡ None
unflagged s process sound none = none_of (flag_in s.dumpable process) (sound.flags.own process ∙ ap is_some none)
