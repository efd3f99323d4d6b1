-- What drops one reference leads to, by the parts of the state after it.
use Rattle.std.proofs.Common.{◌≡◌, ℕ, ◌==◌, List, [], ◌∷◌, ◌++◌, position, remove, slice_get, Some, refl}
use Rattle.cred_event.specs.declared.answer.Answer.TheVariants.{Done}
use Rattle.cred_model.specs.State.{State, Hold, OpenFile}
use Rattle.cred_model.specs.LabelEvents.{by_release}
use Rattle.cred_model.specs.FileEvents.{by_close}
use Rattle.cred_model.specs.Step.{outcome}

pub closed : (s : State) (fd place opener : ℕ) (file : OpenFile) (files : List OpenFile) (late : List ℕ) → position (λ f. f.fd == fd) s.files ≡ Some place
    → slice_get s.files place ≡ Some file → opener ≡ file.opener → files ≡ remove s.files place → late ≡ s.deferred ++ opener ∷ []
    → outcome s (by_close s fd) ≡ (Done, record s { files = files; deferred = late })
closed s fd place opener file files late at there own fs ls = rw (at, there, fs, ls, own) refl

pub released : (s : State) (label place number : ℕ) (hold : Hold) (holds : List Hold) (late : List ℕ) → position (λ h. h.label == label) s.holds ≡ Some place
    → slice_get s.holds place ≡ Some hold → number ≡ hold.number → holds ≡ remove s.holds place → late ≡ s.deferred ++ number ∷ []
    → outcome s (by_release s label) ≡ (Done, record s { holds = holds; deferred = late })
released s label place number hold holds late at there own hs ls = rw (at, there, hs, ls, own) refl
