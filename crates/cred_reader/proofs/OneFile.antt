-- Events that name one file.
use Rattle.std.proofs.Common.{◌≡◌, ℕ, Bool, [], ◌∷◌, ◌↔◌}
use Rattle.std.specs.Bool.{IsTrue}
use Rattle.std.proofs.lemmas.List.Elements.{All-nil, All-cons, All-head}
use Rattle.cred_event.specs.declared.event.Event.{Event}
use Rattle.cred_model.specs.Script.{Script}
use Rattle.cred_model.specs.Named.{event_files, event_namespaces}
use Rattle.cred_reader.specs.Fits.{IsFile, IsOf}

-- it is the script's if the file is
pub one_file : (script : Script) (event : Event) (file : ℕ) (result : Bool) → event_files event ≡ file ∷ [] → event_namespaces event ≡ []
    → (IsTrue result ↔ IsFile script file) → IsTrue result ↔ IsOf script event
one_file script event file result files none same = (
  (λ yes. record {
    files = rw files (All-cons (IsFile script) file [] (same.0 yes) (All-nil (IsFile script)));
    namespaces = rw none (All-nil _);
  }),
  (λ is. same.1 (All-head (IsFile script) file [] (rw files at is.files))),
)
